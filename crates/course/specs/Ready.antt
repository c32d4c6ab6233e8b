-- Whether a run has a line to say where it stands, without a step or an item more.
use Rattle.std.specs.Prelude.{ℕ, Bool, cond, true, false, ◌&&◌, ◌||◌, List, eqb, ltb, Option, Some, None, Result, Ok, Err}
use Rattle.items.specs.declared.Item.{Item}
use Rattle.items.specs.declared.Item.TheVariants.{Steps, Act}
use Rattle.items.specs.declared.ItemRefusal.{ItemRefusal}
use Rattle.items.specs.Items.{read_at}
use Rattle.course.specs.declared.Run.{Run}
use Rattle.course.specs.declared.Phase.{Phase}
use Rattle.course.specs.declared.Phase.TheVariants.{Items, Ended, Cut, Refused}
use Rattle.course.specs.Standing.{nodes_of}
use Rattle.course.specs.Wording.{event_here, is_event}

-- what is read at the run's place, and whether it is an action
unfoldable pub answer_here : List ℕ → Run → Result (Option Item) ItemRefusal
answer_here schedule run = (read_at schedule run.at).answer

unfoldable pub is_act : Item → Bool
is_act (Steps n) = false
is_act (Act action node lock) = true

unfoldable pub is_action : Result (Option Item) ItemRefusal → Bool
is_action (Ok None) = false
is_action (Ok (Some item)) = is_act item
is_action (Err refusal) = false

-- whether there is a line to say: at an event, at an action once the item before has no steps left, at the end always
unfoldable pub ready_in : Phase → List ℕ → Run → Bool
ready_in Items schedule run =
    cond (ltb run.next (nodes_of run)) (is_event (event_here run)) (eqb run.left 0 && is_action (answer_here schedule run))
ready_in Ended schedule run = true
ready_in Cut schedule run = true
ready_in (Refused number place) schedule run = true

unfoldable pub ready : List ℕ → Run → Bool
ready schedule run = run.over || ready_in run.phase schedule run
