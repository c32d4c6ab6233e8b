-- What a run says where it stands, without a step or an item more, and how it stands afterwards.
use Rattle.std.specs.Prelude.{ℕ, cond, List, ltb, Option, Some, None, Result, Ok, Err}
use Rattle.items.specs.declared.Item.{Item}
use Rattle.items.specs.declared.Item.TheVariants.{Steps, Act}
use Rattle.items.specs.declared.ItemRefusal.{ItemRefusal}
use Rattle.wording.specs.declared.Line.{Line}
use Rattle.course.specs.declared.Run.{Run}
use Rattle.course.specs.declared.Phase.{Phase}
use Rattle.course.specs.declared.Phase.TheVariants.{Items, Ended, Cut, Refused}
use Rattle.course.specs.Standing.{nodes_of, locks_of, past, action_item, all_said}
use Rattle.course.specs.Wording.{event_line, action_line, lock_line, last_line, refusal_line}
use Rattle.course.specs.Ready.{answer_here}

-- a line and the run after it
pub record Saying : Type 0 where
  pub line : Line
  pub run : Run

unfoldable pub saying : Line → Run → Saying
saying line run = record { line = line; run = run }

-- what is said where there may be no line
unfoldable pub said : Option Line → Run → Option Saying
said None run = None
said (Some line) run = Some (saying line run)

-- an item's line, if it is an action; else nothing
unfoldable pub act_saying : Item → Run → Option Saying
act_saying (Steps n) run = None
act_saying (Act action node lock) run = Some (saying (action_line action node lock run) (action_item action node lock run))

unfoldable pub answer_saying : Result (Option Item) ItemRefusal → Run → Option Saying
answer_saying (Ok None) run = None
answer_saying (Ok (Some item)) run = act_saying item run
answer_saying (Err refusal) run = None

-- a lock's line, or the last one
unfoldable pub end_saying : Run → Saying
end_saying run = cond (ltb run.next (locks_of run)) (saying (lock_line run) (past run)) (saying (last_line run) (all_said run))

-- the line of a run that is ready, by what it is at
unfoldable pub saying_in : Phase → List ℕ → Run → Option Saying
saying_in Items schedule run =
    cond (ltb run.next (nodes_of run)) (Some (saying (event_line run) (past run))) (answer_saying (answer_here schedule run) run)
saying_in Ended schedule run = Some (end_saying run)
saying_in Cut schedule run = Some (end_saying run)
saying_in (Refused number place) schedule run = Some (saying (refusal_line number place run) (all_said run))

unfoldable pub saying_now : List ℕ → Run → Option Saying
saying_now schedule run = saying_in run.phase schedule run
