-- 01, "The run and its lines": the whole of a run. The items in order, the events of each step, then the locks, then the last line.
-- Each line stands with the run before and after it; `end` is the run when all is said.
use Rattle.std.specs.Prelude.{ℕ, zero, suc, ◌+◌, ◌-◌, cond, List, [], ◌∷◌, ltb, length, Option, Some, None, Result, Ok, Err}
use Rattle.items.specs.declared.Item.{Item}
use Rattle.items.specs.declared.Item.TheVariants.{Steps, Act}
use Rattle.items.specs.declared.ItemRefusal.{ItemRefusal}
use Rattle.items.specs.Items.{read_at}
use Rattle.wording.specs.declared.Line.{Line}
use Rattle.course.specs.declared.Run.{Run}
use Rattle.course.specs.declared.Phase.{Phase}
use Rattle.course.specs.declared.Phase.TheVariants.{Items, Ended, Cut, Refused}
use Rattle.course.specs.Standing.{nodes_of, locks_of, one_step, past, steps_item, action_item, at_end, all_said}
use Rattle.course.specs.Wording.{event_here, is_event, event_line, action_line, lock_line, last_line, refusal_line}

-- a line that is said, with the run before and after it
pub record Said : Type 0 where
  pub line : Line
  pub before : Run
  pub after : Run

-- what a run says, and how it stands when all is said
pub record Course : Type 0 where
  pub lines : List Said
  pub end : Run

-- a line, and then the rest
unfoldable pub says : Line → Run → Run → Course → Course
says line before after rest =
    record { lines = record { line = line; before = before; after = after } ∷ rest.lines; end = rest.end }

-- nothing more
unfoldable pub silence : Run → Course
silence run = record { lines = []; end = run }

-- "nodes ascending": of so many nodes from the next on, those at which something happened
unfoldable pub telling : ℕ → Run → (Run → Course) → Course
telling zero run then = then run
telling (suc n) run then =
    cond (is_event (event_here run)) (says (event_line run) run (past run) (telling n (past run) then)) (telling n (past run) then)

-- all nodes from the next on
unfoldable pub telling_all : Run → (Run → Course) → Course
telling_all run then = telling (nodes_of run - run.next) run then

-- "After the items, one H line a lock ascending", "Last E, or C"
unfoldable pub closing : ℕ → Run → Course
closing zero run = says (last_line run) run (all_said run) (silence (all_said run))
closing (suc n) run = says (lock_line run) run (past run) (closing n (past run))

-- all locks from the next on
unfoldable pub closing_all : Run → Course
closing_all run = closing (locks_of run - run.next) run

-- so many steps, each with its events: "It stops before the step that would pass the ceiling"
unfoldable pub many_steps : ℕ → ℕ → Run → (Run → Course) → Course
many_steps ceiling zero run then = then run
many_steps ceiling (suc n) run then =
    cond (ltb run.reached.steps ceiling)
    (telling_all (one_step run) (λ next. many_steps ceiling n next then))
    (closing_all (at_end Cut run))

-- the items of the schedule, in order
unfoldable pub items : ℕ → List Item → Run → Course
items ceiling [] run = closing_all (at_end Ended run)
items ceiling (Steps n ∷ rest) run = many_steps ceiling n (steps_item n run) (items ceiling rest)
items ceiling (Act action node lock ∷ rest) run =
    says (action_line action node lock run) run (action_item action node lock run) (items ceiling rest (action_item action node lock run))

-- an item that was found, and the others
unfoldable pub and_others : Result (Option Item) ItemRefusal → List Item → List Item
and_others (Ok None) others = []
and_others (Ok (Some item)) others = item ∷ others
and_others (Err refusal) others = []

-- the items from a place on, until none is found: as many as so many bytes can hold
unfoldable pub items_within : ℕ → List ℕ → ℕ → List Item
items_within zero schedule at = []
items_within (suc n) schedule at = and_others (read_at schedule at).answer (items_within n schedule (read_at schedule at).at)

unfoldable pub items_from : List ℕ → ℕ → List Item
items_from schedule at = items_within (length schedule - at) schedule at

-- the steps of all these items
unfoldable pub steps_in : List Item → ℕ
steps_in [] = 0
steps_in (Steps n ∷ rest) = n + steps_in rest
steps_in (Act action node lock ∷ rest) = steps_in rest

-- what is left of a step's events, of an item's steps, and of the items
unfoldable pub on_items : ℕ → List ℕ → Run → Course
on_items ceiling schedule run = items ceiling (items_from schedule run.at) run

unfoldable pub on_steps : ℕ → List ℕ → Run → Course
on_steps ceiling schedule run = many_steps ceiling run.left run (on_items ceiling schedule)

unfoldable pub working : ℕ → List ℕ → Run → Course
working ceiling schedule run = telling_all run (on_steps ceiling schedule)

-- by what the run is at
unfoldable pub course_in : Phase → ℕ → List ℕ → Run → Course
course_in Items ceiling schedule run = working ceiling schedule run
course_in Ended ceiling schedule run = closing_all run
course_in Cut ceiling schedule run = closing_all run
course_in (Refused number place) ceiling schedule run = says (refusal_line number place run) run (all_said run) (silence (all_said run))

-- the course of a run from where it stands, over a schedule and under a ceiling of steps
unfoldable pub course : ℕ → List ℕ → Run → Course
course ceiling schedule run = cond run.over (silence run) (course_in run.phase ceiling schedule run)
