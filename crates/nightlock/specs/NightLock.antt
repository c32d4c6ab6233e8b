-- A night run seen as a schedule of demand 3: the items of its file, the state where it stands, and the grants and endings that its lines report,
-- each at its time.
use Rattle.std.specs.Prelude.{ℕ, zero, suc, ◌*◌, ◌≡◌, cond, not, ◌&&◌, List, [], ◌∷◌, ◌++◌, eqb}
use Rattle.cars.specs.Cars.{multiring}
use Rattle.plan.specs.declared.Plan.{Plan}
use Rattle.items.specs.declared.Item.{Item as FileItem}
use Rattle.items.specs.declared.Item.TheVariants.{Steps, Act}
use Rattle.nightfile.specs.File.{plan_part, schedule_part, plan_of}
use Rattle.items.specs.Items.{item_of}
use Rattle.acts.specs.declared.Action.{Action}
use Rattle.ring.specs.declared.State.{State}
use Rattle.course.specs.declared.Reached.{Reached}
use Rattle.course.specs.declared.Run.{Run}
use Rattle.wording.specs.declared.Line.{Line}
use Rattle.course.specs.Standing.{beginning, reached_next, action_item}
use Rattle.course.specs.Whole.{Said, items_from}
use Rattle.onelock.specs.OneLock.{Item, step, act, reached, Deed, granted, ended, deed_if, Time, in_step, after_step, Moment, noted, steps_among}

-- the plan of a file, and its items as a schedule: an item of so many steps is so many steps
unfoldable pub plan_in : List ℕ → Plan
plan_in file = plan_of (plan_part file)

unfoldable pub many_steps : ℕ → List Item → List Item
many_steps zero rest = rest
many_steps (suc n) rest = step ∷ many_steps n rest

unfoldable pub as_items : List FileItem → List Item
as_items [] = []
as_items (Steps n ∷ rest) = many_steps n (as_items rest)
as_items (Act action node lock ∷ rest) = act action node lock ∷ as_items rest

unfoldable pub items_in : List ℕ → List Item
items_in file = as_items (items_from (schedule_part file) 0)

-- the items of a schedule's bytes, three bytes each: so many from the k-th on
unfoldable pub items_of : List ℕ → ℕ → ℕ → List FileItem
items_of schedule k zero = []
items_of schedule k (suc n) = item_of schedule (3 * k) ∷ items_of schedule (suc k) n

-- a run stands where a first part of its file's items has brought the start state of its file's plan
pub record Stands (file : List ℕ) (run : Run) : Type 0 where
  pub done : List Item
  pub left : List Item
  pub split : items_in file ≡ done ++ left
  pub state : run.reached.state ≡ reached (plan_in file) done
  pub steps : run.reached.steps ≡ steps_among done

-- what a run of the file may pass through: the state that it begins with, and from each such state the one after the run's step and the
-- one after its action, whatever the action
pub data PassesThrough (file : List ℕ) : State → Type 0 where
  at_first : PassesThrough file (beginning file).reached.state
  by_step : (before : Reached) → PassesThrough file before.state → PassesThrough file (reached_next before).state
  by_action : (action : Action) (node lock : ℕ) (before : Run) → PassesThrough file before.reached.state
      → PassesThrough file (action_item action node lock before).reached.state

-- a state of demand 3's statement
pub record IsReached (plan : Plan) (state : State) : Type 0 where
  pub items : List Item
  pub is : state ≡ reached plan items

-- it holds of each line that is said
unfoldable pub EachSaid : (Said → Type 0) → List Said → Type 0
EachSaid P [] = Unit
EachSaid P (said ∷ rest) = P said × EachSaid P rest

-- what a line says is done to a lock: G is a grant; R and L are endings under ring rules, D is one under multiring rules
unfoldable pub deeds_of_line : ℕ → ℕ → Line → List Deed
deeds_of_line rules lock line =
    cond (eqb line.letter 71) (deed_if (eqb line.second lock) (granted line.first))
    (cond (eqb line.letter 82) (deed_if (not (multiring rules) && eqb line.second lock) (ended line.first))
    (cond (eqb line.letter 76) (deed_if (not (multiring rules) && eqb line.second lock) (ended line.first))
    (cond (eqb line.letter 68) (deed_if (multiring rules && eqb line.second lock) (ended line.first)) [])))

-- and when: R stands between two steps, after those that the line says are done; an event stands in the step whose number its line bears
unfoldable pub time_of_line : Line → Time
time_of_line line = cond (eqb line.letter 82) (after_step line.steps) (in_step line.steps)

-- the moment that a line reports of a lock, if it has one; and those of all lines, in their order
unfoldable pub reports : ℕ → ℕ → Line → List Moment
reports rules lock line = noted (time_of_line line) (deeds_of_line rules lock line) []

unfoldable pub reported : ℕ → ℕ → List Said → List Moment
reported rules lock [] = []
reported rules lock (said ∷ rest) = reports rules lock said.line ++ reported rules lock rest
