-- What is seen of a run of the definitions: a list of moves from a plan's start state, and everything that happens, by step.
use Rattle.std.specs.Prelude.{ℕ, zero, suc, ◌+◌, ◌-◌, Bool, true, false, cond, not, ◌&&◌, List, [], ◌∷◌, ◌++◌, eqb, get_or, Option, Some, None}
use Rattle.cars.specs.declared.Car.{Car}
use Rattle.cars.specs.Kinds.{is_token_car}
use Rattle.plan.specs.declared.Plan.{Plan}
use Rattle.plan.specs.Plan.{node_count, junction_count}
use Rattle.acts.specs.declared.Action.{Action}
use Rattle.turns.specs.declared.Event.{Event}
use Rattle.junction.specs.declared.Junction.{Junction}
use Rattle.ring.specs.declared.State.{State}
use Rattle.ring.specs.State.{Told, start_state, rest_junction}
use Rattle.ring.specs.Actions.{acting}
use Rattle.ring.specs.Walk.{quiet}
use Rattle.ring.specs.Step.{StepTold, stepping}

-- so many steps, or an action of a node on a lock
pub data Move : Type 0 where
  steps : ℕ → Move
  act : Action → ℕ → ℕ → Move

-- an action was accepted or refused with a number; a node had an event; the zero node sends the token; a junction's word is now
-- this; a junction's tour began or ended; a step was refused with a number
pub data Seen : Type 0 where
  accepted : Seen
  refusal : ℕ → Seen
  event : ℕ → Event → Seen
  token : Seen
  word : ℕ → ℕ → Seen
  begins : ℕ → Seen
  ends : ℕ → Seen
  stuck : ℕ → Seen

-- what was seen, and how many steps were done then
pub record Sight : Type 0 where
  pub step : ℕ
  pub seen : Seen

unfoldable pub at : ℕ → Seen → Sight
at step seen = record { step = step; seen = seen }

-- one sight where the test holds
unfoldable pub sight : Bool → Sight → List Sight
sight true s = s ∷ []
sight false s = []

-- the event of a node, where it had one
unfoldable pub happened : ℕ → ℕ → Option Event → List Sight
happened step node None = []
happened step node (Some it) = at step (event node it) ∷ []

-- the events of the first nodes, ascending
unfoldable pub events : ℕ → ℕ → StepTold → List Sight
events step zero told = []
events step (suc n) told =
    events step n told ++ happened step (n + 1) (get_or told.events n quiet)

-- what changed at a junction
unfoldable pub changes : ℕ → ℕ → Junction → Junction → List Sight
changes step n before after =
    sight (not (eqb before.word after.word)) (at step (word n after.word))
    ++ sight (not before.tour && after.tour) (at step (begins n))
    ++ sight (before.tour && not after.tour) (at step (ends n))

-- at the first junctions
unfoldable pub junction_changes : ℕ → ℕ → State → State → List Sight
junction_changes step zero before after = []
junction_changes step (suc n) before after =
    junction_changes step n before after
    ++ changes step (n + 1) (get_or before.junctions n rest_junction) (get_or after.junctions n rest_junction)

-- what one step shows
unfoldable pub in_step : ℕ → State → StepTold → List Sight
in_step step before told =
    sight (not (eqb told.number 0)) (at step (stuck told.number))
    ++ events step (node_count before.plan) told
    ++ junction_changes step (junction_count before.plan) before told.state
    ++ sight (is_token_car told.state.zeroth.car) (at step token)

-- a number of steps, and what comes after them
unfoldable pub watch_steps : ℕ → ℕ → State → (ℕ → State → List Sight) → List Sight
watch_steps zero done state later = later done state
watch_steps (suc n) done state later =
    let told : StepTold = stepping state in
    in_step (done + 1) state told ++ watch_steps n (done + 1) told.state later

-- what an action shows
unfoldable pub answer : ℕ → Told → Sight
answer done told = cond (eqb told.number 0) (at done accepted) (at done (refusal told.number))

unfoldable pub watch : List Move → ℕ → State → List Sight
watch [] done state = []
watch (steps n ∷ moves) done state = watch_steps n done state (watch moves)
watch (act action node lock ∷ moves) done state =
    let told : Told = acting action state node lock in
    answer done told ∷ watch moves done told.state

-- from the start
unfoldable pub run : Plan → List Move → List Sight
run plan moves = sight (is_token_car (start_state plan).zeroth.car) (at 0 token) ++ watch moves 0 (start_state plan)

-- where moves lead to
unfoldable pub steps_on : ℕ → State → State
steps_on zero state = state
steps_on (suc n) state = steps_on n (stepping state).state

unfoldable pub leads_to : List Move → State → State
leads_to [] state = state
leads_to (steps n ∷ moves) state = leads_to moves (steps_on n state)
leads_to (act action node lock ∷ moves) state = leads_to moves (acting action state node lock).state

-- the car that a junction, by its number, then sends along the ring on which it stands
unfoldable pub car_out : Plan → List Move → ℕ → Car
car_out plan moves junction = (get_or (leads_to moves (start_state plan)).junctions (junction - 1) rest_junction).main
