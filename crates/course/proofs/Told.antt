-- The parts of what the model's answers tell.
use Prim.Native.Nat.{ℕ}
use mathlib.Core.Path.{◌≡◌, refl, ap}
use mathlib.Core.Bool.{false}
use mathlib.Core.List.{List}
use lib.Dec.{eqb}
use Rattle.plan.specs.declared.Plan.{Plan}
use Rattle.acts.specs.declared.Action.{Action}
use Rattle.acts.specs.Actions.{action_answer_number}
use Rattle.ring.specs.declared.State.{State}
use Rattle.ring.specs.declared.Started.{Started}
use Rattle.ring.specs.declared.Acted.{Acted}
use Rattle.ring.specs.State.{Told, start_told, starting, start_state}
use Rattle.ring.specs.Actions.{action_told, acting}
use Rattle.nightfile.specs.declared.FileRefusal.{FileRefusal}
use Rattle.nightfile.specs.declared.FileRefusal.TheVariants.{WrongLength, WrongContents, WrongPlanLength, PlanOutOfRange, BytesLeftOver, BadItem}
use Rattle.nightfile.specs.File.{file_number, file_place, refusal_number, file_answer, file_answer_number, file_answer_place}
use Rattle.nightfile.proofs.Laws.{answer_tells}

pub started_state : (r : Started) (plan : Plan) → start_told r ≡ starting plan → r.state ≡ start_state plan
unfolding start_told starting
started_state r plan e = ap (λ (t : Told). t.state) e

pub acted_state_lem : (r : Acted) (action : Action) (state : State) (node lock : ℕ) → action_told r ≡ acting action state node lock
    → r.state ≡ (acting action state node lock).state
unfolding action_told
acted_state_lem r action state node lock e = ap (λ (t : Told). t.state) e

pub acted_number : (r : Acted) (action : Action) (state : State) (node lock : ℕ) → action_told r ≡ acting action state node lock
    → action_answer_number r.answer ≡ (acting action state node lock).number
unfolding action_told
acted_number r action state node lock e = ap (λ (t : Told). t.number) e

-- a refused file has a number
pub refusal_told : (refusal : FileRefusal) → eqb (refusal_number refusal) 0 ≡ false
unfolding refusal_number
refusal_told WrongLength = refl
refusal_told WrongContents = refl
refusal_told WrongPlanLength = refl
refusal_told PlanOutOfRange = refl
refusal_told BytesLeftOver = refl
refusal_told (BadItem place) = refl

-- the number and the place of the answer to a file
pub answered_number : (file : List ℕ) → file_answer_number (file_answer file) ≡ file_number file
answered_number file = (answer_tells file).0

pub answered_place : (file : List ℕ) → file_answer_place (file_answer file) ≡ file_place file
answered_place file = (answer_tells file).1
