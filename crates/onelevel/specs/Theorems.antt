-- 02, item 6: "Plans without a byte of 5 run as before". Proved in proofs/ of every plan, every state, made up or not, and every plan's body.
use Rattle.std.specs.Prelude.{ℕ, ◌≤◌, ◌≡◌, Bool, true, false, not, List, length, take}
use Rattle.lists.specs.Refusal.{refused_if}
use Rattle.cars.specs.declared.Car.{Car}
use Rattle.plan.specs.declared.Plan.{Plan}
use Rattle.plan.specs.Plan.{in_range, node_count, junction_count}
use Rattle.junction.specs.declared.Junction.{Junction}
use Rattle.junction.specs.Turn.{junction_turn}
use Rattle.acts.specs.declared.Action.{Action}
use Rattle.ring.specs.declared.State.{State}
use Rattle.ring.specs.Actions.{acting}
use Rattle.ring.specs.Step.{stepping}
use Rattle.nightfile.specs.File.{plan_of, plan_length_wrong}
use Rattle.onelevel.specs.Before.{without_five, in_range_before, nodes_before, junctions_before, junction_turn_before, stepping_before, acting_before, no_five, plan_before, plan_part_before}

-- a plan without a byte of 5 is in range where it was, and has as many user nodes and junctions; every plan has places for at least 16 values
abbrev pub RangeAsBefore : Type 0
RangeAsBefore = (plan : Plan) → 16 ≤ length plan.values → without_five plan ≡ true → in_range plan ≡ in_range_before plan

abbrev pub NodesAsBefore : Type 0
NodesAsBefore = (plan : Plan) → 16 ≤ length plan.values → without_five plan ≡ true → node_count plan ≡ nodes_before plan

abbrev pub JunctionsAsBefore : Type 0
JunctionsAsBefore = (plan : Plan) → 16 ≤ length plan.values → without_five plan ≡ true → junction_count plan ≡ junctions_before plan

-- a junction on the main ring has the turn that it had
abbrev pub TurnAsBefore : Type 0
TurnAsBefore =
    (low high : ℕ) (wants : Bool) (arrival out : Car) (junction : Junction)
    → junction_turn false low high wants arrival out junction ≡ junction_turn_before low high wants arrival out junction

-- a step tells what it told: the number, every place of the state, the events
abbrev pub StepAsBefore : Type 0
StepAsBefore = (state : State) → 16 ≤ length state.plan.values → without_five state.plan ≡ true → stepping state ≡ stepping_before state

-- so does an action
abbrev pub ActionAsBefore : Type 0
ActionAsBefore =
    (action : Action) (state : State) (node lock : ℕ) → 16 ≤ length state.plan.values → without_five state.plan ≡ true
    → acting action state node lock ≡ acting_before action state node lock

-- a plan's body without a byte of 5 is refused with 3 and 4 where it was
abbrev pub PlanPartAsBefore : Type 0
PlanPartAsBefore =
    (body : List ℕ) → no_five body ≡ true
    → refused_if (plan_length_wrong body) 3 (refused_if (not (in_range (plan_of body))) 4 0) ≡ plan_part_before body

-- and its plan, of any body, is the one that it had: rules, locks, number of positions, and the 16 values, behind which there are more places now
abbrev pub PlanAsBefore : Type 0
PlanAsBefore =
    (body : List ℕ)
    → record { rules = (plan_of body).rules; locks = (plan_of body).locks; positions = (plan_of body).positions; values = take 16 (plan_of body).values }
    ≡ plan_before body
