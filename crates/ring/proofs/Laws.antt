-- Laws of the state: on which places an action may fall, what passing 13 says, and what the step and an action of a state that
-- passes are.
use Prim.Native.Nat.{ℕ, ◌≤◌, ◌<◌}
use mathlib.Core.Path.{◌≡◌, refl, ap}
use mathlib.Core.Bool.{Bool, true, false, cond, not, ◌&&◌}
use native.Mathlib.Omega.{arith}
use lib.Dec.{eqb, leb, ltb}
use lib.ListN.{get_or}
use Rattle.std.proofs.Common.{Some, None}
use borrow.Author.Tests.{leb-true, ltb-true}
use Rattle.lists.specs.Loops.{every}
use Rattle.lists.proofs.Laws.{and_left, and_right, every-at}
use Rattle.lists.proofs.Tests.{and_both, by_test}
use Rattle.cars.specs.Cars.{is_node}
use Rattle.positions.specs.declared.Survey.{Survey}
use Rattle.plan.specs.declared.Plan.{Plan}
use Rattle.plan.specs.Plan.{in_range, node_count, junction_count, plan_survey}
use Rattle.plan.proofs.Laws.{nodes_most}
use Rattle.acts.specs.declared.Action.{Action}
use Rattle.acts.specs.Actions.{node_number}
use Rattle.usernode.specs.Sound.{node_sound}
use Rattle.zeronode.specs.Sound.{zero_sound}
use Rattle.junction.specs.Sound.{junction_sound}
use Rattle.ring.specs.declared.State.{State}
use Rattle.ring.specs.State.{rest_node, rest_junction, node_of}
use Rattle.ring.specs.Sound.{zero_passes, node_passes, junction_passes, sound}
use Rattle.ring.specs.Actions.{action_number, acted_state, handed_back, acting}
use Rattle.lists.specs.Refusal.{refused_if}
use Rattle.ring.specs.Step.{StepTold, next_state, step_number, refused, done, moving, stepping}

-- the number of a node is 1 to U
pub node_number_lem : (nodes node : ℕ) → is_node nodes node ≡ true → (1 ≤ node) × (node ≤ nodes)
unfolding is_node
node_number_lem nodes node e =
    (leb-true 1 node (and_left (leb 1 node) (leb node nodes) e), leb-true node nodes (and_right (leb 1 node) (leb node nodes) e))

-- so it names a place of the state's nodes
pub node_place : (plan : Plan) (node : ℕ) → is_node (node_count plan) node ≡ true → (1 ≤ node) × (node ≤ 64)
node_place plan node e =
    let number = node_number_lem (node_count plan) node e in
    (number.0, omega (arith, number.1, nodes_most plan))

-- an action that is not refused names a node of the plan
pub accepted_node : (action : Action) (state : State) (node lock : ℕ) → action_number action state node lock ≡ 0 → is_node (node_count state.plan) node ≡ true
unfolding action_number refused_if
accepted_node action state node lock e = go (is_node (node_count state.plan) node) _ e
  where
    go : (b : Bool) (later : ℕ) → cond (not b) 7 later ≡ 0 → b ≡ true
    go true later z = refl
    go false later z = absurd (omega arith)

-- and a lock of the plan, and its node accepts it
pub accepted : (action : Action) (state : State) (node lock : ℕ) → action_number action state node lock ≡ 0
    → (lock < state.plan.locks) × (node_number state.plan.rules action (node_of state node) lock ≡ 0)
unfolding action_number refused_if
accepted action state node lock e =
    let both = go (is_node (node_count state.plan) node) (ltb lock state.plan.locks) (node_number state.plan.rules action (node_of state node) lock) e in
    (ltb-true _ _ both.0, both.1)
  where
    go : (a b : Bool) (n : ℕ) → cond (not a) 7 (cond (not b) 8 n) ≡ 0 → (b ≡ true) × (n ≡ 0)
    go true true n z = (refl, z)
    go true false n z = absurd (omega arith)
    go false b n z = absurd (omega arith)

-- what passing 13 says: each of its tests holds
pub record Passed (state : State) : Type 0 where
  pub plan : in_range state.plan ≡ true
  pub zeroth : zero_passes state (node_count state.plan) ≡ true
  pub nodes : every (node_passes state (node_count state.plan)) (node_count state.plan) ≡ true
  pub junctions : every (junction_passes state (node_count state.plan)) (junction_count state.plan) ≡ true

pub passed : (state : State) → sound state ≡ true → Passed state
unfolding sound
passed state e =
    let count = node_count state.plan in
    let nodes = every (node_passes state count) count in
    let junctions = every (junction_passes state count) (junction_count state.plan) in
    let three = and_left (in_range state.plan && zero_passes state count && nodes) junctions e in
    let two = and_left (in_range state.plan && zero_passes state count) nodes three in
    record {
      plan = and_left (in_range state.plan) (zero_passes state count) two;
      zeroth = and_right (in_range state.plan) (zero_passes state count) two;
      nodes = and_right (in_range state.plan && zero_passes state count) nodes three;
      junctions = and_right (in_range state.plan && zero_passes state count && nodes) junctions e;
    }

-- and each of them together is passing 13
pub passes : (state : State) → Passed state → sound state ≡ true
unfolding sound
passes state p = and_both (and_both (and_both p.plan p.zeroth) p.nodes) p.junctions

-- what 13 asks of the parts, by the survey of the plan
abbrev pub parts_pass : State → Survey → Bool
parts_pass state survey =
    zero_passes state survey.nodes && every (node_passes state survey.nodes) survey.nodes && every (junction_passes state survey.nodes) survey.junctions

-- where the plan is in range, 13 is that
pub sound_surveyed : (state : State) (survey : Survey) → plan_survey state.plan ≡ Some survey → parts_pass state survey ≡ sound state
unfolding sound plan_survey
sound_surveyed state survey e = go (in_range state.plan) (record { nodes = node_count state.plan; junctions = junction_count state.plan }) e
  where
    go : (b : Bool) (there : Survey) → cond b (Some there) None ≡ Some survey
        → parts_pass state survey ≡ (b && zero_passes state there.nodes && every (node_passes state there.nodes) there.nodes && every (junction_passes state there.nodes) there.junctions)
    go true there e = let same : survey ≡ there = cc in ap (parts_pass state) same
    go false there e = cc

-- the plan is in range, and the queue has at most 65 cars
pub sound_plan : (state : State) → sound state ≡ true → in_range state.plan ≡ true
sound_plan state e = (passed state e).plan

pub sound_count : (state : State) → sound state ≡ true → state.zeroth.count ≤ 65
unfolding zero_passes zero_sound
sound_count state e = leb-true state.zeroth.count 65 (and_left _ _ (and_left _ _ (passed state e).zeroth))

-- a node of the plan, and a junction, pass by themselves
pub node_passes_lem : (state : State) → sound state ≡ true → (place : ℕ) → place < node_count state.plan
    → node_sound state.plan.rules (node_count state.plan) state.plan.locks (get_or state.nodes place rest_node) ≡ true
unfolding node_passes
node_passes_lem state e place l = every-at (node_passes state (node_count state.plan)) (node_count state.plan) place (passed state e).nodes l

pub junction_passes_lem : (state : State) → sound state ≡ true → (place : ℕ) → place < junction_count state.plan
    → junction_sound state.plan.rules (node_count state.plan) state.plan.locks (get_or state.junctions place rest_junction) ≡ true
unfolding junction_passes
junction_passes_lem state e place l =
    every-at (junction_passes state (node_count state.plan)) (junction_count state.plan) place (passed state e).junctions l

-- a step keeps the plan
pub stepping_plan : (state : State) → (stepping state).state.plan ≡ state.plan
unfolding stepping moving done next_state refused
stepping_plan state =
    by_test (λ (t : StepTold). t.state.plan ≡ state.plan) (sound state)
    (λ e. by_test (λ (t : StepTold). t.state.plan ≡ state.plan) (eqb (step_number state) 0) (λ z. refl) (λ z. refl)) (λ e. refl)

-- a state that passes is stepped: 14, 15 or done
pub step_of_sound : (state : State) → sound state ≡ true → stepping state ≡ moving state
unfolding stepping
step_of_sound state e = simp e

-- and acted on: 7 to 12 or accepted
pub act_of_sound : (action : Action) (state : State) (node lock : ℕ) → sound state ≡ true
    → acting action state node lock ≡ handed_back (action_number action state node lock) (acted_state action state node lock) state
unfolding acting
act_of_sound action state node lock e = simp e
