-- 01 as it was before 02's item 6, where junctions stand on the main ring only: the plan's range and counts, number 3, the junction's turn, the walk,
-- 13, the step and the actions, word for word. What item 6 has not touched is the model's own.
use Rattle.std.specs.Prelude.{ℕ, ◌+◌, Bool, cond, not, ◌&&◌, ◌||◌, List, ◌++◌, eqb, leb, ltb, length, get_or, set, take, drop, replicate}
use Rattle.lists.specs.Loops.{every, total, iterate, in_order}
use Rattle.lists.specs.Refusal.{refused_if}
use Rattle.cars.specs.declared.Car.{Car}
use Rattle.cars.specs.Cars.{multiring, is_node}
use Rattle.plan.specs.declared.Plan.{Plan}
use Rattle.plan.specs.Plan.{heads_in_range}
use Rattle.tours.specs.declared.JunctionRule.{JunctionRule}
use Rattle.tours.specs.Rules.{outside, in_tour}
use Rattle.junction.specs.declared.Junction.{Junction}
use Rattle.junction.specs.Turn.{junction_apply}
use Rattle.zeronode.specs.Turn.{zero_turn, overflows}
use Rattle.acts.specs.declared.Action.{Action}
use Rattle.acts.specs.Actions.{node_number}
use Rattle.ring.specs.declared.State.{State}
use Rattle.ring.specs.State.{Told, node_of}
use Rattle.ring.specs.Sound.{zero_passes, node_passes, junction_passes}
use Rattle.ring.specs.Actions.{acted_state, handed_back}
use Rattle.ring.specs.Walk.{Walk, junction_here, on_node, wanted, setting_out}
use Rattle.ring.specs.Step.{StepTold, refused}
use Rattle.nightfile.specs.File.{byte_at}

-- the value of a position, the first at place 0
unfoldable pub value_at : Plan → ℕ → ℕ
value_at plan place = get_or plan.values place 0

-- no position of the plan is a byte of 5
unfoldable pub without_five : Plan → Bool
without_five plan = every (λ place. not (eqb (value_at plan place) 5)) plan.positions

-- "Value 0 is a user node on the main ring; 1 to 4 is a junction"; "Under ring rules all values are 0."
unfoldable pub value_in_range : ℕ → ℕ → Bool
value_in_range rules value = leb value 4 && (multiring rules || eqb value 0)

unfoldable pub place_in_range : Plan → ℕ → Bool
place_in_range plan place = value_in_range plan.rules (value_at plan place)

unfoldable pub in_range_before : Plan → Bool
in_range_before plan = heads_in_range plan && every (place_in_range plan) plan.positions

-- a value's user nodes: one on the main ring, or that many on a subring; its junctions: one, or none where it is a user node
unfoldable pub size_of : ℕ → ℕ
size_of value = cond (eqb value 0) 1 value

unfoldable pub junctions_of : ℕ → ℕ
junctions_of value = cond (eqb value 0) 0 1

-- U, the number of user nodes, and the number of junctions; a plan out of range has none
unfoldable pub nodes_before : Plan → ℕ
nodes_before plan = cond (in_range_before plan) (total (λ place. size_of (value_at plan place)) plan.positions) 0

unfoldable pub junctions_before : Plan → ℕ
junctions_before plan = cond (in_range_before plan) (total (λ place. junctions_of (value_at plan place)) plan.positions) 0

-- which sentence applies to a junction, and its turn in a step
unfoldable pub junction_rule_before : ℕ → ℕ → Bool → Car → Car → Junction → JunctionRule
junction_rule_before low high wants arrival out junction =
    cond junction.tour (in_tour junction.train low high out) (outside junction.word wants arrival)

unfoldable pub junction_turn_before : ℕ → ℕ → Bool → Car → Car → Junction → Junction
junction_turn_before low high wants arrival out junction =
    junction_apply arrival out junction (junction_rule_before low high wants arrival out junction)

-- into a subring: its first node takes the junction's subring car
unfoldable pub into_subring : State → Walk → Walk
into_subring state walk =
    record {
      passed = walk.passed;
      turned = walk.turned;
      last = (junction_here state walk).subring;
      astray = walk.astray;
      nodes = walk.nodes;
      events = walk.events;
      junctions = walk.junctions;
    }

-- out of a subring: the junction's turn, with the arrival on the main side and the last car of the subring; its main car
-- comes next
unfoldable pub out_of_subring : State → ℕ → Walk → Walk → Walk
out_of_subring state size before inside =
    record {
      passed = inside.passed;
      turned = before.turned + 1;
      last = (junction_here state before).main;
      astray = inside.astray;
      nodes = inside.nodes;
      events = inside.events;
      junctions = set before.junctions before.turned
          (junction_turn_before before.passed (before.passed + size) (wanted state before.passed size) before.last inside.last (junction_here state before));
    }

-- a junction with this many nodes on its subring
unfoldable pub on_junction : State → ℕ → Walk → Walk
on_junction state size walk = out_of_subring state size walk (iterate (on_node state) size (into_subring state walk))

-- "Value 0 is a user node on the main ring; 1 to 4 is a junction with that many user nodes on its subring."
unfoldable pub on_position : State → ℕ → Walk → Walk
on_position state place walk =
    cond (eqb (value_at state.plan place) 0) (on_node state walk) (on_junction state (value_at state.plan place) walk)

-- all positions of the plan; "The zero node follows the last position": it takes what the walk ends with
unfoldable pub walk_before : State → Walk
walk_before state = in_order (on_position state) state.plan.positions (setting_out state)

-- nothing of the state is what 13 refuses
unfoldable pub sound_before : State → Bool
sound_before state =
    in_range_before state.plan
    && zero_passes state (nodes_before state.plan)
    && every (node_passes state (nodes_before state.plan)) (nodes_before state.plan)
    && every (junction_passes state (nodes_before state.plan)) (junctions_before state.plan)

-- the state after the step, its number, and what it tells
unfoldable pub next_before : State → State
next_before state =
    record {
      plan = state.plan;
      zeroth = zero_turn state.zeroth (walk_before state).last;
      nodes = (walk_before state).nodes;
      junctions = (walk_before state).junctions;
    }

unfoldable pub step_number_before : State → ℕ
step_number_before state = refused_if (overflows state.zeroth (walk_before state).last) 14 (refused_if (walk_before state).astray 15 0)

unfoldable pub moving_before : State → StepTold
moving_before state =
    cond (eqb (step_number_before state) 0) (record { number = 0; state = next_before state; events = (walk_before state).events })
    (refused (step_number_before state) state)

unfoldable pub stepping_before : State → StepTold
stepping_before state = cond (sound_before state) (moving_before state) (refused 13 state)

-- an action, and its number 7 to 12
unfoldable pub action_number_before : Action → State → ℕ → ℕ → ℕ
action_number_before action state node lock =
    refused_if (not (is_node (nodes_before state.plan) node)) 7
    (refused_if (not (ltb lock state.plan.locks)) 8 (node_number state.plan.rules action (node_of state node) lock))

unfoldable pub acting_before : Action → State → ℕ → ℕ → Told
acting_before action state node lock =
    cond (sound_before state) (handed_back (action_number_before action state node lock) (acted_state action state node lock) state)
    (record { number = 13; state = state })

-- of a plan's body: no byte of its positions is 5; 3 "plan body under 3 bytes, or not 3 plus its number of positions"; the plan with its first 16 values
unfoldable pub no_five : List ℕ → Bool
no_five body = every (λ place. not (eqb (byte_at body (3 + place)) 5)) (length (drop 3 body))

unfoldable pub length_wrong_before : List ℕ → Bool
length_wrong_before body = ltb (length body) 3 || not (eqb (length body) (3 + byte_at body 2))

unfoldable pub plan_before : List ℕ → Plan
plan_before body =
    record {
      rules = byte_at body 0;
      locks = byte_at body 1;
      positions = byte_at body 2;
      values = take 16 (drop 3 body ++ replicate 16 0);
    }

-- 3 and 4, in this order; 0: neither
unfoldable pub plan_part_before : List ℕ → ℕ
plan_part_before body = refused_if (length_wrong_before body) 3 (refused_if (not (in_range_before (plan_before body))) 4 0)
