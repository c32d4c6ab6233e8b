-- 01, "Actions between steps", and the numbers 7 to 13 in their order.
use Rattle.std.specs.Prelude.{ℕ, ◌-◌, cond, not, eqb, ltb, set, Result, Ok, Err}
use Rattle.lists.specs.Refusal.{refused_if}
use Rattle.cars.specs.Cars.{is_node}
use Rattle.plan.specs.Plan.{node_count}
use Rattle.acts.specs.declared.Action.{Action}
use Rattle.acts.specs.declared.ActionRefusal.{ActionRefusal}
use Rattle.acts.specs.Actions.{action_refusal_number, action_answer_number, node_number, acted}
use Rattle.ring.specs.declared.State.{State}
use Rattle.ring.specs.declared.Acted.{Acted}
use Rattle.ring.specs.State.{Told, node_of}
use Rattle.ring.specs.Sound.{sound}

-- what an answer tells
unfoldable pub action_told : Acted → Told
action_told r = record { number = action_answer_number r.answer; state = r.state }

-- 7 "node not 1 to U", 8 "lock not in the plan", then 9 to 12
unfoldable pub action_number : Action → State → ℕ → ℕ → ℕ
action_number action state node lock =
    refused_if (not (is_node (node_count state.plan) node)) 7
    (refused_if (not (ltb lock state.plan.locks)) 8 (node_number state.plan.rules action (node_of state node) lock))

-- the state in which the named node has acted
unfoldable pub acted_state : Action → State → ℕ → ℕ → State
acted_state action state node lock =
    record {
      plan = state.plan;
      zeroth = state.zeroth;
      nodes = set state.nodes (node - 1) (acted state.plan.rules action (node_of state node) lock);
      junctions = state.junctions;
    }

-- "A refused action .. hands back the state it was given" (demand 1)
unfoldable pub handed_back : ℕ → State → State → Told
handed_back number next state = record { number = number; state = cond (eqb number 0) next state }

-- "For actions 13 comes first, then 7 to 12."
unfoldable pub acting : Action → State → ℕ → ℕ → Told
acting action state node lock =
    cond (sound state) (handed_back (action_number action state node lock) (acted_state action state node lock) state)
    (record { number = 13; state = state })

-- what is told of the state in which the named node has acted, or of a refusal, beside which the state stays as it was
unfoldable pub outcome_told : State → Result State ActionRefusal → Told
outcome_told state (Ok next) = record { number = 0; state = next }
outcome_told state (Err refusal) = record { number = action_refusal_number refusal; state = state }
