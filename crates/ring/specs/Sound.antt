-- 01, number 13: "state's plan out of range, queue count over 65, a car or activity in use naming a missing node or lock, a
-- word with a bit of a missing lock, a letting-go bit, gotp or didv under ring rules". Places not in use are not tested.
use Rattle.std.specs.Prelude.{ℕ, Bool, ◌&&◌, get_or}
use Rattle.lists.specs.Loops.{every}
use Rattle.plan.specs.Plan.{in_range, node_count, junction_count}
use Rattle.usernode.specs.Sound.{node_sound}
use Rattle.zeronode.specs.Sound.{zero_sound}
use Rattle.junction.specs.Sound.{junction_sound}
use Rattle.ring.specs.declared.State.{State}
use Rattle.ring.specs.State.{rest_node, rest_junction}

-- the zero node, and the node or junction at a place, in a plan of this many nodes
unfoldable pub zero_passes : State → ℕ → Bool
zero_passes state nodes = zero_sound state.plan.rules nodes state.plan.locks state.zeroth

unfoldable pub node_passes : State → ℕ → ℕ → Bool
node_passes state nodes place = node_sound state.plan.rules nodes state.plan.locks (get_or state.nodes place rest_node)

unfoldable pub junction_passes : State → ℕ → ℕ → Bool
junction_passes state nodes place =
    junction_sound state.plan.rules nodes state.plan.locks (get_or state.junctions place rest_junction)

-- nothing of the state is what 13 refuses
unfoldable pub sound : State → Bool
sound state =
    in_range state.plan
    && zero_passes state (node_count state.plan)
    && every (node_passes state (node_count state.plan)) (node_count state.plan)
    && every (junction_passes state (node_count state.plan)) (junction_count state.plan)
