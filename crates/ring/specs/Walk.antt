-- 01, "One step": "All nodes act at once on the cars sent before the step, each taking its predecessor's." The walk goes through
-- the senders in travelling order (docs/NESTED.md, "Who takes whose car"), by recursion on the plan's ring.
use Rattle.std.specs.Prelude.{ℕ, ◌+◌, Bool, true, false, ◌||◌, List, get_or, set, replicate, Option, None}
use Rattle.lists.specs.Loops.{some}
use Rattle.cars.specs.declared.Car.{Car}
use Rattle.positions.specs.Ring.{Ring, no_more, user_node, a_junction, nodes_in}
use Rattle.plan.specs.Plan.{node_places, ring_of}
use Rattle.usernode.specs.declared.Node.{Node}
use Rattle.turns.specs.declared.Turn.{Turn}
use Rattle.turns.specs.declared.Event.{Event}
use Rattle.usernode.specs.Node.{wants_train}
use Rattle.turns.specs.Turn.{turn}
use Rattle.usernode.specs.Astray.{astray}
use Rattle.junction.specs.declared.Junction.{Junction}
use Rattle.junction.specs.Turn.{junction_turn}
use Rattle.ring.specs.declared.State.{State}
use Rattle.ring.specs.State.{rest_node, rest_junction}

-- the walk: the nodes passed, the junctions entered, the car sent by the last sender met, whether an own car met a node that was not
-- ready for it; and nodes, events and junctions as the step leaves them
pub record Walk : Type 0 where
  pub passed : ℕ
  pub turned : ℕ
  pub last : Car
  pub astray : Bool
  pub nodes : List Node
  pub events : List (Option Event)
  pub junctions : List Junction

-- no event at a node
unfoldable pub quiet : Option Event
quiet = None

-- the node and the junction that the walk comes to, as they were before the step
unfoldable pub node_here : State → Walk → Node
node_here state walk = get_or state.nodes walk.passed rest_node

unfoldable pub junction_here : State → Walk → Junction
junction_here state walk = get_or state.junctions walk.turned rest_junction

-- the turn of the node that the walk comes to, with the car that was sent just before it
unfoldable pub turn_here : State → Walk → Turn
turn_here state walk = turn state.plan.rules (walk.passed + 1) walk.last (node_here state walk)

-- a user node: its own old car is what comes next
unfoldable pub on_node : State → Walk → Walk
on_node state walk =
    record {
      passed = walk.passed + 1;
      turned = walk.turned;
      last = (node_here state walk).car;
      astray = walk.astray || astray (node_here state walk) (walk.passed + 1) walk.last;
      nodes = set walk.nodes walk.passed (turn_here state walk).node;
      events = set walk.events walk.passed (turn_here state walk).event;
      junctions = walk.junctions;
    }

-- "some node within wants a train (.. before the step)": the nodes at this place and behind it, as many as there are
unfoldable pub wanted : State → ℕ → ℕ → Bool
wanted state place size = some (λ k. wants_train (get_or state.nodes (place + k) rest_node)) size

-- into a junction: the first sender on its subring takes the junction's subring car
unfoldable pub enters : State → Walk → Walk
enters state walk =
    record {
      passed = walk.passed;
      turned = walk.turned + 1;
      last = (junction_here state walk).subring;
      astray = walk.astray;
      nodes = walk.nodes;
      events = walk.events;
      junctions = walk.junctions;
    }

-- out of a junction with this many user nodes within, `inner` or on the main ring: its turn, with the arrival on the main side and the last car
-- of the subring; its main car comes next
unfoldable pub leaves : State → Bool → ℕ → Walk → Walk → Walk
leaves state inner size before inside =
    record {
      passed = inside.passed;
      turned = inside.turned;
      last = (junction_here state before).main;
      astray = inside.astray;
      nodes = inside.nodes;
      events = inside.events;
      junctions = set inside.junctions before.turned
          (junction_turn inner before.passed (before.passed + size) (wanted state before.passed size) before.last inside.last (junction_here state before));
    }

-- along a ring, the main ring or (`inner`) a subring: a user node has its turn; a junction is its subring car, the senders on its subring, its main car
unfoldable pub along : State → Bool → Ring → Walk → Walk
along state inner no_more walk = walk
along state inner (user_node rest) walk = along state inner rest (on_node state walk)
along state inner (a_junction subring rest) walk =
    along state inner rest (leaves state inner (nodes_in subring) walk (along state true subring (enters state walk)))

-- the first position takes the zero node's car
unfoldable pub setting_out : State → Walk
setting_out state =
    record {
      passed = 0;
      turned = 0;
      last = state.zeroth.car;
      astray = false;
      nodes = state.nodes;
      events = replicate node_places quiet;
      junctions = state.junctions;
    }

-- along the plan's ring; "The zero node follows the last position": it takes what the walk ends with
unfoldable pub walk : State → Walk
walk state = along state false (ring_of state.plan) (setting_out state)
