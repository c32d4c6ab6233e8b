-- The model's state as a line: the definitions. What they have to do with the model's walk, step and actions is in Through, Walk, Zero and Acts.
use Prim.Native.Nat.{ℕ, suc, ◌+◌}
use mathlib.Core.Path.{◌≡◌}
use mathlib.Core.Bool.{Bool, false, ◌||◌}
use mathlib.Core.List.{List}
use lib.ListN.{get_or, take, length}
use Rattle.cars.specs.declared.Car.{Car}
use Rattle.positions.specs.Ring.{Ring, no_more, user_node, a_junction, nodes_in, junctions_in}
use Rattle.plan.specs.Plan.{ring_of}
use Rattle.usernode.specs.declared.Node.{Node}
use Rattle.usernode.specs.Astray.{astray}
use Rattle.zeronode.specs.declared.ZeroNode.{ZeroNode}
use Rattle.junction.specs.declared.Junction.{Junction}
use Rattle.ring.specs.declared.State.{State}
use Rattle.ring.specs.State.{rest_node, rest_junction}
use Rattle.onelock.proofs.Line.Ring.{Line, end, user, junction, size}

-- along a ring: its nodes stand from place i on in the list of nodes, its junctions from place j on in the list of junctions
abbrev pub line_at : Ring → List Node → List Junction → ℕ → ℕ → Line
line_at no_more nodes junctions i j = end
line_at (user_node rest) nodes junctions i j = user (get_or nodes i rest_node) (line_at rest nodes junctions (suc i) j)
line_at (a_junction subring rest) nodes junctions i j =
    junction (get_or junctions j rest_junction) (line_at subring nodes junctions i (j + 1))
    (line_at rest nodes junctions (i + nodes_in subring) (j + 1 + junctions_in subring))

-- along the plan's ring
abbrev pub line_of : State → Line
line_of s = line_at (ring_of s.plan) s.nodes s.junctions 0 0

-- the queue's cars of a zero node
abbrev pub queue_of : ZeroNode → List Car
queue_of z = take z.count z.queue

-- some user node of the line is not ready for its own car
abbrev pub strays : ℕ → Car → Line → Bool
strays k a end = false
strays k a (user u r) = astray u (suc k) a || strays (suc k) u.car r
strays k a (junction j s r) = strays k j.subring s || strays (k + size s) j.main r

-- the lists have their places
pub record Formed (s : State) : Type 0 where
  pub nodes : length s.nodes ≡ 64
  pub junctions : length s.junctions ≡ 144
  pub queue : length s.zeroth.queue ≡ 65
