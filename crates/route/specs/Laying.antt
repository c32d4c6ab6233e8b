-- What the laying of a route asks and leaves.
use Rattle.std.specs.Prelude.{ℕ, zero, suc, ◌+◌, ◌*◌, ◌≤◌, ◌≡◌, true, List, [], ◌∷◌}
use Rattle.positions.specs.Ring.{Ring, nodes_in, junctions_in}
use Rattle.positions.specs.Reading.{Reading}
use Rattle.route.specs.declared.laying.Laid.{Laid}

-- so many user nodes in order, from one on
unfoldable pub nodes_from : ℕ → ℕ → List ℕ
nodes_from node zero = []
nodes_from node (suc count) = node ∷ nodes_from (node + 1) count

-- how many legs a ring has: one a user node, two a junction
unfoldable pub legs_in : Ring → ℕ
legs_in ring = nodes_in ring + 2 * junctions_in ring

-- positions that can be laid at a place of the route, with so many user nodes and junctions before them: they are read in range, there is
-- room for their legs, and their numbers fit 16 bits
pub record Layable (bytes room : ℕ) (read : Reading) (at nodes junctions : ℕ) : Type 0 where
  pub in_range : read.right ≡ true
  pub few : bytes ≤ 352
  pub fits : at + legs_in read.ring ≤ room
  pub few_nodes : nodes + nodes_in read.ring ≤ 1408
  pub few_junctions : junctions + junctions_in read.ring ≤ 352

-- how far the laying of positions that are read has come at their end
unfoldable pub laid_after : Reading → ℕ → ℕ → ℕ → Laid
laid_after read at nodes junctions =
    record {
      at = at + legs_in read.ring;
      place = read.place;
      nodes = nodes + nodes_in read.ring;
      junctions = junctions + junctions_in read.ring;
    }
