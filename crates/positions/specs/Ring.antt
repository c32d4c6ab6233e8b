-- docs/NESTED.md, "The plan": the positions round a ring, each a user node or a junction with a ring of its own, its subring.
use Rattle.std.specs.Prelude.{ℕ, zero, suc, ◌+◌}

-- in travelling order: no position more; a user node, then the rest of the ring; a junction with its subring, then the rest
pub data Ring : Type 0 where
  no_more : Ring
  user_node : Ring → Ring
  a_junction : Ring → Ring → Ring

-- its user nodes, those within its junctions among them
unfoldable pub nodes_in : Ring → ℕ
nodes_in no_more = 0
nodes_in (user_node rest) = nodes_in rest + 1
nodes_in (a_junction subring rest) = nodes_in subring + nodes_in rest

-- its junctions, those within junctions among them
unfoldable pub junctions_in : Ring → ℕ
junctions_in no_more = 0
junctions_in (user_node rest) = junctions_in rest
junctions_in (a_junction subring rest) = junctions_in subring + 1 + junctions_in rest

-- so many user nodes and nothing else
unfoldable pub users_only : ℕ → Ring
users_only zero = no_more
users_only (suc n) = user_node (users_only n)
