-- What proofs/ proves over the definitions, as sentences.
use Rattle.std.specs.Prelude.{◌≤◌, ◌≡◌, true}
use Rattle.plan.specs.declared.Plan.{Plan}
use Rattle.plan.specs.Plan.{in_range, node_count, junction_count}

-- "User nodes are numbered 1 to U in travelling order, U at most 64."
abbrev pub AtMost64Nodes : Type 0
AtMost64Nodes = (plan : Plan) → in_range plan ≡ true → node_count plan ≤ 64

-- docs/NESTED.md: "J is then at most 144", so there is a place for each junction
abbrev pub AtMost144Junctions : Type 0
AtMost144Junctions = (plan : Plan) → in_range plan ≡ true → junction_count plan ≤ 144
