-- 01, "The plan and the things in it", with docs/NESTED.md, "The plan": the ranges of a plan's values (number 4), its ring, its user nodes and
-- junctions.
use Rattle.std.specs.Prelude.{ℕ, Bool, cond, ◌&&◌, ◌||◌, eqb, leb, Option, Some, None}
use Rattle.cars.specs.Cars.{multiring}
use Rattle.positions.specs.declared.Survey.{Survey}
use Rattle.positions.specs.Ring.{Ring, nodes_in, junctions_in}
use Rattle.positions.specs.Reading.{Reading, main_ring}
use Rattle.plan.specs.declared.Plan.{Plan}

-- the places kept for the bytes of positions, for user nodes and for junctions: "U is at most 64; J is then at most 144, and the positions have at
-- most 352 bytes"
abbrev pub value_places : ℕ
value_places = 352

abbrev pub node_places : ℕ
node_places = 64

abbrev pub junction_places : ℕ
junction_places = 144

-- 02, item 4: "4 now means rules outside 1 to 4"; "Locks: 1 to 64", "Positions round the main ring: 1 to 16"
unfoldable pub heads_in_range : Plan → Bool
heads_in_range plan =
    leb 1 plan.rules
    && leb plan.rules 4
    && leb 1 plan.locks
    && leb plan.locks 64
    && leb 1 plan.positions
    && leb plan.positions 16

-- its positions read, and the ring that they are: "the number of positions in the plan counts only those of the main ring"
unfoldable pub positions_read : Plan → Reading
positions_read plan = main_ring plan.values plan.positions

unfoldable pub ring_of : Plan → Ring
ring_of plan = (positions_read plan).ring

-- "Under ring rules all positions are 0": there is no junction
unfoldable pub junctions_allowed : Plan → Bool
junctions_allowed plan = multiring plan.rules || eqb (junctions_in (ring_of plan)) 0

-- all of that, every position in range, and "U is at most 64"
unfoldable pub in_range : Plan → Bool
in_range plan = heads_in_range plan && (positions_read plan).right && leb (nodes_in (ring_of plan)) 64 && junctions_allowed plan

-- 4 "a plan value outside its range"; 0: none is
unfoldable pub plan_number : Plan → ℕ
plan_number plan = cond (in_range plan) 0 4

-- U, the number of user nodes, and J, the number of junctions; a plan out of range has none
unfoldable pub node_count : Plan → ℕ
node_count plan = cond (in_range plan) (nodes_in (ring_of plan)) 0

unfoldable pub junction_count : Plan → ℕ
junction_count plan = cond (in_range plan) (junctions_in (ring_of plan)) 0

-- all three at once
unfoldable pub plan_survey : Plan → Option Survey
plan_survey plan = cond (in_range plan) (Some (record { nodes = node_count plan; junctions = junction_count plan })) None
