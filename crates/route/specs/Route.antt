-- The route of a ring: its senders in travelling order as numbers. A user node is one sender; a junction is its subring car, then the
-- senders within it, then its main car.
use Rattle.std.specs.Prelude.{ℕ, ◌+◌, ◌-◌, Bool, true, false, cond, ◌&&◌, List, [], ◌∷◌, ◌++◌, leb, ltb, length, Option, Some, None}
use Rattle.positions.specs.Ring.{Ring, no_more, user_node, a_junction, nodes_in, junctions_in}
use Rattle.positions.specs.Reading.{main_ring}
use Rattle.route.specs.declared.Leg.{Leg}
use Rattle.route.specs.declared.Leg.TheVariants.{At, Into, Out}

-- the numbers: below 64 the user node at that place; from 64 on into a junction, by its place; from 208 on out of a junction on the main
-- ring; from 352 to 495 out of an inner junction
unfoldable pub into_number : ℕ → ℕ
into_number place = 64 + place

unfoldable pub out_number : Bool → ℕ → ℕ
out_number inner place = cond inner (352 + place) (208 + place)

unfoldable pub leg_of : ℕ → Option Leg
leg_of number =
    cond (ltb number 64) (Some (At number))
    (cond (ltb number 208) (Some (Into (number - 64)))
    (cond (ltb number 352) (Some (Out false (number - 208))) (cond (ltb number 496) (Some (Out true (number - 352))) None)))

-- the route along a ring whose first user node and first junction stand at these places; `inner`: it is a subring
unfoldable pub route_at : Bool → Ring → ℕ → ℕ → List ℕ
route_at inner no_more node junction = []
route_at inner (user_node rest) node junction = node ∷ route_at inner rest (node + 1) junction
route_at inner (a_junction subring rest) node junction =
    into_number junction
    ∷ (route_at true subring node (junction + 1)
    ++ (out_number inner junction ∷ route_at inner rest (node + nodes_in subring) (junction + 1 + junctions_in subring)))

-- the route of a plan's positions
unfoldable pub route_of : List ℕ → ℕ → List ℕ
route_of values count = route_at false (main_ring values count).ring 0 0

-- what is laid where there is room for so many numbers: the route of positions in range, where all of it fits; else nothing
unfoldable pub laid_in : ℕ → List ℕ → ℕ → List ℕ
laid_in room values count = cond ((main_ring values count).right && leb (length (route_of values count)) room) (route_of values count) []
