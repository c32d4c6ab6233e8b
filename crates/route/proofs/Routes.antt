-- How long a route is, and the route of user nodes only.
use Prim.Native.Nat.{ℕ, zero, suc, ◌+◌, ◌*◌}
use mathlib.Core.Path.{◌≡◌, refl, ap}
use mathlib.Core.Bool.{Bool, true}
use mathlib.Core.List.{List, ◌∷◌}
use native.Mathlib.Omega.{arith}
use lib.ListN.{length, length-append}
use Rattle.positions.specs.Ring.{Ring, no_more, user_node, a_junction, nodes_in, junctions_in, users_only}
use Rattle.positions.proofs.Counts.{users_nodes, users_no_junction}
use Rattle.route.specs.Route.{out_number, route_at}
use Rattle.route.specs.Laying.{nodes_from, legs_in}

-- one leg a user node, two a junction
pub legs : (inner : Bool) (ring : Ring) (node junction : ℕ) → length (route_at inner ring node junction) ≡ nodes_in ring + 2 * junctions_in ring
unfolding route_at nodes_in junctions_in
legs inner no_more node junction = refl
legs inner (user_node rest) node junction = omega (arith, legs inner rest (node + 1) junction)
legs inner (a_junction subring rest) node junction =
    omega (arith, length-append (route_at true subring node (junction + 1)) (out_number inner junction ∷ route_at inner rest (node + nodes_in subring) (junction + 1 + junctions_in subring)), legs true subring node (junction + 1), legs inner rest (node + nodes_in subring) (junction + 1 + junctions_in subring))

pub legs_in_lem : (inner : Bool) (ring : Ring) (node junction : ℕ) → length (route_at inner ring node junction) ≡ legs_in ring
unfolding legs_in
legs_in_lem = legs

-- a ring of user nodes only
pub users_route : (inner : Bool) (count node junction : ℕ) → route_at inner (users_only count) node junction ≡ nodes_from node count
unfolding route_at users_only nodes_from
users_route inner zero node junction = refl
users_route inner (suc count) node junction = ap (λ (l : List ℕ). node ∷ l) (users_route inner count (node + 1) junction)

pub users_legs : (count : ℕ) → legs_in (users_only count) ≡ count
unfolding legs_in
users_legs count = omega (arith, users_nodes count, users_no_junction count)
