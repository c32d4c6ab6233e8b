-- What proofs/ proves over the definitions, as sentences.
use Rattle.std.specs.Prelude.{ℕ, ◌+◌, ◌*◌, ◌≤◌, ◌<◌, ◌≡◌, Bool, true, false, cond, List, [], ◌∷◌, ◌++◌, map, eqb, length, Some}
use Rattle.positions.specs.Ring.{Ring, no_more, user_node, a_junction, nodes_in, junctions_in}
use Rattle.route.specs.declared.Leg.{Leg}
use Rattle.route.specs.declared.Leg.TheVariants.{At, Into, Out}
use Rattle.route.specs.Route.{into_number, out_number, leg_of, route_at, route_of}

-- the legs along a ring in travelling order: a user node; into a junction, the legs along its subring, out of it
unfoldable pub legs_at : Bool → Ring → ℕ → ℕ → List Leg
legs_at inner no_more node junction = []
legs_at inner (user_node rest) node junction = At node ∷ legs_at inner rest (node + 1) junction
legs_at inner (a_junction subring rest) node junction =
    Into junction
    ∷ (legs_at true subring node (junction + 1)
    ++ (Out inner junction ∷ legs_at inner rest (node + nodes_in subring) (junction + 1 + junctions_in subring)))

-- the numbers of a route tell its legs, of at most 64 user nodes and 144 junctions
abbrev pub NumbersTellLegs : Type 0
NumbersTellLegs =
    (inner : Bool) (ring : Ring) (node junction : ℕ) → node + nodes_in ring ≤ 64 → junction + junctions_in ring ≤ 144
    → map leg_of (route_at inner ring node junction) ≡ map Some (legs_at inner ring node junction)

-- one number a user node and two a junction
abbrev pub OneANodeTwoAJunction : Type 0
OneANodeTwoAJunction =
    (inner : Bool) (ring : Ring) (node junction : ℕ) → length (route_at inner ring node junction) ≡ nodes_in ring + 2 * junctions_in ring

-- how often a number stands in a list
unfoldable pub times : ℕ → List ℕ → ℕ
times number [] = 0
times number (first ∷ rest) = cond (eqb number first) 1 0 + times number rest

-- each user node is passed exactly once, each junction entered once and left once, by the one way out or by the other
abbrev pub EachOnce : Type 0
EachOnce =
    (ring : Ring) → nodes_in ring ≤ 64 → junctions_in ring ≤ 144
    → ((place : ℕ) → place < nodes_in ring → times place (route_at false ring 0 0) ≡ 1)
    × ((place : ℕ) → place < junctions_in ring
    → (times (into_number place) (route_at false ring 0 0) ≡ 1)
    × (times (out_number false place) (route_at false ring 0 0) + times (out_number true place) (route_at false ring 0 0) ≡ 1))

-- two routes by hand. <[0, 1]>: into junction 0, node 0, into junction 1, node 1, out of it, an inner one, out of junction 0; <0, [1, 0], 2>:
-- node 0, into junction 0, into junction 1, node 1, out of it, node 2, out of junction 0, into junction 2, nodes 3 and 4, out of it
pub record Worked : Type 0 where
  pub one_within : route_of (5 ∷ 2 ∷ 0 ∷ 1 ∷ []) 1 ≡ 64 ∷ 0 ∷ 65 ∷ 1 ∷ 353 ∷ 208 ∷ []
  pub behind_one : route_of (0 ∷ 5 ∷ 2 ∷ 1 ∷ 0 ∷ 2 ∷ []) 3 ≡ 0 ∷ 64 ∷ 65 ∷ 1 ∷ 353 ∷ 2 ∷ 208 ∷ 66 ∷ 3 ∷ 4 ∷ 210 ∷ []
