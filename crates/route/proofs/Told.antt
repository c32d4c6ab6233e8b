-- The numbers of a route tell its legs; two routes by hand.
use Prim.Native.Nat.{◌+◌}
use mathlib.Core.Path.{refl, sym, ap₂, ◌∙◌}
use mathlib.Core.Bool.{true}
use mathlib.Core.List.{List, ◌∷◌, ◌++◌}
use native.Mathlib.Omega.{arith}
use Rattle.std.proofs.lemmas.List.{map-append}
use Rattle.std.specs.Prelude.{Option, Some}
use Rattle.positions.specs.Ring.{no_more, user_node, a_junction, nodes_in, junctions_in, users_only}
use Rattle.positions.specs.Reading.{main_ring, reading, positions, onward, position_at, joined, counted, wrong, behind_user, behind_junction}
use Rattle.route.specs.declared.Leg.{Leg}
use Rattle.route.specs.declared.Leg.TheVariants.{Out}
use Rattle.route.specs.Route.{into_number, out_number, leg_of, route_at, route_of}
use Rattle.route.specs.Theorems.{legs_at, NumbersTellLegs, Worked}
use Rattle.route.proofs.Legs.{leg_node, leg_into, leg_out}

pub numbers_tell_legs : NumbersTellLegs
unfolding route_at legs_at nodes_in junctions_in
numbers_tell_legs inner no_more node junction n j = refl
numbers_tell_legs inner (user_node rest) node junction n j =
    ap₂ (λ (a : Option Leg) (l : List (Option Leg)). a ∷ l) (leg_node node (omega (arith, n))) (numbers_tell_legs inner rest (node + 1) junction (omega (arith, n)) j)
numbers_tell_legs inner (a_junction subring rest) node junction n j =
    let within = numbers_tell_legs true subring node (junction + 1) (omega (arith, n)) (omega (arith, j)) in
    let behind = numbers_tell_legs inner rest (node + nodes_in subring) (junction + 1 + junctions_in subring) (omega (arith, n)) (omega (arith, j)) in
    ap₂ (λ (a : Option Leg) (l : List (Option Leg)). a ∷ l) (leg_into junction (omega (arith, j)))
    (map-append leg_of (route_at true subring node (junction + 1)) (out_number inner junction ∷ route_at inner rest (node + nodes_in subring) (junction + 1 + junctions_in subring))
    ∙ ap₂ (λ (s t : List (Option Leg)). s ++ t) within (ap₂ (λ (a : Option Leg) (l : List (Option Leg)). a ∷ l) (leg_out inner junction (omega (arith, j))) behind)
    ∙ sym (map-append Some (legs_at true subring node (junction + 1)) (Out inner junction ∷ legs_at inner rest (node + nodes_in subring) (junction + 1 + junctions_in subring))))

pub worked : Worked
unfolding route_of route_at into_number out_number nodes_in junctions_in main_ring reading positions onward position_at joined counted wrong behind_user behind_junction users_only
worked = record { one_within = refl; behind_one = refl }
