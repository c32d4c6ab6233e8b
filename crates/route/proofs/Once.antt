-- Each sender stands in the route exactly once: sums over the numbers of a route, whatever a number weighs.
use Prim.Native.Nat.{ℕ, zero, suc, ◌+◌, ◌-◌, ◌≤◌, ◌<◌}
use mathlib.Core.Path.{◌≡◌, refl, sym, ap, ◌∙◌}
use mathlib.Core.Bool.{Bool, true, false, cond}
use mathlib.Core.List.{List, [], ◌∷◌, ◌++◌}
use native.Mathlib.Nat.{add-zero}
use native.Mathlib.Omega.{arith}
use borrow.Author.Tests.{eq-eqb, ne_eqb, eqb-true, eqb-false}
use lib.Dec.{eqb}
use Rattle.lists.specs.Loops.{total}
use Rattle.lists.proofs.Tests.{by_value}
use Rattle.positions.specs.Ring.{Ring, no_more, user_node, a_junction, nodes_in, junctions_in}
use Rattle.route.specs.Route.{into_number, out_number, route_at}
use Rattle.route.specs.Theorems.{times, EachOnce, OneANodeTwoAJunction}
use Rattle.route.proofs.Routes.{legs}

-- the weight of all numbers of a list, and of the places from one on
abbrev weight : (ℕ → ℕ) → List ℕ → ℕ
weight f [] = 0
weight f (first ∷ rest) = f first + weight f rest

abbrev span : (ℕ → ℕ) → ℕ → ℕ → ℕ
span f from count = total (λ k. f (from + k)) count

weight_parts : (f : ℕ → ℕ) (s t : List ℕ) → weight f (s ++ t) ≡ weight f s + weight f t
weight_parts f [] t = omega arith
weight_parts f (a ∷ s) t = omega (arith, weight_parts f s t)

span_parts : (f : ℕ → ℕ) (from n m : ℕ) → span f from (n + m) ≡ span f from n + span f (from + n) m
unfolding total
span_parts f from n zero = rw (add-zero, add-zero) refl
span_parts f from n (suc m) =
    let e : n + suc m ≡ suc (n + m) = omega arith in
    let g : from + (n + m) ≡ from + n + m = omega arith in
    rw (e, g) (omega (arith, span_parts f from n m))

span_first : (f : ℕ → ℕ) (from n : ℕ) → span f from (1 + n) ≡ f from + span f (from + 1) n
unfolding total
span_first f from n =
    let e : from + 0 ≡ from = omega arith in
    span_parts f from 1 n ∙ rw e (omega arith)

-- a route weighs what its user nodes, the ways into its junctions and the ways out of them weigh
module _ (f g : ℕ → ℕ) (outs : (inner : Bool) (place : ℕ) → place < 144 → f (out_number inner place) ≡ g place) where
  route_weight : (inner : Bool) (ring : Ring) (node junction : ℕ) → junction + junctions_in ring ≤ 144
      → weight f (route_at inner ring node junction)
      ≡ span f node (nodes_in ring) + span (λ place. f (into_number place)) junction (junctions_in ring) + span g junction (junctions_in ring)
  unfolding route_at nodes_in junctions_in total
  route_weight inner no_more node junction room = refl
  route_weight inner (user_node rest) node junction room =
      let e : nodes_in rest + 1 ≡ 1 + nodes_in rest = omega arith in
      rw e (omega (arith, span_first f node (nodes_in rest), route_weight inner rest (node + 1) junction room))
  route_weight inner (a_junction subring rest) node junction room =
      let within = route_weight true subring node (junction + 1) (omega (arith, room)) in
      let behind = route_weight inner rest (node + nodes_in subring) (junction + 1 + junctions_in subring) (omega (arith, room)) in
      let into : ℕ → ℕ = λ place. f (into_number place) in
      let many : junctions_in subring + 1 + junctions_in rest ≡ 1 + (junctions_in subring + junctions_in rest) = omega arith in
      let parts =
      weight_parts f (route_at true subring node (junction + 1)) (out_number inner junction ∷ route_at inner rest (node + nodes_in subring) (junction + 1 + junctions_in subring)) in
      rw many
      (omega (
        arith,
        parts,
        within,
        behind,
        outs inner junction (omega (arith, room)),
        span_parts f node (nodes_in subring) (nodes_in rest),
        span_first into junction (junctions_in subring + junctions_in rest),
        span_parts into (junction + 1) (junctions_in subring) (junctions_in rest),
        span_first g junction (junctions_in subring + junctions_in rest),
        span_parts g (junction + 1) (junctions_in subring) (junctions_in rest),
      ))

-- one place weighs 1, all others nothing
abbrev only : ℕ → ℕ → ℕ
only number other = cond (eqb number other) 1 0

only_same : (number : ℕ) → only number number ≡ 1
only_same number = simp (eq-eqb number number refl)

only_other : (number other : ℕ) → (number ≡ other → ⊥) → only number other ≡ 0
only_other number other d = simp (ne_eqb number other d)

weight_times : (number : ℕ) (l : List ℕ) → times number l ≡ weight (only number) l
unfolding times
weight_times number [] = refl
weight_times number (first ∷ rest) = ap (λ (n : ℕ). only number first + n) (weight_times number rest)

span_none : (f : ℕ → ℕ) (from count : ℕ) → ((k : ℕ) → k < count → f (from + k) ≡ 0) → span f from count ≡ 0
unfolding total
span_none f from zero h = refl
span_none f from (suc count) h = omega (arith, span_none f from count (λ k l. h k (omega arith)), h count (omega arith))

span_one : (f : ℕ → ℕ) (place count : ℕ) → place < count → f place ≡ 1 → ((k : ℕ) → (k ≡ place → ⊥) → f k ≡ 0) → span f 0 count ≡ 1
span_one f place count below one none =
    let rest : ℕ = count - (place + 1) in
    let e : count ≡ place + (1 + rest) = omega arith in
    let a : 0 + place ≡ place = omega arith in
    let before = span_none f 0 place (λ k l. none (0 + k) (λ (same : 0 + k ≡ place). omega arith)) in
    let behind = span_none f (place + 1) rest (λ k l. none (place + 1 + k) (λ (same : place + 1 + k ≡ place). omega arith)) in
    let parts : span f 0 (place + (1 + rest)) ≡ span f 0 place + span f place (1 + rest) = rw a at (span_parts f 0 place (1 + rest)) in
    ap (λ (n : ℕ). span f 0 n) e ∙ parts ∙ omega (arith, before, behind, span_first f place rest, one)

-- a user node, and a junction
module _ (ring : Ring) (n : nodes_in ring ≤ 64) (j : junctions_in ring ≤ 144) (place : ℕ) where
  node_once : place < nodes_in ring → times place (route_at false ring 0 0) ≡ 1
  unfolding into_number out_number
  node_once h =
      weight_times place (route_at false ring 0 0) ∙ route_weight (only place) (λ other. 0) outs false ring 0 0 (omega (arith, j))
      ∙ omega (
        arith,
        span_one (only place) place (nodes_in ring) h (only_same place) (λ k d. only_other place k (λ (e : place ≡ k). d (sym e))),
        span_none (λ other. only place (into_number other)) 0 (junctions_in ring)
            (λ k l. only_other place (64 + (0 + k)) (λ (e : place ≡ 64 + (0 + k)). omega arith)),
        span_none (λ other. 0) 0 (junctions_in ring) (λ k l. refl),
      )
    where
      outs : (inner : Bool) (other : ℕ) → other < 144 → only place (out_number inner other) ≡ 0
      outs true other l = only_other place (352 + other) (λ (e : place ≡ 352 + other). omega arith)
      outs false other l = only_other place (208 + other) (λ (e : place ≡ 208 + other). omega arith)

  into_once : place < junctions_in ring → times (into_number place) (route_at false ring 0 0) ≡ 1
  unfolding into_number out_number
  into_once h =
      weight_times (64 + place) (route_at false ring 0 0)
      ∙ route_weight (only (64 + place)) (λ other. 0) outs false ring 0 0 (omega (arith, j))
      ∙ omega (
        arith,
        span_none (only (64 + place)) 0 (nodes_in ring) (λ k l. only_other (64 + place) (0 + k) (λ (e : 64 + place ≡ 0 + k). omega arith)),
        span_one (λ other. only (64 + place) (into_number other)) place (junctions_in ring) h (only_same (64 + place))
            (λ k d. only_other (64 + place) (64 + k) (λ (e : 64 + place ≡ 64 + k). d (omega arith))),
        span_none (λ other. 0) 0 (junctions_in ring) (λ k l. refl),
      )
    where
      outs : (inner : Bool) (other : ℕ) → other < 144 → only (64 + place) (out_number inner other) ≡ 0
      outs true other l = only_other (64 + place) (352 + other) (λ (e : 64 + place ≡ 352 + other). omega arith)
      outs false other l = only_other (64 + place) (208 + other) (λ (e : 64 + place ≡ 208 + other). omega arith)

  -- out of it by either way
  either : ℕ → ℕ
  either number = only (208 + place) number + only (352 + place) number

  either_weight : (l : List ℕ) → weight either l ≡ times (208 + place) l + times (352 + place) l
  unfolding times either
  either_weight [] = refl
  either_weight (first ∷ rest) = omega (arith, either_weight rest)

  out_once : place < junctions_in ring
      → times (out_number false place) (route_at false ring 0 0) + times (out_number true place) (route_at false ring 0 0) ≡ 1
  unfolding into_number out_number either
  out_once h =
      sym (either_weight (route_at false ring 0 0)) ∙ route_weight either (only place) outs false ring 0 0 (omega (arith, j))
      ∙ omega (
        arith,
        span_none either 0 (nodes_in ring)
            (λ k l. omega (arith, only_other (208 + place) (0 + k) (λ (e : 208 + place ≡ 0 + k). omega arith), only_other (352 + place) (0 + k) (λ (e : 352 + place ≡ 0 + k). omega arith))),
        span_none (λ other. either (into_number other)) 0 (junctions_in ring)
            (λ k l. omega (arith, only_other (208 + place) (64 + (0 + k)) (λ (e : 208 + place ≡ 64 + (0 + k)). omega arith), only_other (352 + place) (64 + (0 + k)) (λ (e : 352 + place ≡ 64 + (0 + k)). omega arith))),
        span_one (only place) place (junctions_in ring) h (only_same place) (λ k d. only_other place k (λ (e : place ≡ k). d (sym e))),
      )
    where
      behind : (more other : ℕ) → only (more + place) (more + other) ≡ only place other
      behind more other =
          by_value (λ b. only (more + place) (more + other) ≡ cond b 1 0) (eqb place other)
          (λ e. let s = eqb-true place other e in simp (eq-eqb (more + place) (more + other) (omega (arith, s))))
          (λ e. only_other (more + place) (more + other) (λ (s : more + place ≡ more + other). eqb-false place other e (omega (arith, s))))

      outs : (inner : Bool) (other : ℕ) → other < 144 → either (out_number inner other) ≡ only place other
      outs true other l =
          omega (arith, behind 352 other, only_other (208 + place) (352 + other) (λ (e : 208 + place ≡ 352 + other). omega arith))
      outs false other l =
          omega (arith, behind 208 other, only_other (352 + place) (208 + other) (λ (e : 352 + place ≡ 208 + other). omega arith))

pub each_once : EachOnce
each_once ring n j = (λ place h. node_once ring n j place h, λ place h. (into_once ring n j place h, out_once ring n j place h))

-- and there is nothing else in it
pub one_a_node : OneANodeTwoAJunction
one_a_node = legs
