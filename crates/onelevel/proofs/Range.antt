-- A plan without a byte of 5 is in range where it was, and has the ring, the user nodes and the junctions that it had.
use Prim.Native.Nat.{ℕ, ◌≤◌, ◌<◌}
use mathlib.Core.Path.{◌≡◌, refl, ap, ◌∙◌}
use mathlib.Core.Bool.{Bool, true, cond, not, ◌&&◌, ◌||◌}
use native.Mathlib.Omega.{arith}
use lib.Dec.{eqb, leb}
use lib.ListN.{length, get_or}
use borrow.Author.Tests.{leb-true, eqb-true, eqb-false, not-true, le-leb, eq-eqb}
use Rattle.lists.specs.Loops.{every, total}
use Rattle.lists.proofs.Laws.{and_left, and_right, every-at, every_each, total_at_most}
use Rattle.lists.proofs.Exchanged.{both_ways}
use Rattle.lists.proofs.Tests.{by_value, by_test, and_both, or_second}
use Rattle.cars.specs.Cars.{multiring}
use Rattle.positions.specs.Ring.{nodes_in, junctions_in}
use Rattle.positions.specs.Reading.{Reading, main_ring}
use Rattle.positions.proofs.OldPlans.{ring_from, old_plan, old_values, flat_values, zeros_flat}
use Rattle.plan.specs.declared.Plan.{Plan}
use Rattle.plan.specs.Plan.{heads_in_range, positions_read, ring_of, junctions_allowed, in_range, node_count, junction_count}
use Rattle.plan.proofs.Laws.{heads-in_range, in_range_lem}
use Rattle.onelevel.specs.Before.{value_at, without_five, value_in_range, place_in_range, in_range_before, size_of, junctions_of, nodes_before, junctions_before}
use Rattle.onelevel.proofs.Sums.{nodes_summed, junctions_summed}

-- a value of at most 4 has at most 4 user nodes
size_most : (value : ℕ) → value ≤ 4 → size_of value ≤ 4
unfolding size_of
size_most value small = by_test (λ n. n ≤ 4) (eqb value 0) (λ e. omega arith) (λ e. small)

module _ (plan : Plan) (room : 16 ≤ length plan.values) where
  -- a place among the plan's positions
  abbrev Of : ℕ → Type 0
  Of place = place < plan.positions

  abbrev value : ℕ → ℕ
  value place = get_or plan.values place 0

  -- values of at most 4 are the positions, one byte each
  small_read : plan.positions ≤ 16 → ((place : ℕ) → Of place → value place ≤ 4)
      → positions_read plan ≡ record { right = true; place = plan.positions; ring = ring_from plan.values 0 plan.positions }
  unfolding positions_read main_ring
  small_read most small = old_plan plan.values 2 plan.positions (omega (arith, most, room)) small

  -- ---- what was in range is in range

  -- what it was to be in range
  record WasInRange : Type 0 where
    heads : heads_in_range plan ≡ true
    most : plan.positions ≤ 16
    small : (place : ℕ) → Of place → value place ≤ 4
    flat : (place : ℕ) → Of place → (multiring plan.rules || eqb (value place) 0) ≡ true

  was_in_range : in_range_before plan ≡ true → WasInRange
  unfolding in_range_before place_in_range value_in_range value_at
  was_in_range e =
      let heads = and_left (heads_in_range plan) (every (place_in_range plan) plan.positions) e in
      let each = and_right (heads_in_range plan) (every (place_in_range plan) plan.positions) e in
      let at : (place : ℕ) → Of place → place_in_range plan place ≡ true = λ place l. every-at (place_in_range plan) plan.positions place each l in
      record {
        heads = heads;
        most = (heads-in_range plan heads).5;
        small = λ place l. leb-true _ 4 (and_left (leb (value place) 4) (multiring plan.rules || eqb (value place) 0) (at place l));
        flat = λ place l. and_right (leb (value place) 4) (multiring plan.rules || eqb (value place) 0) (at place l);
      }

  was_read : in_range_before plan ≡ true
      → positions_read plan ≡ record { right = true; place = plan.positions; ring = ring_from plan.values 0 plan.positions }
  was_read e = let was = was_in_range e in small_read was.most was.small

  pub was_ring : in_range_before plan ≡ true → ring_of plan ≡ ring_from plan.values 0 plan.positions
  unfolding ring_of
  was_ring e = ap (λ (read : Reading). read.ring) (was_read e)

  was_nodes : in_range_before plan ≡ true → nodes_in (ring_of plan) ≡ total (λ place. size_of (value place)) plan.positions
  was_nodes e = ap nodes_in (was_ring e) ∙ nodes_summed plan.values plan.positions

  was_junctions : in_range_before plan ≡ true → junctions_in (ring_of plan) ≡ total (λ place. junctions_of (value place)) plan.positions
  was_junctions e = ap junctions_in (was_ring e) ∙ junctions_summed plan.values plan.positions

  was_nodes_most : in_range_before plan ≡ true → nodes_in (ring_of plan) ≤ 64
  was_nodes_most e =
      let was = was_in_range e in
      let most = was.most in
      let same = was_nodes e in
      let sum = total_at_most (λ place. size_of (value place)) 4 plan.positions (λ place l. size_most (value place) (was.small place l)) in
      omega (arith, most, same, sum)

  was_allowed : in_range_before plan ≡ true → junctions_allowed plan ≡ true
  unfolding junctions_allowed ring_of positions_read main_ring
  was_allowed e =
      let was = was_in_range e in
      let most = was.most in
      by_value (λ m. (m || eqb (junctions_in (ring_of plan)) 0) ≡ true) (multiring plan.rules) (λ yes. refl)
      (λ no. eq-eqb _ 0 (zeros_flat plan.values 3 plan.positions (omega (arith, most, room))
      (λ place l. eqb-true _ 0 (or_second (multiring plan.rules) (eqb (value place) 0) (was.flat place l) no))))

  still_in_range : in_range_before plan ≡ true → in_range plan ≡ true
  unfolding in_range
  still_in_range e =
      and_both (and_both (and_both (was_in_range e).heads (ap (λ (read : Reading). read.right) (was_read e))) (le-leb _ 64 (was_nodes_most e))) (was_allowed e)

  -- ---- and nothing else is

  module _ (other : without_five plan ≡ true) where
    no_five_lem : (place : ℕ) → Of place → value place ≡ 5 → ⊥
    unfolding without_five value_at
    no_five_lem place l = eqb-false _ 5 (not-true _ (every-at (λ k. not (eqb (value k) 5)) plan.positions place other l))

    small_now : in_range plan ≡ true → (place : ℕ) → Of place → value place ≤ 4
    unfolding positions_read main_ring
    small_now e = old_values plan.values 3 plan.positions (in_range_lem plan e).right no_five_lem

    flat_now : in_range plan ≡ true → (place : ℕ) → Of place → (multiring plan.rules || eqb (value place) 0) ≡ true
    unfolding junctions_allowed ring_of positions_read main_ring
    flat_now e place l =
        let range = in_range_lem plan e in
        by_value (λ m. (m || eqb (value place) 0) ≡ true) (multiring plan.rules) (λ yes. refl)
        (λ no. eq-eqb _ 0 (flat_values plan.values 3 plan.positions range.right
        (eqb-true _ 0 (or_second (multiring plan.rules) (eqb (junctions_in (ring_of plan)) 0) range.allowed no)) place l))

    was_before : in_range plan ≡ true → in_range_before plan ≡ true
    unfolding in_range_before in_range place_in_range value_in_range value_at
    was_before e =
        let three = and_left (heads_in_range plan && (positions_read plan).right && leb (nodes_in (ring_of plan)) 64) (junctions_allowed plan) e in
        let two = and_left (heads_in_range plan && (positions_read plan).right) (leb (nodes_in (ring_of plan)) 64) three in
        and_both (and_left (heads_in_range plan) (positions_read plan).right two)
        (every_each (place_in_range plan) plan.positions (λ place l. and_both (le-leb _ 4 (small_now e place l)) (flat_now e place l)))

    pub range_as_before : in_range plan ≡ in_range_before plan
    range_as_before = both_ways (in_range plan) (in_range_before plan) was_before still_in_range

    -- what is counted where a plan is in range
    counts_same : (now before : ℕ) → (in_range_before plan ≡ true → now ≡ before) → cond (in_range plan) now 0 ≡ cond (in_range_before plan) before 0
    counts_same now before same =
        ap (λ (t : Bool). cond t now 0) range_as_before ∙ by_value (λ t. cond t now 0 ≡ cond t before 0) (in_range_before plan) same (λ e. refl)

    pub nodes_as_before : node_count plan ≡ nodes_before plan
    unfolding node_count nodes_before value_at
    nodes_as_before = counts_same (nodes_in (ring_of plan)) (total (λ place. size_of (value place)) plan.positions) was_nodes

    pub junctions_as_before : junction_count plan ≡ junctions_before plan
    unfolding junction_count junctions_before value_at
    junctions_as_before = counts_same (junctions_in (ring_of plan)) (total (λ place. junctions_of (value place)) plan.positions) was_junctions
