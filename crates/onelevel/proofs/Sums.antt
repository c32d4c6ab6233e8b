-- A ring whose positions are one byte each has as many user nodes, and as many junctions, as its values say, summed position by position.
use Prim.Native.Nat.{ℕ, zero, suc, ◌+◌}
use mathlib.Core.Path.{◌≡◌, refl, ap}
use mathlib.Core.List.{List}
use native.Mathlib.Nat.{zero-add}
use native.Mathlib.Omega.{arith}
use lib.Dec.{eqb-suc-zero}
use lib.ListN.{get_or}
use Rattle.lists.specs.Loops.{total}
use Rattle.lists.proofs.Laws.{total_none, total-more}
use Rattle.positions.specs.Ring.{Ring, no_more, nodes_in, junctions_in}
use Rattle.positions.proofs.Counts.{users_nodes, users_no_junction}
use Rattle.positions.proofs.OldPlans.{ring_one, ring_from}
use Rattle.onelevel.specs.Before.{size_of, junctions_of}

-- one position, and the rest of the ring
one_nodes : (value : ℕ) (rest : Ring) → nodes_in (ring_one value rest) ≡ size_of value + nodes_in rest
unfolding nodes_in ring_one size_of
one_nodes zero rest = omega arith
one_nodes (suc value) rest = let e = users_nodes (suc value) in rw eqb-suc-zero (ap (λ (n : ℕ). n + nodes_in rest) e)

one_junctions : (value : ℕ) (rest : Ring) → junctions_in (ring_one value rest) ≡ junctions_of value + junctions_in rest
unfolding junctions_in ring_one junctions_of
one_junctions zero rest = omega arith
one_junctions (suc value) rest = let e = users_no_junction (suc value) in rw eqb-suc-zero (omega (arith, e))

module _ (values : List ℕ) (of : ℕ → ℕ) (amount : Ring → ℕ) (none : amount no_more ≡ 0)
    (one : (value : ℕ) (rest : Ring) → amount (ring_one value rest) ≡ of value + amount rest) where
  -- the sum over the positions before a place
  abbrev before : ℕ → ℕ
  before place = total (λ k. of (get_or values k 0)) place

  -- with the positions from that place on
  summed_from : (place count : ℕ) → before place + amount (ring_from values place count) ≡ before (place + count)
  unfolding ring_from
  summed_from place zero = let e : place ≡ place + 0 = omega arith in let same = ap before e in omega (arith, none, same)
  summed_from place (suc count) =
      let value = get_or values place 0 in
      let rest = ring_from values (place + 1) count in
      let here = one value rest in
      let next = total-more (λ k. of (get_or values k 0)) place in
      let more = summed_from (place + 1) count in
      let end : place + 1 + count ≡ place + suc count = omega arith in
      let same = ap before end in
      omega (arith, here, next, more, same)

  -- all of them
  summed : (count : ℕ) → amount (ring_from values 0 count) ≡ before count
  summed count =
      let none_before = total_none (λ k. of (get_or values k 0)) in
      let all = summed_from 0 count in
      let same = ap before (zero-add count) in omega (arith, none_before, all, same)

-- user nodes, and junctions
pub nodes_summed : (values : List ℕ) (count : ℕ) → nodes_in (ring_from values 0 count) ≡ total (λ k. size_of (get_or values k 0)) count
unfolding nodes_in
nodes_summed values count = summed values size_of nodes_in refl one_nodes count

pub junctions_summed : (values : List ℕ) (count : ℕ) → junctions_in (ring_from values 0 count) ≡ total (λ k. junctions_of (get_or values k 0)) count
unfolding junctions_in
junctions_summed values count = summed values junctions_of junctions_in refl one_junctions count
