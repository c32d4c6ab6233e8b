-- No more values are in use than the positions take: where a plan is in range these are the values up to the place behind its last position.
use Prim.Native.Nat.{ℕ, suc, ◌+◌, ◌<◌}
use mathlib.Core.Path.{◌≡◌, refl, ap, ◌∙◌}
use mathlib.Core.Bool.{Bool, true, false}
use mathlib.Core.List.{List, [], ◌∷◌}
use native.Mathlib.Nat.{zero-add, add-zero}
use native.Mathlib.Omega.{arith}
use lib.Dec.{eqb}
use lib.ListN.{length, get_or, drop}
use borrow.Author.Tests.{eq-eqb}
use Rattle.positions.specs.Ring.{Ring}
use Rattle.positions.specs.Reading.{main_ring}
use Rattle.positions.proofs.Ending.{drop-first}
use Rattle.positions.proofs.Ends.{zero_other, small_other}
use Rattle.positions.proofs.InRange.{Reads, reads_none, reads_user, reads_users, reads_list, right_reads}
use Rattle.plan.specs.Plan.{positions_read}
use Rattle.plan.proofs.Laws.{in_range_lem}
use Rattle.unused.specs.Unused.{values_taken}
use Rattle.unused.specs.Theorems.{ValuesInUse}

-- no position takes nothing
none_taken : (bytes : List ℕ) → values_taken false 0 bytes ≡ 0
unfolding values_taken
none_taken [] = refl
none_taken (byte ∷ bytes) = refl

module _ (values : List ℕ) where
  -- what so many positions take from a place on
  abbrev takes : Bool → ℕ → ℕ → ℕ
  takes opening coming place = values_taken opening coming (drop place values)

  -- the byte of a position
  takes_byte : (opening : Bool) (count more place : ℕ) → place < length values → eqb (get_or values place 0) 5 ≡ opening
      → takes false (suc count + more) place ≡ takes opening (count + more) (place + 1) + 1
  unfolding values_taken
  takes_byte opening count more place there e =
      let one : suc count + more ≡ suc (count + more) = omega arith in
      ap (λ (n : ℕ). takes false n place) one
      ∙ ap (values_taken false (suc (count + more))) (drop-first values place there)
      ∙ ap (λ (b : Bool). takes b (count + more) (place + 1) + 1) e

  -- the count behind a byte of 5
  takes_count : (coming place many : ℕ) → place < length values → get_or values place 0 ≡ many
      → takes true coming place ≡ takes false (many + coming) (place + 1) + 1
  unfolding values_taken
  takes_count coming place many there e =
      let turned : coming + get_or values place 0 ≡ many + coming = omega (arith, e) in
      ap (values_taken true coming) (drop-first values place there)
      ∙ ap (λ (n : ℕ). takes false n (place + 1) + 1) turned

  -- positions in range, with so many behind them
  takes_reads : {depth count place behind : ℕ} {ring : Ring} (more : ℕ) → Reads values depth count place behind ring
      → place + takes false (count + more) place ≡ behind + takes false more behind
  takes_reads more (reads_none {place = place}) = ap (λ (n : ℕ). place + takes false n place) (zero-add more)
  takes_reads more (reads_user {count = count} {place = place} there none rest) =
      let here = takes_byte false count more place there (zero_other (get_or values place 0) none) in
      let further = takes_reads more rest in omega (arith, here, further)
  takes_reads more (reads_users {count = count} {place = place} {value = value} there equal some small rest) =
      let here = takes_byte false count more place there (small_other (get_or values place 0) value equal small) in
      let further = takes_reads more rest in omega (arith, here, further)
  takes_reads more (reads_list {count = count} {place = place} {many = many} there five equal least most within rest) =
      let two : place + 1 + 1 ≡ place + 2 = omega arith in
      let here = takes_byte true count more place (omega (arith, there)) (eq-eqb _ 5 five) in
      let next = takes_count (count + more) (place + 1) many there equal in
      let same = ap (takes false (many + (count + more))) two in
      let list = takes_reads (count + more) within in
      let further = takes_reads more rest in omega (arith, here, next, same, list, further)

pub values_in_use : ValuesInUse
unfolding positions_read main_ring
values_in_use plan range =
    let values = plan.values in
    let reads = right_reads values 3 plan.positions 0 (in_range_lem plan range).right in
    let all = takes_reads values 0 reads in
    let none = none_taken (drop (positions_read plan).place values) in
    let same = ap (λ (n : ℕ). values_taken false n values) (add-zero plan.positions) in
    omega (arith, all, none, same)
