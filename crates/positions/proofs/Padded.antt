-- What stands behind the bytes of a plan is not read.
use Prim.Native.Nat.{ℕ, suc, ◌+◌, ◌≤◌, ◌<◌}
use mathlib.Core.Path.{◌≡◌, sym, ap, ◌∙◌}
use mathlib.Core.Bool.{true, false, true≢false}
use mathlib.Core.List.{List, [], ◌∷◌, ◌++◌}
use native.Mathlib.Nat.{zero-add}
use native.Mathlib.Omega.{arith}
use lib.ListN.{length, get_or, drop, length-append, length-drop, get_or-append}
use Rattle.positions.specs.Ring.{Ring}
use Rattle.positions.specs.Shape.{ends_at}
use Rattle.positions.proofs.Ending.{ends_room}
use Rattle.positions.proofs.InRange.{Reads, reads_none, reads_user, reads_users, reads_list}
use Rattle.positions.proofs.Ends.{ends_byte, ends_five, ends_many, zero_other, small_other}

opening_byte : (coming : ℕ) (bytes : List ℕ) → ends_at true coming bytes ≡ true → 0 < length bytes
unfolding ends_at
opening_byte coming [] e = absurd (true≢false (sym e))
opening_byte coming (byte ∷ bytes) e = omega arith

module _ (values more : List ℕ) where
  longer : length values ≤ length (values ++ more)
  longer = let e = length-append values more in omega (arith, e)

  -- a place before the end, and what stands there
  further : {place : ℕ} → place < length values → place < length (values ++ more)
  further there = let e = longer in omega (arith, there, e)

  same_at : (place : ℕ) → place < length values → get_or (values ++ more) place 0 ≡ get_or values place 0
  same_at place there = get_or-append values more 0 place there

  -- what is read in range of the bytes is read of them with more behind
  pub reads_padded : {depth count place behind : ℕ} {ring : Ring} → Reads values depth count place behind ring → Reads (values ++ more) depth count place behind ring
  reads_padded reads_none = reads_none
  reads_padded (reads_user {place = place} there none rest) = reads_user (further there) (same_at place there ∙ none) (reads_padded rest)
  reads_padded (reads_users {place = place} there same some small rest) =
      reads_users (further there) (same_at place there ∙ same) some small (reads_padded rest)
  reads_padded (reads_list {place = place} there five same least most within rest) =
      let here : place < length values = omega (arith, there) in
      reads_list (further there) (same_at place here ∙ five) (same_at (place + 1) there ∙ same) least most (reads_padded within) (reads_padded rest)

  -- and back, where the shape says that the bytes end exactly behind so many positions more
  pub record Body (depth count place behind coming : ℕ) (ring : Ring) : Type 0 where
    pub reads : Reads values depth count place behind ring
    pub ends : ends_at false coming (drop behind values) ≡ true

  -- a position to come has a byte
  has_byte : (place coming : ℕ) → 0 < coming → ends_at false coming (drop place values) ≡ true → place < length values
  has_byte place coming some e =
      let room = ends_room false coming (drop place values) e in
      let left = length-drop place values in omega (arith, room, left, some)

  -- and so has a count to come
  has_count : (place coming : ℕ) → ends_at true coming (drop place values) ≡ true → place < length values
  has_count place coming e =
      let some = opening_byte coming (drop place values) e in
      let left = length-drop place values in omega (arith, some, left)

  pub body_only : {depth count place behind : ℕ} {ring : Ring} (coming : ℕ) → Reads (values ++ more) depth count place behind ring
      → ends_at false (count + coming) (drop place values) ≡ true → Body depth count place behind coming ring
  body_only coming (reads_none {place = place}) e =
      record { reads = reads_none; ends = sym (ap (λ n. ends_at false n (drop place values)) (zero-add coming)) ∙ e }
  body_only coming (reads_user {count = count} {place = place} there none rest) e =
      let here = has_byte place (suc count + coming) (omega arith) e in
      let none_here = sym (same_at place here) ∙ none in
      let body = body_only coming rest (sym (ends_byte values place count coming here (zero_other _ none_here)) ∙ e) in
      record { reads = reads_user here none_here body.reads; ends = body.ends }
  body_only coming (reads_users {count = count} {place = place} {value = value} there same some small rest) e =
      let here = has_byte place (suc count + coming) (omega arith) e in
      let same_here = sym (same_at place here) ∙ same in
      let body = body_only coming rest (sym (ends_byte values place count coming here (small_other _ value same_here small)) ∙ e) in
      record { reads = reads_users here same_here some small body.reads; ends = body.ends }
  body_only coming (reads_list {count = count} {place = place} {many = many} there five same least most within rest) e =
      let here = has_byte place (suc count + coming) (omega arith) e in
      let five-here = sym (same_at place here) ∙ five in
      let opened = sym (ends_five values place count coming here five-here) ∙ e in
      let next = has_count (place + 1) (count + coming) opened in
      let same_next = sym (same_at (place + 1) next) ∙ same in
      let list = body_only (count + coming) within (sym (ends_many values place (count + coming) many next same_next) ∙ opened) in
      let body = body_only coming rest list.ends in
      record { reads = reads_list next five-here same_next least most list.reads body.reads; ends = body.ends }
