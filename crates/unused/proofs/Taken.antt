-- Two lists of bytes that are the same in those that so many positions take: byte by byte, and what is left of it behind positions that are in range.
use Prim.Native.Nat.{ℕ, suc, ◌+◌, ◌<◌}
use mathlib.Core.Path.{◌≡◌, ap, subst}
use mathlib.Core.Bool.{Bool, true, false}
use mathlib.Core.List.{List, ◌∷◌}
use native.Mathlib.Nat.{zero-add}
use native.Mathlib.Numerals.{add-one}
use native.Mathlib.Omega.{arith}
use lib.Dec.{eqb}
use lib.ListN.{length, get_or, take, drop}
use borrow.Author.Tests.{eq-eqb}
use Rattle.positions.specs.Ring.{Ring}
use Rattle.positions.proofs.Ending.{drop-first}
use Rattle.positions.proofs.Ends.{zero_other, small_other}
use Rattle.positions.proofs.InRange.{Reads, reads_none, reads_user, reads_users, reads_list}
use Rattle.unused.specs.Unused.{values_taken}

-- two lists of bytes, the same in those that so many positions take
abbrev Alike : Bool → ℕ → List ℕ → List ℕ → Type 0
Alike opening coming l m = take (values_taken opening coming l) l ≡ take (values_taken opening coming l) m

-- lists with the same first places, at least one: the same first, and the same behind it
first_same : (n x y : ℕ) (l m : List ℕ) → take (n + 1) (x ∷ l) ≡ take (n + 1) (y ∷ m) → (x ≡ y) × (take n l ≡ take n m)
first_same n x y l m e =
    let f : take (suc n) (x ∷ l) ≡ take (suc n) (y ∷ m) = rw add-one at e in
    (ap (λ (k : List ℕ). get_or k 0 0) f, ap (λ (k : List ℕ). drop 1 k) f)

alike_byte : (coming x y : ℕ) (l m : List ℕ) → Alike false (suc coming) (x ∷ l) (y ∷ m) → (x ≡ y) × Alike (eqb x 5) coming l m
unfolding values_taken
alike_byte coming x y l m e = first_same (values_taken (eqb x 5) coming l) x y l m e

alike_count : (coming x y : ℕ) (l m : List ℕ) → Alike true coming (x ∷ l) (y ∷ m) → (x ≡ y) × Alike false (coming + x) l m
unfolding values_taken
alike_count coming x y l m e = first_same (values_taken false (coming + x) l) x y l m e

module _ (a b : List ℕ) (long : length a ≡ length b) where
  -- from a place on
  abbrev pub Same : Bool → ℕ → ℕ → Type 0
  Same opening coming place = Alike opening coming (drop place a) (drop place b)

  -- as of the byte there and those behind it
  opened : (opening : Bool) (coming place : ℕ) → place < length a → Same opening coming place
      → Alike opening coming (get_or a place 0 ∷ drop (place + 1) a) (get_or b place 0 ∷ drop (place + 1) b)
  opened opening coming place there same =
      let there₁ : place < length b = omega (arith, long, there) in
      subst (Alike opening coming (get_or a place 0 ∷ drop (place + 1) a)) (drop-first b place there₁)
      (subst (λ (l : List ℕ). Alike opening coming l (drop place b)) (drop-first a place there) same)

  -- the byte of a position to come
  pub same_byte : (coming place : ℕ) → place < length a → Same false (suc coming) place
      → (get_or a place 0 ≡ get_or b place 0) × Same (eqb (get_or a place 0) 5) coming (place + 1)
  same_byte coming place there same =
      alike_byte coming (get_or a place 0) (get_or b place 0) (drop (place + 1) a) (drop (place + 1) b) (opened false (suc coming) place there same)

  -- a count to come
  pub same_count : (coming place : ℕ) → place < length a → Same true coming place
      → (get_or a place 0 ≡ get_or b place 0) × Same false (coming + get_or a place 0) (place + 1)
  same_count coming place there same =
      alike_count coming (get_or a place 0) (get_or b place 0) (drop (place + 1) a) (drop (place + 1) b) (opened true coming place there same)

  -- one position more, with so many behind it
  pub same_more : (count more place : ℕ) → Same false (suc count + more) place → Same false (suc (count + more)) place
  same_more count more place same = let e : suc count + more ≡ suc (count + more) = omega arith in subst (λ (n : ℕ). Same false n place) e same

  -- behind a position of one byte
  pub behind_byte : (count more place : ℕ) → place < length a → eqb (get_or a place 0) 5 ≡ false → Same false (suc count + more) place
      → Same false (count + more) (place + 1)
  behind_byte count more place there other same =
      subst (λ (opening : Bool). Same opening (count + more) (place + 1)) other (same_byte (count + more) place there (same_more count more place same)).1

  -- behind a byte of 5, and behind the count after it
  behind_five : (count more place : ℕ) → place < length a → get_or a place 0 ≡ 5 → Same false (suc count + more) place → Same true (count + more) (place + 1)
  behind_five count more place there five same =
      subst (λ (opening : Bool). Same opening (count + more) (place + 1)) (eq-eqb _ 5 five)
      (same_byte (count + more) place there (same_more count more place same)).1

  pub behind_count : (count more place many : ℕ) → place + 1 < length a → get_or a place 0 ≡ 5 → get_or a (place + 1) 0 ≡ many → Same false (suc count + more) place
      → Same false (many + (count + more)) (place + 2)
  behind_count count more place many there five same-many same =
      let two : place + 1 + 1 ≡ place + 2 = omega arith in
      let here : place < length a = omega (arith, there) in
      let sum : count + more + get_or a (place + 1) 0 ≡ many + (count + more) = omega (arith, same-many) in
      subst (λ (p : ℕ). Same false (many + (count + more)) p) two
      (subst (λ (n : ℕ). Same false n (place + 1 + 1)) sum
      (same_count (count + more) (place + 1) there (behind_five count more place here five same)).1)

  -- behind positions that are in range
  pub behind_reads : {depth count place behind : ℕ} {ring : Ring} (more : ℕ) → Reads a depth count place behind ring → Same false (count + more) place
      → Same false more behind
  behind_reads more (reads_none {place = place}) same = subst (λ (n : ℕ). Same false n place) (zero-add more) same
  behind_reads more (reads_user {count = count} {place = place} there none rest) same =
      behind_reads more rest (behind_byte count more place there (zero_other (get_or a place 0) none) same)
  behind_reads more (reads_users {count = count} {place = place} {value = value} there equal some small rest) same =
      behind_reads more rest (behind_byte count more place there (small_other (get_or a place 0) value equal small) same)
  behind_reads more (reads_list {count = count} {place = place} {many = many} there five equal least most within rest) same =
      behind_reads more rest (behind_reads (count + more) within (behind_count count more place many there five equal same))
