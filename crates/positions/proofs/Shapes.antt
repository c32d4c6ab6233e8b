-- Bytes end exactly (3) where they are the bytes of so many positions, lists within lists, and only there.
use Prim.Native.Nat.{ℕ, zero, suc, ◌+◌}
use mathlib.Core.Path.{◌≡◌, refl, sym, ap, ap₂, subst, ◌∙◌}
use mathlib.Core.Bool.{Bool, true, false, true≢false}
use mathlib.Core.List.{List, [], ◌∷◌, ◌++◌, append_assoc}
use native.Mathlib.Nat.{zero-add}
use native.Mathlib.Omega.{arith}
use lib.Dec.{eqb}
use borrow.Author.Tests.{ne_eqb, eqb-true, eqb-false}
use Rattle.positions.specs.Shape.{ends_at}
use Rattle.positions.specs.Shaped.{Shaped, no_position, one_byte, a_list}

-- the bytes of so many positions, with more to come behind them
pub shaped_ends : {count : ℕ} {bytes : List ℕ} (coming : ℕ) (more : List ℕ) → Shaped count bytes
    → ends_at false (count + coming) (bytes ++ more) ≡ ends_at false coming more
unfolding ends_at
shaped_ends coming more no_position = ap (λ n. ends_at false n more) (zero-add coming)
shaped_ends coming more (one_byte {byte = byte} {count = count} {bytes = bytes} other shaped) =
    let one : suc count + coming ≡ suc (count + coming) = omega arith in
    ap (λ n. ends_at false n (byte ∷ (bytes ++ more))) one
    ∙ ap (λ b. ends_at b (count + coming) (bytes ++ more)) (ne_eqb byte 5 other)
    ∙ shaped_ends coming more shaped
shaped_ends coming more (a_list {many = many} {count = count} {list = list} {bytes = bytes} within shaped) =
    let one : suc count + coming ≡ suc (count + coming) = omega arith in
    let turned : count + coming + many ≡ many + (count + coming) = omega arith in
    ap (λ n. ends_at false n (5 ∷ (many ∷ ((list ++ bytes) ++ more)))) one
    ∙ ap₂ (λ n l. ends_at false n l) turned (append_assoc list bytes more)
    ∙ shaped_ends (count + coming) (bytes ++ more) within
    ∙ shaped_ends coming more shaped

-- the bytes of a sum of positions are those of the first and those of the others
record Parts (first second : ℕ) (bytes : List ℕ) : Type 0 where
  list : List ℕ
  rest : List ℕ
  same : bytes ≡ list ++ rest
  front : Shaped first list
  back : Shaped second rest

parts : (first second total : ℕ) → total ≡ first + second → {bytes : List ℕ} → Shaped total bytes → Parts first second bytes
parts zero second total sum {bytes} shaped =
    record { list = []; rest = bytes; same = refl; front = no_position; back = subst (λ n. Shaped n bytes) (sum ∙ zero-add second) shaped }
parts (suc first) second total sum no_position = absurd (omega (arith, sum))
parts (suc first) second total sum (one_byte {byte = byte} {count = count} other shaped) =
    let found = parts first second count (omega (arith, sum)) shaped in
    record {
      list = byte ∷ found.list;
      rest = found.rest;
      same = ap (λ (l : List ℕ). byte ∷ l) found.same;
      front = one_byte other found.front;
      back = found.back;
    }
parts (suc first) second total sum (a_list {many = many} {count = count} {list = list} within shaped) =
    let found = parts first second count (omega (arith, sum)) shaped in
    record {
      list = 5 ∷ (many ∷ (list ++ found.list));
      rest = found.rest;
      same = ap (λ (l : List ℕ). 5 ∷ (many ∷ l)) (ap (λ (l : List ℕ). list ++ l) found.same ∙ sym (append_assoc list found.list found.rest));
      front = a_list within found.front;
      back = found.back;
    }

-- bytes that end exactly, and those of which a count is still to come
record Counted (coming : ℕ) (bytes : List ℕ) : Type 0 where
  many : ℕ
  rest : List ℕ
  same : bytes ≡ many ∷ rest
  shaped : Shaped (coming + many) rest

abbrev Ended : Bool → ℕ → List ℕ → Type 0
Ended false coming bytes = Shaped coming bytes
Ended true coming bytes = Counted coming bytes

byte_shaped : (coming byte : ℕ) (bytes : List ℕ) (opening : Bool) → eqb byte 5 ≡ opening → Ended opening coming bytes → Shaped (suc coming) (byte ∷ bytes)
byte_shaped coming byte bytes false e shaped = one_byte (eqb-false byte 5 e) shaped
byte_shaped coming byte bytes true e counted =
    let sum : coming + counted.many ≡ counted.many + coming = omega arith in
    let found = parts counted.many coming (coming + counted.many) sum counted.shaped in
    let all : 5 ∷ (counted.many ∷ (found.list ++ found.rest)) ≡ byte ∷ bytes =
    ap (λ (l : List ℕ). 5 ∷ (counted.many ∷ l)) (sym found.same)
    ∙ ap₂ (λ (b : ℕ) (l : List ℕ). b ∷ l) (sym (eqb-true byte 5 e)) (sym counted.same) in
    subst (Shaped (suc coming)) all (a_list found.front found.back)

ended : (opening : Bool) (coming : ℕ) (bytes : List ℕ) → ends_at opening coming bytes ≡ true → Ended opening coming bytes
unfolding ends_at
ended false zero [] e = no_position
ended false (suc coming) [] e = absurd (true≢false (sym e))
ended true coming [] e = absurd (true≢false (sym e))
ended false zero (byte ∷ bytes) e = absurd (true≢false (sym e))
ended false (suc coming) (byte ∷ bytes) e = byte_shaped coming byte bytes (eqb byte 5) refl (ended (eqb byte 5) coming bytes e)
ended true coming (byte ∷ bytes) e = record { many = byte; rest = bytes; same = refl; shaped = ended false (coming + byte) bytes e }

pub ends_shaped : (count : ℕ) (bytes : List ℕ) → ends_at false count bytes ≡ true → Shaped count bytes
ends_shaped count bytes e = ended false count bytes e
