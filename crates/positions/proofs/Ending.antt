-- Laws of number 3: what bytes that end exactly have, one byte at a time.
use Prim.Native.Nat.{ℕ, zero, suc, min, ◌+◌, ◌-◌, ◌^◌, ◌≤◌, ◌<◌}
use mathlib.Core.Path.{◌≡◌, refl, sym, ap, ◌∙◌}
use mathlib.Core.Bool.{Bool, true, false, not, ◌&&◌, true≢false}
use mathlib.Core.List.{List, [], ◌∷◌}
use mathlib.Core.Logic.{⊎_elim}
use native.Mathlib.Numerals.{add-one}
use native.Mathlib.Omega.{arith}
use lib.Dec.{eqb, eqb-suc-zero}
use borrow.Author.Tests.{ne_eqb}
use lib.ListN.{length, get_or, drop, length-drop, drop_of_length-le}
use lib.Seq.{drop-cons}
use Rattle.lists.proofs.Tests.{by_value, at_most_or_above}
use Rattle.positions.specs.Shape.{ends_at}

-- the bytes from a place on are the one there and those behind it
pub drop-first : (bytes : List ℕ) (place : ℕ) → place < length bytes → drop place bytes ≡ get_or bytes place 0 ∷ drop (place + 1) bytes
drop-first bytes place there = rw add-one (drop-cons bytes place 0 there)

-- more positions than bytes never end
pub ends_room : (opening : Bool) (coming : ℕ) (bytes : List ℕ) → ends_at opening coming bytes ≡ true → coming ≤ length bytes
unfolding ends_at
ends_room false zero [] e = omega arith
ends_room false (suc coming) [] e = absurd (true≢false (sym e))
ends_room true coming [] e = absurd (true≢false (sym e))
ends_room false zero (byte ∷ bytes) e = omega arith
ends_room false (suc coming) (byte ∷ bytes) e = let f = ends_room (eqb byte 5) coming bytes e in omega (arith, f)
ends_room true coming (byte ∷ bytes) e = let f = ends_room false (coming + byte) bytes e in omega (arith, f)

pub ends_short : (opening : Bool) (coming : ℕ) (bytes : List ℕ) → length bytes < coming → ends_at opening coming bytes ≡ false
ends_short opening coming bytes short =
    by_value (λ b. b ≡ false) (ends_at opening coming bytes) (λ e. let f = ends_room opening coming bytes e in absurd (omega (arith, f, short))) (λ e. refl)

-- one byte of those that are left, with what is to come behind it: a position, where one is to come
pub ending_position : (bytes : List ℕ) (count coming place : ℕ) → place < length bytes → (coming ≡ 0 → ⊥)
    → ends_at false coming (drop place bytes) ≡ ends_at false count bytes
    → ends_at (eqb (get_or bytes place 0) 5) (coming - 1) (drop (place + 1) bytes) ≡ ends_at false count bytes
unfolding ends_at
ending_position bytes count zero place there more so = absurd (more refl)
ending_position bytes count (suc coming) place there more so =
    let less : suc coming - 1 ≡ coming = omega arith in
    ap (λ n. ends_at (eqb (get_or bytes place 0) 5) n (drop (place + 1) bytes)) less
    ∙ sym (ap (ends_at false (suc coming)) (drop-first bytes place there))
    ∙ so

-- where none is to come, the byte is one too many
pub ended_early : (bytes : List ℕ) (count place : ℕ) → place < length bytes → ends_at false 0 (drop place bytes) ≡ ends_at false count bytes
    → false ≡ ends_at false count bytes
unfolding ends_at
ended_early bytes count place there so = sym (ap (ends_at false 0) (drop-first bytes place there)) ∙ so

-- more positions than the largest number never end where so many bytes can be left, and no more does the largest number of them
ends_most : (coming : ℕ) (bytes : List ℕ) → length bytes < 2 ^ 64 - 1 → ends_at false (min coming (2 ^ 64 - 1)) bytes ≡ ends_at false coming bytes
ends_most coming bytes few =
    ⊎_elim
    (λ fits. let same : min coming (2 ^ 64 - 1) ≡ coming = omega (arith, fits) in ap (λ n. ends_at false n bytes) same)
    (λ over. ends_short false (min coming (2 ^ 64 - 1)) bytes (omega (arith, over, few)) ∙ sym (ends_short false coming bytes (omega (arith, over, few))))
    (at_most_or_above coming (2 ^ 64 - 1))

-- a count, and the positions that it brings
pub ending_count : (bytes : List ℕ) (count coming place : ℕ) → place < length bytes → length bytes < 2 ^ 64
    → ends_at true coming (drop place bytes) ≡ ends_at false count bytes
    → ends_at false (min (coming + get_or bytes place 0) (2 ^ 64 - 1)) (drop (place + 1) bytes) ≡ ends_at false count bytes
unfolding ends_at
ending_count bytes count coming place there small so =
    let left = length-drop (place + 1) bytes in
    ends_most (coming + get_or bytes place 0) (drop (place + 1) bytes) (omega (arith, left, there, small))
    ∙ sym (ap (ends_at true coming) (drop-first bytes place there))
    ∙ so

-- where a count brings more positions than there are bytes, they never end
pub ended_over : (bytes : List ℕ) (count coming place : ℕ) → place < length bytes → length bytes < 2 ^ 64
    → ends_at true coming (drop place bytes) ≡ ends_at false count bytes
    → length bytes < min (coming + get_or bytes place 0) (2 ^ 64 - 1) → false ≡ ends_at false count bytes
ended_over bytes count coming place there small so over =
    let left = length-drop (place + 1) bytes in
    sym (ends_short false (min (coming + get_or bytes place 0) (2 ^ 64 - 1)) (drop (place + 1) bytes) (omega (arith, left, over)))
    ∙ ending_count bytes count coming place there small so

-- and the end of the bytes
at_end_lem : (opening : Bool) (coming : ℕ) → (eqb coming 0 && not opening) ≡ ends_at opening coming []
unfolding ends_at
at_end_lem false zero = refl
at_end_lem false (suc coming) = rw (eqb-suc-zero coming) refl
at_end_lem true zero = refl
at_end_lem true (suc coming) = rw (eqb-suc-zero coming) refl

ended_all : (bytes : List ℕ) (count coming place : ℕ) (opening : Bool) → length bytes ≤ place
    → ends_at opening coming (drop place bytes) ≡ ends_at false count bytes → (eqb coming 0 && not opening) ≡ ends_at false count bytes
ended_all bytes count coming place opening none so = at_end_lem opening coming ∙ sym (ap (ends_at opening coming) (drop_of_length-le bytes none)) ∙ so

-- where no position is to come, by whether a count is; and where one is
pub ended_none : (bytes : List ℕ) (count coming place : ℕ) (opening : Bool) → length bytes ≤ place
    → ends_at opening coming (drop place bytes) ≡ ends_at false count bytes → coming ≡ 0 → not opening ≡ ends_at false count bytes
ended_none bytes count coming place opening none so e = rw e at (ended_all bytes count coming place opening none so)

pub ended_more : (bytes : List ℕ) (count coming place : ℕ) (opening : Bool) → length bytes ≤ place
    → ends_at opening coming (drop place bytes) ≡ ends_at false count bytes → (coming ≡ 0 → ⊥) → eqb coming 0 ≡ ends_at false count bytes
ended_more bytes count coming place opening none so some =
    let more = ne_eqb coming 0 some in more ∙ (rw more at (ended_all bytes count coming place opening none so))
