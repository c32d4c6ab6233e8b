-- No line that the night program writes begins with `>`, and each ends with its newline: so it is of the lines of any run.
use Prim.Native.Nat.{ℕ, zero, suc, ◌+◌, ◌/◌, ◌%◌, ◌<◌}
use mathlib.Core.Path.{◌≡◌, refl, ap, ◌∙◌}
use mathlib.Core.Bool.{Bool, true, false}
use mathlib.Core.List.{List, [], ◌∷◌, ◌++◌, append_assoc}
use native.Mathlib.Omega.{arith}
use lib.Dec.{eqb, ltb}
use borrow.Author.Tests.{ne_eqb, ltb-true}
use Rattle.lists.proofs.Tests.{by_test}
use Rattle.lines.specs.Line.{digit, digits, decimal, spaced, line}
use Rattle.wording.specs.Wording.{text, numbers_of}
use Rattle.course.specs.Whole.{Said}
use Rattle.run.specs.Filling.{texts}
use Rattle.morning.specs.Theorems.{has_no_head}

-- ---- bytes inside a line

-- a byte that is no `>` and no newline: behind it a line goes on
byte_inside : (start : Bool) (byte : ℕ) (rest : List ℕ) → (byte ≡ 62 → ⊥) → (byte ≡ 10 → ⊥) → has_no_head start (byte ∷ rest) ≡ has_no_head false rest
unfolding has_no_head
byte_inside true byte rest head newline = rw (ne_eqb byte 62 head, ne_eqb byte 10 newline) refl
byte_inside false byte rest head newline = rw (ne_eqb byte 10 newline) refl

-- a newline
line_ends : (start : Bool) (rest : List ℕ) → has_no_head start (10 ∷ rest) ≡ has_no_head true rest
unfolding has_no_head
line_ends true rest = refl
line_ends false rest = refl

-- ---- numbers

digit_inside : (start : Bool) (d : ℕ) (rest : List ℕ) → d < 10 → has_no_head start (digit d ∷ rest) ≡ has_no_head false rest
unfolding digit
digit_inside start d rest few = byte_inside start (48 + d) rest (λ e. omega (arith, e, few)) (λ e. omega (arith, e, few))

digits_inside : (k n : ℕ) (start : Bool) (rest : List ℕ) → has_no_head start (digits (suc k) n ++ rest) ≡ has_no_head false rest
unfolding digits
digits_inside zero n start rest =
    by_test (λ (ds : List ℕ). has_no_head start (ds ++ rest) ≡ has_no_head false rest) (ltb n 10)
    (λ e. digit_inside start n rest (ltb-true n 10 e))
    (λ e. digit_inside start (n % 10) rest (omega arith))
digits_inside (suc k) n start rest =
    let more = digits_inside k (n / 10) start (digit (n % 10) ∷ rest) in
    by_test (λ (ds : List ℕ). has_no_head start (ds ++ rest) ≡ has_no_head false rest) (ltb n 10)
    (λ e. digit_inside start n rest (ltb-true n 10 e))
    (λ e. ap (has_no_head start) (append_assoc (digits (suc k) (n / 10)) (digit (n % 10) ∷ []) rest) ∙ more
    ∙ digit_inside false (n % 10) rest (omega arith))

decimal_inside : (n : ℕ) (start : Bool) (rest : List ℕ) → has_no_head start (decimal n ++ rest) ≡ has_no_head false rest
unfolding decimal
decimal_inside n start rest = digits_inside 19 n start rest

-- ---- a line

-- its numbers, and its newline
numbers_end : (numbers : List ℕ) (start : Bool) (rest : List ℕ) → has_no_head start (spaced numbers ++ (10 ∷ rest)) ≡ has_no_head true rest
unfolding spaced
numbers_end [] start rest = line_ends start rest
numbers_end (n ∷ numbers) start rest =
    let behind : List ℕ = spaced numbers ++ (10 ∷ rest) in
    byte_inside start 32 ((decimal n ++ spaced numbers) ++ (10 ∷ rest)) (λ e. omega (arith, e)) (λ e. omega (arith, e))
    ∙ ap (has_no_head false) (append_assoc (decimal n) (spaced numbers) (10 ∷ rest))
    ∙ decimal_inside n false behind ∙ numbers_end numbers false rest

-- from its first digit on, whatever its letter is
line_over : (steps letter : ℕ) (numbers rest : List ℕ) → has_no_head true (line steps letter numbers ++ rest) ≡ has_no_head true rest
unfolding line has_no_head
line_over steps letter numbers rest =
    let front : List ℕ = decimal steps ++ (32 ∷ letter ∷ []) in
    ap (has_no_head true)
    (append_assoc (front ++ spaced numbers) (10 ∷ []) rest ∙ append_assoc front (spaced numbers) (10 ∷ rest)
    ∙ append_assoc (decimal steps) (32 ∷ letter ∷ []) (spaced numbers ++ (10 ∷ rest)))
    ∙ decimal_inside steps true (32 ∷ letter ∷ (spaced numbers ++ (10 ∷ rest)))
    ∙ numbers_end numbers (eqb letter 10) rest

-- ---- lines

pub lines_over : (said : List Said) → has_no_head true (texts said) ≡ true
unfolding texts text has_no_head
lines_over [] = refl
lines_over (one ∷ rest) = line_over one.line.steps one.line.letter (numbers_of one.line) (texts rest) ∙ lines_over rest
