-- What is written is read: from the start of a line, over its steps, its letter and its numbers to its newline.
use Prim.Native.Nat.{ℕ, suc, ◌+◌, ◌-◌, ◌*◌, ◌/◌, ◌%◌, ◌^◌, ◌≤◌, ◌<◌}
use mathlib.Core.Path.{◌≡◌, refl, sym, ap, ap₂, subst, ◌∙◌}
use mathlib.Core.Bool.{Bool, true, false, ◌&&◌, true≢false}
use mathlib.Core.List.{List, [], ◌∷◌, ◌++◌, append_assoc}
use native.Mathlib.Omega.{arith}
use lib.Dec.{eqb}
use lib.ListN.{length, get_or, set, take, drop, replicate}
use lib.Seq.{sets}
use borrow.Author.Tests.{lt-ltb, le-leb, eq-eqb, ne_eqb}
use Rattle.lists.proofs.Tests.{by_test}
use Rattle.lines.specs.Line.{digit, decimal, spaced, line}
use Rattle.lines.proofs.Laws.{decimal-every, sets_front}
use Rattle.linereader.specs.declared.Part.TheVariants.{Steps, Letter, Numbers, Whole}
use Rattle.linereader.specs.declared.Scan.{Scan}
use Rattle.linereader.specs.Reading.{is_kind, kind_of, numbers_behind, is_digit, with_digit, is_next_digit, start_scan, digit_read, steps_read, letter_read, space_read, is_last_number, number_read, ends_number, on_steps, on_letter, on_space, on_numbers, on_byte_in, scan_byte, scan_all}
use Rattle.linereader.specs.Theorems.{IsLine, IsRead, WrittenIsRead}
use Rattle.linereader.proofs.Read.{at_most_four}

pub scan_append : (s : Scan) (text rest : List ℕ) → scan_all s (text ++ rest) ≡ scan_all (scan_all s text) rest
unfolding scan_all
scan_append s [] rest = refl
scan_append s (byte ∷ text) rest = scan_append (scan_byte s byte) text rest

-- ---- the digits of a number

is_next : (begun : Bool) (number byte : ℕ) → 48 ≤ byte → byte ≤ 57 → (begun && eqb number 0) ≡ false → number * 10 + (byte - 48) < 2 ^ 64
    → is_next_digit begun number byte ≡ true
unfolding is_next_digit is_digit with_digit
is_next begun number byte low high first small =
    rw (le-leb 48 byte low, le-leb byte 57 high, first, lt-ltb (number * 10 + (byte - 48)) (2 ^ 64) small) refl

-- scans by whether the number at hand has a digit, and by that number, where each next digit is put behind it; a number without a digit yet is 0
module _ (F : Bool → ℕ → Scan)
    (takes : (begun : Bool) (number byte : ℕ) → (begun ≡ false → number ≡ 0) → is_next_digit begun number byte ≡ true
    → scan_byte (F begun number) byte ≡ F true (with_digit number byte)) where
  one_digit : (begun : Bool) (number byte n : ℕ) → (begun ≡ false → number ≡ 0) → is_next_digit begun number byte ≡ true → with_digit number byte ≡ n
      → scan_byte (F begun number) byte ≡ F true n
  one_digit begun number byte n fresh next e = takes begun number byte fresh next ∙ ap (F true) e

  pub number_scanned : (n : ℕ) → n < 2 ^ 64 → scan_all (F false 0) (decimal n) ≡ F true n
  unfolding scan_all digit with_digit
  number_scanned n small =
      decimal-every (λ m ds. m < 2 ^ 64 → scan_all (F false 0) ds ≡ F true m)
      (λ (m : ℕ) (h : m < 10) (s : m < 2 ^ 64). one_digit false 0 (48 + m) m (λ f. refl) (is_next false 0 (48 + m) (omega arith) (omega arith) refl (omega arith)) (omega arith))
      (λ (m : ℕ) (ds : List ℕ) (h : 10 ≤ m) (before : m / 10 < 2 ^ 64 → scan_all (F false 0) ds ≡ F true (m / 10)) (s : m < 2 ^ 64).
      scan_append (F false 0) ds ((48 + m % 10) ∷ [])
      ∙ ap (λ (t : Scan). scan_byte t (48 + m % 10)) (before (omega arith))
      ∙ one_digit true (m / 10) (48 + m % 10) m (λ f. absurd (true≢false f))
      (is_next true (m / 10) (48 + m % 10) (omega arith) (omega arith) (ne_eqb (m / 10) 0 (λ (z : m / 10 ≡ 0). omega arith)) (omega arith))
      (omega arith))
      n small small

-- ---- the parts of a line

-- while the steps are read
abbrev stepping : Bool → ℕ → Scan
stepping begun number = record { part = Steps; begun = begun; number = number; steps = 0; letter = 0; count = 0; numbers = replicate 4 0 }

-- while the numbers are read, so many of them done
abbrev numbering : ℕ → ℕ → ℕ → List ℕ → Bool → ℕ → Scan
numbering steps letter count numbers begun number =
    record { part = Numbers; begun = begun; number = number; steps = steps; letter = letter; count = count; numbers = numbers }

-- the line is whole
abbrev whole_scan : ℕ → ℕ → ℕ → List ℕ → Scan
whole_scan steps letter count numbers =
    record { part = Whole; begun = false; number = 0; steps = steps; letter = letter; count = count; numbers = numbers }

steps_take : (begun : Bool) (number byte : ℕ) → is_next_digit begun number byte ≡ true → scan_byte (stepping begun number) byte ≡ stepping true (with_digit number byte)
unfolding scan_byte on_byte_in on_steps digit_read
steps_take begun number byte e = rw e refl

numbers_take : (steps letter count : ℕ) (numbers : List ℕ) (begun : Bool) (number byte : ℕ) → is_next_digit begun number byte ≡ true
    → scan_byte (numbering steps letter count numbers begun number) byte ≡ numbering steps letter count numbers true (with_digit number byte)
unfolding scan_byte on_byte_in on_numbers digit_read
numbers_take steps letter count numbers begun number byte e = rw e refl

-- a space ends the steps, and any number but the last
steps_end : (steps : ℕ) → scan_byte (stepping true steps) 32 ≡ record { part = Letter; begun = false; number = 0; steps = steps; letter = 0; count = 0; numbers = replicate 4 0 }
unfolding scan_byte on_byte_in on_steps steps_read is_next_digit is_digit
steps_end steps = refl

number_ends : (steps letter count : ℕ) (numbers : List ℕ) (number : ℕ) → count < 4 → eqb (count + 1) (numbers_behind letter) ≡ false
    → scan_byte (numbering steps letter count numbers true number) 32 ≡ numbering steps letter (count + 1) (set numbers count number) false 0
unfolding scan_byte on_byte_in on_numbers is_next_digit is_digit ends_number is_last_number number_read
number_ends steps letter count numbers number below e = rw (lt-ltb count 4 below, e) refl

last_ends : (steps letter count : ℕ) (numbers : List ℕ) (number : ℕ) → count < 4 → eqb (count + 1) (numbers_behind letter) ≡ true
    → scan_byte (numbering steps letter count numbers true number) 10 ≡ whole_scan steps letter (count + 1) (set numbers count number)
unfolding scan_byte on_byte_in on_numbers is_next_digit is_digit ends_number is_last_number number_read
last_ends steps letter count numbers number below e = rw (lt-ltb count 4 below, e) refl

-- the numbers up to the newline
numbers_scanned : (rest : List ℕ) (n steps letter count : ℕ) (numbers : List ℕ) → count + (1 + length rest) ≡ numbers_behind letter → n < 2 ^ 64
    → ((place : ℕ) → get_or rest place 0 < 2 ^ 64)
    → scan_all (numbering steps letter count numbers false 0) (decimal n ++ (spaced rest ++ (10 ∷ [])))
    ≡ whole_scan steps letter (numbers_behind letter) (sets numbers count (n ∷ rest))
unfolding scan_all spaced
numbers_scanned [] n steps letter count numbers many small others =
    scan_append (numbering steps letter count numbers false 0) (decimal n) (10 ∷ [])
    ∙ ap (λ (s : Scan). scan_byte s 10) (number_scanned (numbering steps letter count numbers) (λ begun number byte fresh. numbers_take steps letter count numbers begun number byte) n small)
    ∙ last_ends steps letter count numbers n (omega (arith, at_most_four letter, many)) (eq-eqb (count + 1) (numbers_behind letter) (omega (arith, many)))
    ∙ ap (λ (k : ℕ). whole_scan steps letter k (set numbers count n)) (omega (arith, many))
numbers_scanned (m ∷ rest) n steps letter count numbers many small others =
    scan_append (numbering steps letter count numbers false 0) (decimal n) (spaced (m ∷ rest) ++ (10 ∷ []))
    ∙ ap (λ (s : Scan). scan_all s (spaced (m ∷ rest) ++ (10 ∷ []))) (number_scanned (numbering steps letter count numbers) (λ begun number byte fresh. numbers_take steps letter count numbers begun number byte) n small)
    ∙ ap (λ (s : Scan). scan_all s (decimal m ++ spaced rest ++ (10 ∷ [])))
    (number_ends steps letter count numbers n (omega (arith, at_most_four letter, many))
    (ne_eqb (count + 1) (numbers_behind letter) (λ (z : count + 1 ≡ numbers_behind letter). omega (arith, many))))
    ∙ ap (scan_all (numbering steps letter (count + 1) (set numbers count n) false 0)) (append_assoc (decimal m) (spaced rest) (10 ∷ []))
    ∙ numbers_scanned rest m steps letter (count + 1) (set numbers count n) (omega (arith, many)) (others 0) (λ place. others (suc place))
    ∙ ap (λ (k : ℕ). whole_scan steps letter (numbers_behind letter) (sets (set numbers count n) k (m ∷ rest))) (omega arith)

-- the letter, and the space behind it
letter_scanned : (steps letter : ℕ) → is_kind (kind_of letter) ≡ true
    → scan_byte (scan_byte (record { part = Letter; begun = false; number = 0; steps = steps; letter = 0; count = 0; numbers = replicate 4 0 }) letter) 32
    ≡ numbering steps letter 0 (replicate 4 0) false 0
unfolding scan_byte on_byte_in on_letter letter_read on_space space_read
letter_scanned steps letter known = rw known refl

-- a line's text, its first number apart
line_apart : (steps letter n : ℕ) (rest : List ℕ)
    → line steps letter (n ∷ rest) ≡ decimal steps ++ (32 ∷ letter ∷ 32 ∷ (decimal n ++ (spaced rest ++ (10 ∷ []))))
unfolding line spaced
line_apart steps letter n rest =
    ap (λ (l : List ℕ). l ++ (10 ∷ [])) (append_assoc (decimal steps) (32 ∷ letter ∷ []) (32 ∷ (decimal n ++ spaced rest)))
    ∙ append_assoc (decimal steps) (32 ∷ letter ∷ 32 ∷ (decimal n ++ spaced rest)) (10 ∷ [])
    ∙ ap (λ (l : List ℕ). decimal steps ++ (32 ∷ letter ∷ 32 ∷ l)) (append_assoc (decimal n) (spaced rest) (10 ∷ []))

pub line_scanned : (steps letter n : ℕ) (rest : List ℕ) → IsLine steps letter (n ∷ rest)
    → scan_all start_scan (line steps letter (n ∷ rest)) ≡ whole_scan steps letter (numbers_behind letter) (sets (replicate 4 0) 0 (n ∷ rest))
unfolding scan_all start_scan
line_scanned steps letter n rest h =
    let behind : List ℕ = decimal n ++ (spaced rest ++ (10 ∷ [])) in
    ap (scan_all (stepping false 0)) (line_apart steps letter n rest)
    ∙ scan_append (stepping false 0) (decimal steps) (32 ∷ letter ∷ 32 ∷ behind)
    ∙ ap (λ (s : Scan). scan_all s (32 ∷ letter ∷ 32 ∷ behind)) (number_scanned stepping (λ begun number byte fresh. steps_take begun number byte) steps h.steps_small)
    ∙ ap (λ (s : Scan). scan_all s (letter ∷ 32 ∷ behind)) (steps_end steps)
    ∙ ap (λ (s : Scan). scan_all s behind) (letter_scanned steps letter h.known)
    ∙ numbers_scanned rest n steps letter 0 (replicate 4 0) (omega (arith, h.many)) (h.small 0) (λ place. h.small (suc place))

no_numbers : (letter : ℕ) → 0 ≡ numbers_behind letter → ⊥
unfolding numbers_behind
no_numbers letter = by_test (λ n. 0 ≡ n → ⊥) (eqb letter 72) (λ e z. absurd (omega (arith, z))) (λ e z. absurd (omega (arith, z)))

pub written_is_read : WrittenIsRead
written_is_read steps letter [] h = absurd (no_numbers letter h.many)
written_is_read steps letter (n ∷ rest) h =
    let e = line_scanned steps letter n rest h in
    let four : length (n ∷ rest) ≤ 4 = omega (arith, h.many, at_most_four letter) in
    subst (λ (s : Scan). IsRead s steps letter (n ∷ rest)) (sym e)
    (record {
      whole = refl;
      steps_read = refl;
      letter_read = refl;
      count_read = sym h.many;
      numbers_read = ap₂ take (sym h.many) (sets_front (n ∷ rest) (replicate 4 0) four) ∙ take_front (n ∷ rest) (drop (length (n ∷ rest)) (replicate 4 0));
    })
  where
    take_front : (s t : List ℕ) → take (length s) (s ++ t) ≡ s
    take_front [] t = refl
    take_front (x ∷ s) t = ap (λ (l : List ℕ). x ∷ l) (take_front s t)
