-- What is read is what would be written: what has been read of a line, as a text, is made of what stands in the scan, and each byte more puts
-- itself behind it, or the line is wrong.
use Prim.Native.Nat.{ℕ, zero, suc, ◌+◌, ◌-◌, ◌*◌, ◌/◌, ◌%◌, ◌^◌, ◌≤◌, ◌<◌}
use mathlib.Core.Path.{◌≡◌, refl, sym, ap, subst, ◌∙◌}
use mathlib.Core.Bool.{Bool, true, false, cond, not, ◌&&◌, true≢false}
use mathlib.Core.List.{List, [], ◌∷◌, ◌++◌, append_assoc, append-nil}
use native.Mathlib.Omega.{arith}
use lib.Dec.{eqb, ltb, lit<, lit≤}
use lib.ListN.{length, get_or, set, take, length-set, length-take}
use lib.Seq.{get_or-set_same, take-set-le}
use borrow.Author.Tests.{eqb-true, eqb-false, ltb-true}
use Rattle.lists.proofs.Laws.{and_left, and_right}
use Rattle.lists.proofs.Places.{place_set}
use Rattle.lists.proofs.Tests.{by_test}
use Rattle.lines.specs.Line.{digit, decimal, spaced, line}
use Rattle.lines.proofs.Laws.{decimal_one, decimal-more, spaced-more}
use Rattle.linereader.specs.declared.Part.{Part}
use Rattle.linereader.specs.declared.Part.TheVariants.{Steps, Letter, Space, Numbers, Whole, Wrong}
use Rattle.linereader.specs.declared.Scan.{Scan}
use Rattle.linereader.specs.Reading.{is_kind, kind_of, numbers_behind, is_digit, with_digit, is_next_digit, start_scan, wrong, digit_read, steps_read, letter_read, space_read, is_last_number, number_read, ends_number, on_steps, on_letter, on_space, on_numbers, on_byte_in, scan_byte, scan_all}
use Rattle.linereader.specs.Theorems.{ReadIsWritten}
use Rattle.linereader.proofs.Numbers.{Next, next_digit}

-- ---- the text that has been read

-- the digits of the number at hand
abbrev pub shown : Bool → ℕ → List ℕ
shown true number = decimal number
shown false number = []

abbrev pub read_in : Part → Scan → List ℕ
read_in Steps s = shown s.begun s.number
read_in Letter s = decimal s.steps ++ (32 ∷ [])
read_in Space s = decimal s.steps ++ (32 ∷ s.letter ∷ [])
read_in Numbers s = decimal s.steps ++ (32 ∷ s.letter ∷ []) ++ spaced (take s.count s.numbers) ++ (32 ∷ shown s.begun s.number)
read_in Whole s = line s.steps s.letter (take s.count s.numbers)
read_in Wrong s = []

-- ---- what holds of a scan, by the part that comes next

abbrev pub Placed : Part → Scan → Type 0
Placed Steps s = s.count ≡ 0
Placed Letter s = (s.count ≡ 0) × (s.begun ≡ false)
Placed Space s = (s.count ≡ 0) × (s.begun ≡ false) × (is_kind (kind_of s.letter) ≡ true)
Placed Numbers s = (s.count < numbers_behind s.letter) × (is_kind (kind_of s.letter) ≡ true)
Placed Whole s = (s.count ≡ numbers_behind s.letter) × (is_kind (kind_of s.letter) ≡ true)
Placed Wrong s = Unit {0}

pub record Holds (part : Part) (s : Scan) : Type 0 where
  pub fresh : s.begun ≡ false → s.number ≡ 0
  pub small : s.number < 2 ^ 64
  pub steps_small : s.steps < 2 ^ 64
  pub numbers_small : (place : ℕ) → get_or s.numbers place 0 < 2 ^ 64
  pub long : length s.numbers ≡ 4
  pub placed : Placed part s

-- after more bytes: the text is what has been read, or there is no line
pub data After (read : List ℕ) (s : Scan) : Type 0 where
  no : s.part ≡ Wrong → After read s
  on : (part : Part) → s.part ≡ part → Holds part s → read_in part s ≡ read → After read s

-- at the start nothing has been read
pub at_start_lem : Holds Steps start_scan
unfolding start_scan
at_start_lem =
    record {
      fresh = λ e. refl;
      small = lit< tt;
      steps_small = lit< tt;
      numbers_small = λ place. none place;
      long = refl;
      placed = refl;
    }
  where
    none : (place : ℕ) → get_or (0 ∷ 0 ∷ 0 ∷ 0 ∷ []) place 0 < 2 ^ 64
    none zero = lit< tt
    none (suc zero) = lit< tt
    none (suc (suc zero)) = lit< tt
    none (suc (suc (suc zero))) = lit< tt
    none (suc (suc (suc (suc place)))) = lit< tt

-- ---- one digit more

-- behind a number of at least one digit that is not 0
more-digits : (number byte : ℕ) → Next number byte → (number ≡ 0 → ⊥) → decimal (with_digit number byte) ≡ decimal number ++ (byte ∷ [])
unfolding with_digit digit
more-digits number byte next some =
    let big : 10 ≤ number * 10 + (byte - 48) = omega (arith, some, next.at_least) in
    let tenth : (number * 10 + (byte - 48)) / 10 ≡ number = omega (arith, next.at_least, next.at_most) in
    let last : 48 + (number * 10 + (byte - 48)) % 10 ≡ byte = omega (arith, next.at_least, next.at_most) in
    decimal-more next.small big ∙ ap (λ (n : ℕ). decimal n ++ ((48 + (number * 10 + (byte - 48)) % 10) ∷ [])) tenth
    ∙ ap (λ (n : ℕ). decimal number ++ (n ∷ [])) last

first-digit : (byte : ℕ) → Next 0 byte → decimal (with_digit 0 byte) ≡ byte ∷ []
unfolding with_digit digit
first-digit byte next =
    let one : 0 * 10 + (byte - 48) < 10 = omega (arith, next.at_least, next.at_most) in
    let same : 48 + (0 * 10 + (byte - 48)) ≡ byte = omega (arith, next.at_least, next.at_most) in
    decimal_one one ∙ ap (λ (n : ℕ). n ∷ []) same

not_zero : (number byte : ℕ) → is_next_digit true number byte ≡ true → number ≡ 0 → ⊥
unfolding is_next_digit
not_zero number byte e z =
    let test : not (eqb number 0) ≡ true = and_right (is_digit byte) _ (and_left (is_digit byte && not (eqb number 0)) _ e) in
    true≢false (sym test ∙ ap (λ (n : ℕ). not (eqb n 0)) z)

pub digit-shown : (begun : Bool) (number byte : ℕ) → (begun ≡ false → number ≡ 0) → is_next_digit begun number byte ≡ true
    → decimal (with_digit number byte) ≡ shown begun number ++ (byte ∷ [])
digit-shown true number byte fresh e = more-digits number byte (next_digit true number byte e) (not_zero number byte e)
digit-shown false number byte fresh e =
    let z = fresh refl in
    ap (λ (n : ℕ). decimal (with_digit n byte)) z ∙ first-digit byte (subst (λ (n : ℕ). Next n byte) z (next_digit false number byte e))

-- ---- each part, one byte more

-- a scan with one digit more
digit_holds : (part : Part) (s : Scan) (byte : ℕ) → is_next_digit s.begun s.number byte ≡ true → Holds part s → Placed part (digit_read s byte)
    → Holds part (digit_read s byte)
unfolding digit_read
digit_holds part s byte e h placed =
    record {
      fresh = λ f. absurd (true≢false f);
      small = (next_digit s.begun s.number byte e).small;
      steps_small = h.steps_small;
      numbers_small = h.numbers_small;
      long = h.long;
      placed = placed;
    }

steps_after : (s : Scan) (byte : ℕ) → s.part ≡ Steps → Holds Steps s → After (read_in Steps s ++ (byte ∷ [])) (on_steps s byte)
unfolding on_steps digit_read steps_read wrong
steps_after s byte p h =
    by_test (After (read_in Steps s ++ (byte ∷ []))) (is_next_digit s.begun s.number byte)
    (λ e. on Steps p
    (digit_holds Steps s byte e h h.placed)
    (digit-shown s.begun s.number byte h.fresh e))
    (λ e. by_test (After (read_in Steps s ++ (byte ∷ []))) (s.begun && eqb byte 32)
    (λ f. on Letter refl
    (record {
      fresh = λ g. refl;
      small = lit< tt;
      steps_small = h.small;
      numbers_small = h.numbers_small;
      long = h.long;
      placed = (h.placed, refl);
    })
    (same s.begun (and_left s.begun _ f) (eqb-true byte 32 (and_right s.begun _ f))))
    (λ f. no refl))
  where
    same : (begun : Bool) → begun ≡ true → byte ≡ 32 → decimal s.number ++ (32 ∷ []) ≡ shown begun s.number ++ (byte ∷ [])
    same true b e = ap (λ (n : ℕ). decimal s.number ++ (n ∷ [])) (sym e)
    same false b e = absurd (true≢false (sym b))

letter_after : (s : Scan) (byte : ℕ) → Holds Letter s → After (read_in Letter s ++ (byte ∷ [])) (on_letter s byte)
unfolding on_letter letter_read wrong
letter_after s byte h =
    by_test (After (read_in Letter s ++ (byte ∷ []))) (is_kind (kind_of byte))
    (λ e. on Space refl
    (record {
      fresh = h.fresh;
      small = h.small;
      steps_small = h.steps_small;
      numbers_small = h.numbers_small;
      long = h.long;
      placed = (h.placed.0, h.placed.1, e);
    })
    (sym (append_assoc (decimal s.steps) (32 ∷ []) (byte ∷ []))))
    (λ e. no refl)

space_after : (s : Scan) (byte : ℕ) → Holds Space s → After (read_in Space s ++ (byte ∷ [])) (on_space s byte)
unfolding on_space space_read wrong spaced numbers_behind
space_after s byte h =
    by_test (After (read_in Space s ++ (byte ∷ []))) (eqb byte 32)
    (λ e. on Numbers refl
    (record {
      fresh = h.fresh;
      small = h.small;
      steps_small = h.steps_small;
      numbers_small = h.numbers_small;
      long = h.long;
      placed = (some_numbers s.letter s.count h.placed.0, h.placed.2);
    })
    (same s.begun s.count h.placed.1 h.placed.0 (eqb-true byte 32 e)))
    (λ e. no refl)
  where
    some_numbers : (letter count : ℕ) → count ≡ 0 → count < numbers_behind letter
    some_numbers letter count z = by_test (λ n. count < n) (eqb letter 72) (λ e. omega (arith, z)) (λ e. omega (arith, z))

    same : (begun : Bool) (count : ℕ) → begun ≡ false → count ≡ 0 → byte ≡ 32
        → decimal s.steps ++ (32 ∷ s.letter ∷ []) ++ spaced (take count s.numbers) ++ (32 ∷ shown begun s.number)
        ≡ decimal s.steps ++ (32 ∷ s.letter ∷ []) ++ (byte ∷ [])
    same true count b z e = absurd (true≢false b)
    same false count b z e =
        ap (λ (n : ℕ). decimal s.steps ++ (32 ∷ s.letter ∷ []) ++ spaced (take n s.numbers) ++ (32 ∷ [])) z
        ∙ ap (λ (l : List ℕ). l ++ (32 ∷ [])) (append-nil (decimal s.steps ++ (32 ∷ s.letter ∷ [])))
        ∙ ap (λ (n : ℕ). decimal s.steps ++ (32 ∷ s.letter ∷ []) ++ (n ∷ [])) (sym e)

-- the numbers with the one at hand
numbers_with : (numbers : List ℕ) (count number : ℕ) → length numbers ≡ 4 → count < 4
    → spaced (take (count + 1) (set numbers count number)) ≡ spaced (take count numbers) ++ (32 ∷ decimal number)
numbers_with numbers count number long below =
    let inside : count < length (set numbers count number) = omega (arith, length-set numbers count number, long, below) in
    spaced-more (set numbers count number) count inside
    ∙ ap (λ (n : ℕ). spaced (take count (set numbers count number)) ++ (32 ∷ decimal n)) (get_or-set_same numbers count number 0 (omega (arith, long, below)))
    ∙ ap (λ (l : List ℕ). spaced l ++ (32 ∷ decimal number)) (take-set-le count numbers count number (omega arith))

-- a number ends: the text with its end
ended : (front : List ℕ) (numbers : List ℕ) (count number byte end : ℕ) (begun : Bool) → begun ≡ true → byte ≡ end → length numbers ≡ 4 → count < 4
    → front ++ spaced (take (count + 1) (set numbers count number)) ++ (end ∷ [])
    ≡ front ++ spaced (take count numbers) ++ (32 ∷ shown begun number) ++ (byte ∷ [])
ended front numbers count number byte end true b e long below =
    ap (λ (l : List ℕ). front ++ l ++ (end ∷ [])) (numbers_with numbers count number long below)
    ∙ ap (λ (l : List ℕ). l ++ (end ∷ [])) (sym (append_assoc front (spaced (take count numbers)) (32 ∷ decimal number)))
    ∙ ap (λ (n : ℕ). front ++ spaced (take count numbers) ++ (32 ∷ decimal number) ++ (n ∷ [])) (sym e)
ended front numbers count number byte end false b e long below = absurd (true≢false (sym b))

-- what a scan holds after a number is read
number_holds : (part : Part) (s : Scan) → Holds Numbers s → Placed part (number_read s) → Holds part (number_read s)
unfolding number_read
number_holds part s h placed =
    record {
      fresh = λ e. refl;
      small = lit< tt;
      steps_small = h.steps_small;
      numbers_small = λ place. place_set (λ n. n < 2 ^ 64) 0 s.numbers s.count s.number place h.small (h.numbers_small place);
      long = length-set s.numbers s.count s.number ∙ h.long;
      placed = placed;
    }

number_after : (s : Scan) (byte : ℕ) → Holds Numbers s → ends_number s byte ≡ true → After (read_in Numbers s ++ (byte ∷ [])) (number_read s)
unfolding ends_number is_last_number number_read line
number_after s byte h e =
    go (eqb (s.count + 1) (numbers_behind s.letter)) refl
    (eqb-true byte (cond (is_last_number s) 10 32) (and_right s.begun _ (and_right (ltb s.count 4) _ e)))
  where
    below : s.count < 4
    below = ltb-true _ _ (and_left (ltb s.count 4) _ e)

    begun : s.begun ≡ true
    begun = and_left s.begun _ (and_right (ltb s.count 4) _ e)

    front : List ℕ
    front = decimal s.steps ++ (32 ∷ s.letter ∷ [])

    go : (last : Bool) → eqb (s.count + 1) (numbers_behind s.letter) ≡ last → byte ≡ cond last 10 32
        → After (read_in Numbers s ++ (byte ∷ [])) (number_read s)
    go true l f =
        on Whole (ap (λ (b : Bool). cond b Whole Numbers) l)
        (number_holds Whole s h (eqb-true _ _ l, h.placed.1))
        (ended front s.numbers s.count s.number byte 10 s.begun begun f h.long below)
    go false l f =
        on Numbers (ap (λ (b : Bool). cond b Whole Numbers) l)
        (number_holds Numbers s h (omega (arith, h.placed.0, eqb-false (s.count + 1) (numbers_behind s.letter) l), h.placed.1))
        (ended front s.numbers s.count s.number byte 32 s.begun begun f h.long below)

numbers_after : (s : Scan) (byte : ℕ) → s.part ≡ Numbers → Holds Numbers s → After (read_in Numbers s ++ (byte ∷ [])) (on_numbers s byte)
unfolding on_numbers digit_read wrong
numbers_after s byte p h =
    by_test (After (read_in Numbers s ++ (byte ∷ []))) (is_next_digit s.begun s.number byte)
    (λ e. on Numbers p
    (digit_holds Numbers s byte e h h.placed)
    (ap (λ (l : List ℕ). front ++ (32 ∷ l)) (digit-shown s.begun s.number byte h.fresh e)
    ∙ sym (append_assoc front (32 ∷ shown s.begun s.number) (byte ∷ []))))
    (λ e. by_test (After (read_in Numbers s ++ (byte ∷ []))) (ends_number s byte) (λ f. number_after s byte h f) (λ f. no refl))
  where
    front : List ℕ
    front = decimal s.steps ++ (32 ∷ s.letter ∷ []) ++ spaced (take s.count s.numbers)

byte_after : (part : Part) (s : Scan) (byte : ℕ) → s.part ≡ part → Holds part s → After (read_in part s ++ (byte ∷ [])) (on_byte_in part s byte)
unfolding on_byte_in wrong
byte_after Steps s byte p h = steps_after s byte p h
byte_after Letter s byte p h = letter_after s byte h
byte_after Space s byte p h = space_after s byte h
byte_after Numbers s byte p h = numbers_after s byte p h
byte_after Whole s byte p h = no refl
byte_after Wrong s byte p h = no refl

-- ---- a whole text

-- what is wrong stays wrong
wrong_byte : (part : Part) (s : Scan) (byte : ℕ) → part ≡ Wrong → (on_byte_in part s byte).part ≡ Wrong
unfolding on_byte_in wrong
wrong_byte part s byte e = ap (λ (p : Part). (on_byte_in p s byte).part) e

-- nothing comes behind a whole line
pub whole_byte : (s : Scan) (byte : ℕ) → s.part ≡ Whole → (scan_byte s byte).part ≡ Wrong
unfolding scan_byte on_byte_in wrong
whole_byte s byte e = ap (λ (p : Part). (on_byte_in p s byte).part) e

pub wrong_stays : (s : Scan) (text : List ℕ) → s.part ≡ Wrong → (scan_all s text).part ≡ Wrong
unfolding scan_all scan_byte
wrong_stays s [] e = e
wrong_stays s (byte ∷ rest) e = wrong_stays (on_byte_in s.part s byte) rest (wrong_byte s.part s byte e)

pub scanned : (s : Scan) (read text : List ℕ) → After read s → After (read ++ text) (scan_all s text)
unfolding scan_all scan_byte
scanned s read [] a = subst (λ (l : List ℕ). After l s) (sym (append-nil read)) a
scanned s read (byte ∷ rest) (no e) = no (wrong_stays (on_byte_in s.part s byte) rest (wrong_byte s.part s byte e))
scanned s read (byte ∷ rest) (on part p h e) =
    let next : After (read ++ (byte ∷ [])) (on_byte_in s.part s byte) =
    subst (λ (l : List ℕ). After (l ++ (byte ∷ [])) (on_byte_in s.part s byte)) e
    (subst (λ (q : Part). After (read_in part s ++ (byte ∷ [])) (on_byte_in q s byte)) (sym p) (byte_after part s byte p h)) in
    subst (λ (l : List ℕ). After l (scan_all (on_byte_in s.part s byte) rest)) (append_assoc read (byte ∷ []) rest)
    (scanned (on_byte_in s.part s byte) (read ++ (byte ∷ [])) rest next)

-- a text that is read as a whole line is the text of that line
abbrev is_whole : Part → Bool
is_whole Steps = false
is_whole Letter = false
is_whole Space = false
is_whole Numbers = false
is_whole Whole = true
is_whole Wrong = false

whole_read : (s : Scan) (text : List ℕ) → s.part ≡ Whole → After text s → Holds Whole s × (text ≡ read_in Whole s)
whole_read s text w (no e) = absurd (true≢false (sym (ap is_whole (sym e ∙ w))))
whole_read s text w (on part p h e) =
    let same : part ≡ Whole = sym p ∙ w in
    (subst (λ (q : Part). Holds q s) same h, sym e ∙ ap (λ (q : Part). read_in q s) same)

numbers_taken : (count : ℕ) (numbers : List ℕ) (place : ℕ) → ((k : ℕ) → get_or numbers k 0 < 2 ^ 64) → get_or (take count numbers) place 0 < 2 ^ 64
numbers_taken zero numbers place h = lit< tt
numbers_taken (suc count) [] place h = h place
numbers_taken (suc count) (n ∷ numbers) zero h = h 0
numbers_taken (suc count) (n ∷ numbers) (suc place) h = numbers_taken count numbers place (λ k. h (suc k))

pub at_most_four : (letter : ℕ) → numbers_behind letter ≤ 4
unfolding numbers_behind
at_most_four letter = by_test (λ n. n ≤ 4) (eqb letter 72) (λ e. lit≤ tt) (λ e. lit≤ tt)

start_after : After [] start_scan
unfolding start_scan
start_after = on Steps refl at_start_lem refl

-- what has been read of a text from its start
pub text-after : (text : List ℕ) → After text (scan_all start_scan text)
text-after text = scanned start_scan [] text start_after

pub read_is_written : ReadIsWritten
read_is_written text w =
    let s : Scan = scan_all start_scan text in
    let both = whole_read s text w (text-after text) in
    let h = both.0 in
    let many : length (take s.count s.numbers) ≡ s.count =
    length-take s.count s.numbers ∙ omega (arith, h.long, h.placed.0, at_most_four s.letter) in
    record {
      steps = s.steps;
      letter = s.letter;
      numbers = take s.count s.numbers;
      is_line = record {
        known = h.placed.1;
        many = many ∙ h.placed.0;
        steps_small = h.steps_small;
        small = λ place. numbers_taken s.count s.numbers place h.numbers_small;
      };
      is_read = record { whole = w; steps_read = refl; letter_read = refl; count_read = sym many; numbers_read = refl };
      same = both.1;
    }
