-- A line of the night program, read back byte by byte: steps done, letter, numbers in order, single spaces, newline (01, "The run and its lines";
-- 02, item 13: four numbers behind an H, two behind any other letter). A number is decimal without leading zeros and below 2 ^ 64.
use Rattle.std.specs.Prelude.{ℕ, ◌+◌, ◌-◌, ◌*◌, ◌^◌, Bool, true, false, cond, not, ◌&&◌, ◌||◌, List, [], ◌∷◌, Option, Some, None, eqb, ltb, leb, replicate, set}
use Rattle.linereader.specs.declared.LineKind.{LineKind}
use Rattle.linereader.specs.declared.LineKind.TheVariants.{Deed, Lock, Last, Refusal}
use Rattle.linereader.specs.declared.Part.{Part}
use Rattle.linereader.specs.declared.Part.TheVariants.{Steps, Letter, Space, Numbers, Whole, Wrong}
use Rattle.linereader.specs.declared.Scan.{Scan}

-- ---- letters

-- T, R, F, X; G, N, L, B, D: an action or an event
unfoldable pub is_deed : ℕ → Bool
is_deed letter =
    eqb letter 84 || eqb letter 82 || eqb letter 70 || eqb letter 88 || eqb letter 71 || eqb letter 78 || eqb letter 76 || eqb letter 66
    || eqb letter 68

-- which lines bear a letter: H a lock's, E and C a run's last, Q that of a refused file
unfoldable pub kind_of : ℕ → Option LineKind
kind_of letter =
    cond (eqb letter 72) (Some Lock)
    (cond (eqb letter 69) (Some Last)
    (cond (eqb letter 67) (Some Last) (cond (eqb letter 81) (Some Refusal) (cond (is_deed letter) (Some Deed) None))))

unfoldable pub is_kind : Option LineKind → Bool
is_kind None = false
is_kind (Some kind) = true

-- how many numbers stand behind a letter
unfoldable pub numbers_behind : ℕ → ℕ
numbers_behind letter = cond (eqb letter 72) 4 2

-- ---- a number

unfoldable pub is_digit : ℕ → Bool
is_digit byte = leb 48 byte && leb byte 57

-- the number with one digit more
unfoldable pub with_digit : ℕ → ℕ → ℕ
with_digit number byte = number * 10 + (byte - 48)

-- whether a byte is the number's next digit: no digit comes behind a leading 0, and the number stays below 2 ^ 64
unfoldable pub is_next_digit : Bool → ℕ → ℕ → Bool
is_next_digit begun number byte = is_digit byte && not (begun && eqb number 0) && ltb (with_digit number byte) (2 ^ 64)

-- ---- where the reading stands

-- at the start of a line
unfoldable pub start_scan : Scan
start_scan = record { part = Steps; begun = false; number = 0; steps = 0; letter = 0; count = 0; numbers = replicate 4 0 }

-- the part that comes next, and the letter; the rest as it was
abbrev pub going_on : Part → ℕ → Scan → Scan
going_on part letter scan =
    record {
      part = part;
      begun = scan.begun;
      number = scan.number;
      steps = scan.steps;
      letter = letter;
      count = scan.count;
      numbers = scan.numbers;
    }

-- no line begins like this
unfoldable pub wrong : Scan → Scan
wrong scan = going_on Wrong scan.letter scan

-- one digit more of the number at hand
unfoldable pub digit_read : Scan → ℕ → Scan
digit_read scan byte =
    record {
      part = scan.part;
      begun = true;
      number = with_digit scan.number byte;
      steps = scan.steps;
      letter = scan.letter;
      count = scan.count;
      numbers = scan.numbers;
    }

-- the steps are read, the letter comes next
unfoldable pub steps_read : Scan → Scan
steps_read scan =
    record {
      part = Letter;
      begun = false;
      number = 0;
      steps = scan.number;
      letter = scan.letter;
      count = scan.count;
      numbers = scan.numbers;
    }

unfoldable pub letter_read : Scan → ℕ → Scan
letter_read scan byte = going_on Space byte scan

-- the space behind the letter is read, the first number comes next
unfoldable pub space_read : Scan → Scan
space_read scan = going_on Numbers scan.letter scan

-- one number more is read; the line is whole after the last one
unfoldable pub is_last_number : Scan → Bool
is_last_number scan = eqb (scan.count + 1) (numbers_behind scan.letter)

unfoldable pub number_read : Scan → Scan
number_read scan =
    record {
      part = cond (is_last_number scan) Whole Numbers;
      begun = false;
      number = 0;
      steps = scan.steps;
      letter = scan.letter;
      count = scan.count + 1;
      numbers = set scan.numbers scan.count scan.number;
    }

-- whether a byte ends the number at hand, which has a digit: a newline the last one, a space the others. There are at most four
unfoldable pub ends_number : Scan → ℕ → Bool
ends_number scan byte = ltb scan.count 4 && (scan.begun && eqb byte (cond (is_last_number scan) 10 32))

-- ---- one byte more

unfoldable pub on_steps : Scan → ℕ → Scan
on_steps scan byte =
    cond (is_next_digit scan.begun scan.number byte) (digit_read scan byte)
    (cond (scan.begun && eqb byte 32) (steps_read scan) (wrong scan))

unfoldable pub on_letter : Scan → ℕ → Scan
on_letter scan byte = cond (is_kind (kind_of byte)) (letter_read scan byte) (wrong scan)

unfoldable pub on_space : Scan → ℕ → Scan
on_space scan byte = cond (eqb byte 32) (space_read scan) (wrong scan)

unfoldable pub on_numbers : Scan → ℕ → Scan
on_numbers scan byte =
    cond (is_next_digit scan.begun scan.number byte) (digit_read scan byte)
    (cond (ends_number scan byte) (number_read scan) (wrong scan))

-- nothing comes behind a whole line
unfoldable pub on_byte_in : Part → Scan → ℕ → Scan
on_byte_in Steps scan byte = on_steps scan byte
on_byte_in Letter scan byte = on_letter scan byte
on_byte_in Space scan byte = on_space scan byte
on_byte_in Numbers scan byte = on_numbers scan byte
on_byte_in Whole scan byte = wrong scan
on_byte_in Wrong scan byte = wrong scan

unfoldable pub scan_byte : Scan → ℕ → Scan
scan_byte scan byte = on_byte_in scan.part scan byte

-- all bytes of a text, in order
unfoldable pub scan_all : Scan → List ℕ → Scan
scan_all scan [] = scan
scan_all scan (byte ∷ rest) = scan_all (scan_byte scan byte) rest
