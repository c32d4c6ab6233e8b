-- What proofs/ proves of reading a line, as sentences: what the line writer writes is read back, and what is read is what it would write.
use Rattle.std.specs.Prelude.{ℕ, ◌^◌, ◌<◌, ◌≡◌, true, List, length, get_or, take}
use Rattle.lines.specs.Line.{line}
use Rattle.linereader.specs.declared.Part.TheVariants.{Whole}
use Rattle.linereader.specs.declared.Scan.{Scan}
use Rattle.linereader.specs.Reading.{is_kind, kind_of, numbers_behind, start_scan, scan_all}

-- a line of the night program: one of its letters, as many numbers as belong to it, all below 2 ^ 64
pub record IsLine (steps letter : ℕ) (numbers : List ℕ) : Type 0 where
  pub known : is_kind (kind_of letter) ≡ true
  pub many : length numbers ≡ numbers_behind letter
  pub steps_small : steps < 2 ^ 64
  pub small : (place : ℕ) → get_or numbers place 0 < 2 ^ 64

-- a whole line that was read: its steps, its letter and its numbers
pub record IsRead (scan : Scan) (steps letter : ℕ) (numbers : List ℕ) : Type 0 where
  pub whole : scan.part ≡ Whole
  pub steps_read : scan.steps ≡ steps
  pub letter_read : scan.letter ≡ letter
  pub count_read : scan.count ≡ length numbers
  pub numbers_read : take scan.count scan.numbers ≡ numbers

abbrev pub WrittenIsRead : Type 0
WrittenIsRead =
    (steps letter : ℕ) (numbers : List ℕ) → IsLine steps letter numbers → IsRead (scan_all start_scan (line steps letter numbers)) steps letter numbers

-- where a text is read as a whole line, it is the text of that line
pub record TextOfALine (text : List ℕ) : Type 0 where
  pub steps : ℕ
  pub letter : ℕ
  pub numbers : List ℕ
  pub is_line : IsLine steps letter numbers
  pub is_read : IsRead (scan_all start_scan text) steps letter numbers
  pub same : text ≡ line steps letter numbers

abbrev pub ReadIsWritten : Type 0
ReadIsWritten = (text : List ℕ) → (scan_all start_scan text).part ≡ Whole → TextOfALine text
