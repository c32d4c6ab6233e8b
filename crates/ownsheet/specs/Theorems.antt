-- What proofs/ proves, as sentences: the totals of a run are plain sums, its numbers fit the monthly sheet, and its last lines have them.
use Rattle.std.specs.Prelude.{ℕ, ◌≤◌, ◌<◌, ◌≡◌, true, List, [], ◌++◌, length, get_or}
use Rattle.lists.specs.Loops.{total}
use Rattle.nightfile.specs.File.{file_number}
use Rattle.wording.specs.declared.Line.{Line}
use Rattle.course.specs.Standing.{locks_of}
use Rattle.course.specs.Wording.{is_cut}
use Rattle.run.specs.Outcomes.{file_course, file_outcome, file_text}
use Rattle.sums.specs.Sheet.{sheet_number}
use Rattle.ownsheet.specs.Numbers.{run_numbers, rows_of, night_ceiling, locks_in, last_lines, row_lines, all_deeds, lines_of, text_of}

-- a file's bytes are below 256
abbrev pub Bytes : List ℕ → Type 0
Bytes file = (place : ℕ) → get_or file place 0 < 256

-- the totals in a run's result, which have 64 bits and would stay at their top, are the sums over its locks: nothing was cut off
pub record SumsOverLocks (ceiling : ℕ) (file : List ℕ) : Type 0 where
  pub grants : (file_outcome ceiling file).grants
      ≡ total (λ lock. get_or (file_course ceiling file).end.reached.tally.grants lock 0) (locks_of (file_course ceiling file).end)
  pub failed : (file_outcome ceiling file).failed
      ≡ total (λ lock. get_or (file_course ceiling file).end.reached.tally.failed lock 0) (locks_of (file_course ceiling file).end)

-- of every file, accepted or refused, under every ceiling
abbrev pub TheTotalsAreTheSums : Type 0
TheTotalsAreTheSums = (ceiling : ℕ) (file : List ℕ) → Bytes file → SumsOverLocks ceiling file

-- the locks in a run's row are those of its file's plan, 1 to 64
pub record OfThePlan (ceiling : ℕ) (file : List ℕ) : Type 0 where
  pub same : locks_of (file_course ceiling file).end ≡ locks_in file
  pub least : 1 ≤ locks_in file
  pub most : locks_in file ≤ 64

abbrev pub TheLocksAreThePlans : Type 0
TheLocksAreThePlans = (ceiling : ℕ) (file : List ℕ) → file_number file ≡ 0 → OfThePlan ceiling file

-- the row of an accepted file's run, taken alone, is refused with none of 24, 25 and 26
abbrev pub ARunFitsItsSheet : Type 0
ARunFitsItsSheet = (file : List ℕ) → file_number file ≡ 0 → sheet_number (run_numbers night_ceiling file) ≡ 0

-- several files: each is accepted
abbrev pub AllAccepted : List (List ℕ) → Type 0
AllAccepted files = (k : ℕ) → k < length files → file_number (get_or files k []) ≡ 0

-- their plans have the same number of locks
abbrev pub SameLocks : List (List ℕ) → Type 0
SameLocks files = (j k : ℕ) → j < length files → k < length files → locks_in (get_or files j []) ≡ locks_in (get_or files k [])

-- the plans of two of them do not
pub record LocksDiffer (files : List (List ℕ)) : Type 0 where
  pub j : ℕ
  pub k : ℕ
  pub j_below : j < length files
  pub k_below : k < length files
  pub differ : locks_in (get_or files j []) ≡ locks_in (get_or files k []) → ⊥

-- what their rows, one behind the other, are answered with: 24 for more than 400 of them; else 25 where the plans of two of them have different
-- numbers of locks; else nothing; and 26 never
pub record AnsweredBy (files : List (List ℕ)) : Type 0 where
  pub too_many : 400 < length files → sheet_number (rows_of night_ceiling files) ≡ 24
  pub locks_wrong : length files ≤ 400 → LocksDiffer files → sheet_number (rows_of night_ceiling files) ≡ 25
  pub only_locks : sheet_number (rows_of night_ceiling files) ≡ 25 → SameLocks files → ⊥
  pub never_26 : sheet_number (rows_of night_ceiling files) ≡ 26 → ⊥
  pub fit : length files ≤ 400 → SameLocks files → sheet_number (rows_of night_ceiling files) ≡ 0

abbrev pub RunsFitTheirSheet : Type 0
RunsFitTheirSheet = (files : List (List ℕ)) → AllAccepted files → AnsweredBy files

-- the lines of an accepted file, and the bytes written, are lines of actions and events, and then the lines of the end
pub record EndWithTheNumbers (ceiling : ℕ) (file : List ℕ) : Type 0 where
  pub before : List Line
  pub deeds : all_deeds before ≡ true
  pub lines : lines_of (file_course ceiling file).lines ≡ before ++ last_lines (file_course ceiling file).end
  pub written : file_text ceiling file ≡ text_of before ++ text_of (last_lines (file_course ceiling file).end)

abbrev pub TheLinesEndWithTheNumbers : Type 0
TheLinesEndWithTheNumbers = (ceiling : ℕ) (file : List ℕ) → file_number file ≡ 0 → EndWithTheNumbers ceiling file

-- and these lines can be read off the run's row
abbrev pub TheLastLinesAreTheRow : Type 0
TheLastLinesAreTheRow =
    (ceiling : ℕ) (file : List ℕ) → file_number file ≡ 0 → Bytes file
    → last_lines (file_course ceiling file).end ≡ row_lines (is_cut (file_course ceiling file).end.phase) (run_numbers ceiling file)
