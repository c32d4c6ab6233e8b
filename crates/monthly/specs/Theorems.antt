-- What proofs/ proves, as sentences: the sheet program's answer on the lines of night files is the sheet of their runs.
use Rattle.std.specs.Prelude.{ℕ, ◌*◌, ◌^◌, ◌≤◌, ◌<◌, ◌≡◌, List, length, None}
use Rattle.sums.specs.Sheet.{run_width, sheet_number, making}
use Rattle.gather.specs.Gathering.{rows_kept, start_gather, after_all, rows_after_all, fault_of, whole_rows}
use Rattle.ownsheet.specs.Numbers.{night_ceiling, rows_of}
use Rattle.ownsheet.specs.Theorems.{SameLocks}
use Rattle.monthly.specs.Monthly.{month_text, accepted_of, refused_count}

-- the lines of these files, gathered into rows: no line is at fault, the refused files are counted, and the number that is told and the whole sheet
-- are those of the accepted files' runs, refused or not
pub record SheetOfTheFiles (files : List (List ℕ)) (rows : List ℕ) : Type 0 where
  pub fine : fault_of (after_all start_gather (month_text files)) ≡ None
  pub refused : refused_count files < 2 ^ 64 → (after_all start_gather (month_text files)).refused ≡ refused_count files
  pub sheet : making (whole_rows (after_all start_gather (month_text files)) (rows_after_all start_gather (month_text files) rows))
      ≡ making (rows_of night_ceiling (accepted_of files))

-- of any files, accepted or refused, and whatever stood in the rows before
abbrev pub TheSheetOfNightFiles : Type 0
TheSheetOfNightFiles = (files : List (List ℕ)) (rows : List ℕ) → length rows ≡ rows_kept * run_width → SheetOfTheFiles files rows

-- so what the night program has written is never refused with 26, and not at all where it is at most 400 runs of plans with the same number of locks
pub record AnswerOfTheFiles (files : List (List ℕ)) (rows : List ℕ) : Type 0 where
  pub never_26 : sheet_number (whole_rows (after_all start_gather (month_text files)) (rows_after_all start_gather (month_text files) rows)) ≡ 26 → ⊥
  pub fit : length (accepted_of files) ≤ 400 → SameLocks (accepted_of files)
      → sheet_number (whole_rows (after_all start_gather (month_text files)) (rows_after_all start_gather (month_text files) rows)) ≡ 0

abbrev pub NightFilesFitTheirSheet : Type 0
NightFilesFitTheirSheet = (files : List (List ℕ)) (rows : List ℕ) → length rows ≡ rows_kept * run_width → AnswerOfTheFiles files rows
