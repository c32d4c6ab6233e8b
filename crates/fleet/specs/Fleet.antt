-- The night's files as the schedules of a report: each with its name and the lines that the night program writes of it.
use Rattle.std.specs.Prelude.{ℕ, ◌+◌, ◌≡◌, true, cond, List, [], ◌∷◌, eqb}
use Rattle.run.specs.Outcomes.{file_text, file_course}
use Rattle.gather.specs.Texts.{TextLine}
use Rattle.ownsheet.specs.Numbers.{night_ceiling, lines_of}
use Rattle.monthly.specs.Monthly.{as_texts}
use Rattle.verdict.specs.Verdicts.{verdict_number, verdict_of}
use Rattle.morning.specs.Theorems.{Schedule, is_name}

-- a night file: its name, its bytes
pub record NightFile : Type 0 where
  pub name : List ℕ
  pub bytes : List ℕ

-- the lines of an accepted file
unfoldable pub lines_of_file : List ℕ → List TextLine
lines_of_file file = as_texts (lines_of (file_course night_ceiling file).lines)

unfoldable pub schedules_of : List NightFile → List Schedule
schedules_of [] = []
schedules_of (file ∷ rest) = record { name = file.name; text = file_text night_ceiling file.bytes } ∷ schedules_of rest

-- no name has a newline
pub data Named : List NightFile → Type 0 where
  none : Named []
  one_more : {file : NightFile} {rest : List NightFile} → is_name file.name ≡ true → Named rest → Named (file ∷ rest)

-- the verdict on a file's lines, by number; how many files have it
unfoldable pub number_on : NightFile → ℕ
number_on file = verdict_number (verdict_of (file_text night_ceiling file.bytes)).verdict

unfoldable pub files_with : ℕ → List NightFile → ℕ
files_with number [] = 0
files_with number (file ∷ rest) = cond (eqb (number_on file) number) 1 0 + files_with number rest
