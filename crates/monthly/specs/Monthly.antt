-- The lines of several night files, one after the other, as the night program writes them; which files were accepted, and how many were not.
use Rattle.std.specs.Prelude.{ℕ, ◌+◌, cond, List, [], ◌∷◌, ◌++◌, eqb}
use Rattle.nightfile.specs.File.{file_number}
use Rattle.wording.specs.declared.Line.{Line}
use Rattle.wording.specs.Wording.{numbers_of}
use Rattle.run.specs.Outcomes.{file_text}
use Rattle.gather.specs.Texts.{TextLine}
use Rattle.ownsheet.specs.Numbers.{night_ceiling}

-- the texts of all files, in order
unfoldable pub month_text : List (List ℕ) → List ℕ
month_text [] = []
month_text (file ∷ files) = file_text night_ceiling file ++ month_text files

-- the accepted ones, in order
unfoldable pub accepted_of : List (List ℕ) → List (List ℕ)
accepted_of [] = []
accepted_of (file ∷ files) = cond (eqb (file_number file) 0) (file ∷ accepted_of files) (accepted_of files)

-- how many were refused
unfoldable pub refused_count : List (List ℕ) → ℕ
refused_count [] = 0
refused_count (file ∷ files) = cond (eqb (file_number file) 0) (refused_count files) (refused_count files + 1)

-- lines of a run as they stand in a text
abbrev pub as_text : Line → TextLine
as_text l = record { steps = l.steps; letter = l.letter; numbers = numbers_of l }

unfoldable pub as_texts : List Line → List TextLine
as_texts [] = []
as_texts (l ∷ rest) = as_text l ∷ as_texts rest
