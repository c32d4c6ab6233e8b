-- What a text of runs is, line by line: a run is lines of actions and events, then its H lines from lock 0 up, then its E or C line; a refused run
-- is one Q line; the lines of any number of runs stand one after the other.
use Rattle.std.specs.Prelude.{ℕ, ◌+◌, ◌-◌, ◌^◌, ◌<◌, min, ◌≡◌, List, [], ◌∷◌, ◌++◌, Some, length, get_or}
use Rattle.lines.specs.Line.{line}
use Rattle.linereader.specs.declared.LineKind.{LineKind}
use Rattle.linereader.specs.declared.LineKind.TheVariants.{Deed, Lock, Last, Refusal}
use Rattle.linereader.specs.Reading.{kind_of}
use Rattle.linereader.specs.Theorems.{IsLine}
use Rattle.sums.specs.Sheet.{steps_place, locks_place, busy_place, grants_place, failed_place, lock_places, number_at}

-- a line: its steps, its letter, its numbers in order
pub record TextLine : Type 0 where
  pub steps : ℕ
  pub letter : ℕ
  pub numbers : List ℕ

-- where there is none
abbrev pub no_line : TextLine
no_line = record { steps = 0; letter = 0; numbers = [] }

unfoldable pub line_text : TextLine → List ℕ
line_text l = line l.steps l.letter l.numbers

unfoldable pub lines_text : List TextLine → List ℕ
lines_text [] = []
lines_text (l ∷ rest) = line_text l ++ lines_text rest

-- a line of the night program of this kind
pub record OfKind (kind : LineKind) (l : TextLine) : Type 0 where
  pub is_line : IsLine l.steps l.letter l.numbers
  pub of_kind : kind_of l.letter ≡ Some kind

-- lines of actions and events
pub data Deeds : List TextLine → Type 0 where
  none : Deeds []
  one_more : {l : TextLine} {rest : List TextLine} → OfKind Deed l → Deeds rest → Deeds (l ∷ rest)

-- H lines of the locks from this one up, in order; the top of 64 bits is no lock's number
pub data LocksFrom : ℕ → List TextLine → Type 0 where
  none : {lock : ℕ} → LocksFrom lock []
  one_more : {lock : ℕ} {l : TextLine} {rest : List TextLine} → OfKind Lock l → get_or l.numbers 0 0 ≡ lock → lock < 2 ^ 64 - 1
      → LocksFrom (lock + 1) rest → LocksFrom lock (l ∷ rest)

-- the lines of a run
pub record RunLines : Type 0 where
  pub deeds : List TextLine
  pub locks : List TextLine
  pub last : TextLine

-- where there is none
abbrev pub no_run : RunLines
no_run = record { deeds = []; locks = []; last = no_line }

pub record IsRun (run : RunLines) : Type 0 where
  pub deeds_right : Deeds run.deeds
  pub locks_right : LocksFrom 0 run.locks
  pub last_right : OfKind Last run.last

-- a run, or the Q line of a refused one
pub data Piece : Type 0 where
  ran : RunLines → Piece
  left_out : TextLine → Piece

pub data Pieces : List Piece → Type 0 where
  none : Pieces []
  one_run : {run : RunLines} {rest : List Piece} → IsRun run → Pieces rest → Pieces (ran run ∷ rest)
  one_refused : {l : TextLine} {rest : List Piece} → OfKind Refusal l → Pieces rest → Pieces (left_out l ∷ rest)

unfoldable pub piece_text : Piece → List ℕ
piece_text (ran run) = lines_text run.deeds ++ (lines_text run.locks ++ line_text run.last)
piece_text (left_out l) = line_text l

unfoldable pub pieces_text : List Piece → List ℕ
pieces_text [] = []
pieces_text (piece ∷ rest) = piece_text piece ++ pieces_text rest

-- the runs among them, in order, and how many were refused
unfoldable pub runs_in : List Piece → List RunLines
runs_in [] = []
runs_in (ran run ∷ rest) = run ∷ runs_in rest
runs_in (left_out l ∷ rest) = runs_in rest

unfoldable pub refused_in : List Piece → ℕ
refused_in [] = 0
refused_in (ran run ∷ rest) = refused_in rest
refused_in (left_out l ∷ rest) = refused_in rest + 1

-- a run's row: the steps of its last line, as many locks as it has H lines, and of each of the first 64 locks the other numbers of its H line
pub record RowOf (rows : List ℕ) (k : ℕ) (run : RunLines) : Type 0 where
  pub steps : number_at rows steps_place k ≡ run.last.steps
  pub locks : number_at rows locks_place k ≡ length run.locks
  pub busy : (lock : ℕ) → lock < min (length run.locks) lock_places → number_at rows (busy_place + lock) k ≡ get_or (get_or run.locks lock no_line).numbers 1 0
  pub grants : (lock : ℕ) → lock < min (length run.locks) lock_places → number_at rows (grants_place + lock) k ≡ get_or (get_or run.locks lock no_line).numbers 2 0
  pub failed : (lock : ℕ) → lock < min (length run.locks) lock_places → number_at rows (failed_place + lock) k ≡ get_or (get_or run.locks lock no_line).numbers 3 0
