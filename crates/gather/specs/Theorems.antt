-- What proofs/ proves of the gathering, as sentences: in whatever pieces a text comes the same is gathered; a text of runs is gathered into their rows;
-- and nothing else is taken for a text of runs.
use Rattle.std.specs.Prelude.{ℕ, ◌+◌, ◌*◌, ◌^◌, ◌<◌, min, ◌≡◌, true, false, cond, List, [], ◌∷◌, ◌++◌, None, eqb, length, get_or}
use Rattle.sums.specs.Sheet.{run_width}
use Rattle.gather.specs.declared.Gather.{Gather}
use Rattle.gather.specs.Gathering.{rows_kept, start_gather, is_fine, after_all, rows_after_all, fault_of}
use Rattle.gather.specs.Texts.{Piece, Pieces, pieces_text, runs_in, refused_in, no_run, RowOf}

-- in whatever pieces a text comes, what is gathered is the same
pub record SameInPieces (state : Gather) (piece rest rows : List ℕ) : Type 0 where
  pub stands : after_all state (piece ++ rest) ≡ after_all (after_all state piece) rest
  pub gathered : rows_after_all state (piece ++ rest) rows ≡ rows_after_all (after_all state piece) rest (rows_after_all state piece rows)

abbrev pub ThePiecesDoNotMatter : Type 0
ThePiecesDoNotMatter = (state : Gather) (piece rest rows : List ℕ) → SameInPieces state piece rest rows

-- a text of runs has no fault, and each of its runs has its row, up to the last row that is kept
pub record GatheredFrom (pieces : List Piece) (rows : List ℕ) : Type 0 where
  pub fine : fault_of (after_all start_gather (pieces_text pieces)) ≡ None
  pub runs : (after_all start_gather (pieces_text pieces)).runs ≡ min (length (runs_in pieces)) rows_kept
  pub refused : refused_in pieces < 2 ^ 64 → (after_all start_gather (pieces_text pieces)).refused ≡ refused_in pieces
  pub long : length (rows_after_all start_gather (pieces_text pieces) rows) ≡ length rows
  pub row : (k : ℕ) → k < min (length (runs_in pieces)) rows_kept
      → RowOf (rows_after_all start_gather (pieces_text pieces) rows) k (get_or (runs_in pieces) k no_run)

abbrev pub RunsAreGathered : Type 0
RunsAreGathered = (pieces : List Piece) (rows : List ℕ) → Pieces pieces → length rows ≡ rows_kept * run_width → GatheredFrom pieces rows

-- where a text has no fault, it is the text of runs
pub record TextOfRuns (text : List ℕ) : Type 0 where
  pub pieces : List Piece
  pub right : Pieces pieces
  pub same : text ≡ pieces_text pieces

abbrev pub NothingElseIsFine : Type 0
NothingElseIsFine = (text : List ℕ) → fault_of (after_all start_gather text) ≡ None → TextOfRuns text

-- the lines are counted by their newlines. So where the first fault is met, the line that is named is one
-- more than the newlines before the byte at which it is met; and where the text ends too early, one more than all its newlines
unfoldable pub newlines : List ℕ → ℕ
newlines [] = 0
newlines (byte ∷ rest) = cond (eqb byte 10) 1 0 + newlines rest

pub record LinesCounted (text : List ℕ) : Type 0 where
  pub fine : is_fine (after_all start_gather text).fault ≡ true → (after_all start_gather text).lines ≡ newlines text
  pub fault : (byte : ℕ) → is_fine (after_all start_gather text).fault ≡ true → is_fine (after_all start_gather (text ++ (byte ∷ []))).fault ≡ false
      → (after_all start_gather (text ++ (byte ∷ []))).lines ≡ newlines text
  pub stays : (rest : List ℕ) → is_fine (after_all start_gather text).fault ≡ false → after_all start_gather (text ++ rest) ≡ after_all start_gather text

abbrev pub TheLinesAreCounted : Type 0
TheLinesAreCounted = (text : List ℕ) → newlines text < 2 ^ 64 → LinesCounted text
