-- What proofs/ proves of the verdict, as sentences: a whole run's is that of its worst line, any other text is incomplete, and a good one has no bad line.
use Rattle.std.specs.Prelude.{ℕ, ◌≤◌, ◌<◌, ◌≡◌, List, [], ◌∷◌}
use Rattle.gather.specs.Texts.{TextLine, Piece, Pieces, piece_text}
use Rattle.verdict.specs.declared.Verdict.{Verdict}
use Rattle.verdict.specs.declared.Verdict.TheVariants.{Incomplete, Refused, RefusedActions, Cut, LocksLost, TakesFailed, Good}
use Rattle.verdict.specs.declared.Judged.{Judged}
use Rattle.verdict.specs.Verdicts.{verdict_number, no_notes, verdict_of}
use Rattle.verdict.specs.Lines.{count_of, notes_of, lines_in, worst_line, LocksFit}

-- the text of one run, or of a refused one: its worst line decides
abbrev pub TheWorstLineDecides : Type 0
TheWorstLineDecides = (piece : Piece) → Pieces (piece ∷ []) → LocksFit piece → verdict_of (piece_text piece) ≡ worst_line (lines_in piece)

-- every other text is incomplete: where the verdict is another, the text is one run's, or a refused one's
pub record OnePiece (text : List ℕ) : Type 0 where
  pub piece : Piece
  pub right : Pieces (piece ∷ [])
  pub fit : LocksFit piece
  pub same : text ≡ piece_text piece

abbrev pub AllElseIsIncomplete : Type 0
AllElseIsIncomplete = (text : List ℕ) → ((verdict_of text).verdict ≡ Incomplete → ⊥) → OnePiece text

-- and a whole one never is
abbrev pub WholeRunsAreNot : Type 0
WholeRunsAreNot = (piece : Piece) → Pieces (piece ∷ []) → LocksFit piece → (verdict_of (piece_text piece)).verdict ≡ Incomplete → ⊥

-- a good schedule is a whole run without any of the letters Q, X, C, L, N
pub record NoBadLine (text : List ℕ) : Type 0 where
  pub one : OnePiece text
  pub no_refusal : count_of 81 (lines_in one.piece) ≡ 0
  pub no_action : count_of 88 (lines_in one.piece) ≡ 0
  pub no_cut : count_of 67 (lines_in one.piece) ≡ 0
  pub no_lost : count_of 76 (lines_in one.piece) ≡ 0
  pub no_failed : count_of 78 (lines_in one.piece) ≡ 0

abbrev pub GoodHasNoBadLine : Type 0
GoodHasNoBadLine = (text : List ℕ) → (verdict_of text).verdict ≡ Good → NoBadLine text

-- what the worst line is, case by case: the first of Q, X, C, L, N that some line bears, with its verdict and its lines
pub record Decided (lines : List TextLine) (judged : Judged) : Type 0 where
  pub refused : 0 < count_of 81 lines → judged ≡ record { verdict = Refused; noted = notes_of 81 lines }
  pub actions : count_of 81 lines ≡ 0 → 0 < count_of 88 lines → judged ≡ record { verdict = RefusedActions; noted = notes_of 88 lines }
  pub cut : count_of 81 lines ≡ 0 → count_of 88 lines ≡ 0 → 0 < count_of 67 lines → judged ≡ record { verdict = Cut; noted = notes_of 67 lines }
  pub lost : count_of 81 lines ≡ 0 → count_of 88 lines ≡ 0 → count_of 67 lines ≡ 0 → 0 < count_of 76 lines
      → judged ≡ record { verdict = LocksLost; noted = notes_of 76 lines }
  pub failed : count_of 81 lines ≡ 0 → count_of 88 lines ≡ 0 → count_of 67 lines ≡ 0 → count_of 76 lines ≡ 0 → 0 < count_of 78 lines
      → judged ≡ record { verdict = TakesFailed; noted = notes_of 78 lines }
  pub good : count_of 81 lines ≡ 0 → count_of 88 lines ≡ 0 → count_of 67 lines ≡ 0 → count_of 76 lines ≡ 0 → count_of 78 lines ≡ 0
      → judged ≡ record { verdict = Good; noted = no_notes }

abbrev pub TheFirstLetterDecides : Type 0
TheFirstLetterDecides = (lines : List TextLine) → Decided lines (worst_line lines)

-- the numbers go by the same order: one line more never makes a schedule better, and each verdict has a number of its own
abbrev pub ALineMoreIsNeverBetter : Type 0
ALineMoreIsNeverBetter =
    (l : TextLine) (lines : List TextLine) → verdict_number (worst_line (l ∷ lines)).verdict ≤ verdict_number (worst_line lines).verdict

abbrev pub EachHasItsNumber : Type 0
EachHasItsNumber = (one other : Verdict) → verdict_number one ≡ verdict_number other → one ≡ other
