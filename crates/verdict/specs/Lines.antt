-- The verdict on a schedule, said of its lines: which of them bear a letter, and which letter decides.
use Rattle.std.specs.Prelude.{ℕ, ◌+◌, ◌-◌, ◌^◌, ◌≤◌, min, cond, List, [], ◌∷◌, ◌++◌, eqb, length, get_or}
use Rattle.gather.specs.Texts.{TextLine, no_line, RunLines, Piece, ran, left_out}
use Rattle.verdict.specs.declared.Noted.{Noted}
use Rattle.verdict.specs.declared.Judged.{Judged}
use Rattle.verdict.specs.Verdicts.{worst}

-- how many lines bear a letter, and the first of them
unfoldable pub count_of : ℕ → List TextLine → ℕ
count_of letter [] = 0
count_of letter (l ∷ rest) = cond (eqb l.letter letter) 1 0 + count_of letter rest

unfoldable pub first_of : ℕ → List TextLine → TextLine
first_of letter [] = no_line
first_of letter (l ∷ rest) = cond (eqb l.letter letter) l (first_of letter rest)

-- the number of 64 bits, and what the first line says: its steps and its first two numbers
unfoldable pub notes_of : ℕ → List TextLine → Noted
notes_of letter lines =
    record {
      count = min (count_of letter lines) (2 ^ 64 - 1);
      steps = (first_of letter lines).steps;
      first = get_or (first_of letter lines).numbers 0 0;
      second = get_or (first_of letter lines).numbers 1 0;
    }

-- the lines of a run, or of a refused one
unfoldable pub lines_in : Piece → List TextLine
lines_in (ran run) = run.deeds ++ (run.locks ++ (run.last ∷ []))
lines_in (left_out l) = l ∷ []

-- Q, X, C, L, N: the first of these letters that some line bears decides
unfoldable pub worst_line : List TextLine → Judged
worst_line lines = worst (notes_of 81 lines) (notes_of 88 lines) (notes_of 67 lines) (notes_of 76 lines) (notes_of 78 lines)

-- a run has 1 to 64 H lines
pub data LocksFit : Piece → Type 0 where
  of_a_run : {run : RunLines} → 1 ≤ length run.locks → length run.locks ≤ 64 → LocksFit (ran run)
  of_a_refusal : {l : TextLine} → LocksFit (left_out l)
