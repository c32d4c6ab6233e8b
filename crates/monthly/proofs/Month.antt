-- The text of several night files is a text of runs: one run for each accepted file, in order, and one Q line for each refused one.
use Prim.Native.Nat.{ℕ, zero, suc, ◌+◌, ◌<◌}
use mathlib.Core.Path.{◌≡◌, refl, ap, ap₂}
use mathlib.Core.Bool.{cond}
use mathlib.Core.List.{List, [], ◌∷◌, ◌++◌}
use native.Mathlib.Omega.{arith}
use lib.Dec.{eqb}
use lib.ListN.{length, get_or}
use borrow.Author.Tests.{eqb-true, eqb-false}
use Rattle.lists.proofs.Tests.{by_value}
use Rattle.nightfile.specs.File.{file_number}
use Rattle.run.proofs.Sum.{refused-text}
use Rattle.gather.specs.Texts.{no_run, Piece, ran, left_out, Pieces, line_text, piece_text, pieces_text, runs_in, refused_in}
use Rattle.ownsheet.specs.Numbers.{night_ceiling}
use Rattle.monthly.specs.Monthly.{month_text, accepted_of, refused_count}
use Rattle.monthly.proofs.Runs.{Says, RunOf, run_of, refusal_line, refusal_right}

-- the text of these files as pieces, with these files accepted and so many refused
pub record MonthOf (files accepted : List (List ℕ)) (count : ℕ) : Type 0 where
  pub pieces : List Piece
  pub right : Pieces pieces
  pub text : month_text files ≡ pieces_text pieces
  pub refused : refused_in pieces ≡ count
  pub runs : length (runs_in pieces) ≡ length accepted
  pub each : (k : ℕ) → k < length accepted → Says (get_or accepted k []) (get_or (runs_in pieces) k no_run)

-- no files
no_files : MonthOf [] [] 0
unfolding month_text pieces_text refused_in runs_in
no_files =
    record { pieces = []; right = Pieces.none; text = refl; refused = refl; runs = refl; each = λ k below. absurd (omega (arith, below)) }

-- an accepted file more
accepted_more : (file : List ℕ) (files accepted : List (List ℕ)) (count : ℕ) → RunOf file → MonthOf files accepted count
    → MonthOf (file ∷ files) (file ∷ accepted) count
unfolding month_text pieces_text refused_in runs_in
accepted_more file files accepted count r m =
    record {
      pieces = ran r.run ∷ m.pieces;
      right = Pieces.one_run r.right m.right;
      text = ap₂ (λ (a b : List ℕ). a ++ b) r.text m.text;
      refused = m.refused;
      runs = ap suc m.runs;
      each = said;
    }
  where
    said : (k : ℕ) → k < length (file ∷ accepted) → Says (get_or (file ∷ accepted) k []) (get_or (r.run ∷ runs_in m.pieces) k no_run)
    said zero below = r.says
    said (suc k) below = m.each k (omega (arith, below))

-- a refused file more
refused-more : (file : List ℕ) (files accepted : List (List ℕ)) (count : ℕ) → (file_number file ≡ 0 → ⊥) → MonthOf files accepted count
    → MonthOf (file ∷ files) accepted (count + 1)
unfolding month_text pieces_text piece_text line_text refused_in runs_in
refused-more file files accepted count other m =
    record {
      pieces = left_out (refusal_line file) ∷ m.pieces;
      right = Pieces.one_refused (refusal_right file) m.right;
      text = ap₂ (λ (a b : List ℕ). a ++ b) (refused-text night_ceiling file other) m.text;
      refused = ap (λ (n : ℕ). n + 1) m.refused;
      runs = m.runs;
      each = m.each;
    }

-- all of them
pub month_of : (files : List (List ℕ)) → MonthOf files (accepted_of files) (refused_count files)
unfolding accepted_of refused_count
month_of [] = no_files
month_of (file ∷ files) =
    let rest = month_of files in
    by_value (λ b. MonthOf (file ∷ files) (cond b (file ∷ accepted_of files) (accepted_of files)) (cond b (refused_count files) (refused_count files + 1)))
    (eqb (file_number file) 0)
    (λ e. accepted_more file files (accepted_of files) (refused_count files) (run_of file (eqb-true _ 0 e)) rest)
    (λ e. refused-more file files (accepted_of files) (refused_count files) (eqb-false _ 0 e) rest)
