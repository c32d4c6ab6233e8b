-- One turn more of each loop of this crate, and what a column has at each place.
use Prim.Native.Nat.{ℕ, zero, suc, ◌+◌, ◌≤◌, ◌<◌}
use mathlib.Core.Path.{◌≡◌, refl, sym, ap, ◌∙◌}
use mathlib.Core.List.{List}
use mathlib.Core.Logic.{⊎_elim}
use native.Mathlib.Nat.{eq-or-lt_of_le}
use native.Mathlib.Omega.{arith}
use lib.ListN.{length, get_or, set, replicate, length-set}
use lib.Seq.{get_or-set_same, get_or-set_other}
use Rattle.lists.specs.Loops.{in_order}
use Rattle.lists.proofs.Laws.{in_order_none, in_order-more}
use Rattle.lists.proofs.Places.{place_default}
use Rattle.sums.specs.declared.SheetRow.{SheetRow}
use Rattle.sums.specs.Sheet.{empty_row, rows_of}

module _ (row : ℕ → SheetRow) where
  -- the rows of no lock, and of one lock more
  pub rows_none : replicate 64 empty_row ≡ rows_of row 0
  unfolding rows_of
  rows_none = sym (in_order_none (λ lock filled. set filled lock (row lock)) (replicate 64 empty_row))

  pub rows-more : (lock : ℕ) {rows : List SheetRow} {next : SheetRow} → rows ≡ rows_of row lock → next ≡ row lock → set rows lock next ≡ rows_of row (lock + 1)
  unfolding rows_of
  rows-more lock e h = (λ i. set (e i) lock (h i)) ∙ sym (in_order-more (λ lock filled. set filled lock (row lock)) lock (replicate 64 empty_row))

  -- there are 64 rows
  pub rows_long : (locks : ℕ) → length (rows_of row locks) ≡ 64
  unfolding rows_of in_order
  rows_long zero = refl
  rows_long (suc locks) = length-set (rows_of row locks) locks (row locks) ∙ rows_long locks

  -- those behind the locks are empty
  pub row_behind : (locks lock : ℕ) → locks ≤ lock → get_or (rows_of row locks) lock empty_row ≡ empty_row
  unfolding rows_of in_order
  row_behind zero lock above = place_default (λ r. r ≡ empty_row) empty_row 64 lock refl
  row_behind (suc locks) lock above =
      get_or-set_other (rows_of row locks) locks lock (row locks) empty_row (λ e. omega arith) ∙ row_behind locks lock (omega arith)

  -- at each of the locks the lock's row
  pub row-at : (locks lock : ℕ) → lock < locks → lock < 64 → get_or (rows_of row locks) lock empty_row ≡ row lock
  unfolding rows_of in_order
  row-at zero lock below room = absurd (omega arith)
  row-at (suc locks) lock below room =
      ⊎_elim
      (λ e. ap (λ (n : ℕ). get_or (set (rows_of row locks) locks (row locks)) n empty_row) e
      ∙ get_or-set_same (rows_of row locks) locks (row locks) empty_row (omega (arith, rows_long locks)) ∙ ap row (sym e))
      (λ before. get_or-set_other (rows_of row locks) locks lock (row locks) empty_row (λ e. omega arith) ∙ row-at locks lock before room)
      (eq-or-lt_of_le (omega arith))

-- two lists of the same rows
pub rows_same : (one other : ℕ → SheetRow) (locks : ℕ) → ((lock : ℕ) → lock < locks → one lock ≡ other lock) → rows_of one locks ≡ rows_of other locks
unfolding rows_of in_order
rows_same one other zero e = refl
rows_same one other (suc locks) e =
    (λ i. set (rows_same one other locks (λ lock below. e lock (omega arith)) i) locks (e locks (omega arith) i))
