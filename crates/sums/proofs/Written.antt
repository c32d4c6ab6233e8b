-- The rows of a sheet as they are written: their lengths, and the loop that puts one behind the other.
use Rattle.std.specs.Prelude.{Result, Ok, Err}
use Prim.Native.Nat.{ℕ, zero, suc, ◌+◌, ◌-◌, ◌*◌, ◌≤◌, min}
use mathlib.Core.Path.{◌≡◌, refl, sym, ap, ◌∙◌}
use mathlib.Core.Bool.{Bool, true, false, cond}
use mathlib.Core.List.{List, [], ◌∷◌, ◌++◌, append_assoc}
use native.Mathlib.Omega.{arith}
use lib.Dec.{eqb, leb, lit≤}
use lib.ListN.{length, get_or, get_or-map, take, drop, length-append, length-drop}
use lib.Seq.{take_at, drop_at, drop-drop}
use borrow.Author.Tests.{le-leb}
use Rattle.lists.specs.Loops.{in_order}
use Rattle.lists.proofs.Laws.{in_order_none, in_order-more}
use Rattle.lines.specs.Line.{line, row, buffer_after, writing, written_told}
use Rattle.lines.specs.declared.TooShort.{TooShort}
use Rattle.lines.proofs.Behind.{text_written}
use Rattle.lines.proofs.Laws.{line-length_most, row-length_most}
use Rattle.sums.specs.declared.Sheet.{Sheet}
use Rattle.sums.specs.declared.SheetRow.{SheetRow}
use Rattle.sums.specs.declared.SheetRefusal.{SheetRefusal}
use Rattle.sums.specs.declared.SheetRefusal.TheVariants.{TooManyRuns, LocksWrong, OutOfRange}
use Rattle.sums.specs.declared.MadeSheet.{MadeSheet}
use Rattle.sums.specs.Sheet.{empty_row, refusal_number, sheet_answer_number}
use Rattle.sums.specs.Text.{sheet_row, sheet_rows, sheet_text, sheet_writing, buffer_after_sheet}

-- a lock's row is written where there is room for any row
pub row_written : (w : Result ℕ TooShort) (buffer : List ℕ) (used lock : ℕ) (n : SheetRow) → used + 105 ≤ length buffer
    → written_told w ≡ writing (take (length buffer - used) (drop used buffer)) (row lock (n.busy ∷ n.grants ∷ n.failed ∷ n.share ∷ []))
    → w ≡ Ok (length (row lock (n.busy ∷ n.grants ∷ n.failed ∷ n.share ∷ [])))
row_written w buffer used lock n room told =
    let text : List ℕ = row lock (n.busy ∷ n.grants ∷ n.failed ∷ n.share ∷ []) in
    let fits : used + length text ≤ length buffer = omega (arith, row-length_most lock (n.busy ∷ n.grants ∷ n.failed ∷ n.share ∷ []) (lit≤ tt)) in
    text_written w buffer text used fits told

-- a lock's row is short
pub sheet-row_most : (sheet : Sheet) (lock : ℕ) → length (sheet_row sheet lock) ≤ 105
unfolding sheet_row
sheet-row_most sheet lock = row-length_most lock _ (lit≤ tt)

-- the rows of no lock, and of one lock more
pub rows_none : (sheet : Sheet) → sheet_rows sheet 0 ≡ []
unfolding sheet_rows
rows_none sheet = in_order_none (λ lock text. text ++ sheet_row sheet lock) []

pub rows_more : (sheet : Sheet) (lock : ℕ) → sheet_rows sheet (lock + 1) ≡ sheet_rows sheet lock ++ sheet_row sheet lock
unfolding sheet_rows
rows_more sheet lock = in_order-more (λ lock text. text ++ sheet_row sheet lock) lock []

pub rows_most : (sheet : Sheet) (locks : ℕ) → length (sheet_rows sheet locks) ≤ 105 * locks
unfolding sheet_rows in_order
rows_most sheet zero = omega arith
rows_most sheet (suc locks) =
    omega (arith, length-append (sheet_rows sheet locks) (sheet_row sheet locks), rows_most sheet locks, sheet-row_most sheet locks)

-- the loop over the locks: so many rows are written at the start of the buffer, and behind them it is as it was
pub record RowsWritten (sheet : Sheet) (buffer : List ℕ) (lock used : ℕ) (bytes : List ℕ) : Type 0 where
  pub text : bytes ≡ sheet_rows sheet lock ++ drop (length (sheet_rows sheet lock)) buffer
  pub count : used ≡ length (sheet_rows sheet lock)
  pub most : used ≤ 105 * lock
  pub long : length bytes ≡ length buffer

pub written_none : (sheet : Sheet) (buffer : List ℕ) → RowsWritten sheet buffer 0 0 buffer
written_none sheet buffer = record { text = rw (rows_none sheet); count = rw (rows_none sheet); most = omega arith; long = refl }

-- one row more
pub written_row : (sheet : Sheet) (buffer : List ℕ) (lock used : ℕ) (bytes next : List ℕ) (n : ℕ) → RowsWritten sheet buffer lock used bytes → used + 105 ≤ length bytes
    → n ≡ length (sheet_row sheet lock) → next ≡ take used bytes ++ buffer_after (drop used bytes) (sheet_row sheet lock) → length next ≡ length buffer
    → RowsWritten sheet buffer (lock + 1) (used + n) next
unfolding buffer_after
written_row sheet buffer lock used bytes next n so room told e long =
    let rows = sheet_rows sheet lock in
    let here = sheet_row sheet lock in
    let short : length here ≤ length (drop used bytes) = omega (arith, length-drop used bytes, sheet-row_most sheet lock) in
    let fits : leb (length here) (length (drop used bytes)) ≡ true = le-leb _ _ short in
    let front : take used bytes ≡ rows = ap (take used) so.text ∙ take_at rows _ used (sym so.count) in
    let behind : drop used bytes ≡ drop used buffer = ap (drop used) so.text ∙ drop_at rows _ used (sym so.count) ∙ ap (λ (k : ℕ). drop k buffer) (sym so.count) in
    let both : length (sheet_rows sheet (lock + 1)) ≡ used + length here = ap length (rows_more sheet lock) ∙ length-append rows here ∙ ap (λ (k : ℕ). k + length here) (sym so.count) in
    record {
      text =
          e ∙ ap (λ (b : Bool). take used bytes ++ cond b (here ++ drop (length here) (drop used bytes)) (drop used bytes)) fits
          ∙ (λ i. front i ++ (here ++ drop (length here) (behind i)))
          ∙ sym (append_assoc rows here (drop (length here) (drop used buffer)))
          ∙ (λ i. sym (rows_more sheet lock) i ++ drop-drop (length here) used buffer i)
          ∙ ap (λ (k : ℕ). sheet_rows sheet (lock + 1) ++ drop k buffer) (sym both);
      count = omega (arith, both, told);
      most = omega (arith, so.most, told, sheet-row_most sheet lock);
      long = long;
    }

-- the row that is read of the sheet
pub sheet-row_read : (sheet : Sheet) (lock : ℕ) {n : SheetRow} → n ≡ get_or sheet.rows lock empty_row
    → sheet_row sheet lock ≡ row lock (n.busy ∷ n.grants ∷ n.failed ∷ n.share ∷ [])
unfolding sheet_row
sheet-row_read sheet lock {n} e =
    simp (
      get_or-map (λ row. row.busy) sheet.rows lock empty_row,
      get_or-map (λ row. row.grants) sheet.rows lock empty_row,
      get_or-map (λ row. row.failed) sheet.rows lock empty_row,
      get_or-map (λ row. row.share) sheet.rows lock empty_row,
      ← e,
    )

-- ---- the whole text

-- of a sheet that was made, and of a refusal
pub text_made : (made : MadeSheet) {nothing : Unit} → made.answer ≡ Ok nothing → sheet_text made ≡ sheet_rows made.sheet (min made.sheet.locks 64)
unfolding sheet_text sheet_answer_number
text_made made e = simp e

refusal_some : (refusal : SheetRefusal) → eqb (refusal_number refusal) 0 ≡ false
unfolding refusal_number
refusal_some TooManyRuns = refl
refusal_some LocksWrong = refl
refusal_some OutOfRange = refl

pub text-refused : (made : MadeSheet) {refusal : SheetRefusal} → made.answer ≡ Err refusal → sheet_text made ≡ line 0 81 (refusal_number refusal ∷ 0 ∷ [])
unfolding sheet_text sheet_answer_number
text-refused made {refusal} e = simp (e, refusal_some refusal)

-- what is told and what stands in the buffer, where it has room for any sheet
module _ (buffer : List ℕ) (made : MadeSheet) (room : 6720 ≤ length buffer) where
  pub sheet_told_lem : sheet_writing buffer made ≡ record { number = 0; length = length (sheet_text made) }
  unfolding sheet_writing
  sheet_told_lem = simp (le-leb 6720 (length buffer) room)

  pub sheet_put : buffer_after_sheet buffer made ≡ sheet_text made ++ drop (length (sheet_text made)) buffer
  unfolding buffer_after_sheet
  sheet_put = simp (le-leb 6720 (length buffer) room)

-- the line of a refusal fits there
refusal_fits : (buffer : List ℕ) (number : ℕ) → 6720 ≤ length buffer → leb (length (line 0 81 (number ∷ 0 ∷ []))) (length buffer) ≡ true
refusal_fits buffer number room =
    let text : List ℕ = line 0 81 (number ∷ 0 ∷ []) in
    let short : length text ≤ length buffer = omega (arith, line-length_most 0 81 (number ∷ 0 ∷ []) (lit≤ tt)) in
    le-leb (length text) (length buffer) short

module _ (buffer : List ℕ) (number : ℕ) (room : 6720 ≤ length buffer) where
  pub refusal_told : writing buffer (line 0 81 (number ∷ 0 ∷ [])) ≡ record { number = 0; length = length (line 0 81 (number ∷ 0 ∷ [])) }
  unfolding writing
  refusal_told = simp (refusal_fits buffer number room)

  pub refusal_put : buffer_after buffer (line 0 81 (number ∷ 0 ∷ [])) ≡ line 0 81 (number ∷ 0 ∷ []) ++ drop (length (line 0 81 (number ∷ 0 ∷ []))) buffer
  unfolding buffer_after
  refusal_put = simp (refusal_fits buffer number room)
