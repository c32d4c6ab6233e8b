-- 02, item 13: the sheet as it is written: one row a lock, ascending: lock, busy steps, grants, N events, share. A refusal is one line,
-- "0 Q number 0".
use Rattle.std.specs.Prelude.{ℕ, min, cond, List, [], ◌∷◌, ◌++◌, eqb, leb, length, get_or, drop}
use Rattle.lists.specs.Loops.{in_order}
use Rattle.lines.specs.Line.{Told, line, row}
use Rattle.sums.specs.declared.Sheet.{Sheet}
use Rattle.sums.specs.declared.MadeSheet.{MadeSheet}
use Rattle.sums.specs.Sheet.{lock_places, busy_of, grants_of, failed_of, shares_of, sheet_answer_number}

unfoldable pub sheet_row : Sheet → ℕ → List ℕ
sheet_row sheet lock =
    row lock (get_or (busy_of sheet) lock 0 ∷ get_or (grants_of sheet) lock 0 ∷ get_or (failed_of sheet) lock 0 ∷ get_or (shares_of sheet) lock 0 ∷ [])

-- the rows of the first locks
unfoldable pub sheet_rows : Sheet → ℕ → List ℕ
sheet_rows sheet locks = in_order (λ lock text. text ++ sheet_row sheet lock) locks []

-- all of them, or the refusal; a sheet has at most as many locks as there are places
unfoldable pub sheet_text : MadeSheet → List ℕ
sheet_text made =
    cond (eqb (sheet_answer_number made.answer) 0)
    (sheet_rows made.sheet (min made.sheet.locks lock_places))
    (line 0 81 (sheet_answer_number made.answer ∷ 0 ∷ []))

-- the writer of sheets asks for room for any sheet, 64 rows of at most 105 bytes; 16 leaves the buffer as it was
abbrev pub sheet_room : ℕ
sheet_room = 6720

unfoldable pub sheet_writing : List ℕ → MadeSheet → Told
sheet_writing buffer made =
    cond (leb sheet_room (length buffer)) (record { number = 0; length = length (sheet_text made) }) (record { number = 16; length = 0 })

unfoldable pub buffer_after_sheet : List ℕ → MadeSheet → List ℕ
buffer_after_sheet buffer made =
    cond (leb sheet_room (length buffer)) (sheet_text made ++ drop (length (sheet_text made)) buffer) buffer
