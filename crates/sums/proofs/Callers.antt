-- For a caller of the writer of sheets: the length that is told lies within the buffer.
use Rattle.std.specs.Prelude.{Result, Ok}
use Prim.Native.Nat.{ℕ, ◌≤◌}
use mathlib.Core.Path.{◌≡◌, sym, ap, ◌∙◌}
use mathlib.Core.Bool.{Bool, true, false, cond}
use mathlib.Core.List.{List, ◌++◌}
use native.Mathlib.Omega.{arith}
use lib.Dec.{leb}
use lib.ListN.{length, take, drop, length-append}
use lib.Seq.{take-append_seam}
use borrow.Author.Tests.{le-leb}
use Rattle.lines.proofs.Behind.{written_by}
use Rattle.lines.specs.declared.TooShort.{TooShort}
use Rattle.lines.specs.Line.{Told, written_length, written_told}
use Rattle.sums.specs.declared.MadeSheet.{MadeSheet}
use Rattle.sums.specs.Text.{sheet_room, sheet_text, sheet_writing, buffer_after_sheet}

told_length : (fits : Bool) (n : ℕ) {told : Told} → told ≡ cond fits (record { number = 0; length = n }) (record { number = 16; length = 0 })
    → told.length ≡ cond fits n 0
told_length true n e = ap (λ (t : Told). t.length) e
told_length false n e = ap (λ (t : Told). t.length) e

within : (fits : Bool) (n : ℕ) (text rest buffer after : List ℕ) → n ≡ cond fits (length text) 0 → after ≡ cond fits (text ++ rest) buffer → n ≤ length after
within true n text rest buffer after e f = omega (arith, e, ap length f, length-append text rest)
within false n text rest buffer after e f = omega (arith, e)

pub length-within : (answer : Result ℕ TooShort) (n : ℕ) (buffer after : List ℕ) (made : MadeSheet) → answer ≡ Ok n → written_told answer ≡ sheet_writing buffer made
    → after ≡ buffer_after_sheet buffer made → n ≤ length after
unfolding written_told written_length sheet_writing buffer_after_sheet
length-within answer n buffer after made e told f =
    within (leb sheet_room (length buffer)) n (sheet_text made) (drop (length (sheet_text made)) buffer) buffer after
    (ap written_length (sym e) ∙ told_length (leb sheet_room (length buffer)) (length (sheet_text made)) told) f

-- and where there is room for any sheet, it is written whole, at the buffer's start
module _ (answer : Result ℕ TooShort) (buffer after : List ℕ) (made : MadeSheet) (room : sheet_room ≤ length buffer)
    (told : written_told answer ≡ sheet_writing buffer made) (rest : after ≡ buffer_after_sheet buffer made) where
  fits : leb sheet_room (length buffer) ≡ true
  fits = le-leb _ _ room

  pub sheet_written : answer ≡ Ok (length (sheet_text made))
  unfolding sheet_writing
  sheet_written = written_by answer (length (sheet_text made)) (simp fits at told)

  pub sheet_whole : {n : ℕ} → answer ≡ Ok n → (n ≤ length after) × (take n after ≡ sheet_text made)
  unfolding buffer_after_sheet
  sheet_whole {n} e =
      let text = sheet_text made in
      let long : n ≡ length text = cc (e, sheet_written) in
      let same : after ≡ text ++ drop (length text) buffer = simp fits at rest in
      (omega (arith, long, ap length same, length-append text (drop (length text) buffer)), ap (λ (m : ℕ). take m after) long ∙ ap (take (length text)) same ∙ take-append_seam text _)
