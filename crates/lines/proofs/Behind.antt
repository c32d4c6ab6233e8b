-- A line that is written behind the bytes that are used.
use Rattle.std.specs.Prelude.{Result, Ok, Err, Some, None}
use Rattle.std.specs.Result.{result_ok}
use Prim.Native.Nat.{ℕ, ◌+◌, ◌-◌, ◌≤◌}
use mathlib.Core.Path.{◌≡◌, refl, ◌∙◌, ap}
use mathlib.Core.Bool.{Bool, true, false, cond}
use mathlib.Core.List.{List}
use native.Mathlib.Omega.{arith}
use lib.Dec.{leb}
use lib.ListN.{length, take, drop, length-drop}
use borrow.Author.Tests.{le-leb}
use lib.Seq.{take_all}
use Rattle.lines.specs.declared.TooShort.{TooShort}
use Rattle.lines.specs.Line.{Told, written_number, written_length, written_told, writing}

-- a part of the buffer up to its end
pub rest_whole : (buffer : List ℕ) (used : ℕ) → take (length buffer - used) (drop used buffer) ≡ drop used buffer
rest_whole buffer used = let short : length (drop used buffer) ≤ length buffer - used = omega (arith, length-drop used buffer) in take_all (length buffer - used) (drop used buffer) short

-- what is told of a text that is written, and of one that is refused
pub written_by : (w : Result ℕ TooShort) (n : ℕ) → written_told w ≡ record { number = 0; length = n } → w ≡ Ok n
unfolding written_told written_number written_length
written_by (Ok m) n e = ap Ok (ap (λ (t : Told). t.length) e)
written_by (Err e) n told = let none : 16 ≡ 0 = ap (λ (t : Told). t.number) told in absurd (omega (arith, none))

refused_by : (w : Result ℕ TooShort) → written_told w ≡ record { number = 16; length = 0 } → result_ok w ≡ None
unfolding written_told written_number written_length
refused_by (Ok n) told = let some : 0 ≡ 16 = ap (λ (t : Told). t.number) told in absurd (omega (arith, some))
refused_by (Err e) told = refl

-- the length that is told behind the used bytes, if the text fits there
told_by : (fits : Bool) (w : Result ℕ TooShort) (n : ℕ) → written_told w ≡ cond fits (record { number = 0; length = n }) (record { number = 16; length = 0 })
    → result_ok w ≡ cond fits (Some n) None
told_by true w n e = ap result_ok (written_by w n e)
told_by false w n e = refused_by w e

pub length_told : (w : Result ℕ TooShort) (buffer text : List ℕ) (used : ℕ) → written_told w ≡ writing (take (length buffer - used) (drop used buffer)) text
    → result_ok w ≡ cond (leb (length text) (length buffer - used)) (Some (length text)) None
unfolding writing
length_told w buffer text used e =
    let long : length (take (length buffer - used) (drop used buffer)) ≡ length buffer - used = ap length (rest_whole buffer used) ∙ length-drop used buffer in
    told_by (leb (length text) (length buffer - used)) w (length text)
    (e ∙ ap (λ (n : ℕ). cond (leb (length text) n) (record { number = 0; length = length text }) (record { number = 16; length = 0 })) long)

-- so a text that fits behind the used bytes is written
pub text_written : (w : Result ℕ TooShort) (buffer text : List ℕ) (used : ℕ) → used + length text ≤ length buffer
    → written_told w ≡ writing (take (length buffer - used) (drop used buffer)) text → w ≡ Ok (length text)
unfolding writing
text_written w buffer text used room told =
    let fits : length text ≤ length (take (length buffer - used) (drop used buffer)) =
    omega (arith, ap length (rest_whole buffer used), length-drop used buffer) in
    written_by w (length text) (simp (le-leb _ _ fits) at told)
