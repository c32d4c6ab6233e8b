-- For callers of `fill`: the bytes that it uses are those that are written, and bytes of the buffer; and a loop that fills buffers ends.
use Prim.Native.Nat.{ℕ, ◌≤◌, ◌<◌}
use mathlib.Core.Path.{◌≡◌, refl, ◌∙◌, sym, ap, subst}
use mathlib.Core.Bool.{false}
use mathlib.Core.List.{List}
use native.Mathlib.Omega.{arith}
use lib.ListN.{length, drop, length-append}
use lib.Seq.{take_at}
use Rattle.course.specs.declared.Run.{Run}
use Rattle.run.specs.declared.Filled.{Filled}
use Rattle.course.specs.Whole.{Course, course}
use Rattle.run.specs.Filling.{written, filling, filled_buffer}
use Rattle.run.specs.Theorems.{TheUsedBytesAreWritten}
use Rattle.run.proofs.Buffers.{buffer_nearer}

pub used_written : TheUsedBytesAreWritten
unfolding filling filled_buffer
used_written buffer course = take_at (written (length buffer) course) _ _ refl

pub used_within : (buffer bytes : List ℕ) (course : Course) (answer : Filled) → answer ≡ filling (length buffer) course
    → bytes ≡ filled_buffer buffer course → answer.used ≤ length bytes
unfolding filling filled_buffer
used_within buffer bytes course answer a b =
    let text : List ℕ = written (length buffer) course in
    omega (arith, ap (λ (filled : Filled). filled.used) a, ap length b, length-append text (drop (length text) buffer))

pub fewer_left : (ceiling : ℕ) (schedule buffer : List ℕ) (run : Run) (answer : Filled) → answer ≡ filling (length buffer) (course ceiling schedule run)
    → 107 ≤ length buffer → answer.run.over ≡ false → length (course ceiling schedule answer.run).lines < length (course ceiling schedule run).lines
fewer_left ceiling schedule buffer run answer e enough o =
    let over : (filling (length buffer) (course ceiling schedule run)).run.over ≡ false = ap (λ (filled : Filled). filled.run.over) (sym e) ∙ o in
    subst (λ (filled : Filled). length (course ceiling schedule filled.run).lines < length (course ceiling schedule run).lines) (sym e)
    (buffer_nearer ceiling schedule (length buffer) run enough over)
