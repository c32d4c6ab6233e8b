-- The rows of the locks passed stand at the buffer's start.
use Rattle.std.proofs.Common.{ℕ, ◌<◌, ◌∙◌, ◌++◌, List, sym, ap, length, take, drop, length-take, arith}
use Rattle.std.proofs.lemmas.List.{get_or-take}
use Rattle.lines.specs.Line.{buffer_after}
use Rattle.sums.specs.Sheet.{empty_row}
use Rattle.sums.proofs.Written.{sheet-row_most, sheet-row_read, written_none, written_row}
use Rattle.sums.proofs.writing.put_rows.Goals as goal

pub loop-lock-init : goal.loop-lock-init
loop-lock-init c = written_none _ _

pub overflow_add-used : goal.overflow_add-used
overflow_add-used c =
    let sheet = c.args.sheet in
    let lock = c.loop-lock.lock in
    let below : lock < c.min-locks.result = omega (arith, length-take c.min-locks.result sheet.rows) in
    let read = sheet-row_read sheet lock (get_or-take c.min-locks.result sheet.rows lock empty_row below) in
    omega (arith, ap length read, sheet-row_most sheet lock)

pub loop-lock-preserved : goal.loop-lock-preserved
loop-lock-preserved c =
    let sheet = c.args.sheet in
    let so = c.loop-lock in
    let put = c.put_row-used in
    let below : so.lock < c.min-locks.result = omega (arith, length-take c.min-locks.result sheet.rows) in
    let read = sheet-row_read sheet so.lock (get_or-take c.min-locks.result sheet.rows so.lock empty_row below) in
    written_row sheet c.args.buffer.now so.lock so.used so.buffer put.new.buffer put.result so.invariant (omega arith) (put.ensures.value ∙ ap length (sym read))
    (put.ensures.buffer_after ∙ ap (λ (text : List ℕ). take so.used so.buffer ++ buffer_after (drop so.used so.buffer) text) (sym read)) (omega arith)
