-- The rows of the locks passed stand at the buffer's start.
use Rattle.sums.proofs.Written.{RowsWritten}
use Rattle.sums.proofs.writing.put_rows.Given as goal

abbrev pub invariant-loop-lock : goal.invariant-loop-lock
invariant-loop-lock l = RowsWritten l.fn.sheet l.initial.buffer l.lock l.used l.buffer
