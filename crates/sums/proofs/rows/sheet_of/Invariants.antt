-- The rows of the locks passed are the sheet's, and those behind them are empty.
use Rattle.std.proofs.Common.{◌≡◌}
use Rattle.sums.specs.Sheet.{lock_row, rows_of}
use Rattle.sums.proofs.rows.sheet_of.Given as goal

abbrev pub invariant-loop-lock : goal.invariant-loop-lock
invariant-loop-lock l = l.rows ≡ rows_of (lock_row l.numbers) l.lock
