-- The rows of the locks passed are the sheet's, and those behind them are empty.
use Rattle.std.proofs.Common.{◌≡◌, ap, ◌∙◌, rules, arith}
use Rattle.sums.specs.Sheet.{sheet_locks, lock_row, rows_of, sheet_of}
use Rattle.sums.proofs.Ranges.{steps_small}
use Rattle.sums.proofs.Laws.{rows_none, rows-more}
use Rattle.sums.proofs.rows.sheet_of.Goals as goal

pub over_runs-steps-requires : goal.over_runs-steps-requires
over_runs-steps-requires c = (c.requires.0, search rules, steps_small c.args.numbers.now c.requires)

pub loop-lock-init : goal.loop-lock-init
loop-lock-init c = rows_none (lock_row c.args.numbers.now)

pub loop-lock-preserved : goal.loop-lock-preserved
loop-lock-preserved c = rows-more (lock_row c.args.numbers.now) c.loop-lock.lock c.loop-lock.invariant c.row_of.ensures

pub returns : goal.returns
unfolding sheet_of
returns c =
    let numbers = c.args.numbers.now in
    let done : c.loop-lock.lock ≡ sheet_locks numbers = omega arith in
    λ i. record { locks = c.sheet_locks-locks.ensures i; rows = (c.loop-lock.invariant ∙ ap (rows_of (lock_row numbers)) done) i }
