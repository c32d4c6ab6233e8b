-- That the runs are in range bounds every sum.
use Rattle.std.proofs.Common.{arith}
use Rattle.sums.specs.Sheet.{lock_row}
use Rattle.sums.proofs.Ranges.{busy_small, grants_small, failed_small, busy-sum_small}
use Rattle.sums.proofs.rows.row_of.Goals as goal

pub over_runs-busy-requires : goal.over_runs-busy-requires
over_runs-busy-requires c =
    let asked = c.requires in
    (asked.runs.0, omega arith, busy_small c.args.numbers.now asked.runs c.args.lock asked.lock)

pub over_runs-grants-requires : goal.over_runs-grants-requires
over_runs-grants-requires c =
    let asked = c.requires in
    (asked.runs.0, omega arith, grants_small c.args.numbers.now asked.runs c.args.lock asked.lock)

pub over_runs-failed-requires : goal.over_runs-failed-requires
over_runs-failed-requires c =
    let asked = c.requires in
    (asked.runs.0, omega arith, failed_small c.args.numbers.now asked.runs c.args.lock asked.lock)

pub share_of-share-requires : goal.share_of-share-requires
share_of-share-requires c = omega (arith, busy-sum_small c.args.numbers.now c.requires.runs c.args.lock c.requires.lock)

pub returns : goal.returns
unfolding lock_row
returns c = cc
