-- The sheet of no runs, which stands beside a refusal: nothing is summed, and it is empty.
use mathlib.Core.Path.{◌≡◌, refl}
use mathlib.Core.List.{[]}
use lib.Dec.{lit≤}
use Rattle.lists.specs.Loops.{every, in_order}
use Rattle.sums.specs.Sheet.{run_count, number_at, sheet_locks, runs_in_range, rows_of, empty_sheet, sheet_of, Summable}

pub none_summable : Summable []
unfolding run_count number_at sheet_locks runs_in_range every
none_summable = (lit≤ tt, lit≤ tt, refl)

pub sheet_of_none : sheet_of [] ≡ empty_sheet
unfolding sheet_of sheet_locks number_at rows_of in_order empty_sheet
sheet_of_none = refl
