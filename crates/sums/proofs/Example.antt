-- The small sheet, by computation.
use mathlib.Core.Path.{refl}
use Rattle.lists.specs.Loops.{every, total, in_order}
use Rattle.lists.specs.Refusal.{refused_if}
use Rattle.lines.specs.Line.{digit, digits, decimal, spaced, row}
use Rattle.sums.specs.Sheet.{run_count, number_at, sheet_locks, too_many_runs, locks_alike, locks_right, lock_in_range, run_in_range, runs_in_range, sheet_number, over_runs, share_of, lock_row, rows_of, empty_sheet, sheet_of, making}
use Rattle.sums.specs.Text.{sheet_row, sheet_rows}
use Rattle.sums.specs.Example.{one_lock, two_runs, ThePencilSheet}

pub the_pencil_sheet : ThePencilSheet
unfolding every total in_order refused_if digit digits decimal spaced row run_count number_at sheet_locks too_many_runs locks_alike locks_right lock_in_range
    run_in_range runs_in_range sheet_number over_runs share_of lock_row rows_of empty_sheet sheet_of making sheet_row sheet_rows one_lock two_runs
the_pencil_sheet = refl
