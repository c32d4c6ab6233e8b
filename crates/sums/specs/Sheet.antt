-- 02, item 13, "The monthly sheet": from the numbers of up to 400 runs, per lock and over all runs, busy steps, grants, N events and the busy share;
-- and the numbers 24, 25 and 26.
use Rattle.std.specs.Prelude.{ℕ, ◌+◌, ◌*◌, ◌/◌, ◌%◌, ◌≤◌, ◌≡◌, Bool, true, cond, not, ◌&&◌, List, map, eqb, ltb, leb, length, get_or, set, replicate, Result, Ok, Err}
use Rattle.lists.specs.Loops.{every, total, in_order}
use Rattle.lists.specs.Refusal.{refused_if}
use Rattle.sums.specs.declared.Sheet.{Sheet}
use Rattle.sums.specs.declared.SheetRow.{SheetRow}
use Rattle.sums.specs.declared.SheetRefusal.{SheetRefusal}
use Rattle.sums.specs.declared.SheetRefusal.TheVariants.{TooManyRuns, LocksWrong, OutOfRange}
use Rattle.sums.specs.declared.MadeSheet.{MadeSheet}

-- ---- the layout: one row of 194 numbers a run, the rows one behind the other

-- "Locks: 1 to 64": places for so many of each kind
abbrev pub lock_places : ℕ
lock_places = 64

abbrev pub run_width : ℕ
run_width = 194

-- in a row: the run's steps, its number of locks, then 64 places each for busy steps, grants and N events, lock 0 first
abbrev pub steps_place : ℕ
steps_place = 0

abbrev pub locks_place : ℕ
locks_place = 1

abbrev pub busy_place : ℕ
busy_place = 2

abbrev pub grants_place : ℕ
grants_place = 66

abbrev pub failed_place : ℕ
failed_place = 130

-- the runs whose rows are whole
unfoldable pub run_count : List ℕ → ℕ
run_count numbers = length numbers / run_width

-- the number at a place of a run's row
unfoldable pub number_at : List ℕ → ℕ → ℕ → ℕ
number_at numbers place run = get_or numbers (run * run_width + place) 0

-- the locks of the first run; where 25 is not given, of every run; 0 where there is no run
unfoldable pub sheet_locks : List ℕ → ℕ
sheet_locks numbers = number_at numbers locks_place 0

-- ---- refusals, "in this order"

-- "24 for more than 400 runs": a rest that is no whole row counts as a run
unfoldable pub too_many_runs : List ℕ → Bool
too_many_runs numbers = ltb (400 * run_width) (length numbers)

-- "25 when locks aren't 1 to 64 or differ between runs": those of a run are 1 to 64, and as many as the first run's
unfoldable pub locks_alike : List ℕ → ℕ → Bool
locks_alike numbers run =
    ltb 0 (number_at numbers locks_place run) && leb (number_at numbers locks_place run) lock_places
    && eqb (number_at numbers locks_place run) (sheet_locks numbers)

-- a rest that is no whole row is a run that has not told its locks
unfoldable pub locks_right : List ℕ → Bool
locks_right numbers = eqb (length numbers % run_width) 0 && every (locks_alike numbers) (run_count numbers)

-- "26 when a run has more than 1,000,000 steps, a lock's busy steps are above its run's steps, or its grants or N events are above 64 times
-- those steps"
unfoldable pub lock_in_range : List ℕ → ℕ → ℕ → Bool
lock_in_range numbers run lock =
    leb (number_at numbers (busy_place + lock) run) (number_at numbers steps_place run)
    && leb (number_at numbers (grants_place + lock) run) (64 * number_at numbers steps_place run)
    && leb (number_at numbers (failed_place + lock) run) (64 * number_at numbers steps_place run)

unfoldable pub run_in_range : List ℕ → ℕ → Bool
run_in_range numbers run = leb (number_at numbers steps_place run) 1000000 && every (lock_in_range numbers run) (sheet_locks numbers)

unfoldable pub runs_in_range : List ℕ → Bool
runs_in_range numbers = every (run_in_range numbers) (run_count numbers)

-- the number that the runs are refused with, over the whole input; 0: none
unfoldable pub sheet_number : List ℕ → ℕ
sheet_number numbers =
    refused_if (too_many_runs numbers) 24 (refused_if (not (locks_right numbers)) 25 (refused_if (not (runs_in_range numbers)) 26 0))

-- ---- the sheet

-- "over all runs": the sum of the numbers at a place of each row
unfoldable pub over_runs : List ℕ → ℕ → ℕ
over_runs numbers place = total (number_at numbers place) (run_count numbers)

-- "the busy share in whole parts per million rounded down, with 0 where no step ran"
unfoldable pub share_of : ℕ → ℕ → ℕ
share_of busy steps = cond (eqb steps 0) 0 (busy * 1000000 / steps)

-- "per lock": what the sheet says of one lock over all runs
unfoldable pub lock_row : List ℕ → ℕ → SheetRow
lock_row numbers lock =
    record {
      busy = over_runs numbers (busy_place + lock);
      grants = over_runs numbers (grants_place + lock);
      failed = over_runs numbers (failed_place + lock);
      share = share_of (over_runs numbers (busy_place + lock)) (over_runs numbers steps_place);
    }

abbrev pub empty_row : SheetRow
empty_row = record { busy = 0; grants = 0; failed = 0; share = 0 }

-- a row for each of the first locks, and an empty one behind them
unfoldable pub rows_of : (ℕ → SheetRow) → ℕ → List SheetRow
rows_of row locks = in_order (λ lock filled. set filled lock (row lock)) locks (replicate lock_places empty_row)

unfoldable pub empty_sheet : Sheet
empty_sheet = record { locks = 0; rows = replicate lock_places empty_row }

-- the sheet of all runs
unfoldable pub sheet_of : List ℕ → Sheet
sheet_of numbers = record { locks = sheet_locks numbers; rows = rows_of (lock_row numbers) (sheet_locks numbers) }

-- a sheet by its columns, each with a number for each place
abbrev pub busy_of : Sheet → List ℕ
busy_of sheet = map (λ row. row.busy) sheet.rows

abbrev pub grants_of : Sheet → List ℕ
grants_of sheet = map (λ row. row.grants) sheet.rows

abbrev pub failed_of : Sheet → List ℕ
failed_of sheet = map (λ row. row.failed) sheet.rows

abbrev pub shares_of : Sheet → List ℕ
shares_of sheet = map (λ row. row.share) sheet.rows

-- so that no sum of the runs overflows: they and their locks are few, and each of them is in range
abbrev pub Summable : List ℕ → Type 0
Summable numbers = (run_count numbers ≤ 400) × (sheet_locks numbers ≤ lock_places) × (runs_in_range numbers ≡ true)

-- ---- what is answered

-- a refusal's number in 02
unfoldable pub refusal_number : SheetRefusal → ℕ
refusal_number TooManyRuns = 24
refusal_number LocksWrong = 25
refusal_number OutOfRange = 26

-- an answer's number in 02; 0 where the sheet was made
unfoldable pub sheet_answer_number : Result Unit SheetRefusal → ℕ
sheet_answer_number (Ok nothing) = 0
sheet_answer_number (Err refusal) = refusal_number refusal

-- what an answer tells: its number and the sheet beside it
pub record Told : Type 0 where
  pub number : ℕ
  pub sheet : Sheet

unfoldable pub sheet_told : MadeSheet → Told
sheet_told made = record { number = sheet_answer_number made.answer; sheet = made.sheet }

-- "a refusal gives an empty sheet"
unfoldable pub making : List ℕ → Told
making numbers =
    record { number = sheet_number numbers; sheet = cond (eqb (sheet_number numbers) 0) (sheet_of numbers) empty_sheet }
