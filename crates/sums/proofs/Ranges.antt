-- What the tests of the runs give: the locks of runs that are not refused with 25, and the bounds of those that are not refused with 26.
use Prim.Native.Nat.{ℕ, ◌+◌, ◌*◌, ◌%◌, ◌≤◌, ◌<◌}
use mathlib.Core.Path.{◌≡◌}
use mathlib.Core.Bool.{Bool, true, ◌&&◌}
use mathlib.Core.List.{List}
use mathlib.Core.Logic.{⊎_elim}
use native.Mathlib.Omega.{arith}
use lib.Dec.{eqb, ltb, leb}
use lib.ListN.{length, get_or-eq_default}
use borrow.Author.Tests.{leb-true, eqb-true}
use Rattle.lists.specs.Loops.{every}
use Rattle.lists.proofs.Laws.{and_left, and_right, every-at, total_at_most}
use Rattle.lists.proofs.Tests.{at_most_or_above}
use Rattle.sums.specs.Sheet.{steps_place, locks_place, busy_place, grants_place, failed_place, run_count, number_at, sheet_locks, locks_alike, locks_right, lock_in_range, run_in_range, runs_in_range, over_runs, Summable}

-- ---- 25 is not given

-- the rows are whole, and the locks of each run are alike
pub rows_whole : (numbers : List ℕ) → locks_right numbers ≡ true → length numbers % 194 ≡ 0
unfolding locks_right
rows_whole numbers e = eqb-true _ _ (and_left (eqb (length numbers % 194) 0) (every (locks_alike numbers) (run_count numbers)) e)

pub run_alike : (numbers : List ℕ) (run : ℕ) → locks_right numbers ≡ true → run < run_count numbers → locks_alike numbers run ≡ true
unfolding locks_right
run_alike numbers run e below =
    every-at (locks_alike numbers) (run_count numbers) run (and_right (eqb (length numbers % 194) 0) (every (locks_alike numbers) (run_count numbers)) e) below

-- they are the sheet's
pub run_locks : (numbers : List ℕ) (run : ℕ) → locks_right numbers ≡ true → run < run_count numbers → number_at numbers locks_place run ≡ sheet_locks numbers
unfolding locks_alike
run_locks numbers run e below =
    let locks : ℕ = number_at numbers locks_place run in
    eqb-true _ _ (and_right (ltb 0 locks && leb locks 64) (eqb locks (sheet_locks numbers)) (run_alike numbers run e below))

-- no number, no lock
no_locks : (numbers : List ℕ) → length numbers ≤ 1 → sheet_locks numbers ≡ 0
unfolding sheet_locks number_at
no_locks numbers short = get_or-eq_default numbers 0 short

first_locks : (numbers : List ℕ) → locks_alike numbers 0 ≡ true → sheet_locks numbers ≤ 64
unfolding locks_alike sheet_locks
first_locks numbers e =
    let some : Bool = ltb 0 (number_at numbers locks_place 0) in
    let few : Bool = leb (number_at numbers locks_place 0) 64 in
    let same : Bool = eqb (number_at numbers locks_place 0) (number_at numbers locks_place 0) in
    leb-true _ _ (and_right some few (and_left (some && few) same e))

-- no run, no lock
no_run : (numbers : List ℕ) → locks_right numbers ≡ true → run_count numbers ≤ 0 → sheet_locks numbers ≡ 0
unfolding run_count
no_run numbers e none = no_locks numbers (omega (arith, rows_whole numbers e))

pub locks_few : (numbers : List ℕ) → locks_right numbers ≡ true → sheet_locks numbers ≤ 64
locks_few numbers e =
    ⊎_elim
    (λ none. omega (arith, no_run numbers e none))
    (λ some. first_locks numbers (run_alike numbers 0 e some))
    (at_most_or_above (run_count numbers) 0)

-- ---- 26 is not given

pub record LockFits (numbers : List ℕ) (run lock : ℕ) : Type 0 where
  pub busy : number_at numbers (busy_place + lock) run ≤ number_at numbers steps_place run
  pub grants : number_at numbers (grants_place + lock) run ≤ 64 * number_at numbers steps_place run
  pub failed : number_at numbers (failed_place + lock) run ≤ 64 * number_at numbers steps_place run

lock_fits_by : (numbers : List ℕ) (run lock : ℕ) → lock_in_range numbers run lock ≡ true → LockFits numbers run lock
unfolding lock_in_range
lock_fits_by numbers run lock e =
    let steps : ℕ = number_at numbers steps_place run in
    let busy : Bool = leb (number_at numbers (busy_place + lock) run) steps in
    let grants : Bool = leb (number_at numbers (grants_place + lock) run) (64 * steps) in
    let failed : Bool = leb (number_at numbers (failed_place + lock) run) (64 * steps) in
    record {
      busy = leb-true _ _ (and_left busy grants (and_left (busy && grants) failed e));
      grants = leb-true _ _ (and_right busy grants (and_left (busy && grants) failed e));
      failed = leb-true _ _ (and_right (busy && grants) failed e);
    }

module _ (numbers : List ℕ) {runs : ℕ} (right : every (run_in_range numbers) runs ≡ true) (run : ℕ) (below : run < runs) where
  run_right : run_in_range numbers run ≡ true
  run_right = every-at (run_in_range numbers) runs run right below

  pub run_steps : number_at numbers steps_place run ≤ 1000000
  unfolding run_in_range
  run_steps = leb-true _ _ (and_left (leb (number_at numbers steps_place run) 1000000) (every (lock_in_range numbers run) (sheet_locks numbers)) run_right)

  pub lock_fits : (lock : ℕ) → lock < sheet_locks numbers → LockFits numbers run lock
  unfolding run_in_range
  lock_fits lock l =
      lock_fits_by numbers run lock
      (every-at (lock_in_range numbers run) (sheet_locks numbers) lock (and_right (leb (number_at numbers steps_place run) 1000000) (every (lock_in_range numbers run) (sheet_locks numbers)) run_right) l)

-- ---- so that no sum overflows: each number that is summed is at most 64,000,000, and there are at most 400 runs

module _ (numbers : List ℕ) (right : Summable numbers) where
  in_range : every (run_in_range numbers) (run_count numbers) ≡ true
  unfolding runs_in_range
  in_range = right.2

  pub steps_small : (run : ℕ) → run < run_count numbers → number_at numbers 0 run ≤ 64000000
  steps_small run below = omega (arith, run_steps numbers in_range run below)

  -- busy steps, grants, N events of a lock
  module _ (lock : ℕ) (there : lock < sheet_locks numbers) where
    pub busy_small : (run : ℕ) → run < run_count numbers → number_at numbers (2 + lock) run ≤ 64000000
    busy_small run below = omega (arith, run_steps numbers in_range run below, (lock_fits numbers in_range run below lock there).busy)

    pub grants_small : (run : ℕ) → run < run_count numbers → number_at numbers (66 + lock) run ≤ 64000000
    grants_small run below = omega (arith, run_steps numbers in_range run below, (lock_fits numbers in_range run below lock there).grants)

    pub failed_small : (run : ℕ) → run < run_count numbers → number_at numbers (130 + lock) run ≤ 64000000
    failed_small run below = omega (arith, run_steps numbers in_range run below, (lock_fits numbers in_range run below lock there).failed)

    pub busy-sum_small : over_runs numbers (2 + lock) ≤ 25600000000
    unfolding over_runs
    busy-sum_small = omega (arith, right.0, total_at_most (number_at numbers (2 + lock)) 64000000 (run_count numbers) busy_small)
