-- The rows of the runs of accepted files: what the sheet answers, 24, 25 or nothing, and never 26.
use Prim.Native.Nat.{ℕ, zero, suc, ◌+◌, ◌*◌, ◌%◌, ◌≤◌, ◌<◌}
use mathlib.Core.Path.{◌≡◌, refl, ◌∙◌, sym, ap}
use mathlib.Core.Bool.{Bool, true, false, not, ◌&&◌}
use mathlib.Core.List.{List, [], ◌∷◌, append-nil}
use native.Mathlib.Omega.{arith}
use lib.Dec.{eqb, ltb, leb}
use lib.ListN.{length, get_or}
use borrow.Author.Tests.{lt-ltb, le-ltb, le-leb, eq-eqb, eqb-true}
use Rattle.lists.specs.Loops.{every}
use Rattle.lists.specs.Refusal.{refused_if}
use Rattle.lists.proofs.Laws.{and_right, every-at, every_each}
use Rattle.lists.proofs.Tests.{and_both}
use Rattle.nightfile.specs.File.{file_number}
use Rattle.run.specs.Outcomes.{file_course}
use Rattle.sums.specs.Sheet.{run_width, steps_place, locks_place, busy_place, grants_place, failed_place, run_count, number_at, sheet_locks, too_many_runs, locks_alike, locks_right}
use Rattle.sums.specs.Sheet.{lock_in_range, run_in_range, runs_in_range, sheet_number}
use Rattle.ownsheet.specs.Numbers.{run_numbers, rows_of, night_ceiling, locks_in}
use Rattle.ownsheet.specs.Theorems.{AllAccepted, SameLocks, LocksDiffer, ARunFitsItsSheet, RunsFitTheirSheet}
use Rattle.ownsheet.proofs.Ends.{within_end, few_steps, the_locks_are_the_plans}
use Rattle.ownsheet.proofs.Rows.{row_placed, rows_long, rows_count, rows_whole, row_at}

-- ---- the number, by the three tests

answer_24 : (numbers : List ℕ) → too_many_runs numbers ≡ true → sheet_number numbers ≡ 24
unfolding sheet_number refused_if
answer_24 numbers many = rw many

answer_25 : (numbers : List ℕ) → too_many_runs numbers ≡ false → locks_right numbers ≡ false → sheet_number numbers ≡ 25
unfolding sheet_number refused_if
answer_25 numbers few wrong = rw (few, wrong)

answer_0 : (numbers : List ℕ) → too_many_runs numbers ≡ false → locks_right numbers ≡ true → runs_in_range numbers ≡ true → sheet_number numbers ≡ 0
unfolding sheet_number refused_if
answer_0 numbers few right inside = rw (few, right, inside)

not_25 : (numbers : List ℕ) → locks_right numbers ≡ true → runs_in_range numbers ≡ true → sheet_number numbers ≡ 25 → ⊥
unfolding sheet_number refused_if
not_25 numbers right inside e = go (too_many_runs numbers) (rw (right, inside) at e)
  where
    go : (many : Bool) → refused_if many 24 0 ≡ 25 → ⊥
    go true q = omega (arith, q)
    go false q = omega (arith, q)

not_26 : (numbers : List ℕ) → runs_in_range numbers ≡ true → sheet_number numbers ≡ 26 → ⊥
unfolding sheet_number refused_if
not_26 numbers inside e = go (too_many_runs numbers) (not (locks_right numbers)) (rw inside at e)
  where
    go : (many wrong : Bool) → refused_if many 24 (refused_if wrong 25 0) ≡ 26 → ⊥
    go true wrong q = omega (arith, q)
    go false true q = omega (arith, q)
    go false false q = omega (arith, q)

-- ---- the tests of the rows

module _ (files : List (List ℕ)) (all : AllAccepted files) where
  abbrev numbers : List ℕ
  numbers = rows_of night_ceiling files

  -- the locks of a run
  locks_at : (run : ℕ) → run < length files → number_at numbers locks_place run ≡ locks_in (get_or files run [])
  locks_at run below =
      let file = get_or files run [] in
      row_at night_ceiling files run 1 below (omega arith) ∙ (row_placed night_ceiling file).locks ∙ (the_locks_are_the_plans night_ceiling file (all run below)).same

  first_locks : 0 < length files → sheet_locks numbers ≡ locks_in (get_or files 0 [])
  unfolding sheet_locks
  first_locks some = locks_at 0 some

  -- 26: each run is in range
  steps_at : (run : ℕ) → run < length files → number_at numbers steps_place run ≡ (file_course night_ceiling (get_or files run [])).end.reached.steps
  steps_at run below = row_at night_ceiling files run 0 below (omega arith) ∙ (row_placed night_ceiling (get_or files run [])).steps

  lock_fits : (run lock : ℕ) → run < length files → lock < 64 → lock_in_range numbers run lock ≡ true
  unfolding lock_in_range
  lock_fits run lock below inside =
      let file = get_or files run [] in
      let end = (file_course night_ceiling file).end in
      let p = row_placed night_ceiling file in
      let w = within_end night_ceiling file in
      let steps = steps_at run below in
      let busy : number_at numbers (busy_place + lock) run ≡ get_or end.reached.tally.busy lock 0 =
      row_at night_ceiling files run (busy_place + lock) below (omega arith) ∙ p.busy lock inside in
      let grants : number_at numbers (grants_place + lock) run ≡ get_or end.reached.tally.grants lock 0 =
      row_at night_ceiling files run (grants_place + lock) below (omega arith) ∙ p.grants lock inside in
      let failed : number_at numbers (failed_place + lock) run ≡ get_or end.reached.tally.failed lock 0 =
      row_at night_ceiling files run (failed_place + lock) below (omega arith) ∙ p.failed lock inside in
      let one : number_at numbers (busy_place + lock) run ≤ number_at numbers steps_place run = omega (arith, steps, busy, w.busy lock) in
      let two : number_at numbers (grants_place + lock) run ≤ 64 * number_at numbers steps_place run = omega (arith, steps, grants, w.grants lock inside) in
      let three : number_at numbers (failed_place + lock) run ≤ 64 * number_at numbers steps_place run = omega (arith, steps, failed, w.failed lock inside) in
      and_both (and_both (le-leb _ _ one) (le-leb _ _ two)) (le-leb _ _ three)

  run_fits : (run : ℕ) → run < length files → run_in_range numbers run ≡ true
  unfolding run_in_range
  run_fits run below =
      let some : 0 < length files = omega arith in
      let plan = the_locks_are_the_plans night_ceiling (get_or files 0 []) (all 0 some) in
      let locks = first_locks some in
      let steps : number_at numbers steps_place run ≤ 1000000 = omega (arith, steps_at run below, few_steps (get_or files run []) (all run below)) in
      and_both (le-leb _ _ steps)
      (every_each (lock_in_range numbers run) (sheet_locks numbers) (λ lock inside. lock_fits run lock below (omega (arith, inside, locks, plan.most))))

  all_fit : runs_in_range numbers ≡ true
  unfolding runs_in_range
  all_fit = every_each (run_in_range numbers) (run_count numbers) (λ run below. run_fits run (omega (arith, below, rows_count night_ceiling files)))

  -- 24: as many runs as files
  many : 400 < length files → too_many_runs numbers ≡ true
  unfolding too_many_runs
  many more = lt-ltb (400 * run_width) (length numbers) (omega (arith, rows_long night_ceiling files))

  few : length files ≤ 400 → too_many_runs numbers ≡ false
  unfolding too_many_runs
  few most = le-ltb (400 * run_width) (length numbers) (omega (arith, rows_long night_ceiling files))

  -- 25: the locks are those of the plans, 1 to 64
  alike : (run : ℕ) → run < length files → locks_in (get_or files run []) ≡ locks_in (get_or files 0 []) → locks_alike numbers run ≡ true
  unfolding locks_alike
  alike run below same =
      let some : 0 < length files = omega arith in
      let here = locks_at run below in
      let first = first_locks some in
      let plan = the_locks_are_the_plans night_ceiling (get_or files run []) (all run below) in
      let least : 0 < number_at numbers locks_place run = omega (arith, here, plan.least) in
      let most : number_at numbers locks_place run ≤ 64 = omega (arith, here, plan.most) in
      and_both (and_both (lt-ltb _ _ least) (le-leb _ _ most))
      (eq-eqb _ _ (here ∙ same ∙ sym first))

  right : SameLocks files → locks_right numbers ≡ true
  unfolding locks_right
  right same =
      and_both (eq-eqb _ _ (rows_whole night_ceiling files))
      (every_each (locks_alike numbers) (run_count numbers)
      (λ run below. let inside : run < length files = omega (arith, below, rows_count night_ceiling files) in alike run inside (same run 0 inside (omega arith))))

  -- where the locks are right, each run has as many as the first
  first_alike : locks_right numbers ≡ true → (run : ℕ) → run < length files → locks_in (get_or files run []) ≡ locks_in (get_or files 0 [])
  unfolding locks_right locks_alike
  first_alike holds run below =
      let some : 0 < length files = omega arith in
      let each : every (locks_alike numbers) (run_count numbers) ≡ true = and_right (eqb (length numbers % run_width) 0) (every (locks_alike numbers) (run_count numbers)) holds in
      let one : locks_alike numbers run ≡ true = every-at (locks_alike numbers) (run_count numbers) run each (omega (arith, rows_count night_ceiling files)) in
      let bounds : Bool = ltb 0 (number_at numbers locks_place run) && leb (number_at numbers locks_place run) 64 in
      sym (locks_at run below) ∙ eqb-true _ _ (and_right bounds (eqb (number_at numbers locks_place run) (sheet_locks numbers)) one) ∙ first_locks some

  wrong : LocksDiffer files → locks_right numbers ≡ false
  wrong d = go (locks_right numbers) refl
    where
      go : (b : Bool) → locks_right numbers ≡ b → b ≡ false
      go true e = absurd (d.differ (first_alike e d.j d.j_below ∙ sym (first_alike e d.k d.k_below)))
      go false e = refl

-- ---- the answers

pub runs_fit_their_sheet : RunsFitTheirSheet
runs_fit_their_sheet files all =
    let numbers = rows_of night_ceiling files in
    record {
      too_many = λ more. answer_24 numbers (many files all more);
      locks_wrong = λ most d. answer_25 numbers (few files all most) (wrong files all d);
      only_locks = λ e same. not_25 numbers (right files all same) (all_fit files all) e;
      never_26 = λ e. not_26 numbers (all_fit files all) e;
      fit = λ most same. answer_0 numbers (few files all most) (right files all same) (all_fit files all);
    }

-- a list of one file
one_of : (P : List ℕ → Type 0) (file : List ℕ) → P file → (k : ℕ) → k < length (file ∷ []) → P (get_or (file ∷ []) k [])
one_of P file p zero below = p
one_of P file p (suc k) below = absurd (omega arith)

pub a_run_fits_its_sheet : ARunFitsItsSheet
unfolding rows_of
a_run_fits_its_sheet file e =
    let files : List (List ℕ) = file ∷ [] in
    let all : AllAccepted files = one_of (λ f. file_number f ≡ 0) file e in
    let same : SameLocks files = λ j k j_below k_below.
    one_of (λ f. locks_in f ≡ locks_in (get_or files k [])) file (sym (one_of (λ f. locks_in f ≡ locks_in file) file refl k k_below)) j j_below in
    ap sheet_number (sym (append-nil (run_numbers night_ceiling file))) ∙ (runs_fit_their_sheet files all).fit (omega arith) same
