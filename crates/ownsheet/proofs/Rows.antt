-- Where the numbers stand in a run's row, and in the rows of several runs; the lines of the end read off a row.
use Prim.Native.Nat.{ℕ, zero, suc, ◌+◌, ◌*◌, ◌/◌, ◌%◌, ◌≤◌, ◌<◌}
use mathlib.Core.Path.{◌≡◌, refl, ◌∙◌, sym, ap}
use mathlib.Core.List.{List, [], ◌∷◌, ◌++◌}
use native.Mathlib.Nat.{mul-div_cancel, mul-mod_left}
use native.Mathlib.Omega.{arith}
use lib.ListN.{length, get_or, length-append, get_or-append}
use lib.Seq.{get_or-append-add}
use Rattle.lists.specs.Loops.{total}
use Rattle.lists.proofs.Laws.{total_same}
use Rattle.plan.specs.declared.Plan.{Plan}
use Rattle.course.specs.declared.Run.{Run}
use Rattle.course.specs.Standing.{locks_of}
use Rattle.tally.specs.Tally.{sum_of}
use Rattle.run.specs.Outcomes.{outcome_of, file_course, file_outcome}
use Rattle.sums.specs.Sheet.{run_count, number_at, steps_place, locks_place, busy_place, grants_place, failed_place}
use Rattle.ownsheet.specs.Numbers.{row_of, run_numbers, rows_of, lock_lines, last_lines, lock_row_lines, row_lines}
use Rattle.ownsheet.specs.Theorems.{TheLastLinesAreTheRow}
use Rattle.ownsheet.proofs.Ends.{Shaped, shaped_end, the_locks_are_the_plans}
use Rattle.ownsheet.proofs.Totals.{the_totals_are_the_sums}

-- ---- one row

-- where the numbers of a run stand in its row
pub record Placed (row : List ℕ) (run : Run) : Type 0 where
  pub long : length row ≡ 194
  pub steps : get_or row 0 0 ≡ run.reached.steps
  pub locks : get_or row 1 0 ≡ locks_of run
  pub busy : (lock : ℕ) → lock < 64 → get_or row (2 + lock) 0 ≡ get_or run.reached.tally.busy lock 0
  pub grants : (lock : ℕ) → lock < 64 → get_or row (66 + lock) 0 ≡ get_or run.reached.tally.grants lock 0
  pub failed : (lock : ℕ) → lock < 64 → get_or row (130 + lock) 0 ≡ get_or run.reached.tally.failed lock 0

placed : (plan : Plan) (run : Run) → Shaped plan run.reached → Placed (row_of run) run
unfolding row_of
placed plan run s =
    let a = run.reached.tally.busy in
    let b = run.reached.tally.grants in
    let c = run.reached.tally.failed in
    record {
      long = omega (arith, length-append a (b ++ c), length-append b c, s.busy_places, s.grants_places, s.failed_places);
      steps = refl;
      locks = refl;
      busy = λ lock below.
          let there : 2 + lock ≡ suc (suc lock) = omega arith in
          ap (λ (k : ℕ). get_or (row_of run) k 0) there
          ∙ get_or-append a (b ++ c) 0 lock (omega (arith, s.busy_places));
      grants = λ lock below.
          let there : 66 + lock ≡ suc (suc (length a + lock)) = omega (arith, s.busy_places) in
          ap (λ (k : ℕ). get_or (row_of run) k 0) there
          ∙ get_or-append-add a (b ++ c) lock 0
          ∙ get_or-append b c 0 lock (omega (arith, s.grants_places));
      failed = λ lock below.
          let there : 130 + lock ≡ suc (suc (length a + (length b + lock))) = omega (arith, s.busy_places, s.grants_places) in
          ap (λ (k : ℕ). get_or (row_of run) k 0) there
          ∙ get_or-append-add a (b ++ c) (length b + lock) 0
          ∙ get_or-append-add b c lock 0;
    }

pub row_placed : (ceiling : ℕ) (file : List ℕ) → Placed (run_numbers ceiling file) (file_course ceiling file).end
unfolding run_numbers
row_placed ceiling file = placed _ (file_course ceiling file).end (shaped_end ceiling file)

-- ---- several rows

module _ (ceiling : ℕ) where
  pub rows_long : (files : List (List ℕ)) → length (rows_of ceiling files) ≡ length files * 194
  unfolding rows_of
  rows_long [] = refl
  rows_long (file ∷ files) =
      length-append (run_numbers ceiling file) (rows_of ceiling files) ∙ omega (arith, (row_placed ceiling file).long, rows_long files)

  pub rows_count : (files : List (List ℕ)) → run_count (rows_of ceiling files) ≡ length files
  unfolding run_count
  rows_count files = ap (λ (n : ℕ). n / 194) (rows_long files) ∙ mul-div_cancel (length files) (omega arith)

  pub rows_whole : (files : List (List ℕ)) → length (rows_of ceiling files) % 194 ≡ 0
  rows_whole files = ap (λ (n : ℕ). n % 194) (rows_long files) ∙ mul-mod_left (length files) 194

  -- a number of a run's row
  pub row_at : (files : List (List ℕ)) (run place : ℕ) → run < length files → place < 194
      → number_at (rows_of ceiling files) place run ≡ get_or (run_numbers ceiling (get_or files run [])) place 0
  unfolding number_at rows_of
  row_at [] run place below inside = absurd (omega arith)
  row_at (file ∷ files) zero place below inside =
      let row = run_numbers ceiling file in
      let long : length row ≡ 194 = (row_placed ceiling file).long in
      let here : 0 * 194 + place ≡ place = omega arith in
      ap (λ (k : ℕ). get_or (row ++ rows_of ceiling files) k 0) here ∙ get_or-append row (rows_of ceiling files) 0 place (omega arith)
  row_at (file ∷ files) (suc run) place below inside =
      let row = run_numbers ceiling file in
      let long : length row ≡ 194 = (row_placed ceiling file).long in
      let there : suc run * 194 + place ≡ length row + (run * 194 + place) = omega arith in
      ap (λ (k : ℕ). get_or (row ++ rows_of ceiling files) k 0) there ∙ get_or-append-add row (rows_of ceiling files) (run * 194 + place) 0
      ∙ row_at files run place (omega arith) inside

-- ---- the lines of the end, read off a row

-- the first row starts the numbers
pub first-row : (numbers : List ℕ) (place : ℕ) → number_at numbers place 0 ≡ get_or numbers place 0
unfolding number_at
first-row numbers place = let here : 0 * 194 + place ≡ place = omega arith in ap (λ (k : ℕ). get_or numbers k 0) here

module _ (run : Run) (numbers : List ℕ) (p : Placed numbers run) where
  steps_told : run.reached.steps ≡ number_at numbers steps_place 0
  steps_told = sym (first-row numbers 0 ∙ p.steps)

  locks_told : locks_of run ≡ number_at numbers locks_place 0
  locks_told = sym (first-row numbers 1 ∙ p.locks)

  busy_told : (lock : ℕ) → lock < 64 → get_or run.reached.tally.busy lock 0 ≡ number_at numbers (busy_place + lock) 0
  busy_told lock below = sym (first-row numbers (2 + lock) ∙ p.busy lock below)

  grants_told : (lock : ℕ) → lock < 64 → get_or run.reached.tally.grants lock 0 ≡ number_at numbers (grants_place + lock) 0
  grants_told lock below = sym (first-row numbers (66 + lock) ∙ p.grants lock below)

  failed_told : (lock : ℕ) → lock < 64 → get_or run.reached.tally.failed lock 0 ≡ number_at numbers (failed_place + lock) 0
  failed_told lock below = sym (first-row numbers (130 + lock) ∙ p.failed lock below)

  lock_lines_told : (n lock : ℕ) → lock + n ≤ 64 → lock_lines run.reached lock n ≡ lock_row_lines numbers lock n
  unfolding lock_lines lock_row_lines
  lock_lines_told zero lock room = refl
  lock_lines_told (suc n) lock room =
      let below : lock < 64 = omega arith in
      let steps = steps_told in
      let busy = busy_told lock below in
      let grants = grants_told lock below in
      let failed = failed_told lock below in
      let rest = lock_lines_told n (lock + 1) (omega arith) in
      cc

pub the_last_lines_are_the_row : TheLastLinesAreTheRow
unfolding last_lines row_lines file_outcome outcome_of
the_last_lines_are_the_row ceiling file e bytes =
    let end = (file_course ceiling file).end in
    let numbers = run_numbers ceiling file in
    let p = row_placed ceiling file in
    let plan = the_locks_are_the_plans ceiling file e in
    let most : locks_of end ≤ 64 = omega (arith, plan.same, plan.most) in
    let sums = the_totals_are_the_sums ceiling file bytes in
    let steps = steps_told end numbers p in
    let locks = locks_told end numbers p in
    let lines : lock_lines end.reached 0 (locks_of end) ≡ lock_row_lines numbers 0 (number_at numbers locks_place 0) =
    lock_lines_told end numbers p (locks_of end) 0 (omega arith) ∙ ap (lock_row_lines numbers 0) locks in
    let grants : sum_of end.reached.tally.grants (locks_of end) ≡ total (λ lock. number_at numbers (grants_place + lock) 0) (number_at numbers locks_place 0) =
    sums.grants
    ∙ total_same _ (λ lock. number_at numbers (grants_place + lock) 0) (locks_of end) (λ lock below. grants_told end numbers p lock (omega arith))
    ∙ ap (total (λ lock. number_at numbers (grants_place + lock) 0)) locks in
    let failed : sum_of end.reached.tally.failed (locks_of end) ≡ total (λ lock. number_at numbers (failed_place + lock) 0) (number_at numbers locks_place 0) =
    sums.failed
    ∙ total_same _ (λ lock. number_at numbers (failed_place + lock) 0) (locks_of end) (λ lock below. failed_told end numbers p lock (omega arith))
    ∙ ap (total (λ lock. number_at numbers (failed_place + lock) 0)) locks in
    cc
