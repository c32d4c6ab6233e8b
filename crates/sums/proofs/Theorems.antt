-- The statements of specs/Theorems, proved.
use Prim.Native.Nat.{ℕ, ◌+◌, ◌*◌, ◌/◌, ◌≤◌, ◌<◌, min}
use mathlib.Core.Path.{◌≡◌, refl, ap, ◌∙◌}
use mathlib.Core.Bool.{true}
use mathlib.Core.List.{List, [], ◌∷◌}
use native.Mathlib.Nat.{div-mul-le_self, lt-mul-div-succ, div-le_of_le-mul, mul_comm, zero-mul}
use native.Mathlib.Omega.{arith}
use lib.Dec.{eqb, lit≤}
use lib.ListN.{length, get_or, get_or-map}
use borrow.Author.Tests.{eq-eqb, ne_eqb}
use Rattle.lists.specs.Loops.{every, in_order}
use Rattle.lists.specs.Refusal.{refused_if}
use Rattle.lists.proofs.Laws.{total_at_most, total-at_most-times}
use Rattle.lists.proofs.Tests.{by_test}
use Rattle.lists.proofs.Places.{place_default}
use Rattle.lines.specs.Line.{line}
use Rattle.lines.proofs.Laws.{line-length_most}
use Rattle.sums.specs.declared.Sheet.{Sheet}
use Rattle.sums.specs.declared.SheetRow.{SheetRow}
use Rattle.sums.specs.Sheet.{steps_place, busy_place, grants_place, failed_place, run_count, number_at, sheet_locks, too_many_runs, locks_right, run_in_range, runs_in_range, sheet_number, over_runs, share_of, lock_row, empty_row, rows_of, empty_sheet, sheet_of, sheet_answer_number, making}
use Rattle.sums.specs.Text.{sheet_rows, sheet_text}
use Rattle.sums.specs.Theorems.{TheSumsOfTheRuns, NothingAt, NothingBehindTheLocks, TheShareIsRoundedDown, NoRunsNoSheet, RefusedIsEmpty, TheOrderDoesNotMatter, NothingElseIsRead, NothingWraps, RoomForEverySheet}
use Rattle.sums.proofs.Laws.{row_behind}
use Rattle.sums.proofs.Ranges.{run_steps, lock_fits}
use Rattle.sums.proofs.Accepted.{tests, runs_few, locks_told, busy-at, grants_at, failed_at, share_at}
use Rattle.sums.proofs.Written.{rows_most}
use Rattle.sums.proofs.Order.{reordered_same, nothing_else}

-- ---- the sums

pub the_sums_of_the_runs : TheSumsOfTheRuns
unfolding over_runs
the_sums_of_the_runs numbers lock none below =
    record {
      locks = locks_told numbers none;
      busy = busy-at numbers none lock below;
      grants = grants_at numbers none lock below;
      failed = failed_at numbers none lock below;
    }

-- ---- behind the locks

-- an empty row has nothing
nothing_in_row : (sheet : Sheet) (lock : ℕ) → get_or sheet.rows lock empty_row ≡ empty_row → NothingAt sheet lock
nothing_in_row sheet lock e =
    record {
      busy = get_or-map (λ row. row.busy) sheet.rows lock empty_row ∙ ap (λ row. row.busy) e;
      grants = get_or-map (λ row. row.grants) sheet.rows lock empty_row ∙ ap (λ row. row.grants) e;
      failed = get_or-map (λ row. row.failed) sheet.rows lock empty_row ∙ ap (λ row. row.failed) e;
      share = get_or-map (λ row. row.share) sheet.rows lock empty_row ∙ ap (λ row. row.share) e;
    }

nothing_in_sheet : (numbers : List ℕ) (lock : ℕ) → (sheet_of numbers).locks ≤ lock → NothingAt (sheet_of numbers) lock
unfolding sheet_of
nothing_in_sheet numbers lock above = nothing_in_row (sheet_of numbers) lock (row_behind (lock_row numbers) (sheet_locks numbers) lock above)

nothing_in_empty : (lock : ℕ) → NothingAt empty_sheet lock
unfolding empty_sheet
nothing_in_empty lock = nothing_in_row empty_sheet lock (place_default (λ (r : SheetRow). r ≡ empty_row) empty_row 64 lock refl)

pub nothing_behind_the_locks : NothingBehindTheLocks
unfolding making
nothing_behind_the_locks numbers lock above =
    by_test (λ sheet. sheet.locks ≤ lock → NothingAt sheet lock) (eqb (sheet_number numbers) 0)
    (λ e. nothing_in_sheet numbers lock)
    (λ e l. nothing_in_empty lock)
    above

-- ---- the share

share_none : (busy : ℕ) {steps : ℕ} → steps ≡ 0 → share_of busy steps ≡ 0
unfolding share_of
share_none busy e = simp (eq-eqb _ 0 e)

share_some : (busy steps : ℕ) → 0 < steps → share_of busy steps ≡ busy * 1000000 / steps
unfolding share_of
share_some busy steps some = simp (ne_eqb steps 0 (λ e. omega arith))

share_at_most : (busy steps : ℕ) → share_of busy steps * steps ≤ busy * 1000000
unfolding share_of
share_at_most busy steps =
    by_test (λ share. share * steps ≤ busy * 1000000) (eqb steps 0) (λ e. omega (arith, zero-mul steps)) (λ e. div-mul-le_self (busy * 1000000) steps)

share_less : (busy steps : ℕ) → 0 < steps → busy * 1000000 < (share_of busy steps + 1) * steps
share_less busy steps some = rw (share_some busy steps some, mul_comm (busy * 1000000 / steps + 1) steps) (lt-mul-div-succ (busy * 1000000) some)

share_small : (busy steps : ℕ) → busy ≤ steps → share_of busy steps ≤ 1000000
unfolding share_of
share_small busy steps h =
    by_test (λ share. share ≤ 1000000) (eqb steps 0) (λ e. omega arith) (λ e. div-le_of_le-mul steps (omega arith))

pub the_share_is_rounded_down : TheShareIsRoundedDown
the_share_is_rounded_down numbers lock none below =
    let busy = over_runs numbers (busy_place + lock) in
    let steps = over_runs numbers steps_place in
    let e = share_at numbers none lock below in
    record {
      no_step = λ z. e ∙ share_none busy z;
      at_most = rw e (share_at_most busy steps);
      less_than_one_more = λ some. rw e (share_less busy steps some);
    }

-- ---- no runs, and a refusal

pub no_runs_no_sheet : NoRunsNoSheet
unfolding making sheet_number too_many_runs locks_right runs_in_range refused_if run_count every sheet_of sheet_locks number_at rows_of in_order empty_sheet
no_runs_no_sheet = refl

pub refused_is_empty : RefusedIsEmpty
unfolding making
refused_is_empty numbers some = simp (ne_eqb (sheet_number numbers) 0 some)

-- ---- the order of the runs

pub the_order_does_not_matter : TheOrderDoesNotMatter
the_order_does_not_matter one other r = reordered_same r

pub nothing_else_is_read : NothingElseIsRead
nothing_else_is_read one other long each = nothing_else one other long each

-- ---- nothing wraps

module _ (numbers : List ℕ) (lock : ℕ) (none : sheet_number numbers ≡ 0) (below : lock < sheet_locks numbers) where
  range : every (run_in_range numbers) (run_count numbers) ≡ true
  unfolding runs_in_range
  range = (tests numbers none).in_range_lem

  steps_most : over_runs numbers steps_place ≤ 400000000
  unfolding over_runs
  steps_most =
      omega (arith, runs_few numbers none, total_at_most (number_at numbers steps_place) 1000000 (run_count numbers) (λ run l. run_steps numbers range run l))

  busy_most : over_runs numbers (busy_place + lock) ≤ over_runs numbers steps_place
  unfolding over_runs
  busy_most =
      omega (arith, total-at_most-times (number_at numbers (busy_place + lock)) (number_at numbers steps_place) 1 (run_count numbers) (λ run l. omega (arith, (lock_fits numbers range run l lock below).busy)))

  grants_most : over_runs numbers (grants_place + lock) ≤ 64 * over_runs numbers steps_place
  unfolding over_runs
  grants_most =
      total-at_most-times (number_at numbers (grants_place + lock)) (number_at numbers steps_place) 64 (run_count numbers) (λ run l. (lock_fits numbers range run l lock below).grants)

  failed_most : over_runs numbers (failed_place + lock) ≤ 64 * over_runs numbers steps_place
  unfolding over_runs
  failed_most =
      total-at_most-times (number_at numbers (failed_place + lock)) (number_at numbers steps_place) 64 (run_count numbers) (λ run l. (lock_fits numbers range run l lock below).failed)

pub nothing_wraps : NothingWraps
nothing_wraps numbers lock none below =
    let steps = steps_most numbers lock none below in
    let busy = busy_most numbers lock none below in
    record {
      steps = steps;
      busy = busy;
      grants = grants_most numbers lock none below;
      failed = failed_most numbers lock none below;
      product = omega (arith, steps, busy);
      share = rw (share_at numbers none lock below) (share_small (over_runs numbers (busy_place + lock)) (over_runs numbers steps_place) busy);
    }

-- ---- the room

pub room_for_every_sheet : RoomForEverySheet
unfolding sheet_text
room_for_every_sheet made =
    let rows : length (sheet_rows made.sheet (min made.sheet.locks 64)) ≤ 6720 = omega (arith, rows_most made.sheet (min made.sheet.locks 64)) in
    let refusal : length (line 0 81 (sheet_answer_number made.answer ∷ 0 ∷ [])) ≤ 6720 = omega (arith, line-length_most 0 81 (sheet_answer_number made.answer ∷ 0 ∷ []) (lit≤ tt)) in
    by_test (λ (text : List ℕ). length text ≤ 6720) (eqb (sheet_answer_number made.answer) 0) (λ e. rows) (λ e. refusal)
