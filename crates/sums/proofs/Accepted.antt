-- Runs that are not refused: what their tests gave, and the sheet that is made of them.
use Prim.Native.Nat.{ℕ, ◌+◌, ◌≤◌, ◌<◌}
use mathlib.Core.Path.{◌≡◌, refl, ap, ◌∙◌}
use mathlib.Core.Bool.{Bool, true, false, not}
use mathlib.Core.List.{List}
use native.Mathlib.Omega.{arith}
use lib.ListN.{length, get_or, get_or-map}
use borrow.Author.Tests.{ltb-false, eq-eqb}
use Rattle.lists.specs.Refusal.{refused_if}
use Rattle.sums.specs.Sheet.{steps_place, busy_place, grants_place, failed_place, run_count, sheet_locks, too_many_runs, locks_right, runs_in_range, sheet_number, over_runs, share_of, lock_row, empty_row, busy_of, grants_of, failed_of, shares_of, sheet_of, making}
use Rattle.sums.proofs.Laws.{row-at}
use Rattle.sums.proofs.Ranges.{locks_few}

-- none of 24, 25, 26: each of the three tests
pub record Tests (many right range : Bool) : Type 0 where
  pub not_many : many ≡ false
  pub locks_right_lem : right ≡ true
  pub in_range_lem : range ≡ true

by_number : (many right range : Bool) → refused_if many 24 (refused_if (not right) 25 (refused_if (not range) 26 0)) ≡ 0 → Tests many right range
unfolding refused_if
by_number true right range e = absurd (omega arith)
by_number false false range e = absurd (omega arith)
by_number false true false e = absurd (omega arith)
by_number false true true e = record { not_many = refl; locks_right_lem = refl; in_range_lem = refl }

module _ (numbers : List ℕ) (none : sheet_number numbers ≡ 0) where
  pub tests : Tests (too_many_runs numbers) (locks_right numbers) (runs_in_range numbers)
  unfolding sheet_number
  tests = by_number (too_many_runs numbers) (locks_right numbers) (runs_in_range numbers) none

  pub runs_few : run_count numbers ≤ 400
  unfolding too_many_runs run_count
  runs_few = omega (arith, ltb-false 77600 (length numbers) tests.not_many)

  pub few : sheet_locks numbers ≤ 64
  few = locks_few numbers tests.locks_right_lem

  pub made : (making numbers).sheet ≡ sheet_of numbers
  unfolding making
  made = simp (eq-eqb (sheet_number numbers) 0 none)

  pub locks_told : (making numbers).sheet.locks ≡ sheet_locks numbers
  unfolding sheet_of
  locks_told = ap (λ s. s.locks) made

-- at each lock the sheet has its row
module _ (numbers : List ℕ) (none : sheet_number numbers ≡ 0) (lock : ℕ) (below : lock < sheet_locks numbers) where
  row_there : get_or (making numbers).sheet.rows lock empty_row ≡ lock_row numbers lock
  unfolding sheet_of
  row_there =
      ap (λ s. get_or s.rows lock empty_row) (made numbers none)
      ∙ row-at (lock_row numbers) (sheet_locks numbers) lock below (omega (arith, few numbers none))

  pub busy-at : get_or (busy_of (making numbers).sheet) lock 0 ≡ over_runs numbers (busy_place + lock)
  unfolding lock_row
  busy-at = get_or-map (λ row. row.busy) (making numbers).sheet.rows lock empty_row ∙ ap (λ row. row.busy) row_there

  pub grants_at : get_or (grants_of (making numbers).sheet) lock 0 ≡ over_runs numbers (grants_place + lock)
  unfolding lock_row
  grants_at = get_or-map (λ row. row.grants) (making numbers).sheet.rows lock empty_row ∙ ap (λ row. row.grants) row_there

  pub failed_at : get_or (failed_of (making numbers).sheet) lock 0 ≡ over_runs numbers (failed_place + lock)
  unfolding lock_row
  failed_at = get_or-map (λ row. row.failed) (making numbers).sheet.rows lock empty_row ∙ ap (λ row. row.failed) row_there

  pub share_at : get_or (shares_of (making numbers).sheet) lock 0 ≡ share_of (over_runs numbers (busy_place + lock)) (over_runs numbers steps_place)
  unfolding lock_row
  share_at = get_or-map (λ row. row.share) (making numbers).sheet.rows lock empty_row ∙ ap (λ row. row.share) row_there
