-- The tests in their order, each refusal with the sheet of no runs, which is empty; then the sheet of all runs.
use Rattle.std.proofs.Common.{sym, ◌∙◌, arith}
use borrow.Author.Tests.{lt-ltb, le-ltb}
use Rattle.lists.specs.Refusal.{refused_if}
use Rattle.sums.specs.Sheet.{run_count, making, sheet_number, too_many_runs, sheet_answer_number, refusal_number}
use Rattle.sums.proofs.Ranges.{locks_few}
use Rattle.sums.proofs.Made.{none_summable, sheet_of_none}
use Rattle.sums.proofs.make_sheet.Goals as goal

pub with_sheet-requires : goal.with_sheet-requires
with_sheet-requires c = none_summable

pub returns-then-numbers-gt-MOST_NUMBERS : goal.returns-then-numbers-gt-MOST_NUMBERS
unfolding making sheet_number too_many_runs refused_if sheet_answer_number refusal_number
returns-then-numbers-gt-MOST_NUMBERS c = simp (c.with_sheet.ensures, sheet_of_none, lt-ltb _ _ c.if-numbers-gt-MOST_NUMBERS.true)

pub with_sheet-requires-then-not-locks_right : goal.with_sheet-requires-then-not-locks_right
with_sheet-requires-then-not-locks_right c = none_summable

pub returns-then-not-locks_right : goal.returns-then-not-locks_right
unfolding making sheet_number too_many_runs refused_if sheet_answer_number refusal_number
returns-then-not-locks_right c =
    simp (c.with_sheet-then-not-locks_right.ensures, sheet_of_none, le-ltb _ _ c.if-numbers-gt-MOST_NUMBERS.false, ← c.locks_right.ensures, c.if-not-locks_right.true)

pub runs_in_range-requires : goal.runs_in_range-requires
runs_in_range-requires c = (c.if-numbers-gt-MOST_NUMBERS.false, locks_few _ (sym c.locks_right.ensures ∙ c.if-not-locks_right.false))

pub with_sheet-requires-then-not-runs_in_range : goal.with_sheet-requires-then-not-runs_in_range
with_sheet-requires-then-not-runs_in_range c = none_summable

pub returns-then-not-runs_in_range : goal.returns-then-not-runs_in_range
unfolding making sheet_number too_many_runs refused_if sheet_answer_number refusal_number
returns-then-not-runs_in_range c =
    simp (c.with_sheet-then-not-runs_in_range.ensures, sheet_of_none, le-ltb _ _ c.if-numbers-gt-MOST_NUMBERS.false, ← c.locks_right.ensures, c.if-not-locks_right.false, ← c.runs_in_range.ensures, c.if-not-runs_in_range.true)

pub with_sheet-requires-2 : goal.with_sheet-requires-2
unfolding run_count
with_sheet-requires-2 c =
    let right = sym c.locks_right.ensures ∙ c.if-not-locks_right.false in
    (omega (arith, c.if-numbers-gt-MOST_NUMBERS.false), locks_few _ right, sym c.runs_in_range.ensures ∙ c.if-not-runs_in_range.false)

pub returns : goal.returns
unfolding making sheet_number too_many_runs refused_if sheet_answer_number refusal_number
returns c =
    simp (c.with_sheet-2.ensures, le-ltb _ _ c.if-numbers-gt-MOST_NUMBERS.false, ← c.locks_right.ensures, c.if-not-locks_right.false, ← c.runs_in_range.ensures, c.if-not-runs_in_range.false)
