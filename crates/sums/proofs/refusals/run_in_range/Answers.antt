-- The locks are tested where the steps are in range.
use Rattle.std.proofs.Common.{refl, rules}
use borrow.Author.Tests.{le-leb, lt-leb}
use Rattle.lists.proofs.Ranges.{every_from_all}
use Rattle.sums.specs.Sheet.{lock_in_range, run_in_range}
use Rattle.sums.proofs.refusals.run_in_range.Goals as goal

pub returns-then-steps-le1000000 : goal.returns-then-steps-le1000000
unfolding run_in_range
returns-then-steps-le1000000 c =
    let numbers = c.args.numbers.now in
    let each = every_from_all (lock_in_range numbers c.args.run) c.sheet_locks-locks.result _ _ _ c.all.ensures.ran refl (λ x b q k. search rules) in
    simp (← c.number_at-steps.ensures, ← c.sheet_locks-locks.ensures, le-leb _ _ c.if-steps-le1000000.true, each)

pub returns-else-steps-le1000000 : goal.returns-else-steps-le1000000
unfolding run_in_range
returns-else-steps-le1000000 c = simp (← c.number_at-steps.ensures, lt-leb _ _ c.if-steps-le1000000.false)
