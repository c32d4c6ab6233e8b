-- The locks of each run are tested where the rows are whole.
use Rattle.std.proofs.Common.{refl, rules}
use borrow.Author.Tests.{eq-eqb}
use Rattle.lists.proofs.Ranges.{every_from_all}
use Rattle.sums.specs.Sheet.{run_count, locks_alike, locks_right}
use Rattle.sums.proofs.refusals.locks_right.Goals as goal

pub returns-then-numbers-eq0 : goal.returns-then-numbers-eq0
unfolding locks_right run_count
returns-then-numbers-eq0 c =
    let numbers = c.args.numbers.now in
    let each = every_from_all (locks_alike numbers) (run_count numbers) _ _ _ c.all.ensures.ran refl (λ x b q k. search rules) in
    simp (eq-eqb _ _ c.if-numbers-eq0.true, each)
