-- Each run is tested.
use Rattle.std.proofs.Common.{refl, rules}
use Rattle.lists.proofs.Ranges.{every_from_all}
use Rattle.sums.specs.Sheet.{run_count, run_in_range, runs_in_range}
use Rattle.sums.proofs.refusals.runs_in_range.Goals as goal

pub returns : goal.returns
unfolding runs_in_range run_count
returns c = every_from_all (run_in_range c.args.numbers.now) (run_count c.args.numbers.now) _ _ _ c.all.ensures.ran refl (λ x b q k. search rules)
