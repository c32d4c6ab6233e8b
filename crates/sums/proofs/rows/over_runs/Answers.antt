-- The sum over the numbers of the runs; each is at most 64,000,000.
use Rattle.std.proofs.Common.{◌<◌, ◌^◌, rules, arith}
use Rattle.lists.specs.Loops.{total}
use Rattle.lists.proofs.Laws.{total_at_most}
use Rattle.lists.proofs.Ranges.{total_fits, total_from_sum}
use Rattle.sums.specs.Sheet.{number_at, run_count, over_runs}
use Rattle.sums.proofs.rows.over_runs.Goals as goal

pub sum-requires-clause-fits : goal.sum-requires-clause-fits
unfolding run_count
sum-requires-clause-fits c =
    let f = number_at c.args.numbers.now c.args.place in
    let runs = run_count c.args.numbers.now in
    let fits : total f runs < 2 ^ 64 = omega (arith, total_at_most f 64000000 runs c.requires.2) in
    total_fits c.map.result f runs c.map.ensures.source c.map.ensures.closure (2 ^ 64) fits (λ x r q k. search rules)

pub returns : goal.returns
unfolding over_runs run_count
returns c =
    let numbers = c.args.numbers.now in
    total_from_sum c.map.result (number_at numbers c.args.place) (run_count numbers) c.map.ensures.source c.map.ensures.closure _ c.sum.ensures.ran
    (λ x r q k. search rules)
