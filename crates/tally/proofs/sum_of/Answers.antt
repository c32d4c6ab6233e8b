-- No count yet, and one more.
use mathlib.Core.Path.{◌∙◌, sym, ap}
use Prim.Native.Nat.{ℕ, ◌+◌, ◌-◌, ◌^◌, min}
use native.Mathlib.Omega.{arith}
use Rattle.lists.specs.Loops.{in_order}
use Rattle.lists.proofs.Laws.{in_order_none}
use Rattle.tally.proofs.Laws.{sum_more, first-at, firsts_passed}
use Rattle.tally.specs.Tally.{add_up, sum_of}
use Rattle.tally.proofs.sum_of.Goals as goal

pub loop-count-init : goal.loop-count-init
loop-count-init c = sym (in_order_none _ _)

pub loop-count-preserved : goal.loop-count-preserved
loop-count-preserved c =
    let here = first-at c.at_most_64.result c.args.counts c.loop-count.count-index 0 c.loop-count-test.true in
    sum_more _ _ _ _ c.loop-count.invariant (c.saturating_add-sum.ensures ∙ ap (λ (n : ℕ). min (c.loop-count.sum + n) (2 ^ 64 - 1)) here)

pub returns : goal.returns
unfolding sum_of
returns c =
    let done = firsts_passed c.at_most_64.result c.args.counts c.loop-count.count-index (omega arith) (omega arith) c.loop-count-test.false in
    c.loop-count.invariant ∙ ap (λ (n : ℕ). in_order (add_up c.args.counts) n 0) (done ∙ c.at_most_64.ensures)
