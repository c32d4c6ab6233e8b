-- No node yet, and one more.
use mathlib.Core.Path.{◌∙◌, sym}
use Rattle.lists.proofs.Laws.{some_none}
use Rattle.words.proofs.Sets.{has_none}
use Rattle.ring.specs.State.{rest_node}
use Rattle.tally.specs.Tally.{busy}
use Rattle.tally.proofs.Laws.{busy-more, first-at}
use Rattle.tally.proofs.had_by_some.Goals as goal

pub loop-node-init : goal.loop-node-init
unfolding busy
loop-node-init c = λ lock. has_none lock ∙ sym (some_none _)

pub loop-node-preserved : goal.loop-node-preserved
unfolding rest_node
loop-node-preserved c =
    let here = first-at c.args.count c.args.nodes.now c.loop-node.node-index rest_node c.loop-node-test.true in
    λ lock. rw here (busy-more _ _ _ lock (c.loop-node.invariant lock))
