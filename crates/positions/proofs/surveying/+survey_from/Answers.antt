-- The proof of the cycle of calls {survey_from}. The measure is the levels that are left.
use Rattle.positions.proofs.Counting.{counting_node, counting_users, counting_list}
use Rattle.positions.proofs.surveying.+survey_from.Goals as goal
use Rattle.positions.proofs.surveying.+survey_from.Goals.{in-Node, in-Users, in-Listed+in_ok-extent-in-Listed}

pub loop-preserved : goal.loop-preserved
loop-preserved t c =
    let found = c.in_ok-position.ensures in
    elim c.match-position.branch [
      | in-Node w ↦ rw w.extent-is (counting_node c.loop.invariant c.loop-test.true w.in-Node.is found)
      | in-Users w ↦ rw (w.extent-is, w.from.ensures) (counting_users c.loop.invariant c.loop-test.true w.in-Users.is found)
      | in-Listed+in_ok-extent-in-Listed w ↦
          rw w.extent-is (counting_list c.loop.invariant c.loop-test.true w.in-Listed.is found w.in_ok-extent-in-Listed.ensures)
    ]
