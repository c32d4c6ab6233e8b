-- The proof of the cycle of calls {lay}. The measure is the number of levels: a list within a list has one less. The invariant of the loop:
-- what is still to be laid can be laid, and leads to the same.
use Rattle.std.proofs.Common.{ℕ, arith, length-set}
use Rattle.route.proofs.Steps.{one_here, node_laid, users_laid, listed_here, listed_layable, listed_room, listed_laid, laid_done}
use Rattle.route.proofs.laying.+lay.Goals as goal
use Rattle.route.proofs.laying.+lay.Goals.{in-Node, in-Users, in-Listed}

pub unwrap-position-requires : goal.unwrap-position-requires
unwrap-position-requires t c = one_here c.loop.invariant c.loop-test.true c.position_at.ensures

pub lay-behind-requires : goal.lay-behind-requires
lay-behind-requires t c =
    let deep = (listed_here c.loop.invariant c.loop-test.true c.position_at.ensures c.in-Listed.ensures).3 in
    (omega (arith, deep, c.decreases), listed_layable c.loop.invariant c.loop-test.true c.position_at.ensures c.in-Listed.ensures (length-set _ _ _))

pub returns : goal.returns
returns t c =
    let done = laid_done c.loop.invariant (omega arith) in
    record { value = done.0; route_after = done.1.0; route_len_unchanged = done.1.1 }

pub bounds-route-behind : goal.bounds-route-behind
bounds-route-behind t c =
    let room = listed_room c.loop.invariant c.loop-test.true c.position_at.ensures c.in-Listed.ensures c.lay-behind.ensures.value in
    omega (arith, c.lay-behind.ensures.route_len_unchanged, length-set {A = ℕ})

pub offset_bounds-route-behind : goal.offset_bounds-route-behind
offset_bounds-route-behind t c =
    let room = listed_room c.loop.invariant c.loop-test.true c.position_at.ensures c.in-Listed.ensures c.lay-behind.ensures.value in omega arith

pub overflow_add-laid-in-Listed : goal.overflow_add-laid-in-Listed
overflow_add-laid-in-Listed t c =
    let room = listed_room c.loop.invariant c.loop-test.true c.position_at.ensures c.in-Listed.ensures c.lay-behind.ensures.value in omega arith

pub loop-preserved : goal.loop-preserved
loop-preserved t c =
    elim c.match-position.branch [
      | in-Node w ↦ rw (w.route-is, w.laid-is) (node_laid c.loop.invariant c.loop-test.true c.position_at.ensures w.in-Node.ensures)
      | in-Users w ↦
          rw (w.route-is, w.laid-is, w.put_junction.ensures.route_after, w.put_junction.ensures.value, w.from.ensures)
          (users_laid c.loop.invariant c.loop-test.true c.position_at.ensures w.in-Users.ensures)
      | in-Listed w ↦
          let e = w.lay-behind.ensures in
          rw (w.route-is, w.laid-is, w.out_number.ensures)
          (listed_laid c.loop.invariant c.loop-test.true c.position_at.ensures w.in-Listed.ensures w.into_number.ensures
          (e.value, (e.route_after, e.route_len_unchanged)))
    ]
