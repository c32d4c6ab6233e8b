-- With one number more the room left is less by its digits and its space; where it is too short, so is the room for all of them.
use Rattle.std.proofs.Common.{◌+◌, ◌<◌, length, sym, get_or, arith}
use borrow.Author.Tests.{lt-leb}
use Rattle.lines.specs.Line.{spaced}
use Rattle.lines.proofs.Laws.{decimal-length_most, spaced-length-more, spaced_part}
use Rattle.lines.proofs.has_room.Goals as goal

pub loop-number-init : goal.loop-number-init
unfolding spaced
loop-number-init c = omega arith

pub overflow_add-needed : goal.overflow_add-needed
overflow_add-needed c = omega (arith, decimal-length_most (get_or c.args.numbers.now c.loop-number.number-index 0))

pub returns-then-left-needed : goal.returns-then-left-needed
returns-then-left-needed c =
    let a = c.args in
    let at = c.loop-number.number-index in
    let short : a.room < a.front + length (spaced a.numbers.now) = omega (arith, spaced-length-more a.numbers.now at c.loop-number-test.true, spaced_part a.numbers.now (at + 1)) in
    sym (lt-leb _ _ short)

pub loop-number-preserved : goal.loop-number-preserved
loop-number-preserved c = omega (arith, spaced-length-more c.args.numbers.now c.loop-number.number-index c.loop-number-test.true)
