-- A number of one digit, and one digit more than without its last digit.
use Rattle.std.proofs.Common.{sym, arith}
use Rattle.lines.proofs.Laws.{decimal-length_one, decimal-length-more, decimal-length_most}
use Rattle.lines.proofs.+width.Goals as goal

pub returns-then-number-lt10 : goal.returns-then-number-lt10
returns-then-number-lt10 t c = sym (decimal-length_one c.if-number-lt10.true)

pub overflow_add-result : goal.overflow_add-result
overflow_add-result t c = omega (arith, decimal-length_most c.without_last.result, c.width.ensures)

pub returns : goal.returns
returns t c =
    let rest = rw c.without_last.ensures at c.width.ensures in
    omega (arith, rest, decimal-length-more c.ranges.number.fits c.if-number-lt10.false)
