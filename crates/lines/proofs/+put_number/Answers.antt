-- A number of one digit is put as that digit; any other is put without its last digit, and its last digit behind it.
use Rattle.std.proofs.Common.{arith}
use Rattle.lines.proofs.Laws.{decimal-some, decimal-length-more, put_one, put-more}
use Rattle.lines.proofs.+put_number.Goals as goal

pub put_byte-requires : goal.put_byte-requires
put_byte-requires t c = omega (arith, decimal-some c.args.number, c.requires)

pub returns-then-number-lt10 : goal.returns-then-number-lt10
returns-then-number-lt10 t c =
    let put = c.put_byte.ensures in
    let both =
    put_one c.args.buffer.now c.args.at c.args.number c.last_digit.result c.last_digit.ensures c.if-number-lt10.true (put.value, put.buffer_after) in
    record { value = both.0; buffer_after = both.1 }

pub put_number-last-requires : goal.put_number-last-requires
put_number-last-requires t c =
    let shorter = decimal-length-more c.ranges.number.fits c.if-number-lt10.false in
    (omega arith, rw c.without_last.ensures (omega (arith, shorter, c.requires)))

pub put_byte-requires-2 : goal.put_byte-requires-2
put_byte-requires-2 t c =
    let shorter = decimal-length-more c.ranges.number.fits c.if-number-lt10.false in
    omega (arith, shorter, c.requires, rw c.without_last.ensures at c.put_number-last.ensures.value)

pub returns : goal.returns
returns t c =
    let rest = c.put_number-last.ensures in
    let put = c.put_byte-2.ensures in
    let both =
    put-more c.args.buffer.now c.args.at c.args.number c.last_digit-2.result c.last_digit-2.ensures c.ranges.number.fits c.if-number-lt10.false
    (rw c.without_last.ensures at rest.value, rw c.without_last.ensures at rest.buffer_after) (put.value, put.buffer_after) in
    record { value = both.0; buffer_after = both.1 }
