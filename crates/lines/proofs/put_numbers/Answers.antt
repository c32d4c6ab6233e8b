-- There is room for one number more, since those up to it are a part of all; a number and its space are put behind those before it.
use Rattle.std.proofs.Common.{◌+◌, length, take, ap, length-set, arith}
use lib.Seq.{length-sets}
use Rattle.lines.specs.Line.{spaced}
use Rattle.lines.proofs.Laws.{spaced-length-more, spaced_part, put_none, put_another}
use Rattle.lines.proofs.put_numbers.Goals as goal

pub loop-number-init : goal.loop-number-init
loop-number-init c = put_none c.args.buffer.now c.args.at c.args.numbers.now

pub put_byte-number_at-requires : goal.put_byte-number_at-requires
put_byte-number_at-requires c =
    let a = c.args in
    let at = c.loop-number.number-index in
    omega (
      arith,
      spaced-length-more a.numbers.now at c.loop-number-test.true,
      spaced_part a.numbers.now (at + 1),
      ap length c.loop-number.invariant.1,
      length-sets a.buffer.now a.at (spaced (take at a.numbers.now)),
    )

pub put_number-end-requires : goal.put_number-end-requires
put_number-end-requires c =
    let a = c.args in
    let at = c.loop-number.number-index in
    omega (
      arith,
      spaced-length-more a.numbers.now at c.loop-number-test.true,
      spaced_part a.numbers.now (at + 1),
      ap length c.loop-number.invariant.1,
      length-sets a.buffer.now a.at (spaced (take at a.numbers.now)),
      ap length c.put_byte-number_at.ensures.buffer_after,
      length-set c.loop-number.buffer c.loop-number.end 32,
    )

pub loop-number-preserved : goal.loop-number-preserved
loop-number-preserved c =
    let space = c.put_byte-number_at.ensures in
    let number = c.put_number-end.ensures in
    put_another c.args.buffer.now c.args.at c.args.numbers.now c.loop-number.number-index c.loop-number-test.true c.loop-number.invariant
    (space.value, space.buffer_after) (number.value, number.buffer_after)
