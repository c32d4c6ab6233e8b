-- The parts follow each other, each with room for it; the law `put-text` puts them together.
use Rattle.std.proofs.Common.{arith}
use Rattle.lines.proofs.Laws.{text-length, put-text}
use Rattle.lines.proofs.put_text.Goals as goal

pub put_number-first_end-requires : goal.put_number-first_end-requires
put_number-first_end-requires c =
    let a = c.args in
    omega (arith, text-length a.first a.letter a.numbers.now)

pub put_letter-letter_end-requires : goal.put_letter-letter_end-requires
put_letter-letter_end-requires c =
    let a = c.args in
    omega (arith, text-length a.first a.letter a.numbers.now)

pub put_numbers-numbers_end-requires : goal.put_numbers-numbers_end-requires
put_numbers-numbers_end-requires c =
    let a = c.args in
    omega (arith, text-length a.first a.letter a.numbers.now)

pub put_byte-requires : goal.put_byte-requires
put_byte-requires c =
    let a = c.args in
    omega (arith, text-length a.first a.letter a.numbers.now)

pub returns : goal.returns
returns c =
    let first = c.put_number-first_end.ensures in
    let letter = c.put_letter-letter_end.ensures in
    let numbers = c.put_numbers-numbers_end.ensures in
    let newline = c.put_byte.ensures in
    let both =
    put-text c.args.buffer.now c.args.first c.args.letter c.args.numbers.now (first.value, first.buffer_after) (letter.value, letter.buffer_after)
    (numbers.value, numbers.buffer_after) (newline.value, newline.buffer_after) c.requires in
    record { value = both.0; buffer_after = both.1 }
