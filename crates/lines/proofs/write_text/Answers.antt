-- The room decides between the two answers; what was written is what `put_text` ensures.
use Rattle.std.proofs.Common.{◌∙◌, arith}
use lib.ListN.{length}
use borrow.Author.Tests.{leb-true}
use Rattle.lines.specs.Line.{writing, buffer_after, written_told, written_number, written_length}
use Rattle.lines.proofs.Laws.{decimal-length_most, behind-length_most, room_told}
use Rattle.lines.proofs.write_text.Goals as goal

pub overflow_add-width : goal.overflow_add-width
overflow_add-width c = omega (arith, c.width.ensures, c.letter_width.ensures, decimal-length_most c.args.first, behind-length_most c.args.letter)

pub overflow_add-width-2 : goal.overflow_add-width-2
overflow_add-width-2 c = omega (arith, c.width.ensures, c.letter_width.ensures, decimal-length_most c.args.first, behind-length_most c.args.letter)

pub put_text-requires : goal.put_text-requires
put_text-requires c =
    let a = c.args in
    leb-true _ _ (room_told a.first a.letter a.numbers.now (length a.buffer.now) c.width.ensures c.letter_width.ensures c.has_room.ensures ∙ c.if-has_room.true)

pub returns-then-has_room : goal.returns-then-has_room
unfolding writing buffer_after written_told written_number written_length
returns-then-has_room c =
    let a = c.args in
    let fits = room_told a.first a.letter a.numbers.now (length a.buffer.now) c.width.ensures c.letter_width.ensures c.has_room.ensures ∙ c.if-has_room.true in
    record { result_value = simp (fits, c.put_text.ensures.value); buffer_after = simp fits c.put_text.ensures.buffer_after }

pub returns : goal.returns
unfolding writing buffer_after written_told written_number written_length
returns c =
    let a = c.args in
    let refused = room_told a.first a.letter a.numbers.now (length a.buffer.now) c.width.ensures c.letter_width.ensures c.has_room.ensures ∙ c.if-has_room.false in
    record { result_value = simp refused; buffer_after = simp refused }
