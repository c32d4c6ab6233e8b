-- There is no room, or the rows are written, or the line of a refusal, which fits.
use Rattle.std.proofs.Common.{◌∙◌}
use borrow.Author.Tests.{lt-leb}
use Rattle.lines.specs.Line.{written_told, written_number, written_length}
use Rattle.sums.specs.Text.{sheet_writing, buffer_after_sheet}
use Rattle.sums.proofs.Written.{text_made, text-refused, sheet_told_lem, sheet_put, refusal_told, refusal_put}
use Rattle.sums.proofs.writing.write_sheet.Goals as goal

pub returns-then-buffer-lt-SHEET_ROOM : goal.returns-then-buffer-lt-SHEET_ROOM
unfolding sheet_writing buffer_after_sheet written_told written_number written_length
returns-then-buffer-lt-SHEET_ROOM c =
    record {
      result_value = simp (lt-leb _ _ c.if-buffer-lt-SHEET_ROOM.true);
      buffer_after = simp (lt-leb _ _ c.if-buffer-lt-SHEET_ROOM.true);
    }

pub returns-in-Ok : goal.returns-in-Ok
unfolding written_told written_number written_length
returns-in-Ok c =
    let buffer = c.args.buffer.now in
    let room = c.if-buffer-lt-SHEET_ROOM.false in
    let text = text_made c.args.made c.in-Ok.is in
    record {
      result_value = rw (sheet_told_lem buffer c.args.made room, text, c.put_rows.ensures.value);
      buffer_after = rw (sheet_put buffer c.args.made room, text) c.put_rows.ensures.buffer_after;
    }

pub returns-in-Err : goal.returns-in-Err
returns-in-Err c =
    let buffer = c.args.buffer.now in
    let room = c.if-buffer-lt-SHEET_ROOM.false in
    let text = text-refused c.args.made c.in-Err.is in
    let number = c.from.result in
    record {
      result_value = rw (sheet_told_lem buffer c.args.made room, text, ← (c.from.ensures ∙ c.number.ensures)) (c.write_line.ensures.result_value ∙ refusal_told buffer number room);
      buffer_after = rw (sheet_put buffer c.args.made room, text, ← (c.from.ensures ∙ c.number.ensures)) (c.write_line.ensures.buffer_after ∙ refusal_put buffer number room);
    }
