-- There is room for any row, so it is written.
use Rattle.sums.proofs.Written.{row_written}
use Rattle.sums.proofs.writing.put_row.Goals as goal

pub unwrap-requires : goal.unwrap-requires
unwrap-requires c =
    let a = c.args in
    rw (row_written c.write_row.result a.buffer.now a.used a.lock a.numbers c.requires c.write_row.ensures.result_value)

pub returns-clause-value : goal.returns-clause-value
returns-clause-value c =
    let a = c.args in
    cc (row_written c.write_row.result a.buffer.now a.used a.lock a.numbers c.requires c.write_row.ensures.result_value)
