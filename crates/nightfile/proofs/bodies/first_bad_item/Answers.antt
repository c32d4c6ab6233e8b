-- `first_bad_item` gives the place of `first_bad_item`, where some item is bad: by the run of the items that were looked at.
use Rattle.std.proofs.Common.{rules}
use Rattle.std.specs.Slice.Iter.{chunks_exact_size, chunks_exact_rest}
use Rattle.nightfile.proofs.FirstBad.{first_found}
use Rattle.nightfile.proofs.bodies.first_bad_item.Goals as goal

pub returns : goal.returns
returns c =
    let chunks = c.chunks_exact.ensures in
    first_found c.args.schedule.now chunks_exact_size chunks_exact_rest c.chunks_exact.result chunks.runs chunks.size chunks.rest _ _
    (λ item bad q called. search rules) c.position.result c.position.ensures.runs
