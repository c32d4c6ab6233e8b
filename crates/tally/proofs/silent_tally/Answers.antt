-- Of steps without an event only the busy counts are left.
use Rattle.tally.proofs.Laws.{silent_counts}
use Rattle.tally.proofs.silent_tally.Goals as goal

pub returns : goal.returns
returns c = simp (silent_counts, c.busy_counts.ensures, c.from.ensures, c.at_most_64.ensures, c.at_most_64-2.ensures)
