-- The busy counts and those of the events, of as many nodes and locks as there are places.
use Rattle.lists.specs.Loops.{iterate}
use Rattle.tally.specs.Tally.{step_tally}
use Rattle.tally.proofs.step_tally.Goals as goal

pub returns : goal.returns
unfolding step_tally iterate
returns c = simp (c.busy_counts.ensures, c.at_most_64.ensures, c.events_tally.ensures, c.at_most_64-those.ensures)
