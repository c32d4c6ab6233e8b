-- `morning::entries::first_entry` meets its contract: it is sought in the rows of the listed schedules.
use mathlib.Core.Path.{◌∙◌}
use native.Mathlib.Omega.{arith}
use Rattle.morning.specs.Order.{places_in, first_entry}
use Rattle.morning.proofs.Places.{seek_cut}
use Rattle.morning.proofs.entries.first_entry.Goals as goal

pub returns : goal.returns
unfolding places_in first_entry
returns c = c.seek.ensures ∙ seek_cut c.args.rows.now (places_in c.args.rows.now c.args.listed) 0 0 c.listed_rows.ensures (omega arith) (omega arith)
