-- The invariant of the loop is the definition up to the place reached.
use mathlib.Core.Path.{◌≡◌}
use Rattle.tally.specs.Tally.{events_tally}
use Rattle.tally.proofs.events_tally.Given as goal

abbrev pub invariant-loop-event : goal.invariant-loop-event
invariant-loop-event l = l.next ≡ events_tally l.events l.event-index l.initial.next
