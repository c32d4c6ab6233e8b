-- A step along a route without 13: 14 where the queue would overflow, 15 where a car is astray, else what the trip leaves. The loop's invariant: what
-- is still to come of the route gives, with the trip so far, the whole trip.
use mathlib.Core.Path.{◌≡◌}
use Rattle.ring.proofs.Going.{trip_of, Reached}
use Rattle.ring.proofs.State.moving.Given as goal

abbrev pub invariant-loop-number : goal.invariant-loop-number
invariant-loop-number l = record { at : Reached l.self l.route l.number-index (trip_of l.passed l.last l.astray l.wants l.next.nodes l.events l.next.junctions l.opened); kept : l.next.plan ≡ l.self.plan }
