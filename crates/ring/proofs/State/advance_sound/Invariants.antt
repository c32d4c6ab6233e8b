-- Several steps of a state that passes 13, along the route of its plan: in the loop what is left to do leads to what was asked.
use Rattle.std.proofs.Common.{◌-◌}
use Rattle.ring.proofs.Advancing.{Going}
use Rattle.ring.proofs.State.advance_sound.Given as goal

abbrev pub invariant-loop-done : goal.invariant-loop-done
invariant-loop-done l = Going l.initial.state l.limit l.count (record { state = l.state; events = l.events; done = l.done }) (l.limit - l.done)
