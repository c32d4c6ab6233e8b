-- What is written so far and what the run still says are together what it said from the start. The measure is the lines that it still says.
use lib.ListN.{length}
use Rattle.course.specs.Whole.{course}
use Rattle.run.proofs.Fills.{Fills}
use Rattle.run.proofs.fill.Given as goal

abbrev pub invariant-loop-here : goal.invariant-loop-here
invariant-loop-here l = Fills l.ceiling l.schedule l.initial.buffer l.initial.here l.here l.used l.buffer

abbrev pub decreases-loop-here : goal.decreases-loop-here
decreases-loop-here l = length (course l.ceiling l.schedule l.here).lines
