-- `Run::to_line` meets its contract. Each turn of its loop leaves the run's course as it was, and brings the run nearer to its next line.
use Rattle.course.proofs.Way.{Way, to_go}
use Rattle.course.proofs.Run.to_line.Given as goal

abbrev pub invariant-loop-run : goal.invariant-loop-run
invariant-loop-run l = Way l.ceiling l.schedule l.nodes l.initial.run l.run

abbrev pub decreases-loop-run : goal.decreases-loop-run
decreases-loop-run l = to_go l.schedule l.nodes l.run
