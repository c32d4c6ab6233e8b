-- The run is ready, and each line said leaves the end as it was. The measure is the lines that it still says.
use mathlib.Core.Path.{◌≡◌}
use mathlib.Core.Bool.{true}
use lib.ListN.{length}
use Rattle.course.specs.Whole.{course}
use Rattle.course.specs.Ready.{ready}
use Rattle.run.proofs.results.finish.Given as goal

abbrev pub invariant-loop-here : goal.invariant-loop-here
invariant-loop-here l = record { ready_now : ready l.schedule l.here ≡ true; same : (course l.ceiling l.schedule l.here).end ≡ (course l.ceiling l.schedule l.initial.here).end }

abbrev pub decreases-loop-here : goal.decreases-loop-here
decreases-loop-here l = length (course l.ceiling l.schedule l.here).lines
