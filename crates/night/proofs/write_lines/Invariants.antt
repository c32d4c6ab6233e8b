-- What is written and what is still to be said are the run's lines. The measure is the number of lines left.
use Rattle.std.proofs.Common.{◌≡◌, ℕ, List, ◌++◌, length}
use Rattle.std.specs.Io.KnownBytes.{Appends}
use Rattle.course.specs.Whole.{course}
use Rattle.run.specs.Filling.{texts}
use Rattle.night.proofs.write_lines.Given as goal

abbrev pub invariant-loop-run : goal.invariant-loop-run
invariant-loop-run g l = (length l.buffer ≡ 65536) × (said : List ℕ) × Appends (g.W.Write.contents l.initial.out) (g.W.Write.contents l.out) said
    × (said ++ texts (course 1000000 l.schedule l.run).lines ≡ texts (course 1000000 l.schedule l.fn.start).lines)

abbrev pub decreases-loop-run : goal.decreases-loop-run
decreases-loop-run g l = length (course 1000000 l.schedule l.run).lines
