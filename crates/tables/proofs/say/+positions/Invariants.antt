-- `positions` ends since a list stands behind its first two values.
use Rattle.std.proofs.Common.{length, ◌≤◌}
use Rattle.tables.proofs.say.+positions.Given as goal

abbrev pub decreases-positions : goal.decreases-positions
decreases-positions g l = length l.values.now

abbrev pub invariant-loop-place : goal.invariant-loop-place
invariant-loop-place g l = length l.rest ≤ length l.values
