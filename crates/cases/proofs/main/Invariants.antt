-- At most as many cases agree as were tried.
use Rattle.std.proofs.Common.{◌+◌, ◌≤◌}
use Rattle.cases.proofs.main.Given as goal

abbrev pub invariant-loop-argument : goal.invariant-loop-argument
invariant-loop-argument l = l.agreed + 1 ≤ l.argument
