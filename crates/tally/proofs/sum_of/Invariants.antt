-- The invariant of the loop is the definition up to the place reached.
use mathlib.Core.Path.{◌≡◌}
use Rattle.lists.specs.Loops.{in_order}
use Rattle.tally.specs.Tally.{add_up}
use Rattle.tally.proofs.sum_of.Given as goal

abbrev pub invariant-loop-count : goal.invariant-loop-count
invariant-loop-count l = l.sum ≡ in_order (add_up l.fn.counts) l.count-index 0
