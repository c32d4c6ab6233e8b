-- The invariant of the loop is the definition up to the place reached.
use mathlib.Core.Path.{◌≡◌}
use Rattle.lists.specs.Loops.{in_order}
use Rattle.tally.proofs.Laws.{word_lock}
use Rattle.tally.proofs.busy_counts.Given as goal

abbrev pub invariant-loop-lock : goal.invariant-loop-lock
invariant-loop-lock l = l.counts ≡ in_order (word_lock l.word l.steps) l.lock l.initial.counts
