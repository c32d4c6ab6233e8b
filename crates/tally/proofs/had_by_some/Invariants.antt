-- The invariant of the loop is the definition up to the place reached.
use Prim.Native.Nat.{ℕ}
use mathlib.Core.Path.{◌≡◌}
use Rattle.words.specs.Words.{has}
use Rattle.tally.specs.Tally.{busy}
use Rattle.tally.proofs.had_by_some.Given as goal

abbrev pub invariant-loop-node : goal.invariant-loop-node
invariant-loop-node l = (lock : ℕ) → has l.word lock ≡ busy l.nodes l.node-index lock
