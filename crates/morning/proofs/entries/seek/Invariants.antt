-- The invariant of the loop in `morning::entries::seek`: what the verdict at hand gives, from the place at hand on, is what is sought.
use Prim.Native.Nat.{◌≤◌}
use mathlib.Core.Path.{◌≡◌}
use lib.ListN.{length}
use Rattle.morning.specs.Order.{seek}
use Rattle.morning.proofs.entries.seek.Given as goal

abbrev pub invariant-loop-verdict : goal.invariant-loop-verdict
invariant-loop-verdict l =
    record {
      within : l.next ≤ length l.rows;
      left : seek l.rows (length l.rows) l.verdict l.next ≡ seek l.rows (length l.rows) l.start l.from;
    }
