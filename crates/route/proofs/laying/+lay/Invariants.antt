-- The proof of the cycle of calls {lay}. The measure is the number of levels: a list within a list has one less. The invariant of the loop:
-- what is still to be laid can be laid, and leads to the same.
use Prim.Native.Nat.{◌-◌}
use Rattle.route.proofs.Steps.{Laying}
use Rattle.route.proofs.laying.+lay.Given as goal

abbrev pub invariant-loop : goal.invariant-loop
invariant-loop l = Laying l.values l.inner l.depth l.count l.initial.route l.initial.laid (l.count - l.counter) l.route l.laid

abbrev pub decreases-lay : goal.decreases-lay
decreases-lay l = l.depth
