-- The proof of the cycle of calls {survey_from}. The measure is the levels that are left.
use Prim.Native.Nat.{◌-◌}
use Rattle.positions.proofs.Counting.{Counting}
use Rattle.positions.proofs.surveying.+survey_from.Given as goal

abbrev pub invariant-loop : goal.invariant-loop
invariant-loop l = Counting l.values l.depth l.count l.initial.extent (l.count - l.counter) l.extent

abbrev pub decreases-survey_from : goal.decreases-survey_from
decreases-survey_from l = l.depth
