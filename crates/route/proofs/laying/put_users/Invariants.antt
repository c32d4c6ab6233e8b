-- The invariant of the loop: the numbers that are left, with those that are put, are all of them.
use Prim.Native.Nat.{◌+◌, ◌-◌}
use mathlib.Core.Path.{◌≡◌}
use lib.Seq.{sets}
use Rattle.route.specs.Laying.{nodes_from}
use Rattle.route.proofs.laying.put_users.Given as goal

abbrev pub invariant-loop-i : goal.invariant-loop-i
invariant-loop-i l = sets l.route (l.at + l.i) (nodes_from (l.node + l.i) (l.count - l.i)) ≡ sets l.initial.route l.at (nodes_from l.node l.count)
