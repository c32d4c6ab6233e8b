-- The queue with its cars moved up; and a head is sent only where the queue has one.
use Prim.Native.Nat.{ℕ, zero, suc, ◌-◌, ◌≤◌, ◌<◌}
use mathlib.Core.Path.{◌≡◌, refl}
use mathlib.Core.Bool.{cond}
use mathlib.Core.Logic.{◌⊎◌, inl, inr}
use mathlib.Core.List.{List}
use Rattle.std.proofs.Common.{zero-add}
use native.Mathlib.Omega.{arith}
use lib.Dec.{eqb}
use Rattle.std.specs.List.{copy_within}
use lib.ListN.{length, take, drop, set, get_or, length-drop}
use lib.Seq.{drop-cons, set_at, length-take-le}
use Rattle.cars.specs.declared.Car.{Car}
use Rattle.zeronode.specs.declared.ZeroNode.{ZeroNode}
use Rattle.zeronode.specs.declared.ZeroRule.{ZeroRule}
use Rattle.zeronode.specs.declared.ZeroRule.TheVariants.{SendsIdle}
use Rattle.zeronode.specs.Rules.{empty_slot, zero_rule}
use Rattle.zeronode.specs.Turn.{shifted}

-- the cars behind the head copied to its place, and the place given up idle
pub shifted_is : (q : List Car) (count : ℕ) → 0 < count → count ≤ length q → set (copy_within q 1 count 0) (count - 1) empty_slot ≡ shifted q count
unfolding shifted
shifted_is q count l h =
    let n : length (take (count - 1) (drop 1 q)) ≡ count - 1 = length-take-le (count - 1) (drop 1 q) (simp length-drop (omega arith)) in
    let e : suc (count - 1) ≡ count = omega arith in
    let b : count - 1 < length q = omega arith in
    rw (zero-add, drop-cons q (count - 1) empty_slot, e)
    (set_at (take (count - 1) (drop 1 q)) (get_or q (count - 1) empty_slot) (drop count q) empty_slot (count - 1) n)

-- an empty queue sends idle, so what sends anything else has a car
idle_or_counted : (count : ℕ) (rule : ZeroRule) → (cond (eqb count 0) SendsIdle rule ≡ SendsIdle) ⊎ (0 < count)
idle_or_counted zero rule = inl refl
idle_or_counted (suc k) rule = inr (omega arith)

pub idle_or_queued : (node : ZeroNode) (arrival : Car) → (zero_rule node arrival ≡ SendsIdle) ⊎ (0 < node.count)
unfolding zero_rule
idle_or_queued node arrival = idle_or_counted node.count _
