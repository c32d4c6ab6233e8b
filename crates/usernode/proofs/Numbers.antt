-- The rule that the car that arrives leads to is the first of 01's nine that fits. By the car, and then by the tests that are left.
use Prim.Native.Nat.{ℕ}
use mathlib.Core.Path.{◌≡◌, refl, ap, ◌∙◌}
use mathlib.Core.Bool.{Bool, true, false, cond, ◌&&◌, not}
use lib.Dec.{eqb}
use Rattle.words.specs.Words.{has, least}
use Rattle.cars.specs.declared.Tag.{Tag}
use Rattle.cars.specs.declared.Car.{Car}
use Rattle.cars.specs.declared.Car.TheVariants.{Idle, Token, Null, Reqp, Failp, Dov, Gotp, Didv}
use Rattle.cars.specs.Kinds.{is_idle_car, reqp_that, failp_that, dov_that}
use Rattle.usernode.specs.declared.Node.{Node}
use Rattle.usernode.specs.declared.Activity.{Activity}
use Rattle.usernode.specs.declared.Activity.TheVariants.{Idle as Resting, ToSendReqp, WaitingReqp, ToSendDov, WaitingDov}
use Rattle.usernode.specs.declared.Rule.{Rule}
use Rattle.usernode.specs.declared.Rule.TheVariants.{Passes, SendsDidv, OwnReqp, OwnFailp, FailsReqp, OwnDov, LosesLock}
use Rattle.usernode.specs.Node.{had}
use Rattle.usernode.specs.Rules.{on_letting, on_gap, on_idle, on_reqp, on_failp, on_dov, rule}
use Rattle.usernode.specs.Numbers.{rule_number, reqp_to_send, dov_to_send, own, anothers, first_that_fits}
use Rattle.usernode.specs.Theorems.{FirstThatFits}

-- 3 or 9, by whether the letting-go word is empty
letting_fits : (empty : Bool) (lock : ℕ) → rule_number (cond empty Passes (SendsDidv lock)) ≡ cond (not empty) 3 9
unfolding rule_number
letting_fits true lock = refl
letting_fits false lock = refl

-- 1, 2, 3 or 9, by the flag and the activity
idle_fits : (flag : Bool) (activity : Activity) (letting : ℕ)
    → rule_number (cond flag (on_gap activity letting) Passes)
    ≡ cond (flag && reqp_to_send activity) 1 (cond (flag && dov_to_send activity) 2 (cond (flag && not (eqb letting 0)) 3 9))
unfolding rule_number on_gap on_letting reqp_to_send dov_to_send
idle_fits false activity letting = refl
idle_fits true Resting letting = letting_fits (eqb letting 0) (least letting)
idle_fits true (ToSendReqp lock) letting = refl
idle_fits true (WaitingReqp lock) letting = letting_fits (eqb letting 0) (least letting)
idle_fits true (ToSendDov lock) letting = refl
idle_fits true (WaitingDov lock) letting = letting_fits (eqb letting 0) (least letting)

-- 4, 6 or 9, by whether the reqp is own, whether the lock is held or being let go, and the flag
reqp_fits : (mine flag lock_had : Bool) (tag : Tag)
    → rule_number (cond mine (OwnReqp tag.lock) (cond flag (cond lock_had (FailsReqp tag) Passes) Passes))
    ≡ cond mine 4 (cond (not mine && lock_had && flag) 6 9)
unfolding rule_number
reqp_fits true flag lock_had tag = refl
reqp_fits false true true tag = refl
reqp_fits false true false tag = refl
reqp_fits false false true tag = refl
reqp_fits false false false tag = refl

-- 5 or 9
failp_fits : (mine : Bool) (tag : Tag) → rule_number (cond mine (OwnFailp tag.lock) Passes) ≡ cond mine 5 9
unfolding rule_number
failp_fits true tag = refl
failp_fits false tag = refl

-- 7, 8 or 9, by whether the dov is own and whether the lock is held
dov_fits : (mine lock_held : Bool) (tag : Tag)
    → rule_number (cond mine (OwnDov tag.lock) (cond lock_held (LosesLock tag) Passes)) ≡ cond mine 7 (cond (not mine && lock_held) 8 9)
unfolding rule_number
dov_fits true lock_held tag = refl
dov_fits false true tag = refl
dov_fits false false tag = refl

pub first_that_fits_lem : FirstThatFits
unfolding rule on_idle on_reqp on_failp on_dov rule_number first_that_fits is_idle_car reqp_that failp_that dov_that own anothers
first_that_fits_lem node me Idle = idle_fits node.flag node.activity node.letting
first_that_fits_lem node me Token = refl
first_that_fits_lem node me Null = refl
first_that_fits_lem node me (Reqp tag) = reqp_fits (eqb tag.source me) node.flag (had node tag.lock) tag
first_that_fits_lem node me (Failp tag) = failp_fits (eqb tag.source me) tag
first_that_fits_lem node me (Dov tag) = dov_fits (eqb tag.source me) (has node.held tag.lock) tag
first_that_fits_lem node me (Gotp notice) = refl
first_that_fits_lem node me (Didv notice) = refl

-- a rule as the definition has it, with its number: the promise of Node::rule
pub numbered : (node : Node) (me : ℕ) (arrival : Car) (r : Rule)
    → r ≡ rule node me arrival → (r ≡ rule node me arrival) × (rule_number r ≡ first_that_fits node me arrival)
numbered node me arrival r e = (e, ap rule_number e ∙ first_that_fits_lem node me arrival)
