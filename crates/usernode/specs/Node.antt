-- 01, "User node": what the rules ask of a node, and how its letting-go word takes a lock.
use Rattle.std.specs.Prelude.{ℕ, Bool, true, false, cond, ◌||◌, not, eqb}
use Rattle.words.specs.Words.{has, with_lock}
use Rattle.cars.specs.Cars.{multiring}
use Rattle.usernode.specs.declared.Node.{Node}
use Rattle.usernode.specs.declared.Activity.{Activity}
use Rattle.usernode.specs.declared.Activity.TheVariants.{Idle, ToSendReqp, WaitingReqp, ToSendDov, WaitingDov}

-- "a lock held or being let go"
unfoldable pub had : Node → ℕ → Bool
had node lock = has node.held lock || has node.letting lock

-- "an activity (idle; ..)"
unfoldable pub is_idle : Activity → Bool
is_idle Idle = true
is_idle (ToSendReqp lock) = false
is_idle (WaitingReqp lock) = false
is_idle (ToSendDov lock) = false
is_idle (WaitingDov lock) = false

-- "wants a train (activity not idle, or letting-go word not empty ..)"
unfoldable pub wants_train : Node → Bool
wants_train node = not (is_idle node.activity) || not (eqb node.letting 0)

-- "and, under multiring rules, set the letting-go bit"
unfoldable pub let_go : ℕ → ℕ → ℕ → ℕ
let_go rules letting lock = cond (multiring rules) (with_lock letting lock) letting
