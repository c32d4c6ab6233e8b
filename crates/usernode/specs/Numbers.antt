-- 01, "User node, first rule that fits": the number that each rule has in 01, and the nine rules in 01's order, each by the words that say
-- when it fits. Rules.antt goes by the car that arrives instead; that the two agree is a sentence of Theorems.antt.
use Rattle.std.specs.Prelude.{ℕ, Bool, true, false, cond, ◌&&◌, not, eqb}
use Rattle.words.specs.Words.{has}
use Rattle.cars.specs.declared.Tag.{Tag}
use Rattle.cars.specs.declared.Car.{Car}
use Rattle.cars.specs.Kinds.{is_idle_car, reqp_that, failp_that, dov_that}
use Rattle.usernode.specs.declared.Node.{Node}
use Rattle.usernode.specs.declared.Activity.{Activity}
use Rattle.usernode.specs.declared.Activity.TheVariants.{Idle as Resting, ToSendReqp, WaitingReqp, ToSendDov, WaitingDov}
use Rattle.usernode.specs.declared.Rule.{Rule}
use Rattle.usernode.specs.declared.Rule.TheVariants.{Passes, SendsReqp, SendsDov, SendsDidv, OwnReqp, OwnFailp, FailsReqp, OwnDov, LosesLock}
use Rattle.usernode.specs.Node.{had}

-- the number of a rule
unfoldable pub rule_number : Rule → ℕ
rule_number (SendsReqp lock) = 1
rule_number (SendsDov lock) = 2
rule_number (SendsDidv lock) = 3
rule_number (OwnReqp lock) = 4
rule_number (OwnFailp lock) = 5
rule_number (FailsReqp tag) = 6
rule_number (OwnDov lock) = 7
rule_number (LosesLock tag) = 8
rule_number Passes = 9

-- "a reqp to send"
unfoldable pub reqp_to_send : Activity → Bool
reqp_to_send Resting = false
reqp_to_send (ToSendReqp lock) = true
reqp_to_send (WaitingReqp lock) = false
reqp_to_send (ToSendDov lock) = false
reqp_to_send (WaitingDov lock) = false

-- "The same for a dov."
unfoldable pub dov_to_send : Activity → Bool
dov_to_send Resting = false
dov_to_send (ToSendReqp lock) = false
dov_to_send (WaitingReqp lock) = false
dov_to_send (ToSendDov lock) = true
dov_to_send (WaitingDov lock) = false

-- "Own", "Another's": whose number a car bears
unfoldable pub own : ℕ → Tag → Bool
own me tag = eqb tag.source me

unfoldable pub anothers : ℕ → Tag → Bool
anothers me tag = not (own me tag)

-- the first of the nine that fits, in 01's order
unfoldable pub first_that_fits : Node → ℕ → Car → ℕ
first_that_fits node me arrival =
    -- "idle arrives, flag set, a reqp to send"
    cond (is_idle_car arrival && node.flag && reqp_to_send node.activity) 1
    -- "The same for a dov."
    (cond (is_idle_car arrival && node.flag && dov_to_send node.activity) 2
    -- "idle arrives, flag set, letting-go word not empty"
    (cond (is_idle_car arrival && node.flag && not (eqb node.letting 0)) 3
    -- "Own reqp returns"
    (cond (reqp_that (own me) arrival) 4
    -- "Own failp returns"
    (cond (failp_that (own me) arrival) 5
    -- "Another's reqp for a lock held or being let go, flag set"
    (cond (reqp_that (λ tag. anothers me tag && had node tag.lock) arrival && node.flag) 6
    -- "Own dov returns"
    (cond (dov_that (own me) arrival) 7
    -- "Another's dov for a held lock"
    (cond (dov_that (λ tag. anothers me tag && has node.held tag.lock) arrival) 8
    -- "Anything else"
    9)))))))
