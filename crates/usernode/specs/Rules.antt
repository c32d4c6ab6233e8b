-- 01, "User node, first rule that fits": which of the nine rules fits the car that arrives. What a rule does is in crate turns.
use Rattle.std.specs.Prelude.{ℕ, cond, eqb}
use Rattle.words.specs.Words.{has, least}
use Rattle.cars.specs.declared.Tag.{Tag}
use Rattle.cars.specs.declared.Car.{Car}
use Rattle.cars.specs.declared.Car.TheVariants.{Idle, Token, Null, Reqp, Failp, Dov, Gotp, Didv}
use Rattle.usernode.specs.declared.Node.{Node}
use Rattle.usernode.specs.declared.Activity.{Activity}
use Rattle.usernode.specs.declared.Activity.TheVariants.{Idle as Resting, ToSendReqp, WaitingReqp, ToSendDov, WaitingDov}
use Rattle.usernode.specs.declared.Rule.{Rule}
use Rattle.usernode.specs.declared.Rule.TheVariants.{Passes, SendsReqp, SendsDov, SendsDidv, OwnReqp, OwnFailp, FailsReqp, OwnDov, LosesLock}
use Rattle.usernode.specs.Node.{had}

-- 3. "letting-go word not empty: .. the letting-go lock with the lowest number goes first"
unfoldable pub on_letting : ℕ → Rule
on_letting letting = cond (eqb letting 0) Passes (SendsDidv (least letting))

-- 1. "a reqp to send", 2. "the same for a dov", 3. as above
unfoldable pub on_gap : Activity → ℕ → Rule
on_gap Resting letting = on_letting letting
on_gap (ToSendReqp lock) letting = SendsReqp lock
on_gap (WaitingReqp lock) letting = on_letting letting
on_gap (ToSendDov lock) letting = SendsDov lock
on_gap (WaitingDov lock) letting = on_letting letting

-- 1 to 3. "idle arrives, flag set"
unfoldable pub on_idle : Node → Rule
on_idle node = cond node.flag (on_gap node.activity node.letting) Passes

-- 4. "Own reqp returns", 6. "Another's reqp for a lock held or being let go, flag set"
unfoldable pub on_reqp : Node → ℕ → Tag → Rule
on_reqp node me tag =
    cond (eqb tag.source me) (OwnReqp tag.lock) (cond node.flag (cond (had node tag.lock) (FailsReqp tag) Passes) Passes)

-- 5. "Own failp returns"
unfoldable pub on_failp : ℕ → Tag → Rule
on_failp me tag = cond (eqb tag.source me) (OwnFailp tag.lock) Passes

-- 7. "Own dov returns", 8. "Another's dov for a held lock .. The flag doesn't matter here"
unfoldable pub on_dov : Node → ℕ → Tag → Rule
on_dov node me tag =
    cond (eqb tag.source me) (OwnDov tag.lock) (cond (has node.held tag.lock) (LosesLock tag) Passes)

-- the first rule that fits; 9. "Anything else passes unchanged."
unfoldable pub rule : Node → ℕ → Car → Rule
rule node me Idle = on_idle node
rule node me Token = Passes
rule node me Null = Passes
rule node me (Reqp tag) = on_reqp node me tag
rule node me (Failp tag) = on_failp me tag
rule node me (Dov tag) = on_dov node me tag
rule node me (Gotp notice) = Passes
rule node me (Didv notice) = Passes
