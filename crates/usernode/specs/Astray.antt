-- 01, number 15: "own reqp, failp or dov arrives and the node isn't waiting for that kind and lock, or its flag is clear,
-- or it holds the lock or is letting it go"; "A failp answers a waiting reqp."
use Rattle.std.specs.Prelude.{ℕ, Bool, false, ◌&&◌, ◌||◌, not, eqb}
use Rattle.cars.specs.declared.Tag.{Tag}
use Rattle.cars.specs.declared.Car.{Car}
use Rattle.cars.specs.declared.Car.TheVariants.{Idle, Token, Null, Reqp, Failp, Dov, Gotp, Didv}
use Rattle.usernode.specs.declared.Node.{Node}
use Rattle.usernode.specs.declared.Activity.{Activity}
use Rattle.usernode.specs.declared.Activity.TheVariants.{Idle as Resting, ToSendReqp, WaitingReqp, ToSendDov, WaitingDov}
use Rattle.usernode.specs.Node.{had}

-- waiting for a reqp for this lock
unfoldable pub waits_reqp : Activity → ℕ → Bool
waits_reqp Resting lock = false
waits_reqp (ToSendReqp own) lock = false
waits_reqp (WaitingReqp own) lock = eqb own lock
waits_reqp (ToSendDov own) lock = false
waits_reqp (WaitingDov own) lock = false

-- waiting for a dov for this lock
unfoldable pub waits_dov : Activity → ℕ → Bool
waits_dov Resting lock = false
waits_dov (ToSendReqp own) lock = false
waits_dov (WaitingReqp own) lock = false
waits_dov (ToSendDov own) lock = false
waits_dov (WaitingDov own) lock = eqb own lock

-- the car is the node's own, and the node is not ready for it
unfoldable pub unready : Node → ℕ → Tag → Bool → Bool
unready node me tag waits = eqb tag.source me && (not waits || not node.flag || had node tag.lock)

unfoldable pub astray : Node → ℕ → Car → Bool
astray node me Idle = false
astray node me Token = false
astray node me Null = false
astray node me (Reqp tag) = unready node me tag (waits_reqp node.activity tag.lock)
astray node me (Failp tag) = unready node me tag (waits_reqp node.activity tag.lock)
astray node me (Dov tag) = unready node me tag (waits_dov node.activity tag.lock)
astray node me (Gotp notice) = false
astray node me (Didv notice) = false
