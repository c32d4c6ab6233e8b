-- 01, "User node": what each of the nine rules does, and the event that it gives. The in-train flag afterwards is `flag_after`, of crate cars.
use Rattle.std.specs.Prelude.{ℕ, cond, Option, Some, None}
use Rattle.words.specs.Words.{with_lock, without_lock}
use Rattle.cars.specs.Cars.{multiring, flag_after}
use Rattle.cars.specs.declared.Car.{Car}
use Rattle.cars.specs.declared.Car.TheVariants.{Null, Reqp, Failp, Dov, Gotp, Didv}
use Rattle.usernode.specs.declared.Node.{Node}
use Rattle.usernode.specs.declared.Activity.{Activity}
use Rattle.usernode.specs.declared.Activity.TheVariants.{Idle as Resting, WaitingReqp, WaitingDov}
use Rattle.usernode.specs.declared.Rule.{Rule}
use Rattle.usernode.specs.declared.Rule.TheVariants.{Passes, SendsReqp, SendsDov, SendsDidv, OwnReqp, OwnFailp, FailsReqp, OwnDov, LosesLock}
use Rattle.turns.specs.declared.Event.{Event}
use Rattle.turns.specs.declared.Event.TheVariants.{Granted, Failed, Lost, Back, Sent}
use Rattle.turns.specs.declared.Turn.{Turn}
use Rattle.usernode.specs.Node.{let_go}
use Rattle.usernode.specs.Rules.{rule}

-- the node that now sends this car, with this activity, held word and letting-go word
unfoldable pub becomes : Node → Car → Activity → ℕ → ℕ → Node
becomes node car activity held letting =
    record { car = car; flag = flag_after car node.flag; activity = activity; held = held; letting = letting }

-- 4. "send null (ring) or gotp (multiring)"
unfoldable pub grant_car : ℕ → ℕ → ℕ → Car
grant_car rules me lock = cond (multiring rules) (Gotp (record { lock = lock; source = me })) Null

-- rules 1 to 9, one a line: the car sent, the activity, the held word, the letting-go word
unfoldable pub apply : ℕ → ℕ → Car → Node → Rule → Node
apply rules me arrival node (SendsReqp lock) = becomes node (Reqp (record { lock = lock; source = me })) (WaitingReqp lock) node.held node.letting
apply rules me arrival node (SendsDov lock) = becomes node (Dov (record { lock = lock; source = me })) (WaitingDov lock) node.held node.letting
apply rules me arrival node (SendsDidv lock) = becomes node (Didv (record { lock = lock; source = me })) node.activity node.held (without_lock node.letting lock)
apply rules me arrival node (OwnReqp lock) = becomes node (grant_car rules me lock) Resting (with_lock node.held lock) node.letting
apply rules me arrival node (OwnFailp lock) = becomes node Null Resting node.held node.letting
apply rules me arrival node (FailsReqp tag) = becomes node (Failp tag) node.activity node.held node.letting
apply rules me arrival node (OwnDov lock) = becomes node Null Resting node.held node.letting
apply rules me arrival node (LosesLock tag) = becomes node (Dov tag) node.activity (without_lock node.held tag.lock) (let_go rules node.letting tag.lock)
apply rules me arrival node Passes = becomes node arrival node.activity node.held node.letting

-- "G granted, N failp returned, L lost to a dov, B own dov back, D didv sent"
unfoldable pub event_of : Rule → Option Event
event_of (SendsReqp lock) = None
event_of (SendsDov lock) = None
event_of (SendsDidv lock) = Some (Sent lock)
event_of (OwnReqp lock) = Some (Granted lock)
event_of (OwnFailp lock) = Some (Failed lock)
event_of (FailsReqp tag) = None
event_of (OwnDov lock) = Some (Back lock)
event_of (LosesLock tag) = Some (Lost tag.lock)
event_of Passes = None

-- a node's turn in a step: by the rules, the node's number and the car that arrives
unfoldable pub turn : ℕ → ℕ → Car → Node → Turn
turn rules me arrival node =
    record { node = apply rules me arrival node (rule node me arrival); event = event_of (rule node me arrival) }

-- the letter and the lock of an event's line; no event has letter 0 and lock 0
unfoldable pub event_letter : Option Event → ℕ
event_letter None = 0
event_letter (Some (Granted lock)) = 71
event_letter (Some (Failed lock)) = 78
event_letter (Some (Lost lock)) = 76
event_letter (Some (Back lock)) = 66
event_letter (Some (Sent lock)) = 68

unfoldable pub event_lock : Option Event → ℕ
event_lock None = 0
event_lock (Some (Granted lock)) = lock
event_lock (Some (Failed lock)) = lock
event_lock (Some (Lost lock)) = lock
event_lock (Some (Back lock)) = lock
event_lock (Some (Sent lock)) = lock
