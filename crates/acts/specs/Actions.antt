-- 01, "Actions between steps", of the node that is named, and the numbers 9 to 12.
use Rattle.std.specs.Prelude.{ℕ, Bool, true, cond, not, ◌&&◌, Result, Ok, Err}
use Rattle.cars.specs.Cars.{release_needs_idle}
use Rattle.words.specs.Words.{has, without_lock}
use Rattle.usernode.specs.declared.Node.{Node}
use Rattle.usernode.specs.declared.Activity.{Activity}
use Rattle.usernode.specs.declared.Activity.TheVariants.{ToSendReqp, ToSendDov}
use Rattle.acts.specs.declared.Action.{Action}
use Rattle.acts.specs.declared.Action.TheVariants.{Take, Release, Force}
use Rattle.acts.specs.declared.ActionRefusal.{ActionRefusal}
use Rattle.acts.specs.declared.ActionRefusal.TheVariants.{NoSuchNode, NoSuchLock, NotIdle, Holds, LettingGo, DoesNotHold, BadState}
use Rattle.usernode.specs.Node.{is_idle}
use Rattle.usernode.specs.Node.{let_go}

-- the number of a refusal
unfoldable pub action_refusal_number : ActionRefusal → ℕ
action_refusal_number NoSuchNode = 7
action_refusal_number NoSuchLock = 8
action_refusal_number NotIdle = 9
action_refusal_number Holds = 10
action_refusal_number LettingGo = 11
action_refusal_number DoesNotHold = 12
action_refusal_number BadState = 13

-- the number of an answer; 0: accepted
unfoldable pub action_answer_number : Result Unit ActionRefusal → ℕ
action_answer_number (Ok nothing) = 0
action_answer_number (Err refusal) = action_refusal_number refusal

-- 10 "take or force: the node holds the lock", 11 "take or force: the node is letting the lock go"; 0: none applies
unfoldable pub wish_number : Node → ℕ → ℕ
wish_number node lock = cond (has node.held lock) 10 (cond (has node.letting lock) 11 0)

-- 12 "release: the node does not hold the lock"
unfoldable pub release_number : Node → ℕ → ℕ
release_number node lock = cond (has node.held lock) 0 12

-- 10 to 12, by the action
unfoldable pub later_number : Action → Node → ℕ → ℕ
later_number Take node lock = wish_number node lock
later_number Release node lock = release_number node lock
later_number Force node lock = wish_number node lock

-- take and force need an idle activity; 02, item 4: "under 3 and 4 number 9 is for take and force only"
unfoldable pub needs_idle : ℕ → Action → Bool
needs_idle rules Take = true
needs_idle rules Release = release_needs_idle rules
needs_idle rules Force = true

-- 9 "action: node's activity not idle", then 10 to 12
unfoldable pub node_number : ℕ → Action → Node → ℕ → ℕ
node_number rules action node lock = cond (not (is_idle node.activity) && needs_idle rules action) 9 (later_number action node lock)

-- the node with another activity
unfoldable pub busy_with : Node → Activity → Node
busy_with node activity =
    record { car = node.car; flag = node.flag; activity = activity; held = node.held; letting = node.letting }

-- "Release clears the held bit and, under multiring rules, sets the letting-go bit."
unfoldable pub released : ℕ → Node → ℕ → Node
released rules node lock =
    record { car = node.car; flag = node.flag; activity = node.activity; held = without_lock node.held lock; letting = let_go rules node.letting lock }

-- "Take and force set the activity to send a reqp or dov."
unfoldable pub acted : ℕ → Action → Node → ℕ → Node
acted rules Take node lock = busy_with node (ToSendReqp lock)
acted rules Release node lock = released rules node lock
acted rules Force node lock = busy_with node (ToSendDov lock)
