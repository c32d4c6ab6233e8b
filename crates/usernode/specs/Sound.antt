-- 01, number 13, of one user node: "a car or activity in use naming a missing node or lock, a word with a bit of a missing
-- lock, a letting-go bit, gotp or didv under ring rules".
use Rattle.std.specs.Prelude.{ℕ, Bool, true, ◌&&◌, ◌||◌, eqb, ltb, Option, Some, None}
use Rattle.words.specs.Words.{all_below}
use Rattle.cars.specs.Cars.{multiring, car_names}
use Rattle.usernode.specs.declared.Node.{Node}
use Rattle.usernode.specs.declared.Activity.{Activity}
use Rattle.usernode.specs.declared.Activity.TheVariants.{Idle as Resting, ToSendReqp, WaitingReqp, ToSendDov, WaitingDov}

-- an activity names no missing lock
unfoldable pub activity_names : ℕ → Activity → Bool
activity_names locks Resting = true
activity_names locks (ToSendReqp lock) = ltb lock locks
activity_names locks (WaitingReqp lock) = ltb lock locks
activity_names locks (ToSendDov lock) = ltb lock locks
activity_names locks (WaitingDov lock) = ltb lock locks

-- the same by its lock, none where there is nothing to do
abbrev pub lock_named : ℕ → Option ℕ → Bool
lock_named locks None = true
lock_named locks (Some lock) = ltb lock locks

-- no letting-go bit under ring rules
unfoldable pub letting_allowed : ℕ → ℕ → Bool
letting_allowed rules letting = multiring rules || eqb letting 0

-- nothing of the node is what 13 refuses
unfoldable pub node_sound : ℕ → ℕ → ℕ → Node → Bool
node_sound rules nodes locks node =
    car_names rules nodes locks node.car
    && activity_names locks node.activity
    && all_below node.held locks
    && all_below node.letting locks
    && letting_allowed rules node.letting
