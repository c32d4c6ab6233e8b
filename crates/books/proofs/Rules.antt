-- Two numbers of the rules that are alike: what takes the number of the rules, beside the refusal of an action, is the same function of all else under
-- both.
use Prim.Native.Nat.{ℕ}
use mathlib.Core.Path.{◌≡◌, refl}
use mathlib.Core.Bool.{cond, ◌&&◌, ◌||◌}
use lib.Dec.{eqb, leb}
use lib.ListN.{get_or}
use Rattle.lists.specs.Loops.{every}
use Rattle.words.specs.Words.{all_below, with_lock, without_lock}
use Rattle.cars.specs.Cars.{names, notice_names, car_names}
use Rattle.cars.specs.declared.Car.{Car}
use Rattle.cars.specs.declared.Car.TheVariants.{Idle, Token, Null, Reqp, Failp, Dov, Gotp, Didv}
use Rattle.usernode.specs.declared.Node.{Node}
use Rattle.usernode.specs.declared.Activity.TheVariants.{Idle as Resting}
use Rattle.usernode.specs.declared.Rule.{Rule}
use Rattle.usernode.specs.declared.Rule.TheVariants.{Passes, SendsReqp, SendsDov, SendsDidv, OwnReqp, OwnFailp, FailsReqp, OwnDov, LosesLock}
use Rattle.usernode.specs.Node.{let_go}
use Rattle.usernode.specs.Rules.{rule}
use Rattle.usernode.specs.Sound.{activity_names, letting_allowed, node_sound}
use Rattle.turns.specs.Turn.{becomes, grant_car, apply, event_of, turn}
use Rattle.zeronode.specs.Rules.{queue_places, empty_slot}
use Rattle.zeronode.specs.Sound.{place_names, zero_sound}
use Rattle.junction.specs.Sound.{junction_sound}
use Rattle.acts.specs.declared.Action.{Action}
use Rattle.acts.specs.declared.Action.TheVariants.{Take, Release, Force}
use Rattle.acts.specs.Actions.{released, acted}
use Rattle.books.specs.Alike.{Alike}

-- any number and itself
pub alike_self : (r : ℕ) → Alike r r
alike_self r = record { many = refl; least = refl; most = refl }

module _ (k r : ℕ) (a : Alike k r) where
  -- what a rule does to a node
  apply_same : (me : ℕ) (arrival : Car) (node : Node) (rule : Rule) → apply k me arrival node rule ≡ apply r me arrival node rule
  unfolding apply grant_car let_go
  apply_same me arrival node (SendsReqp lock) = refl
  apply_same me arrival node (SendsDov lock) = refl
  apply_same me arrival node (SendsDidv lock) = refl
  apply_same me arrival node (OwnReqp lock) =
      λ i. becomes node (cond (a.many i) (Gotp (record { lock = lock; source = me })) Null) Resting (with_lock node.held lock) node.letting
  apply_same me arrival node (OwnFailp lock) = refl
  apply_same me arrival node (FailsReqp tag) = refl
  apply_same me arrival node (OwnDov lock) = refl
  apply_same me arrival node (LosesLock tag) =
      λ i. becomes node (Dov tag) node.activity (without_lock node.held tag.lock) (cond (a.many i) (with_lock node.letting tag.lock) node.letting)
  apply_same me arrival node Passes = refl

  -- a node's turn
  pub turn_same : turn k ≡ turn r
  unfolding turn
  turn_same = λ i me arrival node. record { node = apply_same me arrival node (rule node me arrival) i; event = event_of (rule node me arrival) }

  -- what an action does to a node
  acted-at : (action : Action) (node : Node) (lock : ℕ) → acted k action node lock ≡ acted r action node lock
  unfolding acted released let_go
  acted-at Take node lock = refl
  acted-at Release node lock =
      λ i. record {
        car = node.car;
        flag = node.flag;
        activity = node.activity;
        held = without_lock node.held lock;
        letting = cond (a.many i) (with_lock node.letting lock) node.letting;
      }
  acted-at Force node lock = refl

  pub acted_same : acted k ≡ acted r
  acted_same = λ i action node lock. acted-at action node lock i

  -- 13, of a car
  names_at : (nodes locks : ℕ) (car : Car) → car_names k nodes locks car ≡ car_names r nodes locks car
  unfolding car_names notice_names
  names_at nodes locks Idle = refl
  names_at nodes locks Token = refl
  names_at nodes locks Null = refl
  names_at nodes locks (Reqp tag) = refl
  names_at nodes locks (Failp tag) = refl
  names_at nodes locks (Dov tag) = refl
  names_at nodes locks (Gotp notice) = λ i. a.many i && names nodes locks notice.lock notice.source
  names_at nodes locks (Didv notice) = λ i. a.many i && names nodes locks notice.lock notice.source

  -- of a user node, of the zero node, of a junction
  pub node-sound : node_sound k ≡ node_sound r
  unfolding node_sound letting_allowed
  node-sound =
      λ i nodes locks node. names_at nodes locks node.car i && activity_names locks node.activity && all_below node.held locks && all_below node.letting locks
      && (a.many i || eqb node.letting 0)

  pub zero-sound : zero_sound k ≡ zero_sound r
  unfolding zero_sound place_names
  zero-sound =
      λ i nodes locks node. leb node.count queue_places && names_at nodes locks node.car i
      && every (λ place. names_at nodes locks (get_or node.queue place empty_slot) i) node.count

  pub junction-sound : junction_sound k ≡ junction_sound r
  unfolding junction_sound
  junction-sound =
      λ i nodes locks junction. names_at nodes locks junction.main i && names_at nodes locks junction.subring i && all_below junction.word locks
