-- Of 13, a user node by itself: if it and the arrival name only nodes and locks of the plan, it does so after its turn too, and
-- after an action.
use Prim.Native.Nat.{ℕ, ◌^◌, ◌≤◌, ◌<◌}
use mathlib.Core.Path.{◌≡◌, refl}
use mathlib.Core.Bool.{Bool, true, ◌&&◌, ◌||◌}
use native.Mathlib.Nat.{lt_of_lt_of_le}
use native.Mathlib.Omega.{arith}
use lib.Dec.{eqb, ltb}
use lib.Pow.{pow_mono}
use borrow.Author.Tests.{lt-ltb, ltb-true, eqb-false}
use Rattle.words.specs.Words.{has, least, all_below}
use Rattle.words.proofs.Sets.{has_in, with_within, without-within, least_member}
use Rattle.lists.proofs.Laws.{and_left, and_right}
use Rattle.cars.specs.declared.Car.{Car}
use Rattle.cars.specs.declared.Car.TheVariants.{Idle, Token, Null, Reqp, Failp, Dov, Gotp, Didv}
use Rattle.cars.specs.Cars.{multiring, is_node, names, notice_names, car_names}
use Rattle.usernode.specs.declared.Node.{Node}
use Rattle.usernode.specs.declared.Activity.{Activity}
use Rattle.usernode.specs.declared.Activity.TheVariants.{Idle as Resting, ToSendReqp, WaitingReqp, ToSendDov, WaitingDov}
use Rattle.usernode.specs.declared.Rule.{Rule}
use Rattle.usernode.specs.declared.Rule.TheVariants.{Passes, SendsReqp, SendsDov, SendsDidv, OwnReqp, OwnFailp, FailsReqp, OwnDov, LosesLock}
use Rattle.usernode.specs.Node.{had}
use Rattle.usernode.specs.Rules.{on_letting, on_gap, on_idle, on_reqp, on_failp, on_dov, rule}
use Rattle.usernode.specs.Node.{let_go}
use Rattle.turns.specs.Turn.{becomes, grant_car, apply, event_of, turn, event_lock}
use Rattle.acts.specs.declared.Action.{Action}
use Rattle.acts.specs.declared.Action.TheVariants.{Take, Release, Force}
use Rattle.acts.specs.Actions.{busy_with, released, acted}
use Rattle.usernode.specs.Sound.{activity_names, letting_allowed, node_sound}
use Rattle.lists.proofs.Tests.{and_both, or_first, or_by_first, by_test}

-- five tests that hold together hold each
all_five : (a b c d e : Bool) → (a && b && c && d && e) ≡ true → (a ≡ true) × (b ≡ true) × (c ≡ true) × (d ≡ true) × (e ≡ true)
all_five a b c d e five =
    let four = and_left (a && b && c && d) e five in
    let three = and_left (a && b && c) d four in
    let two = and_left (a && b) c three in
    (and_left a b two, and_right a b two, and_right (a && b) c three, and_right (a && b && c) d four, and_right (a && b && c && d) e five)

-- what names a node and a lock of the plan names a lock of the plan
pub names_lock : (nodes locks lock source : ℕ) → names nodes locks lock source ≡ true → lock < locks
unfolding names
names_lock nodes locks lock source e = ltb-true lock locks (and_right (is_node nodes source) (ltb lock locks) e)

module _ (rules nodes locks : ℕ) where
  -- whether what a node's rule names is there; a didv is under multiring rules
  rule_names : Rule → Bool
  rule_names (SendsReqp lock) = ltb lock locks
  rule_names (SendsDov lock) = ltb lock locks
  rule_names (SendsDidv lock) = multiring rules && ltb lock locks
  rule_names (OwnReqp lock) = ltb lock locks
  rule_names (OwnFailp lock) = ltb lock locks
  rule_names (FailsReqp tag) = names nodes locks tag.lock tag.source
  rule_names (OwnDov lock) = ltb lock locks
  rule_names (LosesLock tag) = names nodes locks tag.lock tag.source
  rule_names Passes = true

  -- it names only what is there
  abbrev Named : Rule → Type 0
  Named r = rule_names r ≡ true

  -- what 13 asks of a node, each thing by itself
  pub record InPlan (node : Node) : Type 0 where
    pub car : car_names rules nodes locks node.car ≡ true
    pub activity : activity_names locks node.activity ≡ true
    pub held : node.held < 2 ^ locks
    pub letting : node.letting < 2 ^ locks
    pub allowed : letting_allowed rules node.letting ≡ true

  -- the test of a node says each of these
  pub in_plan : (node : Node) → node_sound rules nodes locks node ≡ true → InPlan node
  unfolding node_sound all_below
  in_plan node e =
      let each = all_five (car_names rules nodes locks node.car) (activity_names locks node.activity)
      (all_below node.held locks) (all_below node.letting locks) (letting_allowed rules node.letting) e in
      record { car = each.0; activity = each.1; held = ltb-true _ _ each.2; letting = ltb-true _ _ each.3; allowed = each.4 }

  -- and they say the test
  in_plan_sound : (node : Node) → InPlan node → node_sound rules nodes locks node ≡ true
  unfolding node_sound all_below
  in_plan_sound node f =
      and_both (and_both (and_both (and_both f.car f.activity) (lt-ltb _ _ f.held)) (lt-ltb _ _ f.letting)) f.allowed

  -- the car of a node that passes names only what is there
  pub sound_car : (node : Node) → node_sound rules nodes locks node ≡ true → car_names rules nodes locks node.car ≡ true
  sound_car node e = (in_plan node e).car

  -- the lock that a node lets go is there
  letting_names : locks ≤ 64 → (letting : ℕ) → letting < 2 ^ locks → letting_allowed rules letting ≡ true → Named (on_letting letting)
  unfolding rule_names on_letting letting_allowed
  letting_names most letting below allowed =
      by_test Named (eqb letting 0) (λ e. refl)
      (λ e. and_both (or_first (multiring rules) (eqb letting 0) allowed e)
      (lt-ltb _ _ (has_in locks letting (least letting) below (least_member letting (lt_of_lt_of_le below (pow_mono most)) (eqb-false letting 0 e)))))

  -- in a gap a node names the lock of its activity, or one that it lets go
  gap_names : locks ≤ 64 → (activity : Activity) (letting : ℕ) → activity_names locks activity ≡ true → letting < 2 ^ locks → letting_allowed rules letting ≡ true
      → Named (on_gap activity letting)
  unfolding rule_names on_gap activity_names
  gap_names most Resting letting e below allowed = letting_names most letting below allowed
  gap_names most (ToSendReqp lock) letting e below allowed = e
  gap_names most (WaitingReqp lock) letting e below allowed = letting_names most letting below allowed
  gap_names most (ToSendDov lock) letting e below allowed = e
  gap_names most (WaitingDov lock) letting e below allowed = letting_names most letting below allowed

  -- the rule that fits names only what the node and the arrival name
  rule-names : locks ≤ 64 → (me : ℕ) (arrival : Car) (node : Node) → car_names rules nodes locks arrival ≡ true → InPlan node
      → Named (rule node me arrival)
  unfolding rule_names rule on_idle on_reqp on_failp on_dov car_names
  rule-names most me Idle node c f =
      by_test Named node.flag (λ e. gap_names most node.activity node.letting f.activity f.letting f.allowed) (λ e. refl)
  rule-names most me Token node c f = refl
  rule-names most me Null node c f = refl
  rule-names most me (Reqp tag) node c f =
      by_test Named (eqb tag.source me) (λ e. lt-ltb _ _ (names_lock nodes locks tag.lock tag.source c))
      (λ e. by_test Named node.flag (λ e. by_test Named (had node tag.lock) (λ e. c) (λ e. refl)) (λ e. refl))
  rule-names most me (Failp tag) node c f =
      by_test Named (eqb tag.source me) (λ e. lt-ltb _ _ (names_lock nodes locks tag.lock tag.source c)) (λ e. refl)
  rule-names most me (Dov tag) node c f =
      by_test Named (eqb tag.source me) (λ e. lt-ltb _ _ (names_lock nodes locks tag.lock tag.source c))
      (λ e. by_test Named (has node.held tag.lock) (λ e. c) (λ e. refl))
  rule-names most me (Gotp notice) node c f = refl
  rule-names most me (Didv notice) node c f = refl

  -- so the event that such a rule gives names a lock of the plan; where nothing happens the lock is 0
  event_names : 1 ≤ locks → (r : Rule) → Named r → event_lock (event_of r) < locks
  unfolding rule_names event_of event_lock
  event_names least (SendsReqp lock) e = omega (arith, least)
  event_names least (SendsDov lock) e = omega (arith, least)
  event_names least (SendsDidv lock) e = ltb-true _ _ (and_right (multiring rules) (ltb lock locks) e)
  event_names least (OwnReqp lock) e = ltb-true _ _ e
  event_names least (OwnFailp lock) e = ltb-true _ _ e
  event_names least (FailsReqp tag) e = omega (arith, least)
  event_names least (OwnDov lock) e = ltb-true _ _ e
  event_names least (LosesLock tag) e = names_lock nodes locks tag.lock tag.source e
  event_names least Passes e = omega (arith, least)

  pub turn_event : 1 ≤ locks → locks ≤ 64 → (me : ℕ) (arrival : Car) (node : Node) → car_names rules nodes locks arrival ≡ true
      → node_sound rules nodes locks node ≡ true → event_lock (turn rules me arrival node).event < locks
  unfolding turn
  turn_event least most me arrival node c e = event_names least (rule node me arrival) (rule-names most me arrival node c (in_plan node e))

  -- letting a lock of the plan go keeps the letting-go word within the plan's locks
  let_go-within : (letting lock : ℕ) → lock < locks → letting < 2 ^ locks → let_go rules letting lock < 2 ^ locks
  unfolding let_go
  let_go-within letting lock l below = by_test (λ w. w < 2 ^ locks) (multiring rules) (λ e. with_within locks letting lock l below) (λ e. below)

  -- under ring rules the letting-go word stays empty
  let_go_allowed : (letting lock : ℕ) → letting_allowed rules letting ≡ true → letting_allowed rules (let_go rules letting lock) ≡ true
  unfolding let_go letting_allowed
  let_go_allowed letting lock allowed = by_test (λ w. (multiring rules || eqb w 0) ≡ true) (multiring rules) (λ e. or_by_first _ _ e) (λ e. allowed)

  module _ (me : ℕ) (own : is_node nodes me ≡ true) where
    -- the car of a grant names the node and its lock
    grant_names : (lock : ℕ) → ltb lock locks ≡ true → car_names rules nodes locks (grant_car rules me lock) ≡ true
    unfolding grant_car car_names notice_names names
    grant_names lock l = by_test (λ c. car_names rules nodes locks c ≡ true) (multiring rules) (λ e. and_both e (and_both own l)) (λ e. refl)

    -- a rule that names only what is there keeps the node so
    applied : (arrival : Car) (node : Node) (r : Rule) → car_names rules nodes locks arrival ≡ true → InPlan node → Named r
        → InPlan (apply rules me arrival node r)
    unfolding apply becomes rule_names car_names notice_names names activity_names letting_allowed
    applied arrival node (SendsReqp lock) c f r = record { car = and_both own r; activity = r; held = f.held; letting = f.letting; allowed = f.allowed }
    applied arrival node (SendsDov lock) c f r = record { car = and_both own r; activity = r; held = f.held; letting = f.letting; allowed = f.allowed }
    applied arrival node (SendsDidv lock) c f r =
        let multi = and_left (multiring rules) (ltb lock locks) r in
        let below = and_right (multiring rules) (ltb lock locks) r in
        record {
          car = and_both multi (and_both own below);
          activity = f.activity;
          held = f.held;
          letting = without-within locks node.letting lock f.letting;
          allowed = or_by_first (multiring rules) _ multi;
        }
    applied arrival node (OwnReqp lock) c f r =
        let held = with_within locks node.held lock (ltb-true _ _ r) f.held in
        record { car = grant_names lock r; activity = refl; held = held; letting = f.letting; allowed = f.allowed }
    applied arrival node (OwnFailp lock) c f r = record { car = refl; activity = refl; held = f.held; letting = f.letting; allowed = f.allowed }
    applied arrival node (FailsReqp tag) c f r = record { car = r; activity = f.activity; held = f.held; letting = f.letting; allowed = f.allowed }
    applied arrival node (OwnDov lock) c f r = record { car = refl; activity = refl; held = f.held; letting = f.letting; allowed = f.allowed }
    applied arrival node (LosesLock tag) c f r =
        record {
          car = r;
          activity = f.activity;
          held = without-within locks node.held tag.lock f.held;
          letting = let_go-within node.letting tag.lock (names_lock nodes locks tag.lock tag.source r) f.letting;
          allowed = let_go_allowed node.letting tag.lock f.allowed;
        }
    applied arrival node Passes c f r = record { car = c; activity = f.activity; held = f.held; letting = f.letting; allowed = f.allowed }

    -- a user node that passes still passes after its turn
    pub turn-sound : locks ≤ 64 → (arrival : Car) (node : Node) → car_names rules nodes locks arrival ≡ true → node_sound rules nodes locks node ≡ true
        → node_sound rules nodes locks (turn rules me arrival node).node ≡ true
    unfolding turn
    turn-sound most arrival node c e =
        let f = in_plan node e in
        in_plan_sound _ (applied arrival node (rule node me arrival) c f (rule-names most me arrival node c f))

  -- an action on a lock of the plan keeps the node so
  acted_in_plan : (action : Action) (node : Node) (lock : ℕ) → lock < locks → InPlan node → InPlan (acted rules action node lock)
  unfolding acted busy_with released activity_names
  acted_in_plan Take node lock l f = record { car = f.car; activity = lt-ltb _ _ l; held = f.held; letting = f.letting; allowed = f.allowed }
  acted_in_plan Release node lock l f =
      record {
        car = f.car;
        activity = f.activity;
        held = without-within locks node.held lock f.held;
        letting = let_go-within node.letting lock l f.letting;
        allowed = let_go_allowed node.letting lock f.allowed;
      }
  acted_in_plan Force node lock l f = record { car = f.car; activity = lt-ltb _ _ l; held = f.held; letting = f.letting; allowed = f.allowed }

  -- a user node that passes still passes after an action on a lock of the plan
  pub acted-sound : (action : Action) (node : Node) (lock : ℕ) → lock < locks → node_sound rules nodes locks node ≡ true
      → node_sound rules nodes locks (acted rules action node lock) ≡ true
  acted-sound action node lock l e = in_plan_sound _ (acted_in_plan action node lock l (in_plan node e))
