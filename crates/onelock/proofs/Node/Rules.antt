-- One user node's turn as one of nine cases, the rules of 01: what each asks of the arrival and the node, and what the node becomes.
use Rattle.std.specs.Prelude.{Option, None, Some}
use Prim.Native.Nat.{ℕ, ◌<◌, ◌^◌}
use mathlib.Core.Path.{◌≡◌, refl, sym, ◌∙◌}
use mathlib.Core.Bool.{Bool, true, false, cond, true≢false}
use mathlib.Core.Logic.{◌⊎◌}
use lib.Dec.{eqb}
use borrow.Author.Tests.{eqb-true, eqb-false}
use Rattle.words.specs.Words.{has, with_lock, without_lock, least}
use Rattle.words.proofs.Sets.{least_member}
use Rattle.cars.specs.declared.Tag.{Tag}
use Rattle.cars.specs.declared.Car.{Car}
use Rattle.cars.specs.declared.Car.TheVariants.{Idle, Token, Null, Reqp, Failp, Dov, Gotp, Didv}
use Rattle.usernode.specs.declared.Node.{Node}
use Rattle.usernode.specs.declared.Activity.{Activity}
use Rattle.usernode.specs.declared.Activity.TheVariants.{Idle as Resting, ToSendReqp, WaitingReqp, ToSendDov, WaitingDov}
use Rattle.turns.specs.declared.Event.{Event}
use Rattle.turns.specs.declared.Event.TheVariants.{Granted, Failed, Lost, Back, Sent}
use Rattle.usernode.specs.declared.Rule.{Rule}
use Rattle.usernode.specs.declared.Rule.TheVariants.{Passes, SendsDidv, OwnReqp, OwnFailp, FailsReqp, OwnDov, LosesLock}
use Rattle.usernode.specs.Node.{had}
use Rattle.usernode.specs.Rules.{on_letting, on_gap, on_idle, on_reqp, on_failp, on_dov, rule}
use Rattle.usernode.specs.Node.{let_go}
use Rattle.turns.specs.Turn.{becomes, grant_car, apply, turn, event_of}
use Rattle.onelock.proofs.Train.Cells.{asks, request, Names}

-- the words of a node are 64-bit words and its activity names a lock below 64
pub record Small (u : Node) : Type 0 where
  pub held : u.held < 2 ^ 64
  pub letting : u.letting < 2 ^ 64
  pub wish : (lock : ℕ) → Names u.activity lock → lock < 64

-- a notice names a lock below 64
abbrev pub LowNotice : Car → Type 0
LowNotice c = (x : Tag) → (c ≡ Gotp x) ⊎ (c ≡ Didv x) → x.lock < 64

-- the car is no request of this node
abbrev pub NotOwn : ℕ → Car → Type 0
NotOwn me a = (act : Activity) → request a ≡ asks act me → ⊥

-- a turn's arrival, and the node and the event that it leads to: by each rule
pub data Turned (m me : ℕ) (u : Node) : Car → Node → Option Event → Type 0 where
  sends_reqp : (lock : ℕ) → u.flag ≡ true → u.activity ≡ ToSendReqp lock
      → Turned m me u Idle (becomes u (Reqp (record { lock = lock; source = me })) (WaitingReqp lock) u.held u.letting) None
  sends_dov : (lock : ℕ) → u.flag ≡ true → u.activity ≡ ToSendDov lock
      → Turned m me u Idle (becomes u (Dov (record { lock = lock; source = me })) (WaitingDov lock) u.held u.letting) None
  sends_didv : (lock : ℕ) → u.flag ≡ true → has u.letting lock ≡ true
      → Turned m me u Idle (becomes u (Didv (record { lock = lock; source = me })) u.activity u.held (without_lock u.letting lock)) (Some (Sent lock))
  own_reqp : (t : Tag) → t.source ≡ me
      → Turned m me u (Reqp t) (becomes u (grant_car m me t.lock) Resting (with_lock u.held t.lock) u.letting) (Some (Granted t.lock))
  own_failp : (t : Tag) → t.source ≡ me → Turned m me u (Failp t) (becomes u Null Resting u.held u.letting) (Some (Failed t.lock))
  fails_reqp : (t : Tag) → (t.source ≡ me → ⊥) → u.flag ≡ true
      → Turned m me u (Reqp t) (becomes u (Failp t) u.activity u.held u.letting) None
  own_dov : (t : Tag) → t.source ≡ me → Turned m me u (Dov t) (becomes u Null Resting u.held u.letting) (Some (Back t.lock))
  loses_lock : (t : Tag) → (t.source ≡ me → ⊥) → has u.held t.lock ≡ true
      → Turned m me u (Dov t) (becomes u (Dov t) u.activity (without_lock u.held t.lock) (let_go m u.letting t.lock)) (Some (Lost t.lock))
  passes : (a : Car) → NotOwn me a → ((t : Tag) → a ≡ Reqp t → u.flag ≡ true → had u t.lock ≡ false)
      → Turned m me u a (becomes u a u.activity u.held u.letting) None

module _ (m me : ℕ) (u : Node) where
  -- a turn by the model's rule
  abbrev By : Car → Rule → Type 0
  By a r = Turned m me u a (apply m me a u r) (event_of r)

  -- a car that asks for nothing passes
  quiet_passes : (a : Car) → ((act : Activity) (s : ℕ) → request a ≡ asks act s → ⊥) → By a Passes
  unfolding apply event_of
  quiet_passes a none = passes a (λ act r. none act me r) (λ t e f. absurd (none (WaitingReqp t.lock) t.source (cc)))

  -- an idle slot at a flagged node that has nothing to ask: it sends a didv where it lets a lock go
  on_letting_lem : u.letting < 2 ^ 64 → u.flag ≡ true → (z : Bool) → eqb u.letting 0 ≡ z → By Idle (cond z Passes (SendsDidv (least u.letting)))
  unfolding apply event_of
  on_letting_lem small f true e = quiet_passes Idle (λ act s r. true≢false (cc))
  on_letting_lem small f false e = sends_didv (least u.letting) f (least_member u.letting small (eqb-false u.letting 0 e))

  -- an idle slot
  on_idle_lem : u.letting < 2 ^ 64 → (f : Bool) → u.flag ≡ f → (x : Activity) → u.activity ≡ x → By Idle (cond f (on_gap x u.letting) Passes)
  unfolding apply event_of on_gap on_letting
  on_idle_lem small false f x e = quiet_passes Idle (λ act s r. true≢false (cc))
  on_idle_lem small true f Resting e = on_letting_lem small f (eqb u.letting 0) refl
  on_idle_lem small true f (ToSendReqp lock) e = sends_reqp lock f e
  on_idle_lem small true f (WaitingReqp lock) e = on_letting_lem small f (eqb u.letting 0) refl
  on_idle_lem small true f (ToSendDov lock) e = sends_dov lock f e
  on_idle_lem small true f (WaitingDov lock) e = on_letting_lem small f (eqb u.letting 0) refl

  -- a reqp: its own, one that it fails, or one that passes
  on_reqp_lem : (t : Tag) (own : Bool) → eqb t.source me ≡ own → (f : Bool) → u.flag ≡ f → (h : Bool) → had u t.lock ≡ h
      → By (Reqp t) (cond own (OwnReqp t.lock) (cond f (cond h (FailsReqp t) Passes) Passes))
  unfolding apply event_of
  on_reqp_lem t true e f g h i = own_reqp t (eqb-true t.source me e)
  on_reqp_lem t false e true g true i = fails_reqp t (eqb-false t.source me e) g
  on_reqp_lem t false e true g false i = passes (Reqp t) (λ act r. eqb-false t.source me e (cc)) (λ t' r k. (cc))
  on_reqp_lem t false e false g h i = passes (Reqp t) (λ act r. eqb-false t.source me e (cc)) (λ t' r k. absurd (true≢false (sym k ∙ g)))

  -- a failp: its own, or one that passes
  on_failp_lem : (t : Tag) (own : Bool) → eqb t.source me ≡ own → By (Failp t) (cond own (OwnFailp t.lock) Passes)
  unfolding apply event_of
  on_failp_lem t true e = own_failp t (eqb-true t.source me e)
  on_failp_lem t false e = passes (Failp t) (λ act r. eqb-false t.source me e (cc)) (λ t' r k. (cc))

  -- a dov: its own, one that it loses the lock to, or one that passes
  on_dov_lem : (t : Tag) (own : Bool) → eqb t.source me ≡ own → (h : Bool) → has u.held t.lock ≡ h
      → By (Dov t) (cond own (OwnDov t.lock) (cond h (LosesLock t) Passes))
  unfolding apply event_of
  on_dov_lem t true e h i = own_dov t (eqb-true t.source me e)
  on_dov_lem t false e true i = loses_lock t (eqb-false t.source me e) i
  on_dov_lem t false e false i = passes (Dov t) (λ act r. eqb-false t.source me e (cc)) (λ t' r k. (cc))

  -- every turn is one of the nine
  pub turned : u.letting < 2 ^ 64 → (a : Car) → Turned m me u a (turn m me a u).node (turn m me a u).event
  unfolding turn rule on_idle on_reqp on_failp on_dov
  turned small Idle = on_idle_lem small u.flag refl u.activity refl
  turned small Token = quiet_passes Token (λ act s r. true≢false (cc))
  turned small Null = quiet_passes Null (λ act s r. true≢false (cc))
  turned small (Reqp t) = on_reqp_lem t (eqb t.source me) refl u.flag refl (had u t.lock) refl
  turned small (Failp t) = on_failp_lem t (eqb t.source me) refl
  turned small (Dov t) = on_dov_lem t (eqb t.source me) refl (has u.held t.lock) refl
  turned small (Gotp x) = quiet_passes (Gotp x) (λ act s r. true≢false (cc))
  turned small (Didv x) = quiet_passes (Didv x) (λ act s r. true≢false (cc))
