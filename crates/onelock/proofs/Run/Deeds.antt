-- What a node's turn and a release do to its having a lock, beside the deed that they are.
use Rattle.std.specs.Prelude.{Option}
use Prim.Native.Nat.{ℕ, ◌≤◌, ◌<◌}
use mathlib.Core.Path.{◌≡◌, refl, ◌∙◌, ap, sym, subst}
use mathlib.Core.Bool.{Bool, true, false, not, ◌&&◌, true≢false}
use mathlib.Core.List.{List, [], ◌∷◌}
use lib.Dec.{eqb}
use borrow.Author.Tests.{eqb-true, eqb-false}
use Rattle.words.specs.Words.{has, with_lock, without_lock}
use Rattle.words.proofs.Sets.{has_none, has_in}
use Rattle.cars.specs.declared.Car.{Car}
use Rattle.cars.specs.declared.Car.TheVariants.{Idle}
use Rattle.cars.specs.Cars.{multiring}
use Rattle.usernode.specs.declared.Node.{Node}
use Rattle.usernode.specs.declared.Activity.{Activity}
use Rattle.usernode.specs.declared.Activity.TheVariants.{Idle as Resting}
use Rattle.turns.specs.declared.Event.{Event}
use Rattle.usernode.specs.Node.{had}
use Rattle.usernode.specs.Node.{let_go}
use Rattle.turns.specs.Turn.{becomes, turn}
use Rattle.usernode.specs.Sound.{letting_allowed, node_sound}
use Rattle.acts.specs.declared.Action.{Action}
use Rattle.acts.specs.declared.Action.TheVariants.{Take, Release, Force}
use Rattle.ring.proofs.Sound.Node.{in_plan}
use Rattle.acts.specs.Actions.{later_number, node_number, busy_with, released, acted}
use Rattle.onelock.specs.OneLock.{Deed, granted, ended, deed_if, deed_of, releases}
use Rattle.lists.proofs.Tests.{or_second, by_value}
use Rattle.onelock.proofs.Train.Cells.{Apart, Names}
use Rattle.onelock.proofs.Node.Rules.{Small, Turned, sends_reqp, sends_dov, sends_didv, own_reqp, own_failp, fails_reqp, own_dov, loses_lock, passes}
use Rattle.onelock.proofs.Node.Rules.{turned}
use Rattle.onelock.proofs.Node.Words.{told_lost, told_other, moved_same, moved_lost, moved_other, granted_has, granted_other, letting_had, held_had}
use Rattle.onelock.proofs.Node.Words.{same_words}
use Rattle.onelock.proofs.Whole.Acts.{release_held, accepted_later}
use Rattle.onelock.proofs.Whole.Ready.{Awaited}
use Rattle.onelock.proofs.State.Lists.{small_node}

-- whether a node has a lock before and after, beside its deed; a grant says that nobody had it
pub data Turns (None : Type 0) (me : ℕ) (old new : Bool) : List Deed → Type 0 where
  stays : new ≡ old → Turns None me old new []
  gets : None → new ≡ true → Turns None me old new (granted me ∷ [])
  gives : old ≡ true → new ≡ false → Turns None me old new (ended me ∷ [])

-- what a node's words and activity say of its locks: they are below 64 and apart, and under ring rules it lets nothing go
pub record Fine (rules : ℕ) (u : Node) : Type 0 where
  pub small : Small u
  pub apart : Apart u
  pub ring : multiring rules ≡ false → u.letting ≡ 0

-- all this holds of a node that 13 does not refuse, in a plan of at most 64 locks, and whose words are apart
pub fine : (rules nodes locks : ℕ) (u : Node) → locks ≤ 64 → node_sound rules nodes locks u ≡ true → Apart u → Fine rules u
unfolding letting_allowed
fine rules nodes locks u most e apart =
    record {
      small = small_node rules nodes locks u most e;
      apart = apart;
      ring = λ m. eqb-true u.letting 0 (or_second (multiring rules) _ (in_plan rules nodes locks u e).allowed m);
    }

module _ (None : ℕ → Type 0) (rules me lock : ℕ) (u : Node) (f : Fine rules u) where
  -- the node becomes v, beside its deeds of this lock
  abbrev Does : Node → List Deed → Type 0
  Does v = Turns (None lock) me (had u lock) (had v lock)

  -- a node that has a letting-go bit is under multiring rules
  letting_multi : (own : ℕ) → has u.letting own ≡ true → multiring rules ≡ true
  letting_multi own h = by_value (λ m. m ≡ true) (multiring rules) (λ e. refl)
      (λ e. absurd (true≢false (sym h ∙ ap (λ (w : ℕ). has w own) (f.ring e) ∙ has_none own)))

  -- a didv is sent: under multiring rules the having of its lock ends
  sends : (c : Car) (own : ℕ) → has u.letting own ≡ true
      → Does (becomes u c u.activity u.held (without_lock u.letting own)) (deed_if (multiring rules && eqb own lock) (ended me))
  unfolding deed_if
  sends c own h = rw (letting_multi own h) (go (eqb own lock) refl)
    where
      v : Node
      v = becomes u c u.activity u.held (without_lock u.letting own)

      low : own < 64
      low = has_in 64 u.letting own f.small.letting h

      go : (b : Bool) → eqb own lock ≡ b → Does v (deed_if (true && b) (ended me))
      go true e =
          gives (subst (λ x. had u x ≡ true) (eqb-true own lock e) (letting_had u own h))
          (subst (λ x. had v x ≡ false) (eqb-true own lock e) (told_lost u c u.activity own low f.apart h))
      go false e = stays (told_other u c u.activity own low lock (λ same. eqb-false own lock e (sym same)))

  -- a lock is held no longer, and is let go under multiring rules: under ring rules the having of it ends
  lets_go : (c : Car) (act : Activity) (own : ℕ) → has u.held own ≡ true
      → Does (becomes u c act (without_lock u.held own) (let_go rules u.letting own)) (deed_if (not (multiring rules) && eqb own lock) (ended me))
  unfolding deed_if
  lets_go c act own h = go (multiring rules) refl (eqb own lock) refl
    where
      v : Node
      v = becomes u c act (without_lock u.held own) (let_go rules u.letting own)

      low : own < 64
      low = has_in 64 u.held own f.small.held h

      go : (m : Bool) → multiring rules ≡ m → (b : Bool) → eqb own lock ≡ b → Does v (deed_if (not m && b) (ended me))
      go true multi b e = stays (moved_same u c act own low rules multi h lock)
      go false ring true e =
          gives (subst (λ x. had u x ≡ true) (eqb-true own lock e) (held_had u own h))
          (subst (λ x. had v x ≡ false) (eqb-true own lock e) (moved_lost u c act own low rules ring f.apart h))
      go false ring false e = stays (moved_other u c act own low rules ring lock (λ same. eqb-false own lock e (sym same)))

  -- a grant: the node has the lock then, and nobody had it
  is_granted : (c : Car) (act : Activity) (own : ℕ) → own < 64 → None own
      → Does (becomes u c act (with_lock u.held own) u.letting) (deed_if (eqb own lock) (granted me))
  unfolding deed_if
  is_granted c act own low none = go (eqb own lock) refl
    where
      v : Node
      v = becomes u c act (with_lock u.held own) u.letting

      go : (b : Bool) → eqb own lock ≡ b → Does v (deed_if b (granted me))
      go true e = gets (subst None (eqb-true own lock e) none) (subst (λ x. had v x ≡ true) (eqb-true own lock e) (granted_has u c act own low))
      go false e = stays (granted_other u c act own low lock (λ same. eqb-false own lock e (sym same)))

  -- what a turn does to the lock, by its rule
  by_rule : {a : Car} {v : Node} {event : Option Event} → Turned rules me u a v event → Awaited None me a u → Does v (deed_of rules lock me event)
  unfolding deed_of
  by_rule (sends_reqp own flag wish) back = stays (same_words u _ _ lock)
  by_rule (sends_dov own flag wish) back = stays (same_words u _ _ lock)
  by_rule (sends_didv own flag h) back = sends _ own h
  by_rule (own_reqp t home) back =
      let b = back t refl home in
      is_granted _ _ t.lock (f.small.wish t.lock (subst (λ act. Names act t.lock) (sym b.0) refl)) b.1
  by_rule (own_failp t home) back = stays (same_words u _ _ lock)
  by_rule (fails_reqp t other flag) back = stays (same_words u _ _ lock)
  by_rule (own_dov t home) back = stays (same_words u _ _ lock)
  by_rule (loses_lock t other h) back = lets_go _ _ t.lock h
  by_rule (passes a other free) back = stays (same_words u _ _ lock)

  -- what a node's turn does to the lock
  pub turns : (a : Car) → Awaited None me a u → Does (turn rules me a u).node (deed_of rules lock me (turn rules me a u).event)
  turns a back = by_rule (turned rules me u f.small.letting a) back

  -- what an accepted action does to the lock
  pub act_turns : (action : Action) (own : ℕ) → node_number rules action u own ≡ 0
      → Does (acted rules action u own) (deed_if (releases action && not (multiring rules) && eqb own lock) (ended me))
  unfolding acted busy_with released becomes had releases deed_if later_number
  act_turns Take own e = stays refl
  act_turns Release own e = lets_go Idle Resting own (release_held u own (accepted_later rules Release u own e))
  act_turns Force own e = stays refl
