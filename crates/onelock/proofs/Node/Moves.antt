-- One user node's turn as a move of the train: the car that comes to it goes on to its place, and the invariant of the locks is kept.
use Prim.Native.Nat.{ℕ, suc, ◌≤◌, ◌<◌}
use mathlib.Core.Path.{◌≡◌, refl, sym, ap, ap₂, ◌∙◌, subst, subst₂}
use mathlib.Core.Bool.{Bool, true, false, cond, true≢false, ◌||◌}
use mathlib.Core.Logic.{◌⊎◌, inl, inr, ⊎_elim}
use mathlib.Core.List.{List, ◌∷◌, ◌++◌}
use native.Mathlib.Omega.{arith}
use Rattle.words.specs.Words.{has, with_lock, without_lock}
use Rattle.words.proofs.Sets.{has_in}
use Rattle.cars.specs.Cars.{multiring}
use Rattle.cars.specs.declared.Tag.{Tag}
use Rattle.cars.specs.declared.Car.{Car}
use Rattle.cars.specs.declared.Car.TheVariants.{Null, Reqp, Failp, Dov, Gotp, Didv}
use Rattle.usernode.specs.declared.Node.{Node}
use Rattle.usernode.specs.declared.Activity.{Activity}
use Rattle.usernode.specs.declared.Activity.TheVariants.{Idle as Resting, WaitingReqp}
use Rattle.usernode.specs.Node.{had}
use Rattle.usernode.specs.Node.{let_go}
use Rattle.turns.specs.Turn.{becomes, grant_car}
use Rattle.lists.proofs.Tests.{by_value}
use Rattle.onelock.proofs.Train.Cells.{Cell, cell, All, Gates, Bare, Gateless, asks, request, bit, Names, Apart}
use Rattle.onelock.proofs.Train.Invariant.{Ok, Inv}
use Rattle.onelock.proofs.Train.CellLaws.{all_left, all_right, all_join, all_map, gates_map}
use Rattle.onelock.proofs.Train.CarMoves.{Far, Goes, goes, adds_ask, comes_home}
use Rattle.onelock.proofs.Train.NodeMoves.{Serves, same_had, fewer, adds_did, grants}
use Rattle.onelock.proofs.Train.Nodes.{put, put_here}
use Rattle.onelock.proofs.Train.Passing.{goes_past, goes_failed}
use Rattle.onelock.proofs.Line.Fit.{waits}
use Rattle.onelock.proofs.Line.FitLaws.{asks_waits}
use Rattle.onelock.proofs.Node.Rules.{Small, NotOwn}
use Rattle.onelock.proofs.Node.Words.{same_words, same_apart, granted_has, granted_other, told_lost, told_other, moved_same, moved_fewer}
use Rattle.onelock.proofs.Node.Words.{moved_words, granted_apart, told_apart, letting_had}

-- node k + 1 with the train around it: X is what is before the node's place, Y what is behind the car that comes to it
pub record Place (n : ℕ) (X Y : List Cell) (A : ℕ → Node) (k : ℕ) (u : Node) : Type 0 where
  pub is : A (suc k) ≡ u
  pub small : Small u
  pub top : suc k ≤ n
  pub ahead : All (λ p c. suc k ≤ p) X
  pub behind : All (λ p c. p ≤ k) Y
  pub gates : Gates (λ lo hi. hi ≤ k) Y

-- node q, which is u, becomes v: it holds a lock no longer, and lets it go under multiring rules; under ring rules no gate is there
pub gives_up : (n m : ℕ) (T : List Cell) {A : ℕ → Node} {e : ℕ} (q own : ℕ) (u v : Node) → A q ≡ u → Small u → has u.held own ≡ true
    → v.activity ≡ u.activity → v.held ≡ without_lock u.held own → v.letting ≡ let_go m u.letting own
    → (multiring m ≡ true) ⊎ Gateless T → Inv n e T A → Inv n e T (put A q v)
unfolding becomes had
gives_up n m T {A} {e} q own u v is small h active held letting mode i = go (multiring m) refl
  where
    low : own < 64
    low = has_in 64 u.held own small.held h

    apart : Apart u
    apart = subst Apart is (i.apart q)

    was : (lock : ℕ) → had (A q) lock ≡ had u lock
    was lock = ap (λ (z : Node). had z lock) is

    like : (lock : ℕ) → had v lock ≡ had (becomes u Null Resting (without_lock u.held own) (let_go m u.letting own)) lock
    like lock = ap₂ (λ (x y : ℕ). has x lock || has y lock) held letting

    words : (lock : ℕ) → has v.held lock ≡ true → has v.letting lock ≡ false
    words = subst₂ (λ (x y : ℕ). (lock : ℕ) → has x lock ≡ true → has y lock ≡ false) (sym held) (sym letting) (moved_words u Null Resting own low m apart)

    serves : Serves n q v T
    serves = all_map T (λ p c ok act r. active ∙ ap (λ (z : Node). z.activity) (sym is) ∙ ok.waits act q r) i.all

    -- where v has no lock that u had not, it keeps apart
    keeps : ((lock : ℕ) → had v lock ≡ true → had u lock ≡ true) → Apart v
    keeps less =
        record {
          words = words;
          wish = λ lock w. by_value (λ b. b ≡ false) (had v lock)
              (λ e. absurd (true≢false (sym (less lock e) ∙ apart.wish lock (subst (λ z. Names z lock) active w)))) (λ e. refl);
        }

    go : (b : Bool) → multiring m ≡ b → Inv n e T (put A q v)
    go true multi =
        let same : (lock : ℕ) → had v lock ≡ had u lock = λ lock. like lock ∙ moved_same u Null Resting own low m multi h lock in
        same_had n T q v (λ lock. same lock ∙ sym (was lock)) serves (keeps (λ lock g. sym (same lock) ∙ g)) i
    go false ring =
        let less : (lock : ℕ) → had v lock ≡ true → had u lock ≡ true = λ lock g. moved_fewer u Null Resting own low m ring lock (sym (like lock) ∙ g) in
        fewer n T q v (λ lock g. was lock ∙ less lock g) serves (keeps less)
        (⊎_elim (λ multi. absurd (true≢false (sym multi ∙ ring))) (λ g. g) mode) i

module _ {n : ℕ} {X Y : List Cell} {A : ℕ → Node} {k : ℕ} {u : Node} (x : Place n X Y A k u) where
  -- node k + 1 keeps apart, in the numbering and as u
  apart_u : {e : ℕ} {T : List Cell} → Inv n e T A → Apart u
  apart_u i = subst Apart x.is (i.apart (suc k))

  -- the activity that a request of the node asks for is the node's
  waits_u : {e : ℕ} (T : List Cell) → Inv n e T A → All (λ p c. (act : Activity) → request c ≡ asks act (suc k) → u.activity ≡ act) T
  waits_u T i = all_map T (λ p c ok act r. ap (λ (z : Node). z.activity) (sym x.is) ∙ ok.waits act (suc k) r) i.all

  -- the node becomes v, with the same locks
  same_locks : {e : ℕ} (T : List Cell) (v : Node) → ((lock : ℕ) → had v lock ≡ had u lock) → Serves n (suc k) v T → Apart v → Inv n e T A → Inv n e T
      (put A (suc k) v)
  same_locks T v h serves a i = same_had n T (suc k) v (λ lock. h lock ∙ ap (λ (z : Node). had z lock) (sym x.is)) serves a i

  -- v has the words of u and the same activity
  pub alike : {e : ℕ} (T : List Cell) (c : Car) → Inv n e T A → Inv n e T (put A (suc k) (becomes u c u.activity u.held u.letting))
  unfolding becomes
  alike T c i =
      same_locks T (becomes u c u.activity u.held u.letting) (same_words u c u.activity) (waits_u T i)
      (same_apart u c u.activity (apart_u i).wish (apart_u i)) i

  -- v rests, and the train has no request of it
  rests : {e : ℕ} (T : List Cell) (c : Car) → Far (suc k) T → Inv n e T A → Inv n e T (put A (suc k) (becomes u c Resting u.held u.letting))
  unfolding becomes
  rests T c far i =
      same_locks T (becomes u c Resting u.held u.letting) (same_words u c Resting) (all_map T (λ p d f act r. absurd (f act r)) far)
      (same_apart u c Resting (λ lock w. absurd w) (apart_u i)) i

  -- the car that comes to the node is a car of the train
  pub here : {e : ℕ} (c : Car) → Inv n e (X ++ (cell k c ∷ Y)) A → Ok n A e k c
  here {e} c i = (all_right (Ok n A e) X (cell k c ∷ Y) i.all).0

  -- a car that passes a node which has not the lock it asks for
  pub pass_on : {e : ℕ} (a : Car) → NotOwn (suc k) a → ((t : Tag) → a ≡ Reqp t → had u t.lock ≡ false) → Ok n A e k a → Goes n A k a (suc k) a
  pass_on a other free ok =
      goes_past n A k (suc k) (omega arith) x.top a (λ act s r low high. other act (r ∙ ap (asks act) (omega arith))) ok.note
      (λ t r q low high g.
      let here : q ≡ suc k = omega arith in
      true≢false (sym g ∙ ap (λ (i : ℕ). had (A i) t.lock) here ∙ ap (λ (z : Node). had z t.lock) x.is ∙ free t r))

  -- a reqp that the node fails
  pub fail_on : (t : Tag) → (t.source ≡ suc k → ⊥) → Goes n A k (Reqp t) (suc k) (Failp t)
  fail_on t other =
      goes_failed n A k (suc k) (omega arith) x.top (Reqp t)
      (λ act s r low high. let source : t.source ≡ s = cc in other (omega arith)) t refl

  -- a failp or dov that becomes null
  null_on : (a : Car) → ((lo hi lock : ℕ) (b : Bool) → b ≡ bit lo hi lock a b) → Goes n A k a (suc k) Null
  null_on a plain =
      record {
        on = omega arith;
        top = x.top;
        asked = λ act s r. absurd (true≢false (cc));
        homes = λ act s r. absurd (true≢false (cc));
        reqp = λ t r. cc;
        visits = λ t r. absurd (true≢false (cc));
        note = omega arith;
        bits = plain;
        did = λ n r. cc;
      }

  -- an own failp or dov comes back: the node rests
  pub comes_back : {e : ℕ} (a : Car) (act : Activity) → request a ≡ asks act (suc k) → ((lo hi lock : ℕ) (b : Bool) → b ≡ bit lo hi lock a b)
      → Inv n e (X ++ (cell k a ∷ Y)) A → Inv n e (X ++ (cell (suc k) Null ∷ Y)) (put A (suc k) (becomes u Null Resting u.held u.letting))
  comes_back a act r plain i =
      let far = comes_home n X Y k a r x.ahead x.behind i in
      rests (X ++ (cell (suc k) Null ∷ Y)) Null (all_join _ X (cell (suc k) Null ∷ Y) far.0 (λ act r. true≢false (cc), far.1))
      (goes n X Y (null_on a plain) i)

  -- a lock lost to a dov
  pub loses : (m : ℕ) {e : ℕ} (T : List Cell) (t : Tag) → has u.held t.lock ≡ true → (multiring m ≡ true) ⊎ Gateless T → Inv n e T A
      → Inv n e T (put A (suc k) (becomes u (Dov t) u.activity (without_lock u.held t.lock) (let_go m u.letting t.lock)))
  unfolding becomes
  loses m T t h mode i = gives_up n m T (suc k) t.lock u _ x.is x.small h refl refl refl mode i

  -- the train has no request of a node that does not wait
  far_u : {e : ℕ} (T : List Cell) → waits u.activity ≡ false → Inv n e T A → Far (suc k) T
  far_u T calm i = all_map T (λ p c w act r. true≢false (sym (asks_waits c act (suc k) r) ∙ ap waits (sym (w act r)) ∙ calm)) (waits_u T i)

  -- a request is added at the rear
  pub adds : {e : ℕ} (c : Car) (act : Activity) → request c ≡ asks act (suc k) → waits u.activity ≡ false
      → ((lock : ℕ) → Names act lock → Names u.activity lock)
      → Bare Y → e ≤ suc k → Inv n e (X ++ Y) A → Inv n (suc k) (X ++ (cell (suc k) c ∷ Y)) (put A (suc k) (becomes u c act u.held u.letting))
  unfolding becomes
  adds c act r calm names bare rear i =
      let far = far_u (X ++ Y) calm i in
      adds_ask n X Y (suc k) c bare rear (omega arith) x.top x.ahead (all_left _ X Y far)
      (r ∙ ap (λ (z : Node). asks z.activity (suc k)) (sym (put_here A (suc k) v)))
      (same_locks (X ++ Y) v (same_words u c act) (all_map (X ++ Y) (λ p d f act r. absurd (f act r)) far)
      (same_apart u c act (λ lock w. (apart_u i).wish lock (names lock w)) (apart_u i)) i)
    where
      v : Node
      v = becomes u c act u.held u.letting

  -- a didv is added at the rear
  pub tells : {e : ℕ} (lock : ℕ) → has u.letting lock ≡ true → Bare Y → e ≤ suc k → Inv n e (X ++ Y) A
      → Inv n (suc k) (X ++ (cell (suc k) (Didv (record { lock = lock; source = suc k })) ∷ Y))
      (put A (suc k) (becomes u (Didv (record { lock = lock; source = suc k })) u.activity u.held (without_lock u.letting lock)))
  unfolding becomes
  tells lock l bare rear i =
      adds_did n X Y (suc k) v (record { lock = lock; source = suc k }) refl (ap (λ (z : Node). had z lock) x.is ∙ letting_had u lock l)
      (told_lost u c u.activity lock low (apart_u i) l)
      (λ other ne. told_other u c u.activity lock low other ne ∙ ap (λ (z : Node). had z other) (sym x.is))
      (ap (λ (z : Node). z.activity) (sym x.is)) (told_apart u c u.activity lock low (apart_u i) l)
      bare (gates_map Y (λ lo hi z. omega arith) x.gates) rear x.ahead i
    where
      c : Car
      c = Didv (record { lock = lock; source = suc k })

      v : Node
      v = becomes u c u.activity u.held (without_lock u.letting lock)

      low : lock < 64
      low = has_in 64 u.letting lock x.small.letting l

  -- its own reqp comes back: the node is granted the lock
  pub gets : (m : ℕ) {e : ℕ} (t : Tag) → t.source ≡ suc k → (multiring m ≡ true) ⊎ (Gateless X × Gateless Y) → Inv n e (X ++ (cell k (Reqp t) ∷ Y)) A
      → Inv n e (X ++ (cell (suc k) (grant_car m (suc k) t.lock) ∷ Y))
      (put A (suc k) (becomes u (grant_car m (suc k) t.lock) Resting (with_lock u.held t.lock) u.letting))
  unfolding grant_car
  gets m t own mode i =
      grants n X Y k v c t own x.top (notice (multiring m) refl) (granted_has u c Resting t.lock low)
      (λ other ne. granted_other u c Resting t.lock low other ne ∙ ap (λ (z : Node). had z other) (sym x.is))
      (granted_apart u c Resting t.lock low (apart_u i) free) x.ahead x.behind x.gates i
    where
      c : Car
      c = grant_car m (suc k) t.lock

      v : Node
      v = becomes u c Resting (with_lock u.held t.lock) u.letting

      waiting : u.activity ≡ WaitingReqp t.lock
      waiting = ap (λ (z : Node). z.activity) (sym x.is) ∙ (here (Reqp t) i).waits (WaitingReqp t.lock) (suc k) (ap (asks (WaitingReqp t.lock)) own)

      named : Names u.activity t.lock
      named = subst (λ z. Names z t.lock) (sym waiting) refl

      low : t.lock < 64
      low = x.small.wish t.lock named

      free : had u t.lock ≡ false
      free = (apart_u i).wish t.lock named

      notice : (b : Bool) → multiring m ≡ b
          → ((cond b (Gotp (record { lock = t.lock; source = suc k })) Null ≡ Null) × Gateless X × Gateless Y)
          ⊎ ((y : Tag) × (cond b (Gotp (record { lock = t.lock; source = suc k })) Null ≡ Gotp y) × (y.source ≡ suc k) × (y.lock ≡ t.lock))
      notice true multi = inr (record { lock = t.lock; source = suc k }, refl, refl, refl)
      notice false ring = ⊎_elim (λ multi. absurd (true≢false (sym multi ∙ ring))) (λ g. inl (refl, g.0, g.1)) mode
