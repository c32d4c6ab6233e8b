-- From the invariant: no user node is astray, and when a node's own reqp comes back, the node waits for it and nobody has its lock.
use Prim.Native.Nat.{ℕ, suc, ◌+◌, ◌≤◌, ◌<◌}
use mathlib.Core.Path.{◌≡◌, refl, sym, ap, ◌∙◌, subst}
use mathlib.Core.Bool.{Bool, true, false, ◌&&◌, ◌||◌, not}
use mathlib.Core.List.{List, [], ◌∷◌, ◌++◌, append_assoc}
use native.Mathlib.Omega.{arith}
use lib.Dec.{eqb}
use borrow.Author.Tests.{eq-eqb, eqb-true}
use Rattle.cars.specs.declared.Tag.{Tag}
use Rattle.cars.specs.declared.Car.{Car}
use Rattle.cars.specs.declared.Car.TheVariants.{Idle, Token, Null, Reqp, Failp, Dov, Gotp, Didv}
use Rattle.usernode.specs.declared.Node.{Node}
use Rattle.usernode.specs.declared.Activity.{Activity}
use Rattle.usernode.specs.declared.Activity.TheVariants.{WaitingReqp, WaitingDov}
use Rattle.usernode.specs.Node.{had}
use Rattle.usernode.specs.Astray.{astray, unready, waits_reqp, waits_dov}
use Rattle.onelock.proofs.Train.Cells.{Cell, cell, gate, All, asks, request, Names, Apart, at}
use Rattle.onelock.proofs.Train.Invariant.{Ok, Inv}
use Rattle.onelock.proofs.Train.NodeMoves.{nobody}
use Rattle.onelock.proofs.Train.CellLaws.{all_split}
use Rattle.onelock.proofs.Line.Ring.{Line, size}
use Rattle.onelock.proofs.Line.Numbers.{Agrees}
use Rattle.onelock.proofs.Line.Phases.{Phase, Kind, car, kind, One, last, more, head, shade, Come}
use Rattle.onelock.proofs.Line.PhaseLaws.{allow, car_real}
use Rattle.onelock.proofs.Line.Fit.{cells, Clean, Fit, f_end, f_user, f_past, f_tour}
use Rattle.onelock.proofs.Line.FitLaws.{live_cell, request_car, one_clean}
use Rattle.onelock.proofs.Line.Meets.{Meets}
use Rattle.onelock.proofs.Whole.Zero.{start_phase}
use Rattle.onelock.proofs.Whole.Step.{Whole}

-- where a node's own reqp comes back to it, the node waits for it, and None holds of the lock: nobody has it
abbrev pub Awaited : (ℕ → Type 0) → ℕ → Car → Node → Type 0
Awaited None number a u = (t : Tag) → a ≡ Reqp t → t.source ≡ number → (u.activity ≡ WaitingReqp t.lock) × None t.lock

-- a node that is ready for what comes to it; where that is its own reqp, it waits for it and no node has the lock
pub record Ready (A : ℕ → Node) (number : ℕ) (a : Car) (u : Node) : Type 0 where
  pub there : astray u number a ≡ false
  pub back : Awaited (λ lock. (k : ℕ) → had (A k) lock ≡ true → ⊥) number a u

-- what a car of the train finds: its source waits for it, and where that is next and it is a reqp, no node has the lock
record Finds (A : ℕ → Node) (p : ℕ) (c : Car) : Type 0 where
  waits : (act : Activity) (s : ℕ) → request c ≡ asks act s → (A s).activity ≡ act
  free : (t : Tag) → c ≡ Reqp t → t.source ≡ suc p → (k : ℕ) → had (A k) t.lock ≡ true → ⊥

-- what holds of a car between any parts of a list holds of all its cars
all_between : (P : ℕ → Car → Type 0) (X T : List Cell) → ((Y Z : List Cell) (p : ℕ) (c : Car) → X ++ T ≡ Y ++ (cell p c ∷ Z) → P p c) → All P T
all_between P X [] f = tt
all_between P X (cell p c ∷ T) f =
    (f X T p c refl, all_between P (X ++ (cell p c ∷ [])) T (λ Y Z q d e. f Y Z q d (sym (append_assoc X (cell p c ∷ []) T) ∙ e)))
all_between P X (gate lo hi w ∷ T) f =
    all_between P (X ++ (gate lo hi w ∷ [])) T (λ Y Z q d e. f Y Z q d (sym (append_assoc X (gate lo hi w ∷ []) T) ∙ e))

-- a car of the train finds it so
finds : {n e : ℕ} {A : ℕ → Node} (Y Z : List Cell) (p : ℕ) (c : Car) → Inv n e (Y ++ (cell p c ∷ Z)) A → Finds A p c
finds {n} {e} {A} Y Z p c i =
    record {
      waits = (all_split (Ok n A e) Y (cell p c ∷ Z) i.all).1.0.waits;
      free = λ t q source. nobody n Y Z p t source (subst (λ (d : Car). Inv n e (Y ++ (cell p d ∷ Z)) A) q i);
    }

-- every car of the train finds it so
all_find : {n e : ℕ} {A : ℕ → Node} (T : List Cell) → Inv n e T A → All (Finds A) T
all_find {n} {e} {A} T i = all_between (Finds A) [] T (λ Y Z p c split. finds Y Z p c (subst (λ (L : List Cell). Inv n e L A) split i))

-- the flag is set where a car of the train comes to
live_flag : {w f g : Bool} {p q o : Phase} {k : Kind} → Come p → One w p car f q → One w q k g o → g ≡ true
live_flag n last more = refl
live_flag n last head = refl
live_flag n more more = refl
live_flag n more head = refl
live_flag n (shade s) x = absurd (n refl)

-- a node is ready for its own car if it is flagged and waits for it: it does not have the lock then
unready-not : (u : Node) (me : ℕ) (t : Tag) (act : Activity) (waits : Activity → Bool) → waits act ≡ true → Names act t.lock → Apart u
    → (asks act t.source ≡ asks act me → (u.flag ≡ true) × (u.activity ≡ act)) → unready u me t (waits u.activity) ≡ false
unfolding unready
unready-not u me t act waits right names apart own = go (eqb t.source me) refl
  where
    go : (b : Bool) → eqb t.source me ≡ b → b && (not (waits u.activity) || not u.flag || had u t.lock) ≡ false
    go true e =
        let o = own (ap (asks act) (eqb-true t.source me e)) in
        simp (ap waits o.1 ∙ right, o.0, apart.wish t.lock (subst (λ d. Names d t.lock) (sym o.1) names))
    go false e = refl

-- so it is not astray
astray-not : (u : Node) (me : ℕ) (a : Car) → Apart u → ((act : Activity) → request a ≡ asks act me → (u.flag ≡ true) × (u.activity ≡ act))
    → astray u me a ≡ false
unfolding astray waits_reqp waits_dov
astray-not u me Idle apart own = refl
astray-not u me Token apart own = refl
astray-not u me Null apart own = refl
astray-not u me (Reqp t) apart own =
    unready-not u me t (WaitingReqp t.lock) (λ d. waits_reqp d t.lock) (eq-eqb t.lock t.lock refl) refl apart (own (WaitingReqp t.lock))
astray-not u me (Failp t) apart own =
    unready-not u me t (WaitingReqp t.lock) (λ d. waits_reqp d t.lock) (eq-eqb t.lock t.lock refl) refl apart (own (WaitingReqp t.lock))
astray-not u me (Dov t) apart own =
    unready-not u me t (WaitingDov t.lock) (λ d. waits_dov d t.lock) (eq-eqb t.lock t.lock refl) refl apart (own (WaitingDov t.lock))
astray-not u me (Gotp t) apart own = refl
astray-not u me (Didv t) apart own = refl

-- a node between two senders is ready for what comes to it
ready_user : (A : ℕ → Node) {w f : Bool} {p q o : Phase} {lo hi : ℕ} (k : ℕ) (a : Car) (u : Node) → One w p (kind a) f q → One w q (kind u.car) u.flag o
    → Clean lo hi p a → lo ≤ k → k < hi → Apart u → A (suc k) ≡ u → All (Finds A) (cells p k a) → Ready A (suc k) a u
ready_user A {w} {f} {p} {q} k a u one next clean low high apart here finds =
    record {
      there = astray-not u (suc k) a apart (λ act e. (
        live_flag (live act e) (subst (λ (d : Kind). One w p d f q) (request_car a e) one) next,
        active act e,
      ));
      back = λ t e source.
          let asked = ap request e ∙ ap (asks (WaitingReqp t.lock)) source in
          (active (WaitingReqp t.lock) asked, (found (WaitingReqp t.lock) asked).free t e source);
    }
  where
    live : (act : Activity) → request a ≡ asks act (suc k) → Come p
    live act e b = clean b act (suc k) e (omega arith) high

    found : (act : Activity) → request a ≡ asks act (suc k) → Finds A k a
    found act e = (subst (All (Finds A)) (live_cell p k a (live act e) (car_real (request_car a e))) finds).0

    active : (act : Activity) → request a ≡ asks act (suc k) → u.activity ≡ act
    active act e = sym (ap (λ v. v.activity) here) ∙ (found act e).waits act (suc k) e

-- and so is each node of a line that fits
ready-line : (A : ℕ → Node) {w f : Bool} {p q o : Phase} {lo hi k : ℕ} (a : Car) {l : Line} {G : List Cell} → ((i : ℕ) → Apart (A i))
    → One w p (kind a) f q → Clean lo hi p a → Fit w lo hi q k l o G → lo ≤ k → k + size l ≤ hi → Agrees A k l
    → All (Finds A) (cells p k a) → All (Finds A) G → Meets (Ready A) k a l
ready-line A a apart one clean f_end low high agrees c g = tt
ready-line A a apart one clean (f_user {k = k} {u = u} {r = r} {G = G} next clean-next rest) low high agrees c g =
    let parts = all_split (Finds A) G _ g in (
      ready_user A k a u one next clean low (omega arith) (subst Apart agrees.0 (apart (suc k))) agrees.0 c,
      ready-line A u.car apart next clean-next rest (omega arith) (omega arith) agrees.1 parts.1 parts.0,
    )
ready-line A a apart one clean (f_past {p = q} {k = k} {j = j} {s = s} {r = r} {G = G} tour train sub clean_sub inner calm main clean-main rest)
    low high agrees c g =
    let parts = all_split (Finds A) G _ g in
    let here = all_split (Finds A) (cells q (k + size s) j.main) _ parts.1 in (
      ready-line A j.subring apart sub clean_sub inner (omega arith) (omega arith) agrees.0 tt here.1,
      ready-line A j.main apart main clean-main rest (omega arith) (omega arith) agrees.1 here.0 parts.0,
    )
ready-line A a apart one clean
    (f_tour {p₂ = p₂} {w = w} {lo = lo} {hi = hi} {k = k} {j = j} {s = s} {r = r} {G = G} {H = H} tour live sub inner out main rest)
    low high agrees c g =
    let parts = all_split (Finds A) G _ g in
    let here = all_split (Finds A) (cells p₂ (k + size s) j.main) _ parts.1 in
    let within = all_split (Finds A) H _ here.1 in (
      ready-line A j.subring apart (allow true sub) (one_clean k (k + size s) j.subring sub) inner (omega arith) (omega arith) agrees.0
          within.1 within.0,
      ready-line A j.main apart (allow w main) (one_clean lo hi j.main main) rest (omega arith) (omega arith) agrees.1 here.0 parts.0,
    )

module _ (m n : ℕ) (z : Car) (queue : List Car) (l : Line) (x : Whole m n z queue l) where
  -- each node of the whole ring is ready for what comes to it
  pub whole_ready : Meets (Ready x.ring.nodes) 0 z l
  whole_ready =
      let behind = (all_split (Finds x.ring.nodes) (at n x.rest) _ (all_find _ x.inv)).1 in
      let line = all_split (Finds x.ring.nodes) x.front _ behind in
      let sent = all_split (Finds x.ring.nodes) (cells (start_phase x.tail) 0 z) _ line.1 in
      ready-line x.ring.nodes z x.inv.apart x.sent (one_clean 0 n z x.sent) x.fit (omega arith) (omega (arith, x.ring.total))
      x.ring.agrees
      sent.0 line.0
