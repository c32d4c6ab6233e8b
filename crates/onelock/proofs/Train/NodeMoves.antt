-- Moves in which a node changes, and that keep the invariant of the locks: its activity, a lock less, a didv sent, a grant.
use Prim.Native.Nat.{ℕ, suc, ◌+◌, ◌≤◌, ◌<◌}
use mathlib.Core.Path.{◌≡◌, refl, sym, ◌∙◌, ap, subst}
use mathlib.Core.Bool.{Bool, true, false, cond, false≢true}
use mathlib.Core.Logic.{◌⊎◌, inl, inr, ⊎_elim}
use mathlib.Core.List.{List, ◌∷◌, ◌++◌}
use native.Mathlib.Nat.{le_refl}
use native.Mathlib.Omega.{arith}
use lib.Dec.{ltb}
use borrow.Author.Tests.{ltb-true}
use Rattle.cars.specs.declared.Tag.{Tag}
use Rattle.cars.specs.declared.Car.{Car}
use Rattle.cars.specs.declared.Car.TheVariants.{Null, Reqp, Gotp, Didv}
use Rattle.usernode.specs.declared.Node.{Node}
use Rattle.usernode.specs.declared.Activity.{Activity}
use Rattle.usernode.specs.Node.{had}
use Rattle.lists.proofs.Tests.{by_number}
use Rattle.onelock.proofs.Train.Cells.{Cell, cell, All, Gates, Bare, Gateless, none, asks, request, noticed, fold, home, Visits, Names, Apart}
use Rattle.onelock.proofs.Train.Invariant.{Inv, Ok, Up, Rises, r_cell, Did, NoDid, Late, Words}
use Rattle.onelock.proofs.Train.CellLaws.{all_both, all_map, all_split, all_join, gates_map, gates_any, gates_join, fold_bare, mine_case, Right}
use Rattle.onelock.proofs.Train.CellLaws.{right_same, words_same, words_none, words_tail, fold_kept, all_bare, all_tail}
use Rattle.onelock.proofs.Train.HomeLaws.{rises_over, rises_split, rises_tail, rises_to, home_old}
use Rattle.onelock.proofs.Train.Nodes.{put, put_case}

-- no node has more locks than before where the node put anew has none that its forerunner had not
put_less : (A : ℕ → Node) (q : ℕ) (v : Node) → ((lock : ℕ) → had v lock ≡ true → had (A q) lock ≡ true)
    → (k lock : ℕ) → had (put A q v k) lock ≡ true → had (A k) lock ≡ true
put_less A q v less k lock =
    put_case (λ u. had u lock ≡ true → had (A k) lock ≡ true) A q v k
    (λ here h. subst (λ i. had (A i) lock ≡ true) (sym here) (less lock h)) (λ there h. h)

-- a node has a lock as before unless it is the one put anew, and then too where that has it as its forerunner had
put_same : (A : ℕ → Node) (q : ℕ) (v : Node) (lock k : ℕ) → (k ≡ q → had v lock ≡ had (A q) lock) → had (put A q v k) lock ≡ had (A k) lock
put_same A q v lock k same =
    put_case (λ u. had u lock ≡ had (A k) lock) A q v k (λ here. subst (λ i. had v lock ≡ had (A i) lock) (sym here) (same here)) (λ there. refl)

-- words and activities keep apart where those of the node put anew do
put_apart : (A : ℕ → Node) (q : ℕ) (v : Node) → Apart v → ((k : ℕ) → Apart (A k)) → (k : ℕ) → Apart (put A q v k)
put_apart A q v apart all k = put_case Apart A q v k (λ here. apart) (λ there. all k)

-- the words at gates whose nodes are all before the node put anew stay exact
words_before : (t : List Cell) (A : ℕ → Node) (q : ℕ) (v : Node) → Gates (λ lo hi. hi < q) t → Words A t → Words (put A q v) t
words_before t A q v g =
    words_same t A (put A q v) (gates_map t (λ lo hi below k lock l h. put_same A q v lock k (λ here. absurd (omega arith))) g)

-- a bit that is not the one which a notice of the node put anew is for stays right, where nothing but the notice's lock has changed
right_else : (A : ℕ → Node) (q : ℕ) (v : Node) (x : Tag) {lo hi lock : ℕ} {b : Bool} → x.source ≡ q
    → ((lock : ℕ) → (lock ≡ x.lock → ⊥) → had v lock ≡ had (A q) lock)
    → (lo < x.source → x.source ≤ hi → lock ≡ x.lock → ⊥) → Right A lo hi lock b → Right (put A q v) lo hi lock b
right_else A q v x {lock = lock} source same other =
    right_same (λ k l h. put_same A q v lock k (λ here. same lock (λ e. other (omega arith) (omega arith) e)))

-- a car that asks for nothing
abbrev Silent : Car → Type 0
Silent c = (act : Activity) (s : ℕ) → request c ≡ asks act s → ⊥

-- none is no request
none_asks : (act : Activity) (s : ℕ) → none ≡ asks act s → ⊥
none_asks act s e = false≢true (cc)

module _ (n : ℕ) where
  -- a node's activity is what each request of that node asks for
  abbrev pub Serves : ℕ → Node → List Cell → Type 0
  Serves q v = All (λ p c. (act : Activity) → request c ≡ asks act q → v.activity ≡ act)

  -- a car of the train is in order where its source still waits and no node has more locks
  ok_less : {A B : ℕ → Node} {e e' p : ℕ} {c : Car} → ((k lock : ℕ) → had (B k) lock ≡ true → had (A k) lock ≡ true)
      → ((act : Activity) (s : ℕ) → request c ≡ asks act s → (B s).activity ≡ act) → e' ≤ p → Ok n A e p c → Ok n B e' p c
  ok_less less waits rear o = record {
    rear = rear;
    top = o.top;
    low = o.low;
    high = o.high;
    waits = waits;
    way = λ t r k h. o.way t r k (less k t.lock h);
    note = o.note;
  }

  -- a car that asks for nothing may stand anywhere in the order of homes
  up_silent : {b p b₁ : ℕ} {c : Car} → Silent c → b ≤ b₁ → Up n b p c b₁
  up_silent silent le = record { on = le; over = λ act s r. absurd (silent act s r); under = λ act s r. absurd (silent act s r) }

  -- a car that asks for nothing is in order on the train, where its notice has passed its node
  ok_silent : {A : ℕ → Node} {e p : ℕ} {c : Car} → Silent c → e ≤ p → p ≤ n → noticed c ≤ p → Ok n A e p c
  ok_silent silent rear top note = record {
    rear = rear;
    top = top;
    low = λ act s r. absurd (silent act s r);
    high = λ act s r. absurd (silent act s r);
    waits = λ act s r. absurd (silent act s r);
    way = λ t r. absurd (silent _ _ (ap request r));
    note = note;
  }

  -- other cells behind, with no new didv for a lock and no new reqp, and no new node that has it
  did_on : (X Y Z : List Cell) (A B : ℕ → Node) (lock : ℕ) → (NoDid n lock Y → NoDid n lock Z) → (Late n lock Y → Late n lock Z)
      → ((k : ℕ) → had (B k) lock ≡ true → had (A k) lock ≡ true) → Did n lock (X ++ Y) A → Did n lock (X ++ Z) B
  did_on X Y Z A B lock f g less = ⊎_elim (λ no. inl (all_tail _ X Y Z f no)) (λ r. inr (λ k h. r.0 k (less k h), all_tail _ X Y Z g r.1))

  -- the invariant where a node is put anew that has no more locks, the words being exact
  shrinks : (T : List Cell) {A : ℕ → Node} {e : ℕ} (q : ℕ) (v : Node) → ((lock : ℕ) → had v lock ≡ true → had (A q) lock ≡ true) → Serves q v T → Apart v
      → Words (put A q v) T → Inv n e T A → Inv n e T (put A q v)
  shrinks T {A} {e} q v fewer serves apart words i = record {
    all = all_both T (λ p c f o. ok_less less (waits f o) o.rear o) serves i.all;
    order = i.order;
    low = λ k lock h. i.low k lock (less k lock h);
    high = λ k lock h. i.high k lock (less k lock h);
    apart = put_apart A q v apart i.apart;
    one = λ lock j k h g. i.one lock j k (less j lock h) (less k lock g);
    did = λ lock. ⊎_elim (λ no. inl no) (λ r. inr (λ k h. r.0 k (less k lock h), r.1)) (i.did lock);
    words = words;
  }
    where
      less : (k lock : ℕ) → had (put A q v k) lock ≡ true → had (A k) lock ≡ true
      less = put_less A q v fewer

      waits : {p : ℕ} {c : Car} → ((act : Activity) → request c ≡ asks act q → v.activity ≡ act) → Ok n A e p c
          → (act : Activity) (s : ℕ) → request c ≡ asks act s → (put A q v s).activity ≡ act
      waits {p} {c} f o act s e =
          put_case (λ u. u.activity ≡ act) A q v s (λ here. f act (subst (λ j. request c ≡ asks act j) here e)) (λ there. o.waits act s e)

  -- node q becomes v, which has the same locks
  pub same_had : (T : List Cell) {A : ℕ → Node} {e : ℕ} (q : ℕ) (v : Node) → ((lock : ℕ) → had v lock ≡ had (A q) lock) → Serves q v T → Apart v
      → Inv n e T A → Inv n e T (put A q v)
  same_had T {A} q v same serves apart i =
      shrinks T q v (λ lock h. sym (same lock) ∙ h) serves apart
      (words_same T A (put A q v) (gates_any T (λ lo hi k lock l h. put_same A q v lock k (λ here. same lock))) i.words) i

  -- node q becomes v, which has no lock that q had not; without gates
  pub fewer : (T : List Cell) {A : ℕ → Node} {e : ℕ} (q : ℕ) (v : Node) → ((lock : ℕ) → had v lock ≡ true → had (A q) lock ≡ true) → Serves q v T → Apart v
      → Gateless T → Inv n e T A → Inv n e T (put A q v)
  fewer T {A} q v less serves apart gateless i = shrinks T q v less serves apart (words_none T (put A q v) gateless) i

  -- node q sends the didv for a lock that it had, at the rear: the new rear is q
  pub adds_did : (X Y : List Cell) {A : ℕ → Node} {e : ℕ} (q : ℕ) (v : Node) (x : Tag) → x.source ≡ q
      → had (A q) x.lock ≡ true → had v x.lock ≡ false → ((lock : ℕ) → (lock ≡ x.lock → ⊥) → had v lock ≡ had (A q) lock)
      → v.activity ≡ (A q).activity → Apart v
      → Bare Y → Gates (λ lo hi. hi < q) Y → e ≤ q → All (λ p c. q ≤ p) X
      → Inv n e (X ++ Y) A → Inv n q (X ++ (cell q (Didv x) ∷ Y)) (put A q v)
  adds_did X Y {A} {e} q v x source was gone same act apart bare gates le far i = record {
    all = all_join (Ok n B q) X new
        (all_both X (λ p c o f. ok_less less (λ a s r. put_active s ∙ o.waits a s r) f o) oks far)
        (ok_silent none_asks (le_refl q) (i.high q x.lock was) (omega arith), all_bare _ Y bare);
    order = rises_to n (omega arith) (rises_tail n X Y new (λ a r. r_cell a (up_silent none_asks (le_refl a)) r) i.order);
    low = λ k lock h. i.low k lock (less k lock h);
    high = λ k lock h. i.high k lock (less k lock h);
    apart = put_apart A q v apart i.apart;
    one = λ lock j k h g. i.one lock j k (less j lock h) (less k lock g);
    did = λ lock. by_number (λ l. Did n l (X ++ new) B) x.lock lock (inr (away, late))
        (λ other. did_on X Y new A B lock (λ no. (λ y r s. other (cc), no)) (λ l. (λ t r. absurd (none_asks _ _ (ap request r)), l))
        (λ k. less k lock) (i.did lock));
    words = words_tail X Y new bits (words_before Y A q v gates) i.words;
  }
    where
      B : ℕ → Node
      B = put A q v

      new : List Cell
      new = cell q (Didv x) ∷ Y

      oks : All (Ok n A e) X
      oks = (all_split (Ok n A e) X Y i.all).0

      less : (k lock : ℕ) → had (B k) lock ≡ true → had (A k) lock ≡ true
      less = put_less A q v (λ lock. by_number (λ l. had v l ≡ true → had (A q) l ≡ true) x.lock lock (λ h. was) (λ other h. sym (same lock other) ∙ h))

      put_active : (s : ℕ) → (B s).activity ≡ (A s).activity
      put_active s = put_case (λ u. u.activity ≡ (A s).activity) A q v s (λ here. subst (λ j. v.activity ≡ (A j).activity) (sym here) act) (λ there. refl)

      away : (k : ℕ) → had (B k) x.lock ≡ true → ⊥
      away k = put_case (λ u. had u x.lock ≡ true → ⊥) A q v k (λ here h. false≢true (sym gone ∙ h)) (λ there h. there (i.one x.lock k q h was))

      -- a reqp for the lock in front has still to visit node q: it does so with the next train
      next : (p : ℕ) (c : Car) → Ok n A e p c → q ≤ p → (t : Tag) → c ≡ Reqp t → t.lock ≡ x.lock → n < home n p t.source
      next p c o f t r s =
          ⊎_elim (λ z. absurd (omega arith)) (λ z. omega (arith, i.low q x.lock was)) (o.way t r q (subst (λ l. had (A q) l ≡ true) (sym s) was))

      late : Late n x.lock (X ++ new)
      late = all_join _ X new (all_both X next oks far)
          (λ t r. absurd (none_asks _ _ (ap request r)), all_bare _ Y bare)

      bits : (lo hi lock : ℕ) (b : Bool) → Right A lo hi lock (fold lo hi lock b Y) → Right B lo hi lock (fold lo hi lock b new)
      bits lo hi lock b r =
          mine_case (λ m. Right B lo hi lock (fold lo hi lock (cond m false b) Y)) lo hi lock x
          (λ l h s. record {
            to = λ e. absurd (false≢true (sym (fold_bare Y lo hi lock false bare) ∙ e));
            from = λ k a z e. absurd (away k (subst (λ j. had (B k) j ≡ true) s e));
          })
          (λ other. right_else A q v x source same other r)

  -- a home is no lower than any place that the car has reached
  home_least : (b q s : ℕ) → b ≤ q → b ≤ n → b ≤ home n q s
  home_least b q s reached top = go (ltb q s) refl
    where
      go : (t : Bool) → ltb q s ≡ t → b ≤ cond t s (n + s)
      go true e = omega (arith, ltb-true q s e)
      go false e = omega arith

  -- when a node's own reqp comes back, no node has its lock
  pub nobody : (X Y : List Cell) {A : ℕ → Node} {e : ℕ} (p : ℕ) (t : Tag) → t.source ≡ suc p
      → Inv n e (X ++ (cell p (Reqp t) ∷ Y)) A → (k : ℕ) → had (A k) t.lock ≡ true → ⊥
  nobody X Y {A} {e} p t source i k h = ⊎_elim own far (ok.way t refl k h)
    where
      ok : Ok n A e p (Reqp t)
      ok = (all_split (Ok n A e) X (cell p (Reqp t) ∷ Y) i.all).1.0

      back : home n p t.source ≡ t.source
      back = home_old n p t.source (omega arith)

      own : (p < k) × (k ≤ home n p t.source) → ⊥
      own z = false≢true (sym free ∙ subst (λ j. had (A j) t.lock ≡ true) same h)
        where
          same : k ≡ t.source
          same = omega (arith, back)

          free : had (A t.source) t.lock ≡ false
          free = (i.apart t.source).wish t.lock (subst (λ a. Names a t.lock) (sym (ok.waits _ _ refl)) refl)

      far : k + n ≤ home n p t.source → ⊥
      far z = omega (arith, back, i.low k t.lock h, ok.high _ _ refl)

  -- when a node's own reqp comes back, no didv for its lock is on the train
  no_did : (X Y : List Cell) {A : ℕ → Node} {e : ℕ} (p : ℕ) (t : Tag) → t.source ≡ suc p → suc p ≤ n
      → Inv n e (X ++ (cell p (Reqp t) ∷ Y)) A → NoDid n t.lock (X ++ (cell p (Reqp t) ∷ Y))
  no_did X Y p t source top i =
      ⊎_elim (λ no. no) (λ r. absurd (omega (arith, (all_split _ X (cell p (Reqp t) ∷ Y) r.1).1.0 t refl refl, home_old n p t.source (omega arith))))
      (i.did t.lock)

  -- each request goes on beyond a place
  abbrev Beyond : ℕ → List Cell → Type 0
  Beyond b = All (λ q c. (act : Activity) (s : ℕ) → request c ≡ asks act s → b < home n q s)

  -- when a node's own reqp comes back, no car in front of it asks for anything, and those behind it go on beyond that node
  alone : (X Y : List Cell) (p : ℕ) (t : Tag) {b d : ℕ} → t.source ≡ suc p → suc p ≤ n → All (λ q c. suc p ≤ q) X
      → Rises n b (X ++ (cell p (Reqp t) ∷ Y)) d
      → All (λ q c. Silent c) X × Beyond (suc p) Y
  alone X Y p t {d = d} source top far r = let s = rises_split n X (cell p (Reqp t) ∷ Y) r in go s.mid s.front s.back
    where
      back : home n p t.source ≡ suc p
      back = home_old n p t.source (omega arith) ∙ source

      go : (m : ℕ) → All (λ q c. (act : Activity) (s : ℕ) → request c ≡ asks act s → home n q s ≤ m) X → Rises n m (cell p (Reqp t) ∷ Y) d
          → All (λ q c. Silent c) X × Beyond (suc p) Y
      go m front (r_cell b₁ up rest) = (
        all_both X (λ q c f reached act s a. omega (arith, f act s a, up.over _ _ refl, home_least (suc p) q s reached top, back)) front far,
        all_map Y (λ q c f act s a. omega (arith, f act s a, up.under _ _ refl, back)) (rises_over n rest),
      )

  -- a car that has not reached node p + 1, and whose request goes on beyond it, stays in order whatever that node becomes
  behind : (A : ℕ → Node) {e p q : ℕ} {c : Car} (v : Node) → q ≤ p → ((act : Activity) (s : ℕ) → request c ≡ asks act s → suc p < home n q s)
      → Ok n A e q c → Ok n (put A (suc p) v) e q c
  behind A {p = p} {q = q} v near beyond o = record {
    rear = o.rear;
    top = o.top;
    low = o.low;
    high = o.high;
    waits = λ act s r. put_case (λ u. u.activity ≡ act) A (suc p) v s
        (λ here. absurd (omega (arith, beyond act s r, home_old n q s (omega arith)))) (λ there. o.waits act s r);
    way = λ t r k. put_case (λ u. had u t.lock ≡ true → Visits n k q (home n q t.source)) A (suc p) v k
        (λ here h. inl (omega arith, omega (arith, beyond _ _ (ap request r)))) (λ there. o.way t r k);
    note = o.note;
  }

  -- node p + 1's own reqp comes back to it: it is granted the lock, and sends null where there is no gate, else the gotp
  pub grants : (X Y : List Cell) {A : ℕ → Node} {e : ℕ} (p : ℕ) (v : Node) (c' : Car) (t : Tag) → t.source ≡ suc p → suc p ≤ n
      → ((c' ≡ Null) × Gateless X × Gateless Y) ⊎ ((x : Tag) × (c' ≡ Gotp x) × (x.source ≡ suc p) × (x.lock ≡ t.lock))
      → had v t.lock ≡ true → ((lock : ℕ) → (lock ≡ t.lock → ⊥) → had v lock ≡ had (A (suc p)) lock)
      → Apart v
      → All (λ q c. suc p ≤ q) X → All (λ q c. q ≤ p) Y → Gates (λ lo hi. hi ≤ p) Y
      → Inv n e (X ++ (cell p (Reqp t) ∷ Y)) A → Inv n e (X ++ (cell (suc p) c' ∷ Y)) (put A (suc p) v)
  grants X Y {A} {e} p v c' t source top kind has_it same apart far near gates i = record {
    all = all_join (Ok n B e) X new (all_both X (λ q c o f. ok_silent f o.rear o.top o.note) oks.0 asking.0)
        (ok_silent silent (omega (arith, oks.1.0.rear)) top note, all_both Y (λ q c f o. f o) (all_both Y (λ q c. behind A v) near asking.1) oks.1.1);
    order = rises_tail n X old new renew i.order;
    low = λ k lock. put_case (λ u. had u lock ≡ true → 1 ≤ k) A (suc p) v k (λ here h. omega arith) (λ there. i.low k lock);
    high = λ k lock. put_case (λ u. had u lock ≡ true → k ≤ n) A (suc p) v k (λ here h. omega arith) (λ there. i.high k lock);
    apart = put_apart A (suc p) v apart i.apart;
    one = λ lock j k. by_number (λ l. had (B j) l ≡ true → had (B k) l ≡ true → j ≡ k) t.lock lock (λ h g. only j h ∙ sym (only k g))
        (λ other h g. i.one lock j k (less lock other j h) (less lock other k g));
    did = λ lock. by_number (λ l. Did n l (X ++ new) B) t.lock lock (inl (all_tail _ X old new (λ z. (λ x r. absurd (no_didv x r), z.1)) clear))
        (λ other. did_on X old new A B lock (λ z. (λ x r. absurd (no_didv x r), z.1)) (λ z. (λ s r. absurd (silent _ _ (ap request r)), z.1))
        (less lock other) (i.did lock));
    words = ⊎_elim (λ z. words_none (X ++ new) B (gates_join _ X new z.1 z.2)) (λ z. subst (λ c. Words B (X ++ (cell (suc p) c ∷ Y))) (sym z.1)
        (words_tail X old (cell (suc p) (Gotp z.0) ∷ Y) (bits z.0 z.2 z.3) (words_before Y A (suc p) v (gates_map Y (λ lo hi h. omega arith) gates))
        i.words)) kind;
  }
    where
      B : ℕ → Node
      B = put A (suc p) v

      old : List Cell
      old = cell p (Reqp t) ∷ Y

      new : List Cell
      new = cell (suc p) c' ∷ Y

      silent : Silent c'
      silent = ⊎_elim (λ z. subst Silent (sym z.0) none_asks) (λ z. subst Silent (sym z.1) none_asks) kind

      no_didv : (x : Tag) → c' ≡ Didv x → ⊥
      no_didv x r = ⊎_elim (λ z. false≢true (cc z.0)) (λ z. false≢true (cc z.1)) kind

      note : noticed c' ≤ suc p
      note =
          ⊎_elim (λ z. subst (λ c. noticed c ≤ suc p) (sym z.0) (omega arith))
          (λ z. subst (λ c. noticed c ≤ suc p) (sym z.1) (omega (arith, z.2))) kind

      oks : All (Ok n A e) X × All (Ok n A e) old
      oks = all_split (Ok n A e) X old i.all

      asking : All (λ q c. Silent c) X × Beyond (suc p) Y
      asking = alone X Y p t source top far i.order

      clear : NoDid n t.lock (X ++ old)
      clear = no_did X Y p t source top i

      renew : (a : ℕ) → Rises n a old (n + e) → Rises n a new (n + e)
      renew a (r_cell b₁ up r) = r_cell b₁ (up_silent silent up.on) r

      only : (k : ℕ) → had (B k) t.lock ≡ true → k ≡ suc p
      only k = put_case (λ u. had u t.lock ≡ true → k ≡ suc p) A (suc p) v k (λ here h. here) (λ there h. absurd (nobody X Y p t source i k h))

      less : (lock : ℕ) → (lock ≡ t.lock → ⊥) → (k : ℕ) → had (B k) lock ≡ true → had (A k) lock ≡ true
      less lock other k h = sym (put_same A (suc p) v lock k (λ here. same lock other)) ∙ h

      bits : (x : Tag) → x.source ≡ suc p → x.lock ≡ t.lock → (lo hi lock : ℕ) (b : Bool)
          → Right A lo hi lock (fold lo hi lock b old) → Right B lo hi lock (fold lo hi lock b (cell (suc p) (Gotp x) ∷ Y))
      bits x own at-lock lo hi lock b r =
          mine_case (λ m. Right B lo hi lock (fold lo hi lock (cond m true b) Y)) lo hi lock x
          (λ l h s. record {
            to = λ z. record { who = suc p; above = omega arith; upto = omega arith; has_it = granted (s ∙ at-lock) };
            from = λ k a z g. fold_kept n Y lo hi lock (subst (λ j. NoDid n j Y) (sym (s ∙ at-lock)) (all_split _ X old clear).1.1);
          })
          (λ other. right_else A (suc p) v x own (λ j z. same j (λ g. z (g ∙ sym at-lock))) other r)
        where
          granted : lock ≡ t.lock → had (B (suc p)) lock ≡ true
          granted s = put_case (λ u. had u lock ≡ true) A (suc p) v (suc p) (λ here. subst (λ j. had v j ≡ true) (sym s) has_it) (λ there. absurd (there refl))
