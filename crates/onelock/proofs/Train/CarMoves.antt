-- Moves of the train's cars that leave the nodes as they are, and that keep the invariant of the locks.
use Prim.Native.Nat.{ℕ, suc, ◌+◌, ◌-◌, ◌≤◌, ◌<◌}
use mathlib.Core.Path.{◌≡◌, refl, ◌∙◌, ap, sym, subst}
use mathlib.Core.Bool.{Bool, true, false, cond, true≢false}
use mathlib.Core.Logic.{inl, inr, ⊎_elim}
use mathlib.Core.List.{List, [], ◌∷◌, ◌++◌, append-nil}
use native.Mathlib.Omega.{arith}
use lib.Dec.{ltb}
use borrow.Author.Tests.{ltb-true, ltb-false}
use Rattle.words.specs.Words.{has}
use Rattle.cars.specs.declared.Tag.{Tag}
use Rattle.cars.specs.declared.Car.{Car}
use Rattle.cars.specs.declared.Car.TheVariants.{Idle, Token, Null, Reqp, Failp, Dov, Gotp, Didv}
use Rattle.usernode.specs.declared.Node.{Node}
use Rattle.usernode.specs.declared.Activity.{Activity}
use Rattle.usernode.specs.Node.{had}
use Rattle.zeronode.specs.Rules.{keeps}
use Rattle.onelock.proofs.Train.Cells.{Cell, cell, gate, All, Gates, Bare, Gateless, none, asks, request, noticed, bit, fold, home, Visits, at}
use Rattle.onelock.proofs.Train.Invariant.{Ok, Up, Rises, r_nil, r_cell, r_gate, NoDid, Late, Did, Words, Inv}
use Rattle.onelock.proofs.Train.CellLaws.{all_left, all_right, all_join, all_tail, all_both, all_bare, all_past, bit_far, request_noticed, fold_past}
use Rattle.onelock.proofs.Train.CellLaws.{exact_alike, words_past, words_right, words_join, words_alike, words_none, at_gates}
use Rattle.onelock.proofs.Train.HomeLaws.{home_new, home_old, homes_below, homes_behind, rises_le, rises_lower, rises_tail, rises_end, rises_before}
use Rattle.onelock.proofs.Train.HomeLaws.{rises_bare, rises_past}

-- cars that the zero node keeps
abbrev pub AllKept : List Car → Type 0
AllKept [] = Unit
AllKept (c ∷ cs) = (keeps c ≡ true) × AllKept cs

-- a car that it keeps is no notice
kept_noticed : (c : Car) → keeps c ≡ true → noticed c ≡ 0
unfolding keeps
kept_noticed Idle e = refl
kept_noticed Token e = refl
kept_noticed Null e = refl
kept_noticed (Reqp tag) e = refl
kept_noticed (Failp tag) e = refl
kept_noticed (Dov tag) e = refl
kept_noticed (Gotp notice) e = cc
kept_noticed (Didv notice) e = cc

-- no request of this source among the cells
abbrev pub Far : ℕ → List Cell → Type 0
Far q = All (λ p c. (act : Activity) → request c ≡ asks act q → ⊥)

module _ (n : ℕ) where
  -- a car goes on to another place, perhaps failed on its way: its home is the same, and what it has still to visit
  pub record Goes (A : ℕ → Node) (p : ℕ) (c : Car) (p' : ℕ) (c' : Car) : Type 0 where
    pub on : p ≤ p'
    pub top : p' ≤ n
    pub asked : (act : Activity) (s : ℕ) → request c' ≡ asks act s → request c ≡ asks act s
    pub homes : (act : Activity) (s : ℕ) → request c' ≡ asks act s → home n p' s ≡ home n p s
    pub reqp : (t : Tag) → c' ≡ Reqp t → c ≡ Reqp t
    pub visits : (t : Tag) → c' ≡ Reqp t → (k : ℕ) → had (A k) t.lock ≡ true → Visits n k p (home n p t.source) → Visits n k p' (home n p' t.source)
    pub note : noticed c' ≤ p'
    pub bits : (lo hi lock : ℕ) (b : Bool) → bit lo hi lock c' b ≡ bit lo hi lock c b
    pub did : (x : Tag) → c' ≡ Didv x → c ≡ Didv x

  -- the invariant of new cells, the nodes being as they are
  same_nodes : {e e' : ℕ} {T T' : List Cell} {A : ℕ → Node} → All (Ok n A e') T' → Rises n 0 T' (n + e') → ((lock : ℕ) → Did n lock T' A) → Words A T'
      → Inv n e T A → Inv n e' T' A
  same_nodes a r d w i = record { all = a; order = r; low = i.low; high = i.high; apart = i.apart; one = i.one; did = d; words = w }

  -- what is behind may change from Y to Z, if what holds of its cars goes on to hold and it rises between the same bounds
  record Tail (A : ℕ → Node) (e : ℕ) (Y Z : List Cell) : Type 0 where
    ok : All (Ok n A e) Y → All (Ok n A e) Z
    rise : (b : ℕ) → Rises n b Y (n + e) → Rises n b Z (n + e)
    no_didv : (lock : ℕ) → NoDid n lock Y → NoDid n lock Z
    late : (lock : ℕ) → Late n lock Y → Late n lock Z

  -- such a change keeps the invariant
  changes : (X Y Z : List Cell) {A : ℕ → Node} {e : ℕ} → Tail A e Y Z → Words A (X ++ Z) → Inv n e (X ++ Y) A → Inv n e (X ++ Z) A
  changes X Y Z {A} {e} t w i = same_nodes (all_tail (Ok n A e) X Y Z t.ok i.all) (rises_tail n X Y Z t.rise i.order) did w i
    where
      did : (lock : ℕ) → Did n lock (X ++ Z) A
      did lock = ⊎_elim (λ a. inl (all_tail _ X Y Z (t.no_didv lock) a)) (λ a. inr (a.0, all_tail _ X Y Z (t.late lock) a.1)) (i.did lock)

  -- a car that goes on is a car of the train
  ok_goes : {A : ℕ → Node} {e p p' : ℕ} {c c' : Car} → Goes A p c p' c' → Ok n A e p c → Ok n A e p' c'
  ok_goes g o =
      record {
        rear = omega (arith, g.on, o.rear);
        top = g.top;
        low = λ act s r. o.low act s (g.asked act s r);
        high = λ act s r. o.high act s (g.asked act s r);
        waits = λ act s r. o.waits act s (g.asked act s r);
        way = λ t q k h. g.visits t q k h (o.way t (g.reqp t q) k h);
        note = g.note;
      }

  -- and its home is between the same bounds
  up_goes : {A : ℕ → Node} {b p p' b₁ : ℕ} {c c' : Car} → Goes A p c p' c' → Up n b p c b₁ → Up n b p' c' b₁
  up_goes g u =
      record {
        on = u.on;
        over = λ act s r. omega (arith, g.homes act s r, u.over act s (g.asked act s r));
        under = λ act s r. omega (arith, g.homes act s r, u.under act s (g.asked act s r));
      }

  -- so it may go on, before what is behind it
  goes_tail : (Y : List Cell) {A : ℕ → Node} {e p p' : ℕ} {c c' : Car} → Goes A p c p' c' → Tail A e (cell p c ∷ Y) (cell p' c' ∷ Y)
  goes_tail Y {A} {e} {p} {p'} {c} {c'} g =
      record {
        ok = λ a. (ok_goes g a.0, a.1);
        rise = rise;
        no_didv = λ lock a. (λ x q l. a.0 x (g.did x q) l, a.1);
        late = λ lock a. (λ t q l. omega (arith, a.0 t (g.reqp t q) l, g.homes _ t.source (ap request q)), a.1);
      }
    where
      rise : (b : ℕ) → Rises n b (cell p c ∷ Y) (n + e) → Rises n b (cell p' c' ∷ Y) (n + e)
      rise b (r_cell b₁ u r) = r_cell b₁ (up_goes g u) r

  -- a car that goes on keeps the invariant
  pub goes : (X Y : List Cell) {A : ℕ → Node} {e p p' : ℕ} {c c' : Car} → Goes A p c p' c'
      → Inv n e (X ++ (cell p c ∷ Y)) A → Inv n e (X ++ (cell p' c' ∷ Y)) A
  goes X Y {A} {e} {p} {p'} {c} {c'} g i =
      changes X (cell p c ∷ Y) (cell p' c' ∷ Y) (goes_tail Y g) (words_alike A X (cell p c ∷ Y) (cell p' c' ∷ Y) alike (λ w. w) i.words) i
    where
      alike : (lo hi lock : ℕ) (b : Bool) → fold lo hi lock b (cell p' c' ∷ Y) ≡ fold lo hi lock b (cell p c ∷ Y)
      alike lo hi lock b = ap (λ (x : Bool). fold lo hi lock x Y) (g.bits lo hi lock b)

  -- a car goes away, no gate before it
  pub drops : (X Y : List Cell) {A : ℕ → Node} {e : ℕ} (p : ℕ) (c : Car) → Gateless X → Inv n e (X ++ (cell p c ∷ Y)) A → Inv n e (X ++ Y) A
  drops X Y {A} {e} p c g i =
      changes X (cell p c ∷ Y) Y (record { ok = λ a. a.1; rise = rise; no_didv = λ lock a. a.1; late = λ lock a. a.1 })
      (words_join A X Y g (words_right A X (cell p c ∷ Y) i.words)) i
    where
      rise : (b : ℕ) → Rises n b (cell p c ∷ Y) (n + e) → Rises n b Y (n + e)
      rise b (r_cell b₁ u r) = rises_lower n b u.on r

  -- a car comes past gates whose nodes are all beyond it
  pub passes : (X G Y : List Cell) {A : ℕ → Node} {e : ℕ} (p : ℕ) (c : Car) → Bare G → Gates (λ lo hi. p ≤ lo) G
      → Inv n e (X ++ (G ++ (cell p c ∷ Y))) A → Inv n e (X ++ (cell p c ∷ (G ++ Y))) A
  passes X G Y {A} {e} p c g f i =
      changes X Y₁ Y₂ (record { ok = past _; rise = λ b r. rises_past n G Y p c g r; no_didv = λ lock. past _; late = λ lock. past _ })
      (words_alike A X Y₁ Y₂ (λ lo hi lock b. fold_past lo hi lock b G Y p c g) (words_past A G Y p c g f note) i.words) i
    where
      Y₁ : List Cell
      Y₁ = G ++ (cell p c ∷ Y)

      Y₂ : List Cell
      Y₂ = cell p c ∷ (G ++ Y)

      past : (P : ℕ → Car → Type 0) → All P Y₁ → All P Y₂
      past P a = all_past P G Y p c g a

      note : noticed c ≤ p
      note = (past (Ok n A e) (all_right (Ok n A e) X Y₁ i.all)).0.note

  -- a car leaves its junction, whose word takes note of it
  pub exits : (X Y : List Cell) {A : ℕ → Node} {e : ℕ} (p lo hi w w' : ℕ) (c : Car) → ((lock : ℕ) → has w' lock ≡ bit lo hi lock c (has w lock))
      → Inv n e (X ++ (gate lo hi w ∷ (cell p c ∷ Y))) A → Inv n e (X ++ (cell p c ∷ (gate lo hi w' ∷ Y))) A
  exits X Y {A} {e} p lo hi w w' c f i =
      changes X Y₁ Y₂ (record { ok = λ a. a; rise = rise; no_didv = λ lock a. a; late = λ lock a. a })
      (words_alike A X Y₁ Y₂ (λ l h lock b. refl) noted i.words) i
    where
      Y₁ : List Cell
      Y₁ = gate lo hi w ∷ (cell p c ∷ Y)

      Y₂ : List Cell
      Y₂ = cell p c ∷ (gate lo hi w' ∷ Y)

      rise : (b : ℕ) → Rises n b Y₁ (n + e) → Rises n b Y₂ (n + e)
      rise b (r_gate (r_cell b₁ u r)) = r_cell b₁ u (r_gate r)

      noted : Words A Y₁ → Words A Y₂
      noted x = (exact_alike lo hi w w' (cell p c ∷ Y) Y (λ lock. ap (λ (b : Bool). fold lo hi lock b Y) (f lock)) x.0, x.1)

  -- a car at q or beyond, where the new rear is q
  ok_rear : {A : ℕ → Node} {e q : ℕ} (p : ℕ) (c : Car) → q ≤ p → Ok n A e p c → Ok n A q p c
  ok_rear p c h o = record { rear = h; top = o.top; low = o.low; high = o.high; waits = o.waits; way = o.way; note = o.note }

  -- where node q's new request has the last home, that of a request of another node is before it
  home_inside : (p q s : ℕ) → 1 ≤ q → s ≤ n → (s ≡ q → ⊥) → home n p s ≤ n + q → home n p s < n + q
  home_inside p q s = go (ltb p s)
    where
      go : (b : Bool) → 1 ≤ q → s ≤ n → (s ≡ q → ⊥) → cond b s (n + s) ≤ n + q → cond b s (n + s) < n + q
      go true l h f m = omega arith
      go false l h f m = omega arith

  -- a new request of node q
  module _ (A : ℕ → Node) (q : ℕ) (c : Car) (low : 1 ≤ q) (high : q ≤ n) (own : request c ≡ asks (A q).activity q) where
    -- it asks for node q
    own_source : (act : Activity) (s : ℕ) → request c ≡ asks act s → s ≡ q
    own_source act s r = cc

    -- it asks for what q waits with
    own_waits : (act : Activity) (s : ℕ) → request c ≡ asks act s → (A q).activity ≡ act
    own_waits act s r = cc

    -- its tag's source is q, where it is a reqp
    own_tag : (t : Tag) → c ≡ Reqp t → t.source ≡ q
    own_tag t r = own_source _ t.source (ap request r)

    -- it comes home with the next train
    own_home : (s : ℕ) → s ≡ q → home n q s ≡ n + q
    own_home s r = rw r (home_new n q q (omega arith))

    -- it has all nodes still to visit
    visits_all : (k h : ℕ) → h ≡ n + q → k ≤ n → Visits n k q h
    visits_all k h e l = go (ltb q k) refl
      where
        go : (b : Bool) → ltb q k ≡ b → Visits n k q h
        go true t = inl (ltb-true q k t, omega arith)
        go false t = inr (omega (arith, ltb-false q k t))

    -- so its home is the last
    own_rises : {b : ℕ} (Y : List Cell) → Bare Y → b < n + q → Rises n b (cell q c ∷ Y) (n + q)
    own_rises {b} Y g l = let m : n + q ≤ n + q = omega arith in r_cell (n + q) up (rises_bare n Y g m)
      where
        up : Up n b q c (n + q)
        up =
            record {
              on = omega arith;
              over = λ act s r. omega (arith, own_home s (own_source act s r));
              under = λ act s r. omega (arith, own_home s (own_source act s r));
            }

    -- it is no didv, and late
    own_did : (X Y : List Cell) → Bare Y → (lock : ℕ) → Did n lock (X ++ Y) A → Did n lock (X ++ (cell q c ∷ Y)) A
    own_did X Y g lock =
        ⊎_elim (λ a. inl (all_tail _ X Y (cell q c ∷ Y) (λ y. (λ x r l. true≢false (no_did x r), y)) a))
        (λ a. inr (a.0, all_tail _ X Y (cell q c ∷ Y) (λ y. (λ t r l. omega (arith, own_home t.source (own_tag t r)), y)) a.1))
      where
        no_did : (x : Tag) → c ≡ Didv x → true ≡ false
        no_did x r = let d : request c ≡ none = ap request r in cc

    -- so it is a car of the train
    own_ok : ((k lock : ℕ) → had (A k) lock ≡ true → k ≤ n) → Ok n A q q c
    own_ok upto =
        record {
          rear = omega arith;
          top = high;
          low = λ act s r. omega (arith, own_source act s r);
          high = λ act s r. omega (arith, own_source act s r);
          waits = λ act s r. ap (λ (k : ℕ). (A k).activity) (own_source act s r) ∙ own_waits act s r;
          way = λ t r k h. visits_all k (home n q t.source) (own_home t.source (own_tag t r)) (upto k t.lock h);
          note = omega (arith, request_noticed c own);
        }

  -- a request is added at the rear by node q, which waits for it: the new rear is q
  pub adds_ask : (X Y : List Cell) {A : ℕ → Node} {e : ℕ} (q : ℕ) (c : Car) → Bare Y → e ≤ q → 1 ≤ q → q ≤ n
      → All (λ p d. q ≤ p) X → Far q X → request c ≡ asks (A q).activity q
      → Inv n e (X ++ Y) A → Inv n q (X ++ (cell q c ∷ Y)) A
  adds_ask X Y {A} {e} q c g l low high f far own i =
      same_nodes (all_join (Ok n A q) X (cell q c ∷ Y) front (own_ok A q c low high own i.high, all_bare (Ok n A q) Y g))
      (rises_end n (n + q) X Y (cell q c ∷ Y) inside (λ b m r. own_rises A q c low high own Y g m) 0 (omega arith) i.order)
      (λ lock. own_did A q c low high own X Y g lock (i.did lock)) (words_alike A X Y (cell q c ∷ Y) alike (λ w. w) i.words) i
    where
      front : All (Ok n A q) X
      front = all_both X ok_rear f (all_left (Ok n A e) X Y i.all)

      inside : All (λ p d. (act : Activity) (s : ℕ) → request d ≡ asks act s → home n p s ≤ n + e → home n p s < n + q) X
      inside =
          all_both X (λ p d o h act s r m. home_inside p q s low (o.high act s r) (λ k. h act (rw k at r)) (omega arith)) front far

      alike : (lo hi lock : ℕ) (b : Bool) → fold lo hi lock b (cell q c ∷ Y) ≡ fold lo hi lock b Y
      alike lo hi lock b = ap (λ (x : Bool). fold lo hi lock x Y) (bit_far lo hi lock c b (omega (arith, request_noticed c own)))

  -- a request that comes to its own node is the only one of that node
  pub comes_home : (X Y : List Cell) {A : ℕ → Node} {e : ℕ} (p : ℕ) (c : Car) {act : Activity} → request c ≡ asks act (suc p)
      → All (λ q d. suc p ≤ q) X → All (λ q d. q ≤ p) Y → Inv n e (X ++ (cell p c ∷ Y)) A → Far (suc p) X × Far (suc p) Y
  comes_home X Y p c q f g i = (
    all_both X (λ k d l h act r. omega (arith, h act (suc p) r, home_new n k (suc p) l, old)) f (homes_below n X Y p c q i.order),
    all_both Y (λ k d l h act r. omega (arith, h act (suc p) r, home_old n k (suc p) (omega arith), old)) g (homes_behind n X Y p c q i.order),
  )
    where
      old : home n p (suc p) ≡ suc p
      old = home_old n p (suc p) (omega arith)

  -- what a request at the zero node has still to visit, it has to visit before it comes home
  kept_way : (k s : ℕ) → 1 ≤ s → s ≤ n → 1 ≤ k → k ≤ n → Visits n k n (home n n s) → Visits n k 0 (home n 0 s)
  kept_way k s l h l' h' =
      ⊎_elim (λ v. absurd (omega (arith, v.0))) (λ v. inl (l', omega (arith, v, home_old n 0 s l, home_new n n s h)))

  -- a car that the zero node keeps, at place 0 again
  module _ (c : Car) (kept : keeps c ≡ true) where
    -- it is no didv
    kept_did : (x : Tag) → c ≡ Didv x → ⊥
    unfolding keeps
    kept_did x r = true≢false (sym kept ∙ ap keeps r)

    -- it is a car of the next train
    kept_ok : {A : ℕ → Node} {e : ℕ} → ((k lock : ℕ) → had (A k) lock ≡ true → 1 ≤ k) → ((k lock : ℕ) → had (A k) lock ≡ true → k ≤ n)
        → Ok n A e n c → Ok n A 0 0 c
    kept_ok low high o =
        record {
          rear = omega arith;
          top = omega arith;
          low = o.low;
          high = o.high;
          waits = o.waits;
          way = λ t r k h. kept_way k t.source (o.low _ t.source (ap request r)) (o.high _ t.source (ap request r)) (low k t.lock h)
              (high k t.lock h) (o.way t r k h);
          note = omega (arith, kept_noticed c kept);
        }

    -- its home is nearer by n
    kept_up : {A : ℕ → Node} {b e b₁ : ℕ} (b' : ℕ) → b' ≤ b - n → Ok n A e n c → Up n b n c b₁ → Up n b' 0 c (b₁ - n)
    kept_up {A} {b} {e} {b₁} b' l o u =
        record {
          on = omega (arith, u.on);
          over = λ act s r. omega (arith, u.over act s r, o.low act s r, home_new n n s (o.high act s r), home_old n 0 s (o.low act s r));
          under = λ act s r. omega (arith, u.under act s r, home_new n n s (o.high act s r), home_old n 0 s (o.low act s r));
        }

  -- kept cars, all at place 0 again, are cars of the next train
  again_ok : (Q : List Car) (A : ℕ → Node) (e : ℕ) → AllKept Q → ((k lock : ℕ) → had (A k) lock ≡ true → 1 ≤ k)
      → ((k lock : ℕ) → had (A k) lock ≡ true → k ≤ n) → All (Ok n A e) (at n Q) → All (Ok n A 0) (at 0 Q)
  again_ok [] A e kept low high a = tt
  again_ok (c ∷ Q) A e kept low high a = (kept_ok c kept.0 low high a.0, again_ok Q A e kept.1 low high a.1)

  -- their homes rise in the same order
  again_rises : (Q : List Car) (G : List Cell) (A : ℕ → Node) (e : ℕ) {b : ℕ} → AllKept Q → All (Ok n A e) (at n Q) → (b' : ℕ) → b' ≤ b - n → b' ≤ n
      → Rises n b (at n Q ++ G) (n + e) → Rises n b' (at 0 Q) (n + 0)
  again_rises [] G A e kept a b' l m r = let h : b' ≤ n + 0 = omega arith in r_nil h
  again_rises (c ∷ Q) G A e kept a b' l m (r_cell b₁ u r) =
      r_cell (b₁ - n) (kept_up c kept.0 b' l a.0 u)
      (again_rises Q G A e kept.1 a.1 (b₁ - n) (omega arith) (omega (arith, rises_le n r, a.0.rear)) r)

  -- none of them is a didv
  again_nodid : (Q : List Car) (lock : ℕ) → AllKept Q → NoDid n lock (at 0 Q)
  again_nodid [] lock kept = tt
  again_nodid (c ∷ Q) lock kept = (λ x r l. kept_did c kept.0 x r, again_nodid Q lock kept.1)

  -- they change no bit
  again_fold : (Q : List Car) (lo hi lock : ℕ) (b : Bool) → AllKept Q → fold lo hi lock b (at 0 Q) ≡ b
  again_fold [] lo hi lock b kept = refl
  again_fold (c ∷ Q) lo hi lock b kept =
      again_fold Q lo hi lock (bit lo hi lock c b) kept.1 ∙ bit_far lo hi lock c b (omega (arith, kept_noticed c kept.0))

  -- all cars are with the zero node, which sends them out again on the next train
  pub wraps : (Q : List Car) (G : List Cell) {A : ℕ → Node} {e : ℕ} → Bare G → AllKept Q → Inv n e (at n Q ++ G) A → Inv n 0 (G ++ at 0 Q) A
  wraps Q G {A} {e} g kept i =
      same_nodes (all_join (Ok n A 0) G (at 0 Q) (all_bare (Ok n A 0) G g) (again_ok Q A e kept i.low i.high old))
      (rises_before n G (at 0 Q) g (again_rises Q G A e kept old 0 (omega arith) (omega arith) i.order))
      (λ lock. inl (all_join _ G (at 0 Q) (all_bare _ G g) (again_nodid Q lock kept)))
      (words_alike A G [] (at 0 Q) (λ lo hi lock b. again_fold Q lo hi lock b kept) (λ w. words_none (at 0 Q) A (at_gates _ 0 Q)) words) i
    where
      old : All (Ok n A e) (at n Q)
      old = all_left (Ok n A e) (at n Q) G i.all

      words : Words A (G ++ [])
      words = subst (Words A) (sym (append-nil G)) (words_right A (at n Q) G i.words)
