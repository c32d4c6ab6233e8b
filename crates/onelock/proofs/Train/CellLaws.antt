-- Laws of lists of cells: what holds of each car and of each gate, over a list and what is behind it; a word's bits; the words at the gates.
use Prim.Native.Nat.{ℕ, ◌≤◌, ◌<◌}
use mathlib.Core.Path.{◌≡◌, refl, ◌∙◌, ap, sym, subst}
use mathlib.Core.Bool.{Bool, true, false, cond, false≢true}
use mathlib.Core.List.{List, [], ◌∷◌, ◌++◌}
use native.Mathlib.Omega.{arith}
use lib.Dec.{eqb, ltb, leb}
use borrow.Author.Tests.{lt-ltb, le-ltb, le-leb, ltb-true, leb-true, eq-eqb, eqb-true}
use Rattle.lists.proofs.Laws.{and_left, and_right}
use Rattle.words.specs.Words.{has}
use Rattle.cars.specs.declared.Tag.{Tag}
use Rattle.cars.specs.declared.Car.{Car}
use Rattle.cars.specs.declared.Car.TheVariants.{Idle, Token, Null, Reqp, Failp, Dov, Gotp, Didv}
use Rattle.usernode.specs.declared.Node.{Node}
use Rattle.usernode.specs.declared.Activity.{Activity}
use Rattle.usernode.specs.Node.{had}
use Rattle.tours.specs.Rules.{within}
use Rattle.lists.proofs.Tests.{by_value}
use Rattle.onelock.proofs.Train.Cells.{Cell, cell, gate, All, Gates, Bare, Gateless, at, asks, request, noticed, mine, bit, fold}
use Rattle.onelock.proofs.Train.Invariant.{NoDid, Some, Exact, Words}

-- what holds of all cars holds of those in front and of those behind
pub all_split : (P : ℕ → Car → Type 0) (X Y : List Cell) → All P (X ++ Y) → All P X × All P Y
all_split P [] Y a = (tt, a)
all_split P (cell p c ∷ X) Y a = let r = all_split P X Y a.1 in ((a.0, r.0), r.1)
all_split P (gate lo hi w ∷ X) Y a = all_split P X Y a

-- of those in front
pub all_left : (P : ℕ → Car → Type 0) (X Y : List Cell) → All P (X ++ Y) → All P X
all_left P X Y a = (all_split P X Y a).0

-- of those behind
pub all_right : (P : ℕ → Car → Type 0) (X Y : List Cell) → All P (X ++ Y) → All P Y
all_right P X Y a = (all_split P X Y a).1

-- what holds of the cars in front and of those behind holds of all
pub all_join : (P : ℕ → Car → Type 0) (X Y : List Cell) → All P X → All P Y → All P (X ++ Y)
all_join P [] Y a b = b
all_join P (cell p c ∷ X) Y a b = (a.0, all_join P X Y a.1 b)
all_join P (gate lo hi w ∷ X) Y a b = all_join P X Y a b

-- what is behind may change, if it holds of what comes in its place
pub all_tail : (P : ℕ → Car → Type 0) (X Y Z : List Cell) → (All P Y → All P Z) → All P (X ++ Y) → All P (X ++ Z)
all_tail P X Y Z f a = all_join P X Z (all_left P X Y a) (f (all_right P X Y a))

-- what follows from two facts of each car holds of each car
pub all_both : {P Q R : ℕ → Car → Type 0} (X : List Cell) → ((p : ℕ) (c : Car) → P p c → Q p c → R p c) → All P X → All Q X → All R X
all_both [] f a b = tt
all_both (cell p c ∷ X) f a b = (f p c a.0 b.0, all_both X f a.1 b.1)
all_both (gate lo hi w ∷ X) f a b = all_both X f a b

-- what follows from a fact of each car holds of each car
pub all_map : {P Q : ℕ → Car → Type 0} (X : List Cell) → ((p : ℕ) (c : Car) → P p c → Q p c) → All P X → All Q X
all_map X f a = all_both X (λ p c x y. f p c x) a a

-- anything holds of the cars of a list without cars
pub all_bare : (P : ℕ → Car → Type 0) (Y : List Cell) → Bare Y → All P Y
all_bare P Y a = all_map Y (λ p c none. absurd none) a

-- what holds where a car is behind gates holds where it is before them
pub all_past : (P : ℕ → Car → Type 0) (G Y : List Cell) (p : ℕ) (c : Car) → Bare G → All P (G ++ (cell p c ∷ Y)) → P p c × All P (G ++ Y)
all_past P [] Y p c g a = a
all_past P (cell q d ∷ G) Y p c g a = absurd g.0
all_past P (gate lo hi w ∷ G) Y p c g a = all_past P G Y p c g a

-- what holds of any car at a place holds of each car of a list of cars there
pub at_all : (P : ℕ → Car → Type 0) (p : ℕ) → ((c : Car) → P p c) → (cs : List Car) → All P (at p cs)
at_all P p f [] = tt
at_all P p f (c ∷ cs) = (f c, at_all P p f cs)

-- no gate is among cars at one place
pub at_gates : (P : ℕ → ℕ → Type 0) (p : ℕ) (cs : List Car) → Gates P (at p cs)
at_gates P p [] = tt
at_gates P p (c ∷ cs) = at_gates P p cs

-- what holds of the gates in front and of those behind holds of all
pub gates_join : (P : ℕ → ℕ → Type 0) (X Y : List Cell) → Gates P X → Gates P Y → Gates P (X ++ Y)
gates_join P [] Y x y = y
gates_join P (cell p c ∷ X) Y x y = gates_join P X Y x y
gates_join P (gate lo hi w ∷ X) Y x y = (x.0, gates_join P X Y x.1 y)

-- what follows from a fact of each gate holds of each gate
pub gates_map : {P Q : ℕ → ℕ → Type 0} (X : List Cell) → ((lo hi : ℕ) → P lo hi → Q lo hi) → Gates P X → Gates Q X
gates_map [] f g = tt
gates_map (cell p c ∷ X) f g = gates_map X f g
gates_map (gate lo hi w ∷ X) f g = (f lo hi g.0, gates_map X f g.1)

-- what holds of any gate holds of each gate
pub gates_any : {P : ℕ → ℕ → Type 0} (X : List Cell) → ((lo hi : ℕ) → P lo hi) → Gates P X
gates_any [] f = tt
gates_any (cell p c ∷ X) f = gates_any X f
gates_any (gate lo hi w ∷ X) f = (f lo hi, gates_any X f)

-- a request is no notice
pub request_noticed : (c : Car) {act : Activity} {s : ℕ} → request c ≡ asks act s → noticed c ≡ 0
request_noticed Idle e = refl
request_noticed Token e = refl
request_noticed Null e = refl
request_noticed (Reqp tag) e = refl
request_noticed (Failp tag) e = refl
request_noticed (Dov tag) e = refl
request_noticed (Gotp notice) e = cc
request_noticed (Didv notice) e = cc

-- a notice from before a junction leaves its bits as they are
pub bit_far : (lo hi lock : ℕ) (c : Car) (b : Bool) → noticed c ≤ lo → bit lo hi lock c b ≡ b
unfolding within
bit_far lo hi lock Idle b h = refl
bit_far lo hi lock Token b h = refl
bit_far lo hi lock Null b h = refl
bit_far lo hi lock (Reqp tag) b h = refl
bit_far lo hi lock (Failp tag) b h = refl
bit_far lo hi lock (Dov tag) b h = refl
bit_far lo hi lock (Gotp notice) b h = rw (le-ltb lo notice.source h)
bit_far lo hi lock (Didv notice) b h = rw (le-ltb lo notice.source h)

-- what holds both where a notice is of a gate's nodes and of a lock, and where it is not, holds
pub mine_case : (P : Bool → Type 0) (lo hi lock : ℕ) (x : Tag) → (lo < x.source → x.source ≤ hi → lock ≡ x.lock → P true)
    → ((lo < x.source → x.source ≤ hi → lock ≡ x.lock → ⊥) → P false) → P (mine lo hi lock x)
unfolding within
mine_case P lo hi lock x yours others =
    by_value P (mine lo hi lock x)
    (λ e. yours (ltb-true _ _ (and_left _ (leb x.source hi) (and_left _ (eqb lock x.lock) e)))
    (leb-true _ _ (and_right (ltb lo x.source) _ (and_left _ (eqb lock x.lock) e)))
    (eqb-true _ _ (and_right (within lo hi x.source) _ e)))
    (λ e. others (λ l h s. false≢true (sym e ∙ simp (lt-ltb _ _ l, le-leb _ _ h, eq-eqb _ _ s))))

-- a car that is no didv for the lock leaves a true bit of the lock true
bit_kept : (lo hi lock : ℕ) (c : Car) → ((x : Tag) → c ≡ Didv x → x.lock ≡ lock → ⊥) → bit lo hi lock c true ≡ true
bit_kept lo hi lock Idle a = refl
bit_kept lo hi lock Token a = refl
bit_kept lo hi lock Null a = refl
bit_kept lo hi lock (Reqp tag) a = refl
bit_kept lo hi lock (Failp tag) a = refl
bit_kept lo hi lock (Dov tag) a = refl
bit_kept lo hi lock (Gotp x) a = mine_case (λ m. cond m true true ≡ true) lo hi lock x (λ l h s. refl) (λ o. refl)
bit_kept lo hi lock (Didv x) a = mine_case (λ m. cond m false true ≡ true) lo hi lock x (λ l h s. absurd (a x refl (sym s))) (λ o. refl)

-- where no didv for a lock is, a true bit of the lock stays true
pub fold_kept : (n : ℕ) (t : List Cell) (lo hi lock : ℕ) → NoDid n lock t → fold lo hi lock true t ≡ true
fold_kept n [] lo hi lock a = refl
fold_kept n (gate l h w ∷ t) lo hi lock a = fold_kept n t lo hi lock a
fold_kept n (cell p c ∷ t) lo hi lock a = ap (λ b. fold lo hi lock b t) (bit_kept lo hi lock c a.0) ∙ fold_kept n t lo hi lock a.1

-- a word's bit after cells in front and behind
fold_append : (lo hi lock : ℕ) (b : Bool) (X Y : List Cell) → fold lo hi lock b (X ++ Y) ≡ fold lo hi lock (fold lo hi lock b X) Y
fold_append lo hi lock b [] Y = refl
fold_append lo hi lock b (cell p c ∷ X) Y = fold_append lo hi lock (bit lo hi lock c b) X Y
fold_append lo hi lock b (gate l h w ∷ X) Y = fold_append lo hi lock b X Y

-- it is the same, a car behind gates or before them
pub fold_past : (lo hi lock : ℕ) (b : Bool) (G Y : List Cell) (p : ℕ) (c : Car) → Bare G
    → fold lo hi lock b (cell p c ∷ (G ++ Y)) ≡ fold lo hi lock b (G ++ (cell p c ∷ Y))
fold_past lo hi lock b [] Y p c g = refl
fold_past lo hi lock b (cell q d ∷ G) Y p c g = absurd g.0
fold_past lo hi lock b (gate l h w ∷ G) Y p c g = fold_past lo hi lock b G Y p c g

-- notices from before a junction leave its bits as they are
pub fold_far : (lo hi lock : ℕ) (b : Bool) (Y : List Cell) → All (λ p c. noticed c ≤ lo) Y → fold lo hi lock b Y ≡ b
fold_far lo hi lock b [] y = refl
fold_far lo hi lock b (cell p c ∷ Y) y = fold_far lo hi lock (bit lo hi lock c b) Y y.1 ∙ bit_far lo hi lock c b y.0
fold_far lo hi lock b (gate l h w ∷ Y) y = fold_far lo hi lock b Y y

-- gates change no bit
pub fold_bare : (Y : List Cell) (lo hi lock : ℕ) (b : Bool) → Bare Y → fold lo hi lock b Y ≡ b
fold_bare Y lo hi lock b bare = fold_far lo hi lock b Y (all_bare _ Y bare)

-- a word's bit of a lock is right: it is true where some of the gate's nodes has the lock, and only there
pub record Right (A : ℕ → Node) (lo hi lock : ℕ) (b : Bool) : Type 0 where
  pub to : b ≡ true → Some A lo hi lock
  pub from : (k : ℕ) → lo < k → k ≤ hi → had (A k) lock ≡ true → b ≡ true

-- a bit stays right where the gate's nodes have the lock as before
pub right_same : {A B : ℕ → Node} {lo hi lock : ℕ} {b : Bool} → ((k : ℕ) → lo < k → k ≤ hi → had (B k) lock ≡ had (A k) lock)
    → Right A lo hi lock b → Right B lo hi lock b
right_same same r =
    record {
      to = λ e.
          let s = r.to e in
          record { who = s.who; above = s.above; upto = s.upto; has_it = same s.who s.above s.upto ∙ s.has_it };
      from = λ k l h e. r.from k l h (sym (same k l h) ∙ e);
    }

-- a gate's word is exact where each of its bits is right as the bits of an exact word were
exact_by : {A B : ℕ → Node} {lo hi w w' : ℕ} (s t : List Cell)
    → ((lock : ℕ) → Right A lo hi lock (fold lo hi lock (has w lock) s) → Right B lo hi lock (fold lo hi lock (has w' lock) t))
    → Exact A lo hi w s → Exact B lo hi w' t
exact_by {A} {B} {lo} {hi} {w} {w'} s t f x = record { to = λ lock. (turn lock).to; from = λ lock. (turn lock).from }
  where
    turn : (lock : ℕ) → Right B lo hi lock (fold lo hi lock (has w' lock) t)
    turn lock = f lock (record { to = x.to lock; from = x.from lock })

-- a gate's word is exact for what folds alike
pub exact_alike : {A : ℕ → Node} (lo hi w w' : ℕ) (Y Z : List Cell)
    → ((lock : ℕ) → fold lo hi lock (has w' lock) Z ≡ fold lo hi lock (has w lock) Y) → Exact A lo hi w Y → Exact A lo hi w' Z
exact_alike {A} lo hi w w' Y Z f = exact_by Y Z (λ lock. subst (Right A lo hi lock) (sym (f lock)))

-- the words stay exact where each gate's nodes have the locks as before
pub words_same : (t : List Cell) (A B : ℕ → Node) → Gates (λ lo hi. (k lock : ℕ) → lo < k → k ≤ hi → had (B k) lock ≡ had (A k) lock) t
    → Words A t → Words B t
words_same [] A B g x = tt
words_same (cell p c ∷ t) A B g x = words_same t A B g x
words_same (gate lo hi w ∷ t) A B g x = (exact_by t t (λ lock. right_same (λ k. g.0 k lock)) x.0, words_same t A B g.1 x.1)

-- no gates, no words
pub words_none : (t : List Cell) (A : ℕ → Node) → Gateless t → Words A t
words_none [] A g = tt
words_none (cell p c ∷ t) A g = words_none t A g
words_none (gate lo hi w ∷ t) A g = absurd g.0

-- other cells behind: the words in front stay exact where their bits stay right, whatever a bit is where those cells begin
pub words_tail : (X Y Z : List Cell) {A B : ℕ → Node}
    → ((lo hi lock : ℕ) (b : Bool) → Right A lo hi lock (fold lo hi lock b Y) → Right B lo hi lock (fold lo hi lock b Z))
    → (Words A Y → Words B Z) → Words A (X ++ Y) → Words B (X ++ Z)
words_tail [] Y Z f g x = g x
words_tail (cell p c ∷ X) Y Z f g x = words_tail X Y Z f g x
words_tail (gate lo hi w ∷ X) Y Z {A} {B} f g x = (exact_by (X ++ Y) (X ++ Z) each x.0, words_tail X Y Z f g x.1)
  where
    each : (lock : ℕ) → Right A lo hi lock (fold lo hi lock (has w lock) (X ++ Y)) → Right B lo hi lock (fold lo hi lock (has w lock) (X ++ Z))
    each lock r =
        subst (Right B lo hi lock) (sym (fold_append lo hi lock (has w lock) X Z))
        (f lo hi lock _ (subst (Right A lo hi lock) (fold_append lo hi lock (has w lock) X Y) r))

-- other cells behind that fold alike
pub words_alike : (A : ℕ → Node) (X Y Z : List Cell) → ((lo hi lock : ℕ) (b : Bool) → fold lo hi lock b Z ≡ fold lo hi lock b Y)
    → (Words A Y → Words A Z) → Words A (X ++ Y) → Words A (X ++ Z)
words_alike A X Y Z f = words_tail X Y Z (λ lo hi lock b. subst (Right A lo hi lock) (sym (f lo hi lock b)))

-- gates do not look at a car whose notice is from before them
pub words_past : (A : ℕ → Node) (G Y : List Cell) (p : ℕ) (c : Car) → Bare G → Gates (λ lo hi. p ≤ lo) G → noticed c ≤ p
    → Words A (G ++ (cell p c ∷ Y)) → Words A (G ++ Y)
words_past A [] Y p c g f h a = a
words_past A (cell q d ∷ G) Y p c g f h a = absurd g.0
words_past A (gate lo hi w ∷ G) Y p c g f h a =
    (exact_alike lo hi w w (G ++ (cell p c ∷ Y)) (G ++ Y) alike a.0, words_past A G Y p c g f.1 h a.1)
  where
    alike : (lock : ℕ) → fold lo hi lock (has w lock) (G ++ Y) ≡ fold lo hi lock (has w lock) (G ++ (cell p c ∷ Y))
    alike lock =
        ap (λ (b : Bool). fold lo hi lock b (G ++ Y)) (sym (bit_far lo hi lock c (has w lock) (omega (arith, f.0))))
        ∙ fold_past lo hi lock (has w lock) G Y p c g

-- the words of the rear part
pub words_right : (A : ℕ → Node) (X Y : List Cell) → Words A (X ++ Y) → Words A Y
words_right A [] Y a = a
words_right A (cell p c ∷ X) Y a = words_right A X Y a
words_right A (gate lo hi w ∷ X) Y a = words_right A X Y a.1

-- without gates before it they are all the words
pub words_join : (A : ℕ → Node) (X Y : List Cell) → Gateless X → Words A Y → Words A (X ++ Y)
words_join A [] Y g a = a
words_join A (cell p c ∷ X) Y g a = words_join A X Y g a
words_join A (gate lo hi w ∷ X) Y g a = absurd g.0
