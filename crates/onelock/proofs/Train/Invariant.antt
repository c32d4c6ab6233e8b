-- The invariant of the locks: what holds of the train's cells, of the nodes by their numbers, and of the words at the gates. n is the
-- number of nodes; e is a place that every car has reached and that no new request comes from beyond.
use Prim.Native.Nat.{ℕ, ◌+◌, ◌≤◌, ◌<◌}
use mathlib.Core.Path.{◌≡◌}
use mathlib.Core.Bool.{true}
use mathlib.Core.Logic.{◌⊎◌}
use mathlib.Core.List.{List, [], ◌∷◌}
use Rattle.words.specs.Words.{has}
use Rattle.cars.specs.declared.Tag.{Tag}
use Rattle.cars.specs.declared.Car.{Car}
use Rattle.cars.specs.declared.Car.TheVariants.{Reqp, Didv}
use Rattle.usernode.specs.declared.Node.{Node}
use Rattle.usernode.specs.declared.Activity.{Activity}
use Rattle.usernode.specs.Node.{had}
use Rattle.onelock.proofs.Train.Cells.{Cell, cell, gate, All, asks, request, noticed, fold, home, Visits, Apart}

module _ (n : ℕ) where
  -- a car of the train: its source waits for it, no node that a reqp has passed has its lock, a notice has passed its node
  pub record Ok (A : ℕ → Node) (e p : ℕ) (c : Car) : Type 0 where
    pub rear : e ≤ p
    pub top : p ≤ n
    pub low : (act : Activity) (s : ℕ) → request c ≡ asks act s → 1 ≤ s
    pub high : (act : Activity) (s : ℕ) → request c ≡ asks act s → s ≤ n
    pub waits : (act : Activity) (s : ℕ) → request c ≡ asks act s → (A s).activity ≡ act
    pub way : (t : Tag) → c ≡ Reqp t → (k : ℕ) → had (A k) t.lock ≡ true → Visits n k p (home n p t.source)
    pub note : noticed c ≤ p

  -- the home of a car's request is above b and at most b₁
  pub record Up (b p : ℕ) (c : Car) (b₁ : ℕ) : Type 0 where
    pub on : b ≤ b₁
    pub over : (act : Activity) (s : ℕ) → request c ≡ asks act s → b < home n p s
    pub under : (act : Activity) (s : ℕ) → request c ≡ asks act s → home n p s ≤ b₁

  -- the homes of the requests of a list rise strictly, front to back, from above b to at most d
  pub data Rises : ℕ → List Cell → ℕ → Type 0 where
    r_nil : {b d : ℕ} → b ≤ d → Rises b [] d
    r_cell : {b d p : ℕ} {c : Car} {t : List Cell} (b₁ : ℕ) → Up b p c b₁ → Rises b₁ t d → Rises b (cell p c ∷ t) d
    r_gate : {b d lo hi w : ℕ} {t : List Cell} → Rises b t d → Rises b (gate lo hi w ∷ t) d

  -- a didv for the lock is in no cell
  abbrev pub NoDid : ℕ → List Cell → Type 0
  NoDid lock = All (λ p c. (x : Tag) → c ≡ Didv x → x.lock ≡ lock → ⊥)

  -- each reqp for the lock comes home with the next train
  abbrev pub Late : ℕ → List Cell → Type 0
  Late lock = All (λ p c. (t : Tag) → c ≡ Reqp t → t.lock ≡ lock → n < home n p t.source)

  -- where a didv for the lock is on the train, no node has the lock and no reqp for it comes home with this train
  abbrev pub Did : ℕ → List Cell → (ℕ → Node) → Type 0
  Did lock t A = NoDid lock t ⊎ (((k : ℕ) → had (A k) lock ≡ true → ⊥) × Late lock t)

-- some node from lo + 1 to hi has the lock
pub record Some (A : ℕ → Node) (lo hi lock : ℕ) : Type 0 where
  pub who : ℕ
  pub above : lo < who
  pub upto : who ≤ hi
  pub has_it : had (A who) lock ≡ true

-- a gate's word, after the notices behind it, has exactly the locks that the gate's nodes have
pub record Exact (A : ℕ → Node) (lo hi w : ℕ) (t : List Cell) : Type 0 where
  pub to : (lock : ℕ) → fold lo hi lock (has w lock) t ≡ true → Some A lo hi lock
  pub from : (lock k : ℕ) → lo < k → k ≤ hi → had (A k) lock ≡ true → fold lo hi lock (has w lock) t ≡ true

-- every gate of a list is exact
abbrev pub Words : (ℕ → Node) → List Cell → Type 0
Words A [] = Unit
Words A (cell p c ∷ t) = Words A t
Words A (gate lo hi w ∷ t) = Exact A lo hi w t × Words A t

module _ (n : ℕ) where
  -- the invariant of the locks: one node at most has a lock, every car is in order, homes rise, and every word is exact
  pub record Inv (e : ℕ) (t : List Cell) (A : ℕ → Node) : Type 0 where
    pub all : All (Ok n A e) t
    pub order : Rises n 0 t (n + e)
    pub low : (k lock : ℕ) → had (A k) lock ≡ true → 1 ≤ k
    pub high : (k lock : ℕ) → had (A k) lock ≡ true → k ≤ n
    pub apart : (k : ℕ) → Apart (A k)
    pub one : (lock i k : ℕ) → had (A i) lock ≡ true → had (A k) lock ≡ true → i ≡ k
    pub did : (lock : ℕ) → Did n lock t A
    pub words : Words A t
