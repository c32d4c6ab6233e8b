-- The train as a list of cells, front to back: a place and the car there, and gates. A gate is a junction's word with the numbers of its
-- nodes, lo + 1 to hi; it stands behind the junction's main car, so that what is behind it has not left the junction.
use Prim.Native.Nat.{ℕ, ◌+◌, ◌≤◌, ◌<◌}
use mathlib.Core.Path.{◌≡◌}
use mathlib.Core.Bool.{Bool, true, false, cond, ◌&&◌}
use mathlib.Core.Logic.{◌⊎◌}
use mathlib.Core.List.{List, [], ◌∷◌}
use lib.Dec.{eqb, ltb}
use Rattle.words.specs.Words.{has}
use Rattle.cars.specs.declared.Tag.{Tag}
use Rattle.cars.specs.declared.Car.{Car}
use Rattle.cars.specs.declared.Car.TheVariants.{Idle, Token, Null, Reqp, Failp, Dov, Gotp, Didv}
use Rattle.usernode.specs.declared.Node.{Node}
use Rattle.usernode.specs.declared.Activity.{Activity}
use Rattle.usernode.specs.declared.Activity.TheVariants.{Idle as Resting, ToSendReqp, WaitingReqp, ToSendDov, WaitingDov}
use Rattle.usernode.specs.Node.{had}
use Rattle.tours.specs.Rules.{within}

-- a car at its place, or a gate: the numbers lo and hi, and the word
pub data Cell : Type 0 where
  cell : ℕ → Car → Cell
  gate : ℕ → ℕ → ℕ → Cell

-- what holds of each car and its place
abbrev pub All : (ℕ → Car → Type 0) → List Cell → Type 0
All P [] = Unit
All P (cell p c ∷ t) = P p c × All P t
All P (gate lo hi w ∷ t) = All P t

-- what holds of each gate's numbers
abbrev pub Gates : (ℕ → ℕ → Type 0) → List Cell → Type 0
Gates P [] = Unit
Gates P (cell p c ∷ t) = Gates P t
Gates P (gate lo hi w ∷ t) = P lo hi × Gates P t

-- no car in it
abbrev pub Bare : List Cell → Type 0
Bare = All (λ p c. ⊥)

-- no gate in it
abbrev pub Gateless : List Cell → Type 0
Gateless = Gates (λ lo hi. ⊥)

-- the cars of a list, all at one place
abbrev pub at : ℕ → List Car → List Cell
at p [] = []
at p (c ∷ cs) = cell p c ∷ at p cs

-- a request: the activity that its source waits with, and the source. A failp answers a waiting reqp.
pub data Request : Type 0 where
  none : Request
  asks : Activity → ℕ → Request

-- what a car asks for
abbrev pub request : Car → Request
request Idle = none
request Token = none
request Null = none
request (Reqp tag) = asks (WaitingReqp tag.lock) tag.source
request (Failp tag) = asks (WaitingReqp tag.lock) tag.source
request (Dov tag) = asks (WaitingDov tag.lock) tag.source
request (Gotp notice) = none
request (Didv notice) = none

-- the node that a notice tells of; 0: no notice
abbrev pub noticed : Car → ℕ
noticed Idle = 0
noticed Token = 0
noticed Null = 0
noticed (Reqp tag) = 0
noticed (Failp tag) = 0
noticed (Dov tag) = 0
noticed (Gotp notice) = notice.source
noticed (Didv notice) = notice.source

-- a notice is of one of the nodes lo + 1 to hi, and of the lock
abbrev pub mine : ℕ → ℕ → ℕ → Tag → Bool
mine lo hi lock notice = within lo hi notice.source && eqb lock notice.lock

-- a word's bit of a lock after a car has left the junction with nodes lo + 1 to hi
abbrev pub bit : ℕ → ℕ → ℕ → Car → Bool → Bool
bit lo hi lock Idle b = b
bit lo hi lock Token b = b
bit lo hi lock Null b = b
bit lo hi lock (Reqp tag) b = b
bit lo hi lock (Failp tag) b = b
bit lo hi lock (Dov tag) b = b
bit lo hi lock (Gotp notice) b = cond (mine lo hi lock notice) true b
bit lo hi lock (Didv notice) b = cond (mine lo hi lock notice) false b

-- and after all that is behind it, the foremost first
abbrev pub fold : ℕ → ℕ → ℕ → Bool → List Cell → Bool
fold lo hi lock b [] = b
fold lo hi lock b (cell p c ∷ t) = fold lo hi lock (bit lo hi lock c b) t
fold lo hi lock b (gate l h w ∷ t) = fold lo hi lock b t

module _ (n : ℕ) where
  -- where a request at place p goes: to its source, which is still to come, or comes on the next train
  abbrev pub home : ℕ → ℕ → ℕ
  home p s = cond (ltb p s) s (n + s)

  -- a node that a car at place p, on its way to h, has still to visit
  abbrev pub Visits : ℕ → ℕ → ℕ → Type 0
  Visits k p h = ((p < k) × (k ≤ h)) ⊎ (k + n ≤ h)

-- an activity names the lock
abbrev pub Names : Activity → ℕ → Type 0
Names Resting lock = ⊥
Names (ToSendReqp own) lock = own ≡ lock
Names (WaitingReqp own) lock = own ≡ lock
Names (ToSendDov own) lock = own ≡ lock
Names (WaitingDov own) lock = own ≡ lock

-- a node's words and activity keep apart
pub record Apart (u : Node) : Type 0 where
  pub words : (lock : ℕ) → has u.held lock ≡ true → has u.letting lock ≡ false
  pub wish : (lock : ℕ) → Names u.activity lock → had u lock ≡ false
