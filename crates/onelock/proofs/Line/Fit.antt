-- A line that fits between two phases: the train's shape, the flags, the shadows and the tours, with the train's cells. The line's numbers go on from
-- k, its ring's nodes are lo + 1 to hi; the list has the cells of the line and its gates, front to back.
use Prim.Native.Nat.{ℕ, suc, ◌+◌, ◌≤◌, ◌<◌}
use mathlib.Core.Path.{◌≡◌}
use mathlib.Core.Bool.{Bool, true, false, ◌&&◌}
use mathlib.Core.List.{List, [], ◌∷◌, ◌++◌}
use Rattle.cars.specs.declared.Car.{Car}
use Rattle.cars.specs.declared.Car.TheVariants.{Idle, Token, Null, Reqp, Failp, Dov, Gotp, Didv}
use Rattle.usernode.specs.declared.Node.{Node}
use Rattle.usernode.specs.declared.Activity.{Activity}
use Rattle.usernode.specs.declared.Activity.TheVariants.{Idle as Resting, ToSendReqp, WaitingReqp, ToSendDov, WaitingDov}
use Rattle.junction.specs.declared.Junction.{Junction}
use Rattle.onelock.proofs.Train.Cells.{Cell, cell, gate, asks, request}
use Rattle.onelock.proofs.Line.Ring.{Line, end, user, junction, size}
use Rattle.onelock.proofs.Line.Phases.{Phase, before, inside, after, kind, One, Come}
use Rattle.onelock.proofs.Line.Numbers.{Nodes}

-- a car's cell at a place; idle has none
abbrev pub car_cell : ℕ → Car → List Cell
car_cell k Idle = []
car_cell k Token = cell k Token ∷ []
car_cell k Null = cell k Null ∷ []
car_cell k (Reqp tag) = cell k (Reqp tag) ∷ []
car_cell k (Failp tag) = cell k (Failp tag) ∷ []
car_cell k (Dov tag) = cell k (Dov tag) ∷ []
car_cell k (Gotp notice) = cell k (Gotp notice) ∷ []
car_cell k (Didv notice) = cell k (Didv notice) ∷ []

-- a sender's cells, by the phase before it: none where the train is still to come
abbrev pub cells : Phase → ℕ → Car → List Cell
cells before k c = []
cells inside k c = car_cell k c
cells after k c = car_cell k c

-- a shadow is no request of a node of its ring
abbrev pub Clean : ℕ → ℕ → Phase → Car → Type 0
Clean lo hi p c = p ≡ before → (act : Activity) (s : ℕ) → request c ≡ asks act s → lo < s → s ≤ hi → ⊥

-- an activity that waits for its own car
abbrev pub waits : Activity → Bool
waits Resting = false
waits (ToSendReqp lock) = false
waits (WaitingReqp lock) = true
waits (ToSendDov lock) = false
waits (WaitingDov lock) = true

-- no node of the line waits
abbrev pub NoWait : Line → Type 0
NoWait = Nodes (λ u. waits u.activity ≡ false)

-- a line that fits between two phases, with its cells: w says whether it is a subring's, so that shadows are allowed on it and its junctions are inner
pub data Fit : Bool → ℕ → ℕ → Phase → ℕ → Line → Phase → List Cell → Type 0 where
  f_end : {w : Bool} {p : Phase} {lo hi k : ℕ} → Fit w lo hi p k end p []
  f_user : {p q o : Phase} {w : Bool} {lo hi k : ℕ} {u : Node} {r : Line} {G : List Cell} → One w p (kind u.car) u.flag q → Clean lo hi p u.car
      → Fit w lo hi q (suc k) r o G → Fit w lo hi p k (user u r) o (G ++ cells p (suc k) u.car)
  -- outside a tour nothing on the subring belongs to the train, and no node there waits while the train passes; an inner junction's train flag says
  -- whether what it sends belongs to the train
  f_past : {p q o : Phase} {w f : Bool} {lo hi k : ℕ} {j : Junction} {s r : Line} {G H : List Cell} → j.tour ≡ false → j.train ≡ (w && f)
      → One true before (kind j.subring) false before → Clean k (k + size s) before j.subring
      → Fit true k (k + size s) before k s before H → (p ≡ inside → NoWait s)
      → One w p (kind j.main) f q → Clean lo hi p j.main → Fit w lo hi q (k + size s) r o G
      → Fit w lo hi p k (junction j s r) o (G ++ (cells p (k + size s) j.main ++ (gate k (k + size s) j.word ∷ H)))
  -- in a tour the token has come to the subring; until it has left, the junction's train flag is clear
  f_tour : {p p₁ p₂ q o : Phase} {w f : Bool} {lo hi k : ℕ} {j : Junction} {s r : Line} {G H : List Cell} → j.tour ≡ true → Come p
      → One false p (kind j.subring) f p₁ → Fit true k (k + size s) p₁ k s p₂ H → (p₂ ≡ after → j.train ≡ true)
      → One false p₂ (kind j.main) j.train q → Fit w lo hi q (k + size s) r o G
      → Fit w lo hi p k (junction j s r) o (G ++ (cells p₂ (k + size s) j.main ++ (gate k (k + size s) j.word ∷ (H ++ cells p k j.subring))))
