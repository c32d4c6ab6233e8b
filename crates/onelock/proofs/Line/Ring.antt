-- A ring as a line: what stands on it from one place to the zero node, a junction with its subring's line. Every node and junction
-- takes its turn by the model's own rules; junctions may stand in subrings, and are inner junctions there.
use Prim.Native.Nat.{ℕ, suc, ◌+◌}
use mathlib.Core.Bool.{Bool, true, false, cond, ◌||◌}
use lib.Dec.{eqb}
use Rattle.cars.specs.declared.Car.{Car}
use Rattle.usernode.specs.declared.Node.{Node}
use Rattle.usernode.specs.Node.{wants_train}
use Rattle.turns.specs.Turn.{turn}
use Rattle.junction.specs.declared.Junction.{Junction}
use Rattle.junction.specs.Turn.{junction_turn}
use Rattle.onelock.proofs.Train.Nodes.{put}

-- a line: its end, a user node and what is behind it, or a junction, its subring and what is behind it
pub data Line : Type 0 where
  end : Line
  user : Node → Line → Line
  junction : Junction → Line → Line → Line

-- its user nodes; they are numbered on from a number k: k + 1, k + 2, ..
abbrev pub size : Line → ℕ
size end = 0
size (user u r) = suc (size r)
size (junction j s r) = size s + size r

-- the car that its last sender sends; where it is empty, the car that comes to it
abbrev pub out : Car → Line → Car
out a end = a
out a (user u r) = out u.car r
out a (junction j s r) = out j.main r

-- some node of it wants a train
abbrev pub wanting : Line → Bool
wanting end = false
wanting (user u r) = wants_train u || wanting r
wanting (junction j s r) = wanting s || wanting r

-- one step, a car coming to it: each takes the car that was sent before it; w says whether the line is a subring's
abbrev pub step_line : ℕ → Bool → ℕ → Car → Line → Line
step_line m w k a end = end
step_line m w k a (user u r) = user (turn m (suc k) a u).node (step_line m w (suc k) u.car r)
step_line m w k a (junction j s r) =
    junction (junction_turn w k (k + size s) (wanting s) a (out j.subring s) j) (step_line m true k j.subring s)
    (step_line m w (k + size s) j.main r)

-- all nodes of a line put anew
abbrev pub view : ℕ → Line → (ℕ → Node) → ℕ → Node
view k end A = A
view k (user u r) A = put (view (suc k) r A) (suc k) u
view k (junction j s r) A = view k s (view (k + size s) r A)

-- the node of this number becomes another, all others stay
abbrev pub change : ℕ → (Node → Node) → ℕ → Line → Line
change q f k end = end
change q f k (user u r) = user (cond (eqb (suc k) q) (f u) u) (change q f (suc k) r)
change q f k (junction j s r) = junction j (change q f k s) (change q f (k + size s) r)
