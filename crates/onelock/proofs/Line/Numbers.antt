-- The nodes of a line by their numbers: what holds of each, where a numbering agrees with the line, and what a new line leaves as it was.
use Prim.Native.Nat.{ℕ, suc, ◌+◌, ◌≤◌, ◌<◌}
use mathlib.Core.Path.{◌≡◌, refl, sym, ◌∙◌, ap, ap₂, subst}
use mathlib.Core.Bool.{Bool, true}
use mathlib.Core.Logic.{⊎_elim}
use native.Mathlib.Nat.{eq-or-lt_of_le}
use native.Mathlib.Omega.{arith}
use lib.Dec.{leb}
use borrow.Author.Tests.{leb-true}
use Rattle.lists.proofs.Laws.{and_left, and_right}
use Rattle.cars.specs.Cars.{is_node}
use Rattle.cars.specs.declared.Car.{Car}
use Rattle.usernode.specs.declared.Node.{Node}
use Rattle.junction.specs.declared.Junction.{Junction}
use Rattle.lists.proofs.Tests.{at_most_or_above}
use Rattle.onelock.proofs.Train.Nodes.{put_here, put_there}
use Rattle.onelock.proofs.Line.Ring.{Line, end, user, junction, size, out, step_line, view}

-- what holds of each node of a line
abbrev pub Nodes : (Node → Type 0) → Line → Type 0
Nodes P end = Unit
Nodes P (user u r) = P u × Nodes P r
Nodes P (junction j s r) = Nodes P s × Nodes P r

-- what holds of each node and of each junction of a line
abbrev pub Parts : (Node → Type 0) → (Junction → Type 0) → Line → Type 0
Parts P Q end = Unit
Parts P Q (user u r) = P u × Parts P Q r
Parts P Q (junction j s r) = Q j × Parts P Q s × Parts P Q r

-- what holds of each car that a line's nodes and junctions send
abbrev pub Cars : (Car → Type 0) → Line → Type 0
Cars P = Parts (λ u. P u.car) (λ j. P j.subring × P j.main)

-- a line without junctions
abbrev pub Users : Line → Type 0
Users end = Unit
Users (user u r) = Users r
Users (junction j s r) = ⊥

-- what holds of the nodes and junctions holds of the nodes
pub parts_nodes : (P : Node → Type 0) (Q : Junction → Type 0) (l : Line) → Parts P Q l → Nodes P l
parts_nodes P Q end x = tt
parts_nodes P Q (user u r) x = (x.0, parts_nodes P Q r x.1)
parts_nodes P Q (junction j s r) x = (parts_nodes P Q s x.1, parts_nodes P Q r x.2)

-- what holds of each junction of a line, the number before its nodes, and its subring
abbrev pub Junctions : (ℕ → Junction → Line → Type 0) → ℕ → Line → Type 0
Junctions P k end = Unit
Junctions P k (user u r) = Junctions P (suc k) r
Junctions P k (junction j s r) = P k j s × Junctions P k s × Junctions P (k + size s) r

-- what follows at each node and junction holds of each
pub parts_map : (P P' : Node → Type 0) (Q Q' : Junction → Type 0) → ((u : Node) → P u → P' u) → ((j : Junction) → Q j → Q' j) → (l : Line)
    → Parts P Q l → Parts P' Q' l
parts_map P P' Q Q' f g end x = tt
parts_map P P' Q Q' f g (user u r) x = (f u x.0, parts_map P P' Q Q' f g r x.1)
parts_map P P' Q Q' f g (junction j s r) x = (g j x.0, parts_map P P' Q Q' f g s x.1, parts_map P P' Q Q' f g r x.2)

-- what follows at each junction, with its subring, holds of each
pub junctions_map : (P Q : ℕ → Junction → Line → Type 0) → ((k : ℕ) (j : Junction) (s : Line) → P k j s → Q k j s) → (k : ℕ) (l : Line)
    → Junctions P k l → Junctions Q k l
junctions_map P Q f k end x = tt
junctions_map P Q f k (user u r) x = junctions_map P Q f (suc k) r x
junctions_map P Q f k (junction j s r) x = (f k j s x.0, junctions_map P Q f k s x.1, junctions_map P Q f (k + size s) r x.2)

-- the numbering has the line's nodes, from k + 1 on
abbrev pub Agrees : (ℕ → Node) → ℕ → Line → Type 0
Agrees A k end = Unit
Agrees A k (user u r) = (A (suc k) ≡ u) × Agrees A (suc k) r
Agrees A k (junction j s r) = Agrees A k s × Agrees A (k + size s) r

-- a line put anew changes no lower number
pub view_low : (A : ℕ → Node) (k : ℕ) (l : Line) (i : ℕ) → i ≤ k → view k l A i ≡ A i
view_low A k end i low = refl
view_low A k (user u r) i low = put_there (view (suc k) r A) (suc k) u i (λ e. omega arith) ∙ view_low A (suc k) r i (omega arith)
view_low A k (junction j s r) i low = view_low (view (k + size s) r A) k s i low ∙ view_low A (k + size s) r i (omega arith)

-- a line put anew changes no higher number
pub view_high : (A : ℕ → Node) (k : ℕ) (l : Line) (i : ℕ) → k + size l < i → view k l A i ≡ A i
view_high A k end i high = refl
view_high A k (user u r) i high = put_there (view (suc k) r A) (suc k) u i (λ e. omega arith) ∙ view_high A (suc k) r i (omega arith)
view_high A k (junction j s r) i high = view_high (view (k + size s) r A) k s i (omega arith) ∙ view_high A (k + size s) r i (omega arith)

-- a numbering that is the same at the line's numbers agrees too
pub agrees_same : (A A' : ℕ → Node) (k : ℕ) (l : Line) → ((i : ℕ) → k < i → i ≤ k + size l → A' i ≡ A i) → Agrees A k l → Agrees A' k l
agrees_same A A' k end e a = tt
agrees_same A A' k (user u r) e a =
    (e (suc k) (omega arith) (omega arith) ∙ a.0, agrees_same A A' (suc k) r (λ i l h. e i (omega arith) (omega arith)) a.1)
agrees_same A A' k (junction j s r) e a =
    (agrees_same A A' k s (λ i l h. e i l (omega arith)) a.0, agrees_same A A' (k + size s) r (λ i l h. e i (omega arith) (omega arith)) a.1)

-- a line put anew agrees with it
pub view_agrees : (A : ℕ → Node) (k : ℕ) (l : Line) → Agrees (view k l A) k l
view_agrees A k end = tt
view_agrees A k (user u r) = (
  put_here (view (suc k) r A) (suc k) u,
  agrees_same (view (suc k) r A) (view k (user u r) A) (suc k) r (λ i l h. put_there (view (suc k) r A) (suc k) u i (λ e. omega arith))
      (view_agrees A (suc k) r),
)
view_agrees A k (junction j s r) = (
  view_agrees (view (k + size s) r A) k s,
  agrees_same (view (k + size s) r A) (view k (junction j s r) A) (k + size s) r (λ i l h. view_high (view (k + size s) r A) k s i l)
      (view_agrees A (k + size s) r),
)

-- what holds of each node of a line holds of the node of each of its numbers
pub node_at : (P : Node → Type 0) (A : ℕ → Node) (q k : ℕ) (l : Line) → Agrees A k l → Nodes P l → k < q → q ≤ k + size l → P (A q)
node_at P A q k end x y low high = absurd (omega arith)
node_at P A q k (user u r) x y low high =
    ⊎_elim (λ e. subst P (sym x.0 ∙ ap A e) y.0) (λ l. node_at P A q (suc k) r x.1 y.1 l (omega arith)) (eq-or-lt_of_le low)
node_at P A q k (junction j s r) x y low high =
    ⊎_elim (λ h. node_at P A q k s x.0 y.0 low h) (λ h. node_at P A q (k + size s) r x.1 y.1 h (omega arith))
    (at_most_or_above q (k + size s))

-- a step leaves the shape of a line as it is
pub step_size : (m : ℕ) (w : Bool) (k : ℕ) (a : Car) (l : Line) → size (step_line m w k a l) ≡ size l
step_size m w k a end = refl
step_size m w k a (user u r) = ap suc (step_size m w (suc k) u.car r)
step_size m w k a (junction j s r) = ap₂ (λ (x y : ℕ). x + y) (step_size m true k j.subring s) (step_size m w (k + size s) j.main r)

-- so its last node has the same number
pub step_end : (m : ℕ) (w : Bool) (k : ℕ) (a : Car) (l : Line) → k + size (step_line m w k a l) ≡ k + size l
step_end m w k a l = ap (λ (z : ℕ). k + z) (step_size m w k a l)

-- a line without junctions has none after a step
pub step_users : (m : ℕ) (w : Bool) (k : ℕ) (a : Car) (l : Line) → Users l → Users (step_line m w k a l)
step_users m w k a end x = tt
step_users m w k a (user u r) x = step_users m w (suc k) u.car r x
step_users m w k a (junction j s r) x = x

-- what holds of the car that comes to a line and of each car sent on it holds of the last one
pub cars_out : (P : Car → Type 0) (a : Car) (l : Line) → P a → Cars P l → P (out a l)
cars_out P a end x y = x
cars_out P a (user u r) x y = cars_out P u.car r y.0 y.1
cars_out P a (junction j s r) x y = cars_out P j.main r y.0.1 y.2

-- one of the first n nodes, by its number
pub record Upto (n k : ℕ) : Type 0 where
  pub low : 1 ≤ k
  pub high : k ≤ n

-- the model's test of a node's number
pub numbered : (n k : ℕ) → is_node n k ≡ true → Upto n k
unfolding is_node
numbered n k e = record { low = leb-true 1 k (and_left _ (leb k n) e); high = leb-true k n (and_right (leb 1 k) _ e) }
