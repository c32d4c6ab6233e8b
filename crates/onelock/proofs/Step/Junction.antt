-- A junction between its subring and the rest of the line, for both cases of it: what is before it when the rest has made its step, and the line put
-- together again when the subring has made its own.
use Prim.Native.Nat.{ℕ, ◌+◌, ◌≤◌}
use mathlib.Core.Path.{◌≡◌, sym, ap, ap₂, ◌∙◌, subst}
use mathlib.Core.Bool.{Bool, true}
use mathlib.Core.Logic.{◌⊎◌}
use mathlib.Core.List.{List, ◌∷◌, ◌++◌, append_assoc}
use native.Mathlib.Omega.{arith}
use Rattle.cars.specs.declared.Car.{Car}
use Rattle.usernode.specs.declared.Node.{Node}
use Rattle.junction.specs.declared.Junction.{Junction}
use Rattle.junction.specs.Turn.{junction_turn}
use Rattle.onelock.proofs.Train.Cells.{Cell, gate, All}
use Rattle.onelock.proofs.Train.CellLaws.{all_join, all_map}
use Rattle.onelock.proofs.Train.Invariant.{Inv}
use Rattle.onelock.proofs.Line.Ring.{Line, junction, size, out, step_line, view, wanting}
use Rattle.onelock.proofs.Line.Numbers.{step_end}
use Rattle.onelock.proofs.Line.Phases.{Phase, after, One, kind}
use Rattle.onelock.proofs.Line.Fit.{cells, Fit, Clean}
use Rattle.onelock.proofs.Line.FitLaws.{cells_all, fit_places}
use Rattle.onelock.proofs.Step.Setting.{three, Moved}

-- a junction's gate with the cells H of its subring, and behind them the cells C of the car that comes to it
abbrev pub gates_and : ℕ → ℕ → ℕ → List Cell → List Cell → List Cell
gates_and k h word H C = gate k h word ∷ (H ++ C)

-- a junction's gate g and its cells, with what is before and behind them
junction_list : (F D G C H E B : List Cell) (g : Cell)
    → (F ++ (D ++ G)) ++ (C ++ (g ∷ (H ++ (E ++ B)))) ≡ F ++ (D ++ ((G ++ (C ++ (g ∷ (H ++ E)))) ++ B))
junction_list F D G C H E B g =
    three F D G (C ++ (g ∷ (H ++ (E ++ B))))
    ∙ ap (λ (T : List Cell). F ++ (D ++ T)) (ap (λ (T : List Cell). G ++ (C ++ (g ∷ T))) (sym (append_assoc H E B)) ∙ sym (three G C (g ∷ (H ++ E)) B))

-- a line with the junction j' in place of a junction, its subring and the rest stepped
pub record Closed (m n : ℕ) (w : Bool) (lo hi : ℕ) (p' q : Phase) (k : ℕ) (j j' : Junction) (s r : Line) (phase : Phase) (F B : List Cell) (e : ℕ)
    (A : ℕ → Node) : Type 0 where
  pub front : List Cell
  pub rear : ℕ
  pub fit : Fit w lo hi p' k (junction j' (step_line m true k j.subring s) (step_line m w (k + size s) j.main r)) phase front
  pub grew : (rear ≡ e) ⊎ (q ≡ after)
  pub inv : Inv n rear (F ++ (cells phase (k + (size s + size r)) (out j.main r) ++ (front ++ B)))
      (view k (junction j' (step_line m true k j.subring s) (step_line m w (k + size s) j.main r)) A)

-- the line after the step, by the junction put back into it
pub joined : {m n : ℕ} {w f : Bool} {lo hi k e : ℕ} {p' q o : Phase} {A : ℕ → Node} {a : Car} {j : Junction} {s r : Line} {F B : List Cell} (phase : Phase)
    → One w phase (kind (out j.main r)) f o → Clean lo hi phase (out j.main r)
    → Closed m n w lo hi p' q k j (junction_turn w k (k + size s) (wanting s) a (out j.subring s) j) s r phase F B e A
    → Moved m n w lo hi p' q k a (junction j s r) o F B e A
joined {f = f} phase final clean c =
    record { phase = phase; flag = f; front = c.front; rear = c.rear; fit = c.fit; last = final; clean = clean; grew = c.grew; inv = c.inv }

-- the rest r of the line behind the junction j with subring s has made its step
module _ {m n : ℕ} (k : ℕ) {w : Bool} {lo hi e : ℕ} {p q o : Phase} {A : ℕ → Node} (j : Junction) (s : Line) {r : Line} {F Y : List Cell}
    (R : Moved m n w lo hi p q (k + size s) j.main r o F Y e A) where
  -- the nodes then
  abbrev pub nodes_then : ℕ → Node
  nodes_then = view (k + size s) (step_line m w (k + size s) j.main r) A

  -- the cell of the rest's last car
  abbrev last_cell : List Cell
  last_cell = cells R.phase (k + size s + size r) (out j.main r)

  -- all cells before the junction
  abbrev pub cells_then : List Cell
  cells_then = F ++ (last_cell ++ R.front)

  -- the invariant then, by the cells before the junction and the others
  pub inv_then : Inv n R.rear (cells_then ++ Y) nodes_then
  inv_then = subst (λ T. Inv n R.rear T nodes_then) (sym (three F last_cell R.front Y)) R.inv

  -- the cells before the junction are at its last node's place or beyond
  pub ahead_then : All (λ place c. k + (size s + size r) ≤ place) F → All (λ place c. k + size s ≤ place) cells_then
  ahead_then ahead =
      all_join _ F _ (all_map F (λ place c l. omega arith) ahead)
      (all_join _ last_cell _ (cells_all (λ place c. k + size s ≤ place) R.phase (k + size s + size r) (out j.main r) (omega arith))
      (fit_places R.fit).low)

  -- the subring has made its step too: C are the cells of the junction's main car, S those of the subring, D those of the car behind it
  pub closing : (rear word : ℕ) (B C S D T : List Cell) → S ++ D ≡ T
      → Inv n rear (cells_then ++ (C ++ (gate k (k + size s) word ∷ (S ++ (D ++ B))))) (view k (step_line m true k j.subring s) nodes_then)
      → Inv n rear (F ++ (cells R.phase (k + (size s + size r)) (out j.main r) ++ ((R.front ++ (C ++ (gate k (k + size s) word ∷ T))) ++ B)))
      (view k (step_line m true k j.subring s) (view (k + size (step_line m true k j.subring s)) (step_line m w (k + size s) j.main r) A))
  closing rear word B C S D T is i =
      subst (λ (z : ℕ). Inv n rear (whole (k + (size s + size r)) T) (view k s₁ (view z r₁ A))) (sym (step_end m true k j.subring s))
      (subst (λ L. Inv n rear L (view k s₁ nodes_then))
      (junction_list F last_cell R.front C S D B (gate k (k + size s) word) ∙ ap₂ whole (omega arith) is) i)
    where
      s₁ : Line
      s₁ = step_line m true k j.subring s

      r₁ : Line
      r₁ = step_line m w (k + size s) j.main r

      whole : ℕ → List Cell → List Cell
      whole z L = F ++ (cells R.phase z (out j.main r) ++ ((R.front ++ (C ++ (gate k (k + size s) word ∷ L))) ++ B))
