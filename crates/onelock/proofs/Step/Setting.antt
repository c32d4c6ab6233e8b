-- A line in its place: what the one induction over a line asks for, and that the parts of a line are in their places too.
use Prim.Native.Nat.{ℕ, suc, ◌+◌, ◌≤◌}
use mathlib.Core.Path.{◌≡◌, sym, ap, ◌∙◌, subst}
use mathlib.Core.Bool.{Bool, true}
use mathlib.Core.Logic.{◌⊎◌, inl, inr, ⊎_elim}
use mathlib.Core.List.{List, ◌++◌, append_assoc}
use native.Mathlib.Omega.{arith}
use Rattle.cars.specs.Cars.{multiring}
use Rattle.cars.specs.declared.Car.{Car}
use Rattle.usernode.specs.declared.Node.{Node}
use Rattle.junction.specs.declared.Junction.{Junction}
use Rattle.onelock.proofs.Train.Cells.{Cell, All, Gates, Bare, Gateless}
use Rattle.onelock.proofs.Train.CellLaws.{all_join, all_map, gates_join, gates_map}
use Rattle.onelock.proofs.Train.Invariant.{Inv}
use Rattle.onelock.proofs.Line.Ring.{Line, user, junction, size, out, step_line, view}
use Rattle.onelock.proofs.Line.Numbers.{Nodes, Cars, Users, Agrees, agrees_same}
use Rattle.onelock.proofs.Line.Phases.{Phase, after, kind, One}
use Rattle.onelock.proofs.Line.Fit.{cells, Clean, Fit}
use Rattle.onelock.proofs.Line.FitLaws.{Places, cells_all, cells_gates, gap_cells, passed_by}
use Rattle.onelock.proofs.Node.Rules.{Small, LowNotice}

-- three lists before a fourth
pub three : (F C G Z : List Cell) → (F ++ (C ++ G)) ++ Z ≡ F ++ (C ++ (G ++ Z))
three F C G Z = append_assoc F (C ++ G) Z ∙ ap (λ (T : List Cell). F ++ T) (append_assoc C G Z)

module _ (m n : ℕ) where
  -- a line with the car a that comes to it; F is the train before the line and B what is behind a; p is the phase before a
  pub record Setting (lo hi : ℕ) (p : Phase) (k : ℕ) (a : Car) (l : Line) (F B : List Cell) (A : ℕ → Node) : Type 0 where
    pub low : lo ≤ k
    pub high : k + size l ≤ hi
    pub top : k + size l ≤ n
    pub agrees : Agrees A k l
    pub small : Nodes Small l
    pub cars : Cars LowNotice l
    pub clean : Clean lo hi p a
    pub ahead : All (λ place c. k + size l ≤ place) F
    pub behind : All (λ place c. place ≤ k) B
    pub gates : Gates (λ lo hi. hi ≤ k) B
    pub bare : p ≡ after → Bare B
    pub mode : (multiring m ≡ true) ⊎ (Users l × Gateless F × Gateless B)

  -- the line after the step: p' is the new phase before it, q was the old one
  pub record Moved (w : Bool) (lo hi : ℕ) (p' q : Phase) (k : ℕ) (a : Car) (l : Line) (o : Phase) (F B : List Cell) (e : ℕ) (A : ℕ → Node) : Type 0 where
    pub phase : Phase
    pub flag : Bool
    pub front : List Cell
    pub rear : ℕ
    pub fit : Fit w lo hi p' k (step_line m w k a l) phase front
    pub last : One w phase (kind (out a l)) flag o
    pub clean : Clean lo hi phase (out a l)
    pub grew : (rear ≡ e) ⊎ (q ≡ after)
    pub inv : Inv n rear (F ++ (cells phase (k + size l) (out a l) ++ (front ++ B))) (view k (step_line m w k a l) A)

-- where the train has passed a line, neither the car that comes to it nor what is behind that is on the train
pub next_bare : {w f : Bool} {p q : Phase} (k : ℕ) (a : Car) (B : List Cell) → One w p (kind a) f q → (p ≡ after → Bare B)
    → q ≡ after → Bare (cells p k a ++ B)
next_bare {w} {f} {p} k a B one bare e =
    let z = passed_by (subst (One w p (kind a) f) e one) in
    subst (λ C. Bare (C ++ B)) (sym (gap_cells p k a z.idle)) (bare z.phase)

module _ {m n : ℕ} where
  -- the rest of a line behind a user node
  pub after_user : {w f : Bool} {lo hi k : ℕ} {p q : Phase} {a : Car} {F B : List Cell} {A : ℕ → Node} {u : Node} {r : Line}
      → One w p (kind a) f q → Clean lo hi q u.car → Setting m n lo hi p k a (user u r) F B A → Setting m n lo hi q (suc k) u.car r F (cells p k a ++ B) A
  after_user {k = k} {p = p} {a = a} {F = F} {B = B} {u = u} {r = r} one clean s =
      record {
        low = omega (arith, s.low);
        high = omega (arith, s.high);
        top = omega (arith, s.top);
        agrees = s.agrees.1;
        small = s.small.1;
        cars = s.cars.1;
        clean = clean;
        ahead = all_map F (λ place c l. omega arith) s.ahead;
        behind = all_join _ (cells p k a) B (cells_all (λ place c. place ≤ suc k) p k a (omega arith)) (all_map B (λ place c l. omega arith) s.behind);
        gates = gates_join _ (cells p k a) B (cells_gates _ p k a) (gates_map B (λ lo hi l. omega arith) s.gates);
        bare = next_bare k a B one s.bare;
        mode = ⊎_elim (λ multi. inl multi) (λ z. inr (z.0, z.1, gates_join _ (cells p k a) B (cells_gates _ p k a) z.2)) s.mode;
      }

  -- where there is a junction the rules are multiring rules
  pub multi : {lo hi k : ℕ} {p : Phase} {a : Car} {F B : List Cell} {A : ℕ → Node} {j : Junction} {s r : Line}
      → Setting m n lo hi p k a (junction j s r) F B A → multiring m ≡ true
  multi s = ⊎_elim (λ multi. multi) (λ z. absurd z.0) s.mode

  -- the rest of a line behind a junction, C being what the junction and the car that comes to it have on the train
  pub after_junction : {lo hi k : ℕ} {p p₂ : Phase} {a : Car} {F B : List Cell} {A : ℕ → Node} {j : Junction} {s r : Line} (C : List Cell)
      → Clean lo hi p₂ j.main → Places k (k + size s) C → (p₂ ≡ after → Bare (C ++ B)) → Setting m n lo hi p k a (junction j s r) F B A
      → Setting m n lo hi p₂ (k + size s) j.main r F (C ++ B) A
  after_junction {k = k} {F = F} {B = B} {s = s} {r = r} C clean places bare x =
      record {
        low = omega (arith, x.low);
        high = omega (arith, x.high);
        top = omega (arith, x.top);
        agrees = x.agrees.1;
        small = x.small.1;
        cars = x.cars.2;
        clean = clean;
        ahead = all_map F (λ place c l. omega arith) x.ahead;
        behind = all_join _ C B places.high (all_map B (λ place c l. omega arith) x.behind);
        gates = gates_join _ C B (gates_map C (λ lo hi l. l.1) places.gates)
            (gates_map B (λ lo hi l. omega arith) x.gates);
        bare = bare;
        mode = inl (multi x);
      }

  -- the subring of a junction, the rest of the line being stepped
  pub in_subring : {lo hi k : ℕ} {p q : Phase} {a : Car} {F B : List Cell} {A A' : ℕ → Node} {j : Junction} {s r : Line} (X C : List Cell)
      → Clean k (k + size s) q j.subring → All (λ place c. k + size s ≤ place) X → Places k k C → (q ≡ after → Bare (C ++ B))
      → ((i : ℕ) → i ≤ k + size s → A' i ≡ A i)
      → Setting m n lo hi p k a (junction j s r) F B A → Setting m n k (k + size s) q k j.subring s X (C ++ B) A'
  in_subring {k = k} {B = B} {A = A} {A' = A'} {s = s} {r = r} X C clean ahead places bare same x =
      record {
        low = omega arith;
        high = omega arith;
        top = omega (arith, x.top);
        agrees = agrees_same A A' k s (λ i l h. same i h) x.agrees.0;
        small = x.small.0;
        cars = x.cars.1;
        clean = clean;
        ahead = ahead;
        behind = all_join _ C B places.high x.behind;
        gates = gates_join _ C B (gates_map C (λ lo hi l. l.1) places.gates) x.gates;
        bare = bare;
        mode = inl (multi x);
      }
