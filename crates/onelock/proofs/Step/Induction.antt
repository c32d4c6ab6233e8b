-- One step of a line: the one induction. A car a comes to the line, F is the train before the line and B what is behind a; the line after the
-- step fits, and the invariant of the locks holds of the train and the nodes as they then are.
use Prim.Native.Nat.{ℕ, suc}
use mathlib.Core.Path.{refl, sym, ap, ◌∙◌, subst}
use mathlib.Core.Bool.{Bool, true}
use mathlib.Core.Logic.{inl}
use mathlib.Core.List.{List, [], ◌++◌, append_assoc}
use native.Mathlib.Nat.{add-zero}
use Rattle.cars.specs.declared.Car.{Car}
use Rattle.usernode.specs.declared.Node.{Node}
use Rattle.onelock.proofs.Train.Cells.{Cell}
use Rattle.onelock.proofs.Train.Invariant.{Inv}
use Rattle.onelock.proofs.Line.Ring.{Line, end, user, junction}
use Rattle.onelock.proofs.Line.Phases.{Phase, kind, One}
use Rattle.onelock.proofs.Line.PhaseLaws.{Rel, same, onward, carry, allow, rel_before}
use Rattle.onelock.proofs.Line.Fit.{cells, Fit, f_end, f_user, f_past, f_tour}
use Rattle.onelock.proofs.Line.FitLaws.{rel_cells}
use Rattle.onelock.proofs.Node.Rules.{turned}
use Rattle.onelock.proofs.Node.Turn.{new_kind}
use Rattle.onelock.proofs.Step.Setting.{Setting, Moved, after_user}
use Rattle.onelock.proofs.Step.User.{user_done}
use Rattle.onelock.proofs.Step.PastDone.{past_moved}
use Rattle.onelock.proofs.Step.TourDone.{tour_moved}

module _ (m n : ℕ) where
  -- an empty line: the car that comes to it is its last
  at_end_lem : {w f : Bool} {lo hi k e : ℕ} {p' p q : Phase} {A : ℕ → Node} (a : Car) (F B : List Cell) → Rel p' p (kind a) → One w p (kind a) f q
      → Setting m n lo hi p k a end F B A → Inv n e (F ++ (cells p k a ++ B)) A → Moved m n w lo hi p' q k a end q F B e A
  at_end_lem {f = f} {k = k} {e = e} {p' = p'} {A = A} a F B rel one x i =
      record {
        phase = p';
        flag = f;
        front = [];
        rear = e;
        fit = f_end;
        last = carry rel one;
        clean = λ b. x.clean (rel_before rel b);
        grew = inl refl;
        inv = subst (λ C. Inv n e (F ++ (C ++ B)) A) (rel_cells k a rel ∙ ap (λ (z : ℕ). cells p' z a) (sym (add-zero k))) i;
      }

  -- one step of a line: where it fits and is in its place, it fits after the step, and the invariant is kept
  pub line_move : (a : Car) {w f : Bool} {lo hi k e : ℕ} {p' p q o : Phase} {A : ℕ → Node} (l : Line) (G F B : List Cell)
      → Rel p' p (kind a) → One w p (kind a) f q → Fit w lo hi q k l o G → Setting m n lo hi p k a l F B A
      → Inv n e (F ++ (G ++ (cells p k a ++ B))) A → Moved m n w lo hi p' q k a l o F B e A
  line_move a end G F B rel one f_end x i = at_end_lem a F B rel one x i
  line_move a {e = e} {p = p} {A = A} (user u r) G F B rel one (f_user {p = q} {k = k} {G = Gr} one-u clean rest) x i =
      let on = onward rel one one-u (new_kind (turned m (suc k) u x.small.0.letting a)) in
      let i₁ = subst (λ T. Inv n e (F ++ T) A) (append_assoc Gr (cells q (suc k) u.car) (cells p k a ++ B)) i in
      user_done Gr rel one one-u x i₁ on (line_move u.car r Gr F (cells p k a ++ B) on.rel one-u rest (after_user one clean x) i₁)
  line_move a (junction j s r) G F B rel one (f_past {G = Gr} {H = H} tour train sub clean_sub inner calm main clean rest) x i =
      past_moved Gr rel one inner calm main x tour train clean_sub clean i
      (λ x₁ i₁. line_move j.main r Gr F _ same main rest x₁ i₁)
      (λ R X₂ D x₂ i₂. line_move j.subring s H X₂ (D ++ B) same sub inner x₂ i₂)
  line_move a {w = w} (junction j s r) G F B rel one (f_tour {G = Gr} {H = H} tour live sub inner leaves main rest) x i =
      tour_moved Gr rel one live sub inner leaves main x tour i
      (λ x₁ i₁. line_move j.main r Gr F _ same (allow w main) rest x₁ i₁)
      (λ R x₂ i₂. line_move j.subring s H _ _ same (allow true sub) inner x₂ i₂)
