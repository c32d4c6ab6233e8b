-- The one induction at a user node: the rest of the line has made its step, and now the node takes its turn.
use Rattle.std.specs.Prelude.{Option}
use Prim.Native.Nat.{ℕ, suc, ◌+◌, ◌≤◌}
use mathlib.Core.Path.{◌≡◌, sym, ap, ap₂, ◌∙◌, subst}
use mathlib.Core.Bool.{Bool, true, false, true≢false}
use mathlib.Core.Logic.{◌⊎◌, inl, inr, ⊎_elim}
use mathlib.Core.List.{List, [], ◌∷◌, ◌++◌, append_assoc}
use native.Mathlib.Omega.{arith}
use Rattle.cars.specs.Cars.{multiring}
use Rattle.cars.specs.declared.Car.{Car}
use Rattle.usernode.specs.declared.Node.{Node}
use Rattle.usernode.specs.declared.Activity.{Activity}
use Rattle.usernode.specs.declared.Activity.TheVariants.{WaitingReqp, WaitingDov}
use Rattle.turns.specs.declared.Event.{Event}
use Rattle.turns.specs.Turn.{becomes, turn}
use Rattle.onelock.proofs.Train.Cells.{Cell, cell, Gateless, asks, request}
use Rattle.onelock.proofs.Train.CellLaws.{all_right, all_join, all_map, gates_join}
use Rattle.onelock.proofs.Train.Invariant.{Ok, Inv}
use Rattle.onelock.proofs.Train.Nodes.{put}
use Rattle.onelock.proofs.Line.Ring.{Line, user, size, out, step_line, view}
use Rattle.onelock.proofs.Line.Numbers.{view_low, step_users}
use Rattle.onelock.proofs.Line.Phases.{Phase, before, after, Kind, gap, kind, One, last, alone, more, head}
use Rattle.onelock.proofs.Line.PhaseLaws.{Rel, Onward}
use Rattle.onelock.proofs.Line.Fit.{cells, Clean, f_user}
use Rattle.onelock.proofs.Line.FitLaws.{cells_all, cells_gates, fit_places, fit_gateless, passed_by, car_cell_lem}
use Rattle.onelock.proofs.Node.Rules.{NotOwn, Turned, sends_reqp, sends_dov, sends_didv, own_reqp, own_failp, fails_reqp, own_dov, loses_lock}
use Rattle.onelock.proofs.Node.Rules.{passes, turned}
use Rattle.onelock.proofs.Node.Moves.{Place}
use Rattle.onelock.proofs.Node.Turn.{Arrived, as_shadow, as_gap, as_token, as_car, arrived, UserMoved, user_turn}
use Rattle.onelock.proofs.Step.Setting.{Setting, Moved, three}

-- before the train, a node sends no request but what came to it
turned_clean : {m me : ℕ} {u v : Node} {a : Car} {event : Option Event} → Turned m me u a v event → u.flag ≡ false → NotOwn me a
    → (act : Activity) (s : ℕ) → request v.car ≡ asks act s → request a ≡ asks act s
unfolding becomes
turned_clean (sends_reqp lock f w) off other act s r = absurd (true≢false (sym f ∙ off))
turned_clean (sends_dov lock f w) off other act s r = absurd (true≢false (sym f ∙ off))
turned_clean (sends_didv lock f w) off other act s r = absurd (true≢false (sym f ∙ off))
turned_clean (own_reqp t own) off other act s r = absurd (other (WaitingReqp t.lock) (ap (asks (WaitingReqp t.lock)) own))
turned_clean (own_failp t own) off other act s r = absurd (other (WaitingReqp t.lock) (ap (asks (WaitingReqp t.lock)) own))
turned_clean (fails_reqp t ne f) off other act s r = absurd (true≢false (sym f ∙ off))
turned_clean (own_dov t own) off other act s r = absurd (other (WaitingDov t.lock) (ap (asks (WaitingDov t.lock)) own))
turned_clean (loses_lock t ne h) off other act s r = r
turned_clean (passes a ne free) off other act s r = r

-- before the train after the step, a node was before it, with a clear flag
arrived_before : {p' p q : Phase} {ka : Kind} {flag : Bool} → Arrived p' p ka flag q → p' ≡ before → (p ≡ before) × (flag ≡ false)
arrived_before (as_shadow a b c) e = (b, c)
arrived_before {p'} (as_gap a b c d) e = absurd (true≢false (cc))
arrived_before {p'} (as_token a b c) e = absurd (b e)
arrived_before {p'} (as_car a b c d) e = absurd (c e)

-- a node that the train has not passed, where it has passed the place before: it has a cell
ends_train : {w : Bool} {q q₂ : Phase} {k : Kind} → One w q k true q₂ → q ≡ after → (k ≡ gap → ⊥) × (q₂ ≡ after → ⊥)
ends_train last e = (λ z. true≢false (cc), λ z. true≢false (cc))
ends_train alone e = (λ z. true≢false (cc), λ z. true≢false (cc))
ends_train more e = absurd (true≢false (cc))
ends_train head e = absurd (true≢false (cc))

module _ {m n : ℕ} {w f : Bool} {lo hi k e : ℕ} {p' p q q₂ o : Phase} {A : ℕ → Node} {a : Car} {u : Node} {r : Line} (G : List Cell) {F B : List Cell}
    (rel : Rel p' p (kind a)) (one : One w p (kind a) f q) (one-u : One w q (kind u.car) u.flag q₂)
    (x : Setting m n lo hi p k a (user u r) F B A) (inv : Inv n e (F ++ (G ++ (cells q (suc k) u.car ++ (cells p k a ++ B)))) A) where
  -- the node takes its turn in the train that has moved on before it
  pub user_done : (on : Onward w p' (kind (turn m (suc k) a u).node.car) (turn m (suc k) a u).node.flag q (kind u.car))
      → Moved m n w lo hi on.phase q₂ (suc k) u.car r o F (cells p k a ++ B) e A → Moved m n w lo hi p' q k a (user u r) o F B e A
  user_done on rest =
      record {
        phase = rest.phase;
        flag = rest.flag;
        front = rest.front ++ cells p' (suc k) new.car;
        rear = done.rear;
        fit = f_user on.one clean_v rest.fit;
        last = rest.last;
        clean = rest.clean;
        grew = grew;
        inv = subst (λ T. Inv n done.rear T (put A₁ (suc k) new)) lists done.inv;
      }
    where
      new : Node
      new = (turn m (suc k) a u).node

      A₁ : ℕ → Node
      A₁ = view (suc k) (step_line m w (suc k) u.car r) A

      last_cell : List Cell
      last_cell = cells rest.phase (suc k + size r) (out u.car r)

      X : List Cell
      X = F ++ (last_cell ++ rest.front)

      turn_u : Turned m (suc k) u a new (turn m (suc k) a u).event
      turn_u = turned m (suc k) u x.small.0.letting a

      how : Arrived p' p (kind a) u.flag q
      how = arrived rel one one-u

      other : p ≡ before → NotOwn (suc k) a
      other b act z = x.clean b act (suc k) z (omega (arith, x.low)) (omega (arith, x.high))

      clean_v : Clean lo hi p' new.car
      clean_v b act s z = let c = arrived_before how b in x.clean c.0 act s (turned_clean turn_u c.1 (other c.0) act s z)

      place : Place n X B A₁ k u
      place =
          record {
            is = view_low A (suc k) (step_line m w (suc k) u.car r) (suc k) (omega arith) ∙ x.agrees.0;
            small = x.small.0;
            top = omega (arith, x.top);
            ahead = all_join _ F _ (all_map F (λ place c l. omega arith) x.ahead)
                (all_join _ last_cell _ (cells_all (λ place c. suc k ≤ place) rest.phase (suc k + size r) (out u.car r) (omega arith))
                (fit_places rest.fit).low);
            behind = x.behind;
            gates = x.gates;
          }

      mode : (multiring m ≡ true) ⊎ (Gateless X × Gateless B)
      mode =
          ⊎_elim (λ multi. inl multi)
          (λ z. inr (
            gates_join _ F _ z.1 (gates_join _ last_cell _ (cells_gates _ rest.phase (suc k + size r) (out u.car r))
                (fit_gateless (step_users m w (suc k) u.car r z.0) rest.fit)),
            z.2,
          ))
          x.mode

      old_rear : q ≡ after → u.flag ≡ true → e ≤ suc k
      old_rear b flagged =
          let z = ends_train (subst (λ (y : Bool). One w q (kind u.car) y q₂) flagged one-u) b in
          let one_cell : cells q (suc k) u.car ≡ cell (suc k) u.car ∷ [] =
          ap (λ (y : Phase). cells y (suc k) u.car) b ∙ car_cell_lem (suc k) u.car z.0 in
          (all_right (Ok n A e) G _ (all_right (Ok n A e) F _ (subst (λ C. Inv n e (F ++ (G ++ (C ++ (cells p k a ++ B)))) A) one_cell inv).all)).0.rear

      rear_u : q ≡ after → u.flag ≡ true → rest.rear ≤ suc k
      rear_u b flagged =
          let z = ends_train (subst (λ (y : Bool). One w q (kind u.car) y q₂) flagged one-u) b in
          ⊎_elim (λ s. omega (arith, s, old_rear b flagged)) (λ s. absurd (z.1 s)) rest.grew

      done : UserMoved n X B A₁ rest.rear k p' q new
      done =
          user_turn n m X B A₁ rest.rear k u place mode turn_u how other x.bare rear_u
          (subst (λ T. Inv n rest.rear T A₁) (sym (three F last_cell rest.front (cells p k a ++ B))) rest.inv)

      grew : (done.rear ≡ e) ⊎ (q ≡ after)
      grew =
          ⊎_elim (λ s. ⊎_elim (λ t. inl (s ∙ t)) (λ t. inr (passed_by (subst (One w q (kind u.car) u.flag) t one-u)).phase) rest.grew)
          (λ s. inr s) done.grew

      lists : X ++ (cells p' (suc k) new.car ++ B)
          ≡ F ++ (cells rest.phase (k + suc (size r)) (out u.car r) ++ ((rest.front ++ cells p' (suc k) new.car) ++ B))
      lists =
          let h : suc k + size r ≡ k + suc (size r) = omega arith in
          three F last_cell rest.front (cells p' (suc k) new.car ++ B)
          ∙ ap₂ (λ (z : ℕ) (T : List Cell). F ++ (cells rest.phase z (out u.car r) ++ T)) h
          (sym (append_assoc rest.front (cells p' (suc k) new.car) B))
