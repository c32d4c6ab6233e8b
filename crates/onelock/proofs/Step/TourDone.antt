-- The one induction at a junction in a tour: the rest of the line and the subring have made their steps; what comes out of the subring goes through
-- the junction's gate, or the tour ends.
use Prim.Native.Nat.{ℕ, ◌+◌}
use mathlib.Core.Path.{◌≡◌, refl, sym, ap, ◌∙◌, subst, subst₂}
use mathlib.Core.Bool.{Bool, true, false, true≢false}
use mathlib.Core.Logic.{◌⊎◌, inl, inr, ⊎_elim}
use mathlib.Core.List.{List, [], ◌∷◌, ◌++◌, append_assoc, append-nil}
use native.Mathlib.Omega.{arith}
use Rattle.words.specs.Words.{has}
use Rattle.cars.specs.declared.Car.{Car}
use Rattle.cars.specs.declared.Car.TheVariants.{Idle, Token, Null, Reqp, Failp, Dov, Gotp, Didv}
use Rattle.usernode.specs.declared.Node.{Node}
use Rattle.junction.specs.declared.Junction.{Junction}
use Rattle.junction.specs.Turn.{joins, junction_turn}
use Rattle.onelock.proofs.Train.Cells.{Cell, cell, gate, Bare, bit}
use Rattle.onelock.proofs.Train.CellLaws.{all_join}
use Rattle.onelock.proofs.Train.Invariant.{Inv}
use Rattle.onelock.proofs.Train.CarMoves.{exits}
use Rattle.onelock.proofs.Line.Ring.{Line, junction, size, out, wanting, step_line, view}
use Rattle.onelock.proofs.Line.Numbers.{view_low, cars_out, step_end}
use Rattle.onelock.proofs.Line.Phases.{Phase, before, inside, after, Kind, token, gap, kind, One, passed, coming, Come}
use Rattle.onelock.proofs.Line.PhaseLaws.{Rel, same, grown_car, grown_token, carry, no_shadow, rel_before, off, car_real, token_real}
use Rattle.onelock.proofs.Line.Fit.{cells, Fit}
use Rattle.onelock.proofs.Line.FitLaws.{places_join, places_cells, places_gate, fit_places, Passed, passed_by, Quiet, quiet, gap_cells, gap_clean}
use Rattle.onelock.proofs.Line.FitLaws.{none_train, past-at, tour_at, live_cell, rel_cells, one_clean}
use Rattle.onelock.proofs.Node.Rules.{LowNotice}
use Rattle.onelock.proofs.Step.Setting.{three, Setting, Moved, next_bare, after_junction, in_subring}
use Rattle.onelock.proofs.Step.Junction.{gates_and, Closed, nodes_then, cells_then, inv_then, ahead_then, closing, joined}
use Rattle.onelock.proofs.Step.Tour.{Leaves, the_token, a_car, nothing, the_end, leaves, turn_token, turn_none, turn_end, turn_car}

-- the token is the only car of its kind
is_token_lem : (c : Car) → kind c ≡ token → c ≡ Token
is_token_lem Idle e = cc
is_token_lem Token e = refl
is_token_lem Null e = cc
is_token_lem (Reqp t) e = cc
is_token_lem (Failp t) e = cc
is_token_lem (Dov t) e = cc
is_token_lem (Gotp x) e = cc
is_token_lem (Didv x) e = cc

-- where the train has passed, it has passed after the step too
passed_still : {p' p : Phase} {ka : Kind} → Rel p' p ka → ka ≡ gap → p' ≡ p
passed_still same e = refl
passed_still grown_car e = cc
passed_still grown_token e = cc

module _ {m n : ℕ} {w f fs : Bool} {lo hi k : ℕ} {p' p q p₁ p₂ q₂ : Phase} {A : ℕ → Node} {a : Car} {j : Junction} {s r : Line}
    (G : List Cell) {H F B : List Cell}
    (rel : Rel p' p (kind a)) (one : One w p (kind a) f q) (live : Come q) (sub : One false q (kind j.subring) fs p₁)
    (inner : Fit true k (k + size s) p₁ k s p₂ H) (train : p₂ ≡ after → j.train ≡ true) (main : One false p₂ (kind j.main) j.train q₂)
    (x : Setting m n lo hi p k a (junction j s r) F B A) where
  -- the junction's own cells behind its main car
  abbrev own : List Cell
  own = gates_and k (k + size s) j.word (H ++ cells q k j.subring) (cells p k a)

  -- the rest of the line, in its place
  tour_rest : Setting m n lo hi p₂ (k + size s) j.main r F (own ++ B) A
  tour_rest =
      after_junction own (one_clean lo hi j.main main)
      (places_gate k (k + size s) k (k + size s) j.word ((H ++ cells q k j.subring) ++ cells p k a) (omega arith) (omega arith)
      (places_join k (k + size s) (H ++ cells q k j.subring) (cells p k a)
      (places_join k (k + size s) H (cells q k j.subring) (fit_places inner) (places_cells k (k + size s) q k j.subring (omega arith) (omega arith)))
      (places_cells k (k + size s) p k a (omega arith) (omega arith))))
      bare x
    where
      bare : p₂ ≡ after → Bare (own ++ B)
      bare b =
          let still = quiet inner b in
          let idle = passed_by (subst (One false q (kind j.subring) fs) still.phase sub) in
          let none : cells q k j.subring ≡ [] = gap_cells q k j.subring idle.idle in
          subst Bare (sym (append_assoc (H ++ cells q k j.subring) (cells p k a) B))
          (all_join (λ p c. ⊥) (H ++ cells q k j.subring) _ (all_join (λ p c. ⊥) H _ still.bare (subst Bare (sym none) tt))
          (next_bare k a B one x.bare idle.phase))

  -- the train before the step, as the rest of the line sees it
  tour_list : F ++ ((G ++ (cells p₂ (k + size s) j.main ++ (gate k (k + size s) j.word ∷ (H ++ cells q k j.subring)))) ++ (cells p k a ++ B))
      ≡ F ++ (G ++ (cells p₂ (k + size s) j.main ++ (own ++ B)))
  tour_list =
      ap (λ (T : List Cell). F ++ T)
      (three G (cells p₂ (k + size s) j.main) (gate k (k + size s) j.word ∷ (H ++ cells q k j.subring)) (cells p k a ++ B)
      ∙ ap (λ (T : List Cell). G ++ (cells p₂ (k + size s) j.main ++ (gate k (k + size s) j.word ∷ T)))
      (sym (append_assoc (H ++ cells q k j.subring) (cells p k a) B)))

  module _ {e : ℕ} {o : Phase} (R : Moved m n w lo hi p₂ q₂ (k + size s) j.main r o F (own ++ B) e A) where
    -- the number of the subring's last node
    abbrev h : ℕ
    h = k + size s

    -- the subring after its step
    abbrev s₁ : Line
    s₁ = step_line m true k j.subring s

    -- the nodes, when the rest has made its step
    abbrev A₁ : ℕ → Node
    A₁ = nodes_then k j s R

    -- the cells before the junction then
    abbrev X : List Cell
    X = cells_then k j s R

    -- the cells before the subring: those and the junction's gate
    abbrev X₂ : List Cell
    X₂ = X ++ (gate k h j.word ∷ [])

    -- the subring in its place, before its step
    tour_subring : Setting m n k h q k j.subring s X₂ (cells p k a ++ B) A₁
    tour_subring =
        in_subring X₂ (cells p k a) (λ b. absurd (live b)) (all_join _ X _ (ahead_then k j s R x.ahead) tt)
        (places_cells k k p k a (omega arith) (omega arith)) (next_bare k a B one x.bare)
        (λ i low. view_low A h (step_line m w h j.main r) i low) x

    -- the invariant then
    tour_inv : Inv n R.rear (X₂ ++ (H ++ (cells q k j.subring ++ (cells p k a ++ B)))) A₁
    tour_inv =
        subst (λ T. Inv n R.rear T A₁)
        (ap (λ (T : List Cell). X ++ (gate k h j.word ∷ T))
        (append_assoc (H ++ cells q k j.subring) (cells p k a) B ∙ append_assoc H (cells q k j.subring) (cells p k a ++ B))
        ∙ sym (append_assoc X (gate k h j.word ∷ []) (H ++ (cells q k j.subring ++ (cells p k a ++ B))))) (inv_then k j s R)

    module _ (tour : j.tour ≡ true) (S : Moved m n true k h q p₁ k j.subring s p₂ X₂ (cells p k a ++ B) R.rear A₁) where
      -- the car that comes out of the subring
      abbrev y : Car
      y = out j.subring s

      -- the invariant after the step, with the cells C of the junction's main car and the gate's word
      abbrev InvWith : List Cell → ℕ → Type 0
      InvWith C word = Inv n S.rear (X ++ (C ++ (gate k h word ∷ (S.front ++ (cells p k a ++ B))))) (view k s₁ A₁)

      -- the invariant before the junction's turn, with the cells C of that car still behind the gate
      abbrev InvBehind : List Cell → Type 0
      InvBehind C = Inv n S.rear (X ++ (gate k h j.word ∷ (C ++ (S.front ++ (cells p k a ++ B))))) (view k s₁ A₁)

      -- the rear is as it was before the step, or the train had passed
      grew : (S.rear ≡ e) ⊎ (q ≡ after)
      grew =
          ⊎_elim (λ t. ⊎_elim (λ u. inl (t ∙ u)) (λ u. absurd (not_passed u)) R.grew)
          (λ t. inr (passed_by (subst (One false q (kind j.subring) fs) t sub)).phase) S.grew
        where
          not_passed : q₂ ≡ after → ⊥
          not_passed u = let z = passed_by (subst (One false p₂ (kind j.main) j.train) u main) in true≢false (sym (train z.phase) ∙ z.clear)

      -- the subring's last car is behind the gate
      left_inv : InvBehind (cells S.phase h y)
      left_inv =
          subst (λ T. Inv n S.rear T (view k s₁ A₁))
          (append_assoc X (gate k h j.word ∷ []) (cells S.phase h y ++ (S.front ++ (cells p k a ++ B)))) S.inv

      -- a car through the gate, whose word takes note of it
      through : (word : ℕ) → ((lock : ℕ) → has word lock ≡ bit k h lock y (has j.word lock)) → Come S.phase → (kind y ≡ gap → ⊥)
          → InvWith (cells S.phase h y) word
      through word bits come real =
          let one_cell : cells S.phase h y ≡ cell h y ∷ [] = live_cell S.phase h y come real in
          subst (λ C. InvWith C word) (sym one_cell)
          (exits n X (S.front ++ (cells p k a ++ B)) h k h j.word word y bits (subst InvBehind one_cell left_inv))

      -- nothing goes through the gate
      idle_through : (c : List Cell) → cells S.phase h y ≡ [] → c ≡ [] → InvWith c j.word
      idle_through c none is = subst (λ C. InvWith C j.word) (sym is) (subst InvBehind none left_inv)

      -- the tour goes on, with c on the main ring
      closed_on : (c : Car) (word : ℕ) (flag : Bool) → (S.phase ≡ after → flag ≡ true) → One false S.phase (kind c) flag p₂
          → InvWith (cells S.phase h c) word → Closed m n w lo hi p' q k j (joins c a flag j.tour word) s r R.phase F B e A
      unfolding joins
      closed_on c word flag out one-c i =
          record {
            front = R.front ++ (cells S.phase h c ++ (gate k h word ∷ (S.front ++ cells p' k a)));
            rear = S.rear;
            fit = tour_at h (step_end m true k j.subring s) tour (λ b. live (off one (rel_before rel b)).phase) (no_shadow live (carry rel one))
                S.fit out one-c R.fit;
            grew = grew;
            inv = closing k j s R S.rear word B (cells S.phase h c) S.front (cells p k a) (S.front ++ cells p' k a)
                (ap (λ (T : List Cell). S.front ++ T) (rel_cells k a rel)) i;
          }

      -- the tour ends
      closed_end : S.phase ≡ after → p₂ ≡ after → kind y ≡ gap
          → Closed m n w lo hi p' q k j (joins Idle a false false j.word) s r R.phase F B e A
      unfolding joins
      closed_end e₁ e₂ idle =
          record {
            front = R.front ++ (cells p' h Idle ++ (gate k h j.word ∷ S.front));
            rear = S.rear;
            fit = past-at h (step_end m true k j.subring s) refl (none_train w) (subst (λ (z : Kind). One true before z false before) (sym came.idle) coming)
                (gap_clean k h before a came.idle) (rest.ahead true) (λ b. absurd (not_inside (sym p'_after ∙ b)))
                (subst₂ (λ (u v : Phase). One w u gap false v) (sym p'_after) (sym e₂) passed) (gap_clean lo hi p' Idle refl) R.fit;
            grew = grew;
            inv = closing k j s R S.rear j.word B (cells p' h Idle) S.front (cells p k a) S.front
                (ap (λ (T : List Cell). S.front ++ T) (gap_cells p k a came.idle) ∙ append-nil S.front)
                (idle_through (cells p' h Idle) (gap_cells S.phase h y idle) (gap_cells p' h Idle refl));
          }
        where
          rest : Quiet k h q k s₁ S.front
          rest = quiet S.fit e₁

          came : Passed w p (kind a) f
          came = passed_by (subst (One w p (kind a) f) rest.phase one)

          p'_after : p' ≡ after
          p'_after = passed_still rel came.idle ∙ came.phase

          not_inside : after ≡ inside → ⊥
          not_inside z = true≢false (cc)

      -- the junction's turn, whatever comes out of its subring
      tour_done : Closed m n w lo hi p' q k j (junction_turn w k h (wanting s) a y j) s r R.phase F B e A
      tour_done = go (leaves S.last main train)
        where
          Done : Junction → Type 0
          Done j' = Closed m n w lo hi p' q k j j' s r R.phase F B e A

          go : Leaves S.phase (kind y) p₂ j.train → Done (junction_turn w k h (wanting s) a y j)
          go (the_token is come one-t) =
              subst Done (sym (turn_token w j k h (wanting s) a tour y is))
              (closed_on Token j.word true (λ z. refl) one-t
              (subst (λ (c : Car). InvWith (cells S.phase h c) j.word) (is_token_lem y is)
              (through j.word (λ lock. ap (λ (c : Car). bit k h lock c (has j.word lock)) (sym (is_token_lem y is))) come (token_real is))))
          go (a_car is flag come one-c) =
              let t = turn_car w j k h (wanting s) a tour y flag is (cars_out LowNotice j.subring s x.cars.0.0 x.cars.1) in
              subst Done (sym t.is)
              (closed_on y t.word j.train (λ z. flag) (subst₂ (λ (u : Kind) (v : Bool). One false S.phase u v p₂) (sym is) (sym flag) one-c)
              (through t.word t.bits come (car_real is)))
          go (nothing e₁ e₂ flag real) =
              subst Done (sym (turn_none w j k h (wanting s) a tour y flag real))
              (closed_on Idle j.word j.train (λ z. absurd (not_after (sym e₁ ∙ z)))
              (subst₂ (λ (u v : Phase). One false u gap j.train v) (sym e₁) (sym e₂)
              (subst (λ (z : Bool). One false before gap z before) (sym flag) coming))
              (idle_through (cells S.phase h Idle) (ap (λ (z : Phase). cells z h y) e₁) (gap_cells S.phase h Idle refl)))
            where
              not_after : before ≡ after → ⊥
              not_after z = true≢false (cc)
          go (the_end is e₁ e₂ flag) = subst Done (sym (turn_end w j k h (wanting s) a tour y flag is)) (closed_end e₁ e₂ is)

  -- the line's step, by that of the rest and then that of the subring
  pub tour_moved : {e : ℕ} {o : Phase} → j.tour ≡ true
      → Inv n e (F ++ ((G ++ (cells p₂ (k + size s) j.main ++ (gate k (k + size s) j.word ∷ (H ++ cells q k j.subring)))) ++ (cells p k a ++ B))) A
      → (Setting m n lo hi p₂ (k + size s) j.main r F (own ++ B) A → Inv n e (F ++ (G ++ (cells p₂ (k + size s) j.main ++ (own ++ B)))) A
      → Moved m n w lo hi p₂ q₂ (k + size s) j.main r o F (own ++ B) e A)
      → ((R : Moved m n w lo hi p₂ q₂ (k + size s) j.main r o F (own ++ B) e A)
      → Setting m n k (k + size s) q k j.subring s (X₂ R) (cells p k a ++ B) (A₁ R)
      → Inv n R.rear (X₂ R ++ (H ++ (cells q k j.subring ++ (cells p k a ++ B)))) (A₁ R)
      → Moved m n true k (k + size s) q p₁ k j.subring s p₂ (X₂ R) (cells p k a ++ B) R.rear (A₁ R))
      → Moved m n w lo hi p' q k a (junction j s r) o F B e A
  tour_moved {e} tour i step-rest step-sub =
      let R = step-rest tour_rest (subst (λ T. Inv n e T A) tour_list i) in
      joined R.phase R.last R.clean (tour_done R tour (step-sub R (tour_subring R) (tour_inv R)))
