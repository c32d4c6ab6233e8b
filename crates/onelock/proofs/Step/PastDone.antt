-- The one induction at a junction outside a tour: the rest of the line has made its step; the car that comes goes past the junction, or the token
-- begins a tour; then the subring makes its step, off the train. The line after the step fits, and the invariant holds of its train.
use Prim.Native.Nat.{ℕ, ◌+◌, ◌≤◌, ◌<◌}
use mathlib.Core.Path.{◌≡◌, refl, sym, ap, ◌∙◌, subst}
use mathlib.Core.Bool.{Bool, true, false, ◌&&◌, true≢false}
use mathlib.Core.Logic.{◌⊎◌, inl, inr, ⊎_elim}
use mathlib.Core.List.{List, [], ◌∷◌, ◌++◌, append_assoc, append-nil}
use native.Mathlib.Omega.{arith}
use Rattle.words.specs.Words.{has}
use Rattle.cars.specs.declared.Car.{Car}
use Rattle.cars.specs.declared.Car.TheVariants.{Idle, Token, Failp}
use Rattle.usernode.specs.declared.Node.{Node}
use Rattle.usernode.specs.declared.Activity.{Activity}
use Rattle.junction.specs.declared.Junction.{Junction}
use Rattle.junction.specs.Turn.{shadow, joins, train_after}
use Rattle.onelock.proofs.Train.Cells.{Cell, cell, gate, All, asks, request}
use Rattle.onelock.proofs.Train.CellLaws.{all_join, gates_map}
use Rattle.onelock.proofs.Train.Invariant.{Inv}
use Rattle.onelock.proofs.Train.CarMoves.{Goes}
use Rattle.onelock.proofs.Line.Ring.{Line, junction, size, out, wanting, step_line, view}
use Rattle.onelock.proofs.Line.Numbers.{view_low, step_end}
use Rattle.onelock.proofs.Line.Phases.{Phase, before, inside, after, Kind, token, gap, car, kind, One, passed, last, alone, more, head, coming}
use Rattle.onelock.proofs.Line.Phases.{shade, Come, come_after, come_inside}
use Rattle.onelock.proofs.Line.PhaseLaws.{Rel, same, grown_car, grown_token, carry}
use Rattle.onelock.proofs.Line.Fit.{cells, Clean, NoWait, Fit}
use Rattle.onelock.proofs.Line.FitLaws.{Places, places_cells, cells_all, fit_places, shaded, passed_by, gap_cells, gap_clean, past-at, tour_at}
use Rattle.onelock.proofs.Line.FitLaws.{live_cell, rel_cells}
use Rattle.onelock.proofs.Step.Setting.{three, Setting, Moved, in_subring}
use Rattle.onelock.proofs.Step.Calm.{calm_step, wanting_calm}
use Rattle.onelock.proofs.Step.Bypass.{Passing, goes_by, fails_by, begins, Side, by_goes, by_fails, past_move, passing}
use Rattle.onelock.proofs.Step.Past.{Stands, st_shadow, st_gap, st_live, stands, shadow_asks, shadow_one, past_rest, past_list, outer}
use Rattle.onelock.proofs.Step.Past.{train_by, real_word, begin_train}
use Rattle.onelock.proofs.Step.Junction.{gates_and, Closed, nodes_then, cells_then, inv_then, ahead_then, closing, joined}

-- where a place comes to be inside the train, it was so, or the token came
inside_or_token : {w f : Bool} {p' p q : Phase} {ka : Kind} → Rel p' p ka → One w p ka f q → p' ≡ inside → (q ≡ inside) ⊎ (ka ≡ token)
inside_or_token same passed b = inl (cc)
inside_or_token same last b = inl refl
inside_or_token same alone b = inr refl
inside_or_token same more b = inl refl
inside_or_token same head b = inr refl
inside_or_token same coming b = inl (cc)
inside_or_token same (shade s) b = inl (cc)
inside_or_token grown_car last b = inl refl
inside_or_token grown_token alone b = inr refl

-- where the token comes, the train has come to the place before it, and is still to come behind it
token_one : {w f : Bool} {p' p q : Phase} → Rel p' p token → One w p token f q
    → Come p' × (One false p' token true before) × (q ≡ before)
token_one same alone = (come_after, alone, refl)
token_one same head = (come_inside, head, refl)
token_one grown_token alone = (come_inside, head, refl)

module _ {m n : ℕ} {w f fm : Bool} {lo hi k e : ℕ} {p' p q q₂ o : Phase} {A : ℕ → Node} {a : Car} {j : Junction} {s r : Line} {H F B : List Cell}
    (rel : Rel p' p (kind a)) (one : One w p (kind a) f q) (inner : Fit true k (k + size s) before k s before H) (calm : q ≡ inside → NoWait s)
    (main : One w q (kind j.main) fm q₂) (x : Setting m n lo hi p k a (junction j s r) F B A)
    (outside : (act : Activity) (i : ℕ) → request a ≡ asks act i → k < i → i ≤ k + size s → ⊥)
    (R : Moved m n w lo hi q q₂ (k + size s) j.main r o F (gates_and k (k + size s) j.word H (cells p k a) ++ B) e A) where
  -- the number of the subring's last node
  abbrev h : ℕ
  h = k + size s

  -- the subring after its step
  abbrev s₁ : Line
  s₁ = step_line m true k j.subring s

  -- the nodes, when the rest has made its step
  abbrev A₁ : ℕ → Node
  A₁ = nodes_then k j s R

  -- the cells before the junction then
  abbrev X : List Cell
  X = cells_then k j s R

  -- the junction's gate
  abbrev door : Cell
  door = gate k h j.word

  -- the invariant then, with the car that comes to the junction behind the subring's gates
  moved_inv : Inv n R.rear (X ++ (door ∷ (H ++ (cells p k a ++ B)))) A₁
  moved_inv = subst (λ T. Inv n R.rear (X ++ (door ∷ T)) A₁) (append_assoc H (cells p k a) B) (inv_then k j s R)

  -- the junction that is passed by
  side : Side n k h H B
  side =
      record {
        wide = omega arith;
        top = omega (arith, x.top);
        bare = (shaded inner refl).bare;
        gates = gates_map H (λ lo hi l. l.0) (fit_places inner).gates;
        behind = x.behind;
      }

  -- the car past the junction, however it stands
  by_front : (c : Car) → kind c ≡ kind a → ((kind a ≡ car → q ≡ inside) → Inv n R.rear (X ++ (door ∷ (H ++ (cell k a ∷ B)))) A₁ → Goes n A₁ k a h c)
      → Inv n R.rear (X ++ (cells p' h c ++ (door ∷ (H ++ B)))) A₁
  by_front c like go = by (stands rel one)
    where
      both : {C D : List Cell} → cells p k a ≡ C → cells p' h c ≡ D
          → (Inv n R.rear (X ++ (door ∷ (H ++ (C ++ B)))) A₁ → Inv n R.rear (X ++ (D ++ (door ∷ (H ++ B)))) A₁)
          → Inv n R.rear (X ++ (cells p' h c ++ (door ∷ (H ++ B)))) A₁
      both c d move =
          subst (λ D. Inv n R.rear (X ++ (D ++ (door ∷ (H ++ B)))) A₁) (sym d)
          (move (subst (λ C. Inv n R.rear (X ++ (door ∷ (H ++ (C ++ B)))) A₁) c moved_inv))

      by : Stands p' p (kind a) q → Inv n R.rear (X ++ (cells p' h c ++ (door ∷ (H ++ B)))) A₁
      by (st_shadow b d t) = both {C = []} {D = []} (ap (λ (z : Phase). cells z k a) d) (ap (λ (z : Phase). cells z h c) b) (λ i. i)
      by (st_gap g) = both {C = []} {D = []} (gap_cells p k a g) (gap_cells p' h c (like ∙ g)) (λ i. i)
      by (st_live b d g t) =
          both {C = cell k a ∷ []} {D = cell h c ∷ []} (live_cell p k a d g) (live_cell p' h c b (λ z. g (sym like ∙ z)))
          (λ i. past_move j.word X side a i outside c (go t i))

  -- the cells before the subring, C being those of the junction's main car
  abbrev ahead_of : List Cell → List Cell
  ahead_of C = X ++ (C ++ (door ∷ []))

  -- they are at its last node's place or beyond
  ahead : (C : List Cell) → All (λ place c. h ≤ place) C → All (λ place c. h ≤ place) (ahead_of C)
  ahead C there = all_join _ X _ (ahead_then k j s R x.ahead) (all_join _ C _ there tt)

  -- the subring in its place, D being the cell of the car that stays behind it
  subring : (X₂ D : List Cell) → Clean k h before j.subring → All (λ place c. h ≤ place) X₂ → Places k k D
      → Setting m n k h before k j.subring s X₂ (D ++ B) A₁
  subring X₂ D clean there places =
      in_subring X₂ D clean there places (λ e. absurd (true≢false (cc))) (λ i low. view_low A h (step_line m w h j.main r) i low) x

  -- the subring's step, off the train
  abbrev Subring : List Cell → List Cell → Type 0
  Subring X₂ D = Moved m n true k h before before k j.subring s before X₂ (D ++ B) R.rear A₁

  -- the subring's step, from any place
  abbrev Steps : Type 0
  Steps = (X₂ D : List Cell) → Setting m n k h before k j.subring s X₂ (D ++ B) A₁ → Inv n R.rear (X₂ ++ (H ++ (D ++ B))) A₁ → Subring X₂ D

  -- the rear is as it was before the step, or the train had passed
  grew_by : (X₂ D : List Cell) (S : Subring X₂ D) → (S.rear ≡ e) ⊎ (q ≡ after)
  grew_by X₂ D S =
      ⊎_elim (λ t. ⊎_elim (λ u. inl (t ∙ u)) (λ u. inr (passed_by (subst (One w q (kind j.main) fm) u main)).phase) R.grew)
      (λ t. absurd (true≢false (cc))) S.grew

  -- the invariant after the subring's step
  subring_inv : (C D : List Cell) (S : Subring (ahead_of C) D) → Inv n S.rear (X ++ (C ++ (door ∷ (S.front ++ (D ++ B))))) (view k s₁ A₁)
  subring_inv C D S =
      subst (λ T. Inv n S.rear T (view k s₁ A₁)) (three X C (door ∷ []) (S.front ++ (D ++ B)))
      (subst (λ (z : Phase). Inv n S.rear (ahead_of C ++ (cells z h (out j.subring s) ++ (S.front ++ (D ++ B)))) (view k s₁ A₁))
      (shaded S.fit refl).phase S.inv)

  -- the subring fits after its step
  subring_fit : (X₂ D : List Cell) (S : Subring X₂ D) → Fit true k h before k s₁ before S.front
  subring_fit X₂ D S = subst (λ (z : Phase). Fit true k h before k s₁ z S.front) (shaded S.fit refl).phase S.fit

  -- the subring does not come to wait, where it must not
  still : (kind a ≡ token → wanting s ≡ false) → p' ≡ inside → NoWait s₁
  still quiet b =
      calm_step m j.subring s inner refl x.small.0 (⊎_elim (λ i. calm i) (λ t. wanting_calm s (quiet t)) (inside_or_token rel one b))

  -- what goes on along the main ring has no request of the surrounding ring's nodes where it is a shadow
  clean_by : (c : Car) → kind c ≡ kind a → ((act : Activity) (i : ℕ) → request c ≡ asks act i → request a ≡ asks act i) → Clean lo hi p' c
  clean_by c like asked b = by (stands rel one)
    where
      by : Stands p' p (kind a) q → (act : Activity) (i : ℕ) → request c ≡ asks act i → lo < i → i ≤ hi → ⊥
      by (st_shadow u d t) act i z low high = x.clean d act i (asked act i z) low high
      by (st_gap g) act i z low high = gap_clean lo hi p' c (like ∙ g) b act i z low high
      by (st_live u d g t) act i z low high = u b

  -- a car or nothing goes past the junction
  closed_by_lem : (c : Car) → kind c ≡ kind a → ((act : Activity) (i : ℕ) → request c ≡ asks act i → request a ≡ asks act i) → j.tour ≡ false
      → j.train ≡ (w && fm) → Clean k h before j.subring → (kind a ≡ token → wanting s ≡ false)
      → ((kind a ≡ car → q ≡ inside) → Inv n R.rear (X ++ (door ∷ (H ++ (cell k a ∷ B)))) A₁ → Goes n A₁ k a h c) → Steps
      → Closed m n w lo hi p' q k j (joins c (shadow a) (train_after w c j.train j.train) j.tour j.word) s r R.phase F B e A
  unfolding joins
  closed_by_lem c like asked tour train clean quiet go step =
      record {
        front = R.front ++ (main_cells ++ (door ∷ S.front));
        rear = S.rear;
        fit = past-at h (step_end m true k j.subring s) tour (train_by w c like one main train) (shadow_one a)
            (λ b act i z low high. outside act i (shadow_asks a act i z) low high) (subring_fit (ahead_of main_cells) [] S) (still quiet)
            (subst (λ (z : Kind). One w p' z f q) (sym like) (carry rel one)) (clean_by c like asked) R.fit;
        grew = grew_by (ahead_of main_cells) [] S;
        inv = closing k j s R S.rear j.word B main_cells S.front [] S.front (append-nil S.front) (subring_inv main_cells [] S);
      }
    where
      main_cells : List Cell
      main_cells = cells p' h c

      S : Subring (ahead_of main_cells) []
      S =
          step (ahead_of main_cells) []
          (subring (ahead_of main_cells) [] clean (ahead main_cells (cells_all _ p' h c (omega arith))) (record { low = tt; high = tt; gates = tt }))
          (subst (λ T. Inv n R.rear T A₁) (sym (three X main_cells (door ∷ []) (H ++ B))) (by_front c like go))

  -- the token begins a tour
  closed_begin : a ≡ Token → j.train ≡ (w && fm) → Clean k h before j.subring → Steps
      → Closed m n w lo hi p' q k j (joins Idle Token (train_after w Idle j.train j.train) true j.word) s r R.phase F B e A
  unfolding joins
  closed_begin is train clean step =
      record {
        front = R.front ++ (door ∷ (S.front ++ cells p' k Token));
        rear = S.rear;
        fit = tour_at h (step_end m true k j.subring s) refl token_live.0 token_live.1 (subring_fit (ahead_of []) D S)
            (λ b. absurd (true≢false (cc))) (subst (λ (z : Bool). One false before gap z before) (sym clear) coming)
            (subst (λ (z : Phase). Fit w lo hi z h (step_line m w h j.main r) R.phase R.front) token_live.2 R.fit);
        grew = grew_by (ahead_of []) D S;
        inv = closing k j s R S.rear j.word B [] S.front D (S.front ++ cells p' k Token)
            (ap (λ (T : List Cell). S.front ++ T) (rel_cells k a rel ∙ ap (cells p' k) is)) (subring_inv [] D S);
      }
    where
      D : List Cell
      D = cells p k a

      S : Subring (ahead_of []) D
      S =
          step (ahead_of []) D (subring (ahead_of []) D clean (ahead [] tt) (places_cells k k p k a (omega arith) (omega arith)))
          (subst (λ T. Inv n R.rear T A₁) (sym (three X [] (door ∷ []) (H ++ (D ++ B)))) moved_inv)

      token_live : Come p' × (One false p' token true before) × (q ≡ before)
      token_live = token_one (subst (λ (c : Car). Rel p' p (kind c)) is rel) (subst (λ (c : Car). One w p (kind c) f q) is one)

      clear : train_after w Idle j.train j.train ≡ false
      clear = begin_train w fm train

  -- the junction's turn, whatever comes
  pub past-done : {j' : Junction} → Passing w j (wanting s) a j' → j.tour ≡ false → j.train ≡ (w && fm) → Clean k h before j.subring → Steps
      → Closed m n w lo hi p' q k j j' s r R.phase F B e A
  past-done (goes_by quiet free) tour train clean step =
      closed_by_lem a refl (λ act i z. z) tour train clean quiet
      (λ come i. by_goes j.word X side a i outside
      (λ t is. ap (λ (z : ℕ). has z t.lock) (sym (real_word w fm j (come (ap kind is)) main train)) ∙ free t is)) step
  past-done (fails_by t is) tour train clean step =
      closed_by_lem (Failp t) (sym (ap kind is)) (λ act i z. ap request is ∙ z) tour train clean (λ z. absurd (no_token (sym (ap kind is) ∙ z)))
      (λ come i. by_fails j.word X side a i outside t is) step
    where
      no_token : car ≡ token → ⊥
      no_token z = true≢false (cc)
  past-done (begins is wants) tour train clean step = closed_begin is train clean step

module _ {m n : ℕ} {w f fm : Bool} {lo hi k : ℕ} {p' p q q₂ : Phase} {A : ℕ → Node} {a : Car} {j : Junction} {s r : Line} (G : List Cell) {H F B : List Cell}
    (rel : Rel p' p (kind a)) (one : One w p (kind a) f q) (inner : Fit true k (k + size s) before k s before H) (calm : q ≡ inside → NoWait s)
    (main : One w q (kind j.main) fm q₂) (x : Setting m n lo hi p k a (junction j s r) F B A) where
  -- what is behind the junction's main car
  abbrev Y : List Cell
  Y = gates_and k (k + size s) j.word H (cells p k a) ++ B

  -- the train, with the junction's own cells
  abbrev whole : List Cell
  whole = G ++ (cells q (k + size s) j.main ++ (gate k (k + size s) j.word ∷ H))

  -- a request that comes to the junction is of no node of its subring
  pub outside : {e : ℕ} → Inv n e (F ++ (whole ++ (cells p k a ++ B))) A → (act : Activity) (i : ℕ) → request a ≡ asks act i → k < i → i ≤ k + size s → ⊥
  outside {e} i =
      outer G rel one inner calm main x (F ++ whole)
      (subst (λ T. Inv n e T A) (sym (append_assoc F whole (cells p k a ++ B))) i)

  -- the line's step, by that of the rest and then that of the subring
  pub past_moved : {e : ℕ} {o : Phase} → j.tour ≡ false → j.train ≡ (w && fm) → Clean k (k + size s) before j.subring → Clean lo hi q j.main
      → (i : Inv n e (F ++ (whole ++ (cells p k a ++ B))) A)
      → (Setting m n lo hi q (k + size s) j.main r F Y A → Inv n e (F ++ (G ++ (cells q (k + size s) j.main ++ Y))) A
      → Moved m n w lo hi q q₂ (k + size s) j.main r o F Y e A)
      → ((R : Moved m n w lo hi q q₂ (k + size s) j.main r o F Y e A) → Steps rel one inner calm main x (outside i) R)
      → Moved m n w lo hi p' q k a (junction j s r) o F B e A
  past_moved {e} tour train clean_sub clean i step-rest step-sub =
      let R = step-rest (past_rest G rel one inner calm main x clean)
      (subst (λ T. Inv n e T A) (past_list G rel one inner calm main x) i) in
      joined R.phase R.last R.clean
      (past-done rel one inner calm main x (outside i) R (passing w j (out j.subring s) k (k + size s) (wanting s) a tour)
      tour train clean_sub (step-sub R))
