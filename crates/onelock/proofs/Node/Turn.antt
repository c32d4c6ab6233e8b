-- A user node's turn, whatever comes to it: the moves of Moves put together, by the rule that fits and by how the car stands in the train.
use Rattle.std.specs.Prelude.{Option}
use Prim.Native.Nat.{ℕ, suc, ◌≤◌}
use mathlib.Core.Path.{◌≡◌, refl, sym, ap, ◌∙◌, subst}
use mathlib.Core.Bool.{Bool, true, false, cond, true≢false}
use mathlib.Core.Logic.{◌⊎◌, inl, inr, ⊎_elim}
use mathlib.Core.List.{List, [], ◌∷◌, ◌++◌}
use Rattle.words.specs.Words.{has, without_lock}
use Rattle.cars.specs.Cars.{multiring}
use Rattle.cars.specs.declared.Tag.{Tag}
use Rattle.cars.specs.declared.Car.{Car}
use Rattle.cars.specs.declared.Car.TheVariants.{Idle, Token, Null, Reqp, Failp, Dov, Gotp, Didv}
use Rattle.usernode.specs.declared.Node.{Node}
use Rattle.usernode.specs.declared.Activity.{Activity}
use Rattle.usernode.specs.declared.Activity.TheVariants.{WaitingReqp, WaitingDov}
use Rattle.usernode.specs.Node.{had}
use Rattle.turns.specs.declared.Event.{Event}
use Rattle.usernode.specs.Node.{let_go}
use Rattle.cars.specs.Cars.{flag_after}
use Rattle.turns.specs.Turn.{becomes, grant_car}
use Rattle.onelock.proofs.Train.Cells.{Cell, cell, Bare, Gateless, asks, request, Names}
use Rattle.onelock.proofs.Train.CellLaws.{gates_join}
use Rattle.onelock.proofs.Train.Invariant.{Inv}
use Rattle.onelock.proofs.Train.CarMoves.{goes}
use Rattle.onelock.proofs.Train.Nodes.{put}
use Rattle.onelock.proofs.Line.Phases.{Phase, before, after, Kind, token, gap, car, kind, One, passed, last, alone, more, head, coming, shade, Come}
use Rattle.onelock.proofs.Line.Phases.{come_after, come_inside}
use Rattle.onelock.proofs.Line.PhaseLaws.{Rel, same, grown_car, grown_token, New, n_gap, n_token, n_car, n_grow}
use Rattle.onelock.proofs.Line.Fit.{cells, waits}
use Rattle.onelock.proofs.Line.FitLaws.{gap_cells, live_cell}
use Rattle.onelock.proofs.Node.Rules.{NotOwn, Turned, sends_reqp, sends_dov, sends_didv, own_reqp, own_failp, fails_reqp, own_dov, loses_lock, passes}
use Rattle.onelock.proofs.Node.Moves.{Place, alike, here, pass_on, fail_on, comes_back, loses, adds, tells, gets}

-- how the car that comes to a node stands in the train: a shadow, a gap behind the train, the token, or a car of the train
pub data Arrived (p' p : Phase) (ka : Kind) (flag : Bool) (q : Phase) : Type 0 where
  as_shadow : p' ≡ before → p ≡ before → flag ≡ false → Arrived p' p ka flag q
  as_gap : ka ≡ gap → p' ≡ after → p ≡ after → q ≡ after → Arrived p' p ka flag q
  as_token : ka ≡ token → Come p' → Come p → Arrived p' p ka flag q
  as_car : ka ≡ car → flag ≡ true → Come p' → Come p → Arrived p' p ka flag q

-- every arrival stands in one of these ways
pub arrived : {w fa fu : Bool} {p' p q o : Phase} {ka ku : Kind} → Rel p' p ka → One w p ka fa q → One w q ku fu o → Arrived p' p ka fu q
arrived same passed user = as_gap refl refl refl refl
arrived same last more = as_car refl refl come_after come_after
arrived same last head = as_car refl refl come_after come_after
arrived same alone user = as_token refl come_after come_after
arrived same more more = as_car refl refl come_inside come_inside
arrived same more head = as_car refl refl come_inside come_inside
arrived same head user = as_token refl come_inside come_inside
arrived same coming coming = as_shadow refl refl refl
arrived same coming (shade s) = as_shadow refl refl refl
arrived same (shade s) coming = as_shadow refl refl refl
arrived same (shade s) (shade t) = as_shadow refl refl refl
arrived grown_car last more = as_car refl refl come_inside come_after
arrived grown_car last head = as_car refl refl come_inside come_after
arrived grown_token alone user = as_token refl come_inside come_after

-- what the node sends, by its kind
pub new_kind : {m me : ℕ} {u v : Node} {a : Car} {event : Option Event} → Turned m me u a v event → New (kind a) u.flag (kind v.car) v.flag
unfolding becomes flag_after grant_car
new_kind {u = u} (sends_reqp lock f w) = subst (λ z. New gap z car z) (sym f) n_grow
new_kind {u = u} (sends_dov lock f w) = subst (λ z. New gap z car z) (sym f) n_grow
new_kind {u = u} (sends_didv lock f w) = subst (λ z. New gap z car z) (sym f) n_grow
new_kind {m = m} {me = me} {u = u} (own_reqp t own) = granted (multiring m)
  where
    granted : (b : Bool) → New car u.flag (kind (cond b (Gotp (record { lock = t.lock; source = me })) Null))
        (flag_after (cond b (Gotp (record { lock = t.lock; source = me })) Null) u.flag)
    granted true = n_car
    granted false = n_car
new_kind (own_failp t own) = n_car
new_kind (fails_reqp t other f) = n_car
new_kind (own_dov t own) = n_car
new_kind (loses_lock t other h) = n_car
new_kind {u = u} (passes a other free) = keeps a
  where
    keeps : (a : Car) → New (kind a) u.flag (kind a) (flag_after a u.flag)
    keeps Idle = n_gap
    keeps Token = n_token
    keeps Null = n_car
    keeps (Reqp t) = n_car
    keeps (Failp t) = n_car
    keeps (Dov t) = n_car
    keeps (Gotp t) = n_car
    keeps (Didv t) = n_car

-- after the turn: the rear is as it was, or the node is the new one
pub record UserMoved (n : ℕ) (X Y : List Cell) (A : ℕ → Node) (e k : ℕ) (p' q : Phase) (v : Node) : Type 0 where
  pub rear : ℕ
  pub grew : (rear ≡ e) ⊎ (q ≡ after)
  pub inv : Inv n rear (X ++ (cells p' (suc k) v.car ++ Y)) (put A (suc k) v)

module _ (n m : ℕ) (X Y : List Cell) (A : ℕ → Node) (e k : ℕ) (u : Node) (x : Place n X Y A k u)
    (mode : (multiring m ≡ true) ⊎ (Gateless X × Gateless Y)) where
  -- a shadow has no cell before the turn
  shadow_in : {p : Phase} (a : Car) → p ≡ before → Inv n e (X ++ (cells p k a ++ Y)) A → Inv n e (X ++ Y) A
  shadow_in a b i = subst (λ p. Inv n e (X ++ (cells p k a ++ Y)) A) b i

  -- and none after it
  shadow_out : {p' q : Phase} (v : Node) → p' ≡ before → Inv n e (X ++ Y) (put A (suc k) v) → UserMoved n X Y A e k p' q v
  shadow_out v b i = record { rear = e; grew = inl refl; inv = subst (λ p. Inv n e (X ++ (cells p (suc k) v.car ++ Y)) (put A (suc k) v)) (sym b) i }

  -- a car of the train has a cell before the turn
  live_in : (p : Phase) (a : Car) → (kind a ≡ gap → ⊥) → Come p → Inv n e (X ++ (cells p k a ++ Y)) A → Inv n e (X ++ (cell k a ∷ Y)) A
  live_in p a real runs i = subst (λ C. Inv n e (X ++ (C ++ Y)) A) (live_cell p k a runs real) i

  -- and one after it
  live_out : {p' q : Phase} (v : Node) (rear : ℕ) → (kind v.car ≡ gap → ⊥) → Come p' → (rear ≡ e) ⊎ (q ≡ after)
      → Inv n rear (X ++ (cell (suc k) v.car ∷ Y)) (put A (suc k) v) → UserMoved n X Y A e k p' q v
  live_out {p'} v rear real runs grew i =
      record { rear = rear; grew = grew; inv = subst (λ C. Inv n rear (X ++ (C ++ Y)) (put A (suc k) v)) (sym (live_cell p' (suc k) v.car runs real)) i }

  -- no gate in the whole list, where the rules are ring rules
  no_gates : (C : List Cell) → Gateless C → (multiring m ≡ true) ⊎ Gateless (X ++ (C ++ Y))
  no_gates C g = ⊎_elim (λ multi. inl multi) (λ z. inr (gates_join (λ lo hi. ⊥) X (C ++ Y) z.0 (gates_join (λ lo hi. ⊥) C Y g z.1))) mode

  -- where a node that the train is at gets a gap, the train has passed the place before it
  at_rear : {p' p q : Phase} → Arrived p' p gap u.flag q → u.flag ≡ true → (p' ≡ after) × (p ≡ after) × (q ≡ after)
  at_rear (as_shadow a b c) f = absurd (true≢false (sym f ∙ c))
  at_rear (as_gap a b c d) f = (b, c, d)
  at_rear (as_token a b c) f = absurd (true≢false (cc))
  at_rear (as_car a b c d) f = absurd (true≢false (cc))

  -- a car that is no shadow is a car of the train
  live_at : {p' p q : Phase} → Arrived p' p car u.flag q → Come p ⊎ (u.flag ≡ true) → (Come p') × (Come p)
  live_at (as_shadow a b c) f = ⊎_elim (λ z. absurd (z b)) (λ z. absurd (true≢false (sym z ∙ c))) f
  live_at (as_gap a b c d) f = absurd (true≢false (cc))
  live_at (as_token a b c) f = absurd (true≢false (cc))
  live_at (as_car a b c d) f = (c, d)

  -- a request added where the train has passed
  add_here : {p' p q : Phase} (c : Car) (act : Activity) → (kind c ≡ gap → ⊥) → request c ≡ asks act (suc k) → waits u.activity ≡ false
      → ((lock : ℕ) → Names act lock → Names u.activity lock) → (p ≡ after → Bare Y) → (q ≡ after → u.flag ≡ true → e ≤ suc k) → u.flag ≡ true
      → (p' ≡ after) × (p ≡ after) × (q ≡ after) → Inv n e (X ++ (cells p k Idle ++ Y)) A
      → UserMoved n X Y A e k p' q (becomes u c act u.held u.letting)
  unfolding becomes
  add_here c act real r calm names bare rear f z i =
      live_out (becomes u c act u.held u.letting) (suc k) real (subst Come (sym z.0) come_after) (inr z.2)
      (adds x c act r calm names (bare z.1) (rear z.2 f) (subst (λ p. Inv n e (X ++ (cells p k Idle ++ Y)) A) z.1 i))

  -- a car that passes, however it stands
  pass_here : {p' p q : Phase} (a : Car) → NotOwn (suc k) a → ((t : Tag) → a ≡ Reqp t → u.flag ≡ true → had u t.lock ≡ false)
      → Arrived p' p (kind a) u.flag q → Inv n e (X ++ (cells p k a ++ Y)) A → UserMoved n X Y A e k p' q (becomes u a u.activity u.held u.letting)
  unfolding becomes
  pass_here a other free (as_shadow b c f) i = shadow_out _ b (alike x (X ++ Y) a (shadow_in a c i))
  pass_here {p'} {p} {q} a other free (as_gap g b c d) i =
      record {
        rear = e;
        grew = inl refl;
        inv = subst (λ C. Inv n e (X ++ (C ++ Y)) (put A (suc k) (becomes u a u.activity u.held u.letting))) (sym (gap_cells p' (suc k) a g))
            (alike x (X ++ Y) a (subst (λ C. Inv n e (X ++ (C ++ Y)) A) (gap_cells p k a g) i));
      }
  pass_here {p'} {p} {q} a other free (as_token g b c) i =
      let real : kind a ≡ gap → ⊥ = λ z. true≢false (cc) in
      let i₁ = live_in p a real c i in
      live_out _ e real b (inl refl)
      (alike x (X ++ (cell (suc k) a ∷ Y)) a
      (goes n X Y (pass_on x a other (λ t r. absurd (no_token t (sym g ∙ ap kind r))) (here x a i₁)) i₁))
    where
      no_token : (t : Tag) → token ≡ kind (Reqp t) → ⊥
      no_token t z = true≢false (cc)
  pass_here {p'} {p} {q} a other free (as_car g f b c) i =
      let real : kind a ≡ gap → ⊥ = λ z. true≢false (cc) in
      let i₁ = live_in p a real c i in
      live_out _ e real b (inl refl)
      (alike x (X ++ (cell (suc k) a ∷ Y)) a
      (goes n X Y (pass_on x a other (λ t r. free t r f) (here x a i₁)) i₁))

  -- a lock lost, however the dov stands
  lose_here : {p' p q : Phase} (t : Tag) → (t.source ≡ suc k → ⊥) → has u.held t.lock ≡ true
      → Arrived p' p car u.flag q → Inv n e (X ++ (cells p k (Dov t) ++ Y)) A
      → UserMoved n X Y A e k p' q (becomes u (Dov t) u.activity (without_lock u.held t.lock) (let_go m u.letting t.lock))
  unfolding becomes
  lose_here t other h (as_shadow b c f) i = shadow_out _ b (loses x m (X ++ Y) t h (no_gates [] tt) (shadow_in (Dov t) c i))
  lose_here t other h (as_gap a b c d) i = absurd (true≢false (cc))
  lose_here t other h (as_token a b c) i = absurd (true≢false (cc))
  lose_here {p'} {p} {q} t other h (as_car a f b c) i =
      let real : car ≡ gap → ⊥ = λ z. true≢false (cc) in
      let i₁ = live_in p (Dov t) real c i in
      live_out _ e real b (inl refl)
      (loses x m (X ++ (cell (suc k) (Dov t) ∷ Y)) t h (no_gates (cell (suc k) (Dov t) ∷ []) tt)
      (goes n X Y (pass_on x (Dov t) (λ act r. other (cc)) (λ t' r. (cc)) (here x (Dov t) i₁)) i₁))

  -- a node's turn keeps the invariant, by its rule and by how the car stands
  pub user_turn : {p' p q : Phase} {a : Car} {v : Node} {event : Option Event} → Turned m (suc k) u a v event → Arrived p' p (kind a) u.flag q
      → (p ≡ before → NotOwn (suc k) a) → (p ≡ after → Bare Y) → (q ≡ after → u.flag ≡ true → e ≤ suc k)
      → Inv n e (X ++ (cells p k a ++ Y)) A → UserMoved n X Y A e k p' q v
  unfolding becomes grant_car
  user_turn (sends_reqp lock f w) r clean bare rear i =
      add_here (Reqp (record { lock = lock; source = suc k })) (WaitingReqp lock) (λ z. true≢false (cc)) refl (ap waits w)
      (λ l h. subst (λ z. Names z l) (sym w) h) bare rear f (at_rear r f) i
  user_turn (sends_dov lock f w) r clean bare rear i =
      add_here (Dov (record { lock = lock; source = suc k })) (WaitingDov lock) (λ z. true≢false (cc)) refl (ap waits w)
      (λ l h. subst (λ z. Names z l) (sym w) h) bare rear f (at_rear r f) i
  user_turn (sends_didv lock f w) r clean bare rear i =
      let z = at_rear r f in
      live_out _ (suc k) (λ z. true≢false (cc)) (subst Come (sym z.0) come_after) (inr z.2)
      (tells x lock w (bare z.1) (rear z.2 f) (subst (λ p. Inv n e (X ++ (cells p k Idle ++ Y)) A) z.1 i))
  user_turn {p = p} (own_reqp t own) r clean bare rear i =
      let z = live_at r (inl (λ b. clean b (WaitingReqp t.lock) (ap (asks (WaitingReqp t.lock)) own))) in
      live_out _ e (grant_real (multiring m)) z.0 (inl refl) (gets x m t own mode (live_in p (Reqp t) (λ z. true≢false (cc)) z.1 i))
    where
      grant_real : (b : Bool) → kind (cond b (Gotp (record { lock = t.lock; source = suc k })) Null) ≡ gap → ⊥
      grant_real true e = true≢false (cc)
      grant_real false e = true≢false (cc)
  user_turn {p = p} (own_failp t own) r clean bare rear i =
      let z = live_at r (inl (λ b. clean b (WaitingReqp t.lock) (ap (asks (WaitingReqp t.lock)) own))) in
      live_out _ e (λ z. true≢false (cc)) z.0 (inl refl)
      (comes_back x (Failp t) (WaitingReqp t.lock) (ap (asks (WaitingReqp t.lock)) own) (λ lo hi lock b. refl)
      (live_in p (Failp t) (λ z. true≢false (cc)) z.1 i))
  user_turn {p = p} (fails_reqp t other f) r clean bare rear i =
      let z = live_at r (inr f) in
      live_out _ e (λ z. true≢false (cc)) z.0 (inl refl)
      (alike x (X ++ (cell (suc k) (Failp t) ∷ Y)) (Failp t)
      (goes n X Y (fail_on x t other) (live_in p (Reqp t) (λ z. true≢false (cc)) z.1 i)))
  user_turn {p = p} (own_dov t own) r clean bare rear i =
      let z = live_at r (inl (λ b. clean b (WaitingDov t.lock) (ap (asks (WaitingDov t.lock)) own))) in
      live_out _ e (λ z. true≢false (cc)) z.0 (inl refl)
      (comes_back x (Dov t) (WaitingDov t.lock) (ap (asks (WaitingDov t.lock)) own) (λ lo hi lock b. refl)
      (live_in p (Dov t) (λ z. true≢false (cc)) z.1 i))
  user_turn (loses_lock t other h) r clean bare rear i = lose_here t other h r i
  user_turn (passes a other free) r clean bare rear i = pass_here a other free r i
