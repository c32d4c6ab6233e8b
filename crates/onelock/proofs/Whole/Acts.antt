-- An accepted action keeps the whole ring fit: one node changes, between two steps. It sends the same car with the same flag, and as it was idle no
-- request of the train is its own.
use Prim.Native.Nat.{ℕ, suc, ◌+◌, ◌≤◌}
use mathlib.Core.Path.{◌≡◌, refl, sym, ap, ap₂, ◌∙◌, subst, subst₂}
use mathlib.Core.Bool.{Bool, true, false, cond, not, true≢false, ◌&&◌, ◌||◌}
use mathlib.Core.Logic.{◌⊎◌, inl, inr, ⊎_elim}
use mathlib.Core.List.{List, ◌++◌}
use native.Mathlib.Omega.{arith}
use lib.Dec.{eqb}
use borrow.Author.Tests.{eqb-true}
use Rattle.words.specs.Words.{has}
use Rattle.cars.specs.Cars.{multiring}
use Rattle.cars.specs.declared.Car.{Car}
use Rattle.usernode.specs.declared.Node.{Node}
use Rattle.usernode.specs.declared.Activity.{Activity}
use Rattle.usernode.specs.declared.Activity.TheVariants.{Idle as Resting, ToSendReqp, WaitingReqp, ToSendDov, WaitingDov}
use Rattle.usernode.specs.Node.{had, is_idle}
use Rattle.acts.specs.declared.Action.{Action}
use Rattle.acts.specs.declared.Action.TheVariants.{Take, Release, Force}
use Rattle.acts.specs.Actions.{wish_number, release_number, later_number, needs_idle, node_number, busy_with, released, acted}
use Rattle.lists.proofs.Tests.{by_test}
use Rattle.onelock.proofs.Train.Cells.{Cell, Gateless, Names, at}
use Rattle.onelock.proofs.Train.Invariant.{Inv}
use Rattle.onelock.proofs.Train.CellLaws.{all_map, gates_join, at_gates}
use Rattle.onelock.proofs.Train.NodeMoves.{Serves, same_had}
use Rattle.onelock.proofs.Train.Nodes.{put}
use Rattle.onelock.proofs.Line.Ring.{Line, end, user, junction, size, change}
use Rattle.onelock.proofs.Line.Numbers.{Nodes, Users, Agrees, node_at}
use Rattle.onelock.proofs.Line.Phases.{Phase, kind, One}
use Rattle.onelock.proofs.Line.Fit.{cells, Clean, waits, NoWait, Fit, f_end, f_user, f_past, f_tour}
use Rattle.onelock.proofs.Line.FitLaws.{cells_gates, past-at, tour_at, asks_waits, fit_gateless}
use Rattle.onelock.proofs.Node.Rules.{Small}
use Rattle.onelock.proofs.Node.Moves.{gives_up}
use Rattle.onelock.proofs.Whole.Zero.{start_phase}
use Rattle.onelock.proofs.Whole.Step.{Whole}

-- a line in which one node changes has its size
size_change : (q : ℕ) (f : Node → Node) (k : ℕ) (l : Line) → size (change q f k l) ≡ size l
size_change q f k end = refl
size_change q f k (user u r) = ap suc (size_change q f (suc k) r)
size_change q f k (junction j s r) = ap₂ ◌+◌ (size_change q f k s) (size_change q f (k + size s) r)

-- a line in which one node changes has no junction where it had none
users_change : (q : ℕ) (f : Node → Node) (k : ℕ) (l : Line) → Users l → Users (change q f k l)
users_change q f k end x = tt
users_change q f k (user u r) x = users_change q f (suc k) r x
users_change q f k (junction j s r) x = x

-- that node put anew, at any number
put_change : (A : ℕ → Node) (q : ℕ) (f : Node → Node) (i : ℕ) (u : Node) → A i ≡ u → put A q (f (A q)) i ≡ cond (eqb i q) (f u) u
put_change A q f i u e = go (eqb i q) refl
  where
    go : (b : Bool) → eqb i q ≡ b → cond b (f (A q)) (A i) ≡ cond b (f u) u
    go true z = ap f (ap A (sym (eqb-true i q z)) ∙ e)
    go false z = e

-- so the numbering with that node put anew agrees with the line
agrees_change : (A : ℕ → Node) (q : ℕ) (f : Node → Node) (k : ℕ) (l : Line) → Agrees A k l → Agrees (put A q (f (A q))) k (change q f k l)
agrees_change A q f k end x = tt
agrees_change A q f k (user u r) x = (put_change A q f (suc k) u x.0, agrees_change A q f (suc k) r x.1)
agrees_change A q f k (junction j s r) x = (
  agrees_change A q f k s x.0,
  subst (λ i. Agrees (put A q (f (A q))) (k + i) (change q f (k + size s) r)) (sym (size_change q f k s)) (agrees_change A q f (k + size s) r x.1),
)

-- a user's line fits where another node sends the same
user_at : {p q o : Phase} {w : Bool} {lo hi k : ℕ} {r : Line} {G : List Cell} (u v : Node) → v.car ≡ u.car → v.flag ≡ u.flag
    → One w p (kind u.car) u.flag q → Clean lo hi p u.car → Fit w lo hi q (suc k) r o G → Fit w lo hi p k (user v r) o (G ++ cells p (suc k) u.car)
user_at {p} {q} {o} {w} {lo} {hi} {k} {r} {G} u v e d one clean rest =
    subst (λ c. Fit w lo hi p k (user v r) o (G ++ cells p (suc k) c)) e
    (f_user (subst₂ (λ c f. One w p (kind c) f q) (sym e) (sym d) one) (subst (Clean lo hi p) (sym e) clean) rest)

-- a line fits with one node changed that sends the same, and waits for nothing where it waited for nothing
module _ (q : ℕ) (f : Node → Node) (same-car : (u : Node) → (f u).car ≡ u.car) (same_flag : (u : Node) → (f u).flag ≡ u.flag)
    (calm : (u : Node) → waits u.activity ≡ false → waits (f u).activity ≡ false) where
  -- it waits for nothing where it waited for nothing
  nowait_change : (k : ℕ) (l : Line) → NoWait l → NoWait (change q f k l)
  nowait_change k end x = tt
  nowait_change k (user u r) x =
      (by_test (λ (v : Node). waits v.activity ≡ false) (eqb (suc k) q) (λ e. calm u x.0) (λ e. x.0), nowait_change (suc k) r x.1)
  nowait_change k (junction j s r) x = (nowait_change k s x.0, nowait_change (k + size s) r x.1)

  -- each node sends the same car
  changed_car : (b : Bool) (u : Node) → (cond b (f u) u).car ≡ u.car
  changed_car true u = same-car u
  changed_car false u = refl

  -- each node has the same flag
  changed_flag : (b : Bool) (u : Node) → (cond b (f u) u).flag ≡ u.flag
  changed_flag true u = same_flag u
  changed_flag false u = refl

  -- so the line fits
  fit_change : {w : Bool} {lo hi k : ℕ} {p o : Phase} {l : Line} {G : List Cell} → Fit w lo hi p k l o G → Fit w lo hi p k (change q f k l) o G
  fit_change f_end = f_end
  fit_change (f_user {k = k} {u = u} one clean rest) =
      user_at u (cond (eqb (suc k) q) (f u) u) (changed_car (eqb (suc k) q) u) (changed_flag (eqb (suc k) q) u) one clean (fit_change rest)
  fit_change (f_past {k = k} {s = s} tour train sub clean_sub inner still main clean rest) =
      past-at (k + size s) (ap (λ (i : ℕ). k + i) (size_change q f k s)) tour train sub clean_sub (fit_change inner)
      (λ e. nowait_change k s (still e)) main clean
      (fit_change rest)
  fit_change (f_tour {k = k} {s = s} tour live sub inner out main rest) =
      tour_at (k + size s) (ap (λ (i : ℕ). k + i) (size_change q f k s)) tour live sub (fit_change inner) out main (fit_change rest)

-- a node sends the same after an action, and does not wait where it did not wait
module _ (m lock : ℕ) where
  -- an action leaves the car that a node sends
  act_car : (action : Action) (u : Node) → (acted m action u lock).car ≡ u.car
  unfolding acted busy_with released
  act_car Take u = refl
  act_car Release u = refl
  act_car Force u = refl

  -- an action leaves the flag of a node
  pub act_flag : (action : Action) (u : Node) → (acted m action u lock).flag ≡ u.flag
  unfolding acted busy_with released
  act_flag Take u = refl
  act_flag Release u = refl
  act_flag Force u = refl

  -- a node that does not wait does not come to wait by an action
  act_calm : (action : Action) (u : Node) → waits u.activity ≡ false → waits (acted m action u lock).activity ≡ false
  unfolding acted busy_with released
  act_calm Take u e = refl
  act_calm Release u e = e
  act_calm Force u e = refl

-- the idle activity is the only one of its kind
idle_only : (act : Activity) → is_idle act ≡ true → act ≡ Resting
unfolding is_idle
idle_only Resting e = refl
idle_only (ToSendReqp lock) e = cc
idle_only (WaitingReqp lock) e = cc
idle_only (ToSendDov lock) e = cc
idle_only (WaitingDov lock) e = cc

-- so where an accepted action needs an idle activity its node rests
accepted_rests : (m : ℕ) (action : Action) (u : Node) (lock : ℕ) → needs_idle m action ≡ true → node_number m action u lock ≡ 0 → u.activity ≡ Resting
unfolding node_number
accepted_rests m action u lock needs e = idle_only u.activity (go (is_idle u.activity) (needs_idle m action) needs e)
  where
    go : (idle need : Bool) → need ≡ true → cond (not idle && need) 9 (later_number action u lock) ≡ 0 → idle ≡ true
    go true need n z = refl
    go false true n z = absurd (omega arith)
    go false false n z = n

-- and of every accepted action the later tests pass
pub accepted_later : (m : ℕ) (action : Action) (u : Node) (lock : ℕ) → node_number m action u lock ≡ 0 → later_number action u lock ≡ 0
unfolding node_number
accepted_later m action u lock = go (not (is_idle u.activity) && needs_idle m action)
  where
    go : (b : Bool) → cond b 9 (later_number action u lock) ≡ 0 → later_number action u lock ≡ 0
    go true z = absurd (omega arith)
    go false z = z

-- a node may ask only for a lock that it has not
wish_free : (u : Node) (lock : ℕ) → wish_number u lock ≡ 0 → had u lock ≡ false
unfolding wish_number had
wish_free u lock = go (has u.held lock) (has u.letting lock)
  where
    go : (a b : Bool) → ◌≡◌ {A = ℕ} (cond a 10 (cond b 11 0)) 0 → (a || b) ≡ false
    go true b z = absurd (omega arith)
    go false true z = absurd (omega arith)
    go false false z = refl

-- a node may release only a lock that it holds
pub release_held : (u : Node) (lock : ℕ) → release_number u lock ≡ 0 → has u.held lock ≡ true
unfolding release_number
release_held u lock = go (has u.held lock)
  where
    go : (a : Bool) → ◌≡◌ {A = ℕ} (cond a 0 12) 0 → a ≡ true
    go true z = refl
    go false z = absurd (omega arith)

module _ (n : ℕ) where
  -- an idle node has no request on the train
  idle_serves : (T : List Cell) {A : ℕ → Node} {e : ℕ} (q : ℕ) (v : Node) → (A q).activity ≡ Resting → Inv n e T A → Serves n q v T
  idle_serves T {A} {e} q v idle i =
      all_map T (λ p c o act r. absurd (true≢false (sym (asks_waits c act q r) ∙ ap waits (sym (o.waits act q r) ∙ idle)))) i.all

  -- take and force: the node asks for a lock that it has not
  wish_inv : (T : List Cell) {A : ℕ → Node} {e : ℕ} (q lock : ℕ) (act : Activity) → ((own : ℕ) → Names act own → own ≡ lock) → (A q).activity ≡ Resting
      → wish_number (A q) lock ≡ 0 → Inv n e T A → Inv n e T (put A q (busy_with (A q) act))
  unfolding busy_with had
  wish_inv T {A} q lock act only idle free i =
      same_had n T q (busy_with (A q) act) (λ own. refl) (idle_serves T q (busy_with (A q) act) idle i)
      (record {
        words = (i.apart q).words;
        wish = λ own names. subst (λ k. had (A q) k ≡ false) (sym (only own names)) (wish_free (A q) lock free);
      }) i

  -- an accepted action keeps the invariant
  act_inv : (m : ℕ) (action : Action) (T : List Cell) {A : ℕ → Node} {e : ℕ} (q lock : ℕ) → Small (A q) → node_number m action (A q) lock ≡ 0
      → (multiring m ≡ true) ⊎ Gateless T → Inv n e T A → Inv n e T (put A q (acted m action (A q) lock))
  unfolding acted later_number needs_idle released
  act_inv m Take T {A} q lock small accepted mode i =
      wish_inv T q lock (ToSendReqp lock) (λ own names. sym names) (accepted_rests m Take (A q) lock refl accepted)
      (accepted_later m Take (A q) lock accepted) i
  act_inv m Release T {A} q lock small accepted mode i =
      gives_up n m T q lock (A q) _ refl small (release_held (A q) lock (accepted_later m Release (A q) lock accepted)) refl refl refl mode i
  act_inv m Force T {A} q lock small accepted mode i =
      wish_inv T q lock (ToSendDov lock) (λ own names. sym names) (accepted_rests m Force (A q) lock refl accepted)
      (accepted_later m Force (A q) lock accepted) i

module _ (m n : ℕ) where
  -- under ring rules no gate is on the train
  whole_gateless : (z : Car) (queue : List Car) (l : Line) (x : Whole m n z queue l) → Users l
      → Gateless (at n x.rest ++ (x.front ++ (cells (start_phase x.tail) 0 z ++ at 0 x.tail)))
  whole_gateless z queue l x users =
      gates_join none (at n x.rest) (x.front ++ (sent ++ at 0 x.tail)) (at_gates none n x.rest)
      (gates_join none x.front (sent ++ at 0 x.tail) (fit_gateless users x.fit)
      (gates_join none sent (at 0 x.tail) (cells_gates none (start_phase x.tail) 0 z) (at_gates none 0 x.tail)))
    where
      none : ℕ → ℕ → Type 0
      none lo hi = ⊥

      sent : List Cell
      sent = cells (start_phase x.tail) 0 z

  -- the whole ring fits after an accepted action of node q
  pub whole_act : (action : Action) (q lock : ℕ) (z : Car) (queue : List Car) (l : Line) (x : Whole m n z queue l) → 1 ≤ q → q ≤ n
      → node_number m action (x.ring.nodes q) lock ≡ 0 → Nodes Small l → Whole m n z queue (change q (λ u. acted m action u lock) 0 l)
  whole_act action q lock z queue l x low high accepted small =
      record {
        tail = x.tail;
        rest = x.rest;
        split = x.split;
        asking = x.asking;
        flag = x.flag;
        first = x.first;
        sent = x.sent;
        last = x.last;
        front = x.front;
        fit = fit_change q act (act_car m lock action) (act_flag m lock action) (act_calm m lock action) x.fit;
        ends = x.ends;
        ring = record {
          nodes = put x.ring.nodes q (act (x.ring.nodes q));
          agrees = agrees_change x.ring.nodes q act 0 l x.ring.agrees;
          total = size_change q act 0 l ∙ x.ring.total;
          mode = ⊎_elim (λ multi. inl multi) (λ users. inr (users_change q act 0 l users)) x.ring.mode;
        };
        rear = x.rear;
        inv = act_inv n m action _ q lock (node_at Small x.ring.nodes q 0 l x.ring.agrees small low (omega (arith, x.ring.total))) accepted
            (⊎_elim (λ multi. inl multi) (λ users. inr (whole_gateless z queue l x users)) x.ring.mode) x.inv;
      }
    where
      act : Node → Node
      act u = acted m action u lock
