-- The whole ring fits: the zero node with its queue, and the line. The queue's front part is what the zero node still has to send on this train
-- (the tail); behind it, where the token is back, stand the token and the cars collected for the next one.
use Prim.Native.Nat.{ℕ, ◌+◌, ◌≤◌}
use mathlib.Core.Path.{◌≡◌, refl, sym, ap, ◌∙◌, subst, subst₂}
use mathlib.Core.Bool.{Bool, true, false}
use mathlib.Core.Logic.{◌⊎◌, inl, inr, ⊎_elim}
use mathlib.Core.List.{List, [], ◌∷◌, ◌++◌, append-nil, append_assoc}
use native.Mathlib.Omega.{arith}
use Rattle.cars.specs.Cars.{multiring}
use Rattle.cars.specs.declared.Car.{Car}
use Rattle.cars.specs.declared.Car.TheVariants.{Idle, Token, Null, Reqp, Failp, Dov, Gotp, Didv}
use Rattle.usernode.specs.declared.Node.{Node}
use Rattle.zeronode.specs.Rules.{keeps}
use Rattle.onelock.proofs.Train.Cells.{Cell, cell, at}
use Rattle.onelock.proofs.Train.Invariant.{Inv}
use Rattle.onelock.proofs.Train.CarMoves.{drops, wraps}
use Rattle.onelock.proofs.Train.CellLaws.{at_all, at_gates}
use Rattle.onelock.proofs.Line.Ring.{Line, size, out, step_line, view}
use Rattle.onelock.proofs.Line.Numbers.{Nodes, Cars, Users, Agrees, view_agrees, step_size, step_users}
use Rattle.onelock.proofs.Line.Phases.{Phase, before, inside, after, car, kind, One, passed, Come}
use Rattle.onelock.proofs.Line.PhaseLaws.{same, car_real}
use Rattle.onelock.proofs.Line.Fit.{cells, Fit}
use Rattle.onelock.proofs.Line.FitLaws.{gap_cells, Quiet, quiet, live_cell, come_cells}
use Rattle.onelock.proofs.Node.Rules.{Small, LowNotice}
use Rattle.onelock.proofs.Step.Induction.{line_move}
use Rattle.onelock.proofs.Step.Setting.{Moved}
use Rattle.onelock.proofs.Whole.Zero.{at_more, came_token, came_car, came_gap, came_quiet, first_out, waiting, sent_by, held_up, kept, queue_after}
use Rattle.onelock.proofs.Whole.Zero.{Requests, start_phase, Ends, token_out, token_in, start_there, start_bare, requests_kept, ends_out, ends_in}
use Rattle.onelock.proofs.Whole.Zero.{ends_more, ends_first, ends_back, token_sent, request_sent}

module _ (m n : ℕ) where
  -- the line with its nodes by their numbers: they are n, and under ring rules there is no junction
  pub record Ring (l : Line) : Type 0 where
    pub nodes : ℕ → Node
    pub agrees : Agrees nodes 0 l
    pub total : size l ≡ n
    pub mode : (multiring m ≡ true) ⊎ Users l

  -- the whole ring fits: the car z that the zero node sends, its queue, and the line
  pub record Whole (z : Car) (queue : List Car) (l : Line) : Type 0 where
    pub tail : List Car
    pub rest : List Car
    pub split : queue ≡ tail ++ rest
    pub asking : Requests tail
    pub flag : Bool
    pub first : Phase
    pub sent : One false (start_phase tail) (kind z) flag first
    pub last : Phase
    pub front : List Cell
    pub fit : Fit false 0 n first 0 l last front
    pub ends : Ends last rest
    pub ring : Ring l
    pub rear : ℕ
    pub inv : Inv n rear (at n rest ++ (front ++ (cells (start_phase tail) 0 z ++ at 0 tail))) ring.nodes

  -- the queue's rear part after the zero node has appended the arrival, or dropped it
  record Appended (p : Phase) (rest : List Car) (e : ℕ) (R : List Cell) (A : ℕ → Node) : Type 0 where
    ends : Ends p rest
    inv : Inv n e (at n rest ++ R) A

  module _ (rest : List Car) {p o : Phase} {f : Bool} {e : ℕ} (R : List Cell) {A : ℕ → Node} (ends : Ends o rest) where
    -- the arrival is a request: it is appended
    takes : (y : Car) → kind y ≡ car → keeps y ≡ true → One false p (kind y) f o → Inv n e (at n rest ++ (cells p n y ++ R)) A
        → Appended p (rest ++ kept y) e R A
    takes y k keep one i =
        let c = came_car (subst (λ x. One false p x f o) k one) in
        let kept_one : kept y ≡ y ∷ [] = rw keep in
        subst (λ q. Appended p (rest ++ q) e R A) (sym kept_one)
        (record {
          ends = ends_more y k keep c.0 ends c.1;
          inv = subst (λ T. Inv n e T A) (sym (at_more n rest y R)) (subst (λ C. Inv n e (at n rest ++ (C ++ R)) A) (live_cell p n y c.0 (car_real k)) i);
        })

    -- the arrival is a car that the zero node does not keep
    leaves : (y : Car) → kind y ≡ car → keeps y ≡ false → One false p (kind y) f o → Inv n e (at n rest ++ (cells p n y ++ R)) A
        → Appended p (rest ++ kept y) e R A
    leaves y k keep one i =
        let c = came_car (subst (λ x. One false p x f o) k one) in
        let kept_none : kept y ≡ [] = rw keep in
        subst (λ q. Appended p q e R A) (sym (ap (λ (q : List Car). rest ++ q) kept_none ∙ append-nil rest))
        (record {
          ends = ends_in c.0 ends c.1;
          inv = drops n (at n rest) R n y (at_gates (λ lo hi. ⊥) n rest)
              (subst (λ C. Inv n e (at n rest ++ (C ++ R)) A) (live_cell p n y c.0 (car_real k)) i);
        })

    -- whatever the arrival is
    appends : (y : Car) → One false p (kind y) f o → Inv n e (at n rest ++ (cells p n y ++ R)) A → Appended p (rest ++ kept y) e R A
    unfolding keeps
    appends Idle one i =
        subst (λ q. Appended p q e R A) (sym (append-nil rest))
        (record {
          ends = subst (λ x. Ends x rest) (sym (came_gap one)) ends;
          inv = subst (λ C. Inv n e (at n rest ++ (C ++ R)) A) (gap_cells p n Idle refl) i;
        })
    appends Token one i =
        let c = came_token one in
        subst (λ q. Appended p (q ++ (Token ∷ [])) e R A) (sym (ends_out ends c.1))
        (record {
          ends = token_in c.0 tt;
          inv = subst₂ (λ q C. Inv n e (at n q ++ (C ++ R)) A) (ends_out ends c.1) (come_cells p n Token c.0) i;
        })
    appends Null one i = leaves Null refl refl one i
    appends (Reqp t) one i = takes (Reqp t) refl refl one i
    appends (Failp t) one i = takes (Failp t) refl refl one i
    appends (Dov t) one i = takes (Dov t) refl refl one i
    appends (Gotp t) one i = leaves (Gotp t) refl refl one i
    appends (Didv t) one i = leaves (Didv t) refl refl one i

  -- the line has taken its step, and the zero node has its turn still to take: its queue is tail ++ rest, its arrival y
  record Came (tail rest : List Car) (y : Car) (l : Line) : Type 0 where
    asking : Requests tail
    phase : Phase
    flag : Bool
    old : Phase
    last : One false phase (kind y) flag old
    ends : Ends old rest
    front : List Cell
    fit : Fit false 0 n (start_phase tail) 0 l phase front
    ring : Ring l
    rear : ℕ
    inv : Inv n rear (at n rest ++ (cells phase n y ++ (front ++ at 0 tail))) ring.nodes

  -- the line's step
  came : (z : Car) (queue : List Car) (l : Line) → Nodes Small l → Cars LowNotice l → (x : Whole z queue l)
      → Came x.tail x.rest (out z l) (step_line m false 0 z l)
  came z queue l small cars x =
      record {
        asking = x.asking;
        phase = v.phase;
        flag = v.flag;
        old = x.last;
        last = v.last;
        ends = x.ends;
        front = v.front;
        fit = v.fit;
        ring = record {
          nodes = new;
          agrees = view_agrees x.ring.nodes 0 (step_line m false 0 z l);
          total = step_size m false 0 z l ∙ x.ring.total;
          mode = ⊎_elim (λ e. inl e) (λ u. inr (step_users m false 0 z l u)) x.ring.mode;
        };
        rear = v.rear;
        inv = subst (λ k. Inv n v.rear (at n x.rest ++ (cells v.phase k (out z l) ++ (v.front ++ at 0 x.tail))) new) whole v.inv;
      }
    where
      new : ℕ → Node
      new = view 0 (step_line m false 0 z l) x.ring.nodes

      whole : 0 + size l ≡ n
      whole = omega (arith, x.ring.total)

      v : Moved m n false 0 n (start_phase x.tail) x.first 0 z l x.last (at n x.rest) (at 0 x.tail) x.rear x.ring.nodes
      v =
          line_move m n z l x.front (at n x.rest) (at 0 x.tail) same x.sent x.fit
          (record {
            low = omega arith;
            high = omega arith;
            top = omega arith;
            agrees = x.ring.agrees;
            small = small;
            cars = cars;
            clean = λ b act s r low high. start_there x.tail b;
            ahead = at_all (λ p c. 0 + size l ≤ p) n (λ c. omega arith) x.rest;
            behind = at_all (λ p c. p ≤ 0) 0 (λ c. omega arith) x.tail;
            gates = at_gates (λ lo hi. hi ≤ 0) 0 x.tail;
            bare = start_bare x.tail;
            mode = ⊎_elim (λ e. inl e) (λ u. inr (u, at_gates (λ lo hi. ⊥) n x.rest, at_gates (λ lo hi. ⊥) 0 x.tail)) x.ring.mode;
          }) x.inv

  -- (a) the token goes out again, and the collected cars behind it
  sends_token : (collected : List Car) (l : Line) → Came [] (Token ∷ collected) Idle l → Whole Token (collected ++ []) l
  unfolding keeps
  sends_token collected l x =
      record {
        tail = collected;
        rest = [];
        split = refl;
        asking = back.1;
        flag = true;
        first = before;
        sent = token_sent collected;
        last = before;
        front = x.front;
        fit = still.ahead false;
        ends = token_out;
        ring = x.ring;
        rear = 0;
        inv =
            subst (λ C. Inv n 0 (x.front ++ (C ++ at 0 collected)) x.ring.nodes)
            (sym (come_cells (start_phase collected) 0 Token (start_there collected)))
            (wraps n (Token ∷ collected) x.front still.bare (refl, requests_kept collected back.1) all_in);
      }
    where
      back : Come x.old × Requests collected
      back = ends_back x.ends

      still : Quiet 0 n after 0 l x.front
      still = quiet x.fit (came_quiet x.last back.0)

      all_in : Inv n x.rear (at n (Token ∷ collected) ++ x.front) x.ring.nodes
      all_in =
          subst₂ (λ C G. Inv n x.rear (at n (Token ∷ collected) ++ (C ++ G)) x.ring.nodes) (gap_cells x.phase n Idle refl) (append-nil x.front)
          x.inv

  -- (b) the first request goes out
  sends_head : (c : Car) (tail rest : List Car) (y : Car) (l : Line) → Came (c ∷ tail) rest y l → Whole c (tail ++ (rest ++ kept y)) l
  sends_head c tail rest y l x =
      record {
        tail = tail;
        rest = rest ++ kept y;
        split = refl;
        asking = x.asking.2;
        flag = true;
        first = inside;
        sent = subst (λ k. One false (start_phase tail) k true inside) (sym x.asking.0) (request_sent tail);
        last = x.phase;
        front = x.front;
        fit = x.fit;
        ends = after_it.ends;
        ring = x.ring;
        rear = x.rear;
        inv = subst (λ C. Inv n x.rear (at n (rest ++ kept y) ++ (x.front ++ (C ++ at 0 tail))) x.ring.nodes) (sym there)
            after_it.inv;
      }
    where
      after_it : Appended x.phase (rest ++ kept y) x.rear (x.front ++ at 0 (c ∷ tail)) x.ring.nodes
      after_it = appends rest (x.front ++ at 0 (c ∷ tail)) x.ends y x.last x.inv

      there : cells (start_phase tail) 0 c ≡ cell 0 c ∷ []
      there = live_cell (start_phase tail) 0 c (start_there tail) (car_real x.asking.0)

  -- (c) nothing goes out
  sends_idle : (rest : List Car) (y : Car) (l : Line) → Came [] rest y l → Whole Idle (rest ++ kept y) l
  sends_idle rest y l x =
      record {
        tail = [];
        rest = rest ++ kept y;
        split = refl;
        asking = tt;
        flag = false;
        first = after;
        sent = passed;
        last = x.phase;
        front = x.front;
        fit = x.fit;
        ends = after_it.ends;
        ring = x.ring;
        rear = x.rear;
        inv = after_it.inv;
      }
    where
      after_it : Appended x.phase (rest ++ kept y) x.rear (x.front ++ []) x.ring.nodes
      after_it = appends rest (x.front ++ []) x.ends y x.last x.inv

  -- the token is the first of the queue: it waits for idle
  sends_rear : (collected : List Car) (y : Car) (l : Line) → Came [] (Token ∷ collected) y l → Whole (waiting y) (held_up y collected ++ kept y) l
  unfolding keeps
  sends_rear cs Idle l x = sends_token cs l x
  sends_rear cs Token l x = sends_idle (Token ∷ cs) Token l x
  sends_rear cs Null l x = sends_idle (Token ∷ cs) Null l x
  sends_rear cs (Reqp t) l x = sends_idle (Token ∷ cs) (Reqp t) l x
  sends_rear cs (Failp t) l x = sends_idle (Token ∷ cs) (Failp t) l x
  sends_rear cs (Dov t) l x = sends_idle (Token ∷ cs) (Dov t) l x
  sends_rear cs (Gotp t) l x = sends_idle (Token ∷ cs) (Gotp t) l x
  sends_rear cs (Didv t) l x = sends_idle (Token ∷ cs) (Didv t) l x

  -- the zero node's turn
  sends : (tail rest : List Car) (y : Car) (l : Line) → Came tail rest y l → Whole (sent_by (tail ++ rest) y) (queue_after (tail ++ rest) y) l
  sends [] [] y l x = sends_idle [] y l x
  sends [] (c ∷ rest) y l x =
      let first : c ≡ Token = ends_first x.ends in
      subst (λ d. Whole (sent_by (d ∷ rest) y) (queue_after (d ∷ rest) y) l) (sym first) (sends_rear rest y l (subst (λ d. Came [] (d ∷ rest) y l) first x))
  sends (c ∷ tail) rest y l x =
      let out-of-it = first_out c (tail ++ rest) y x.asking.0 in
      subst₂ (λ s q. Whole s q l) (sym out-of-it.0) (sym (ap (λ (q : List Car). q ++ kept y) out-of-it.1 ∙ append_assoc tail rest (kept y)))
      (sends_head c tail rest y l x)

  -- one step of the whole ring
  pub whole_step : (z : Car) (queue : List Car) (l : Line) → Nodes Small l → Cars LowNotice l → Whole z queue l
      → Whole (sent_by queue (out z l)) (queue_after queue (out z l)) (step_line m false 0 z l)
  whole_step z queue l small cars x =
      subst (λ q. Whole (sent_by q (out z l)) (queue_after q (out z l)) (step_line m false 0 z l)) (sym x.split)
      (sends x.tail x.rest (out z l) (step_line m false 0 z l) (came z queue l small cars x))
