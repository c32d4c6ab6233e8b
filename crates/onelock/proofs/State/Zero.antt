-- The zero node's turn, seen on its queue as a list of cars.
use Prim.Native.Nat.{ℕ, zero, suc, ◌-◌, ◌≤◌, ◌<◌}
use mathlib.Core.Path.{◌≡◌, refl, ◌∙◌, sym, ap}
use mathlib.Core.Bool.{Bool, true, false, cond, ◌&&◌}
use mathlib.Core.List.{List, [], ◌∷◌, ◌++◌, append-nil}
use native.Mathlib.Numerals.{add-one}
use native.Mathlib.Omega.{arith}
use lib.Dec.{ltb, leb, eqb-suc-zero}
use lib.ListN.{take, length, length-append, length-drop, length-set}
use lib.Seq.{take_at, length-take-le, take-suc-set}
use borrow.Author.Tests.{leb-false, lt-ltb, le-leb, lt-leb}
use Rattle.cars.specs.declared.Car.{Car}
use Rattle.cars.specs.declared.Car.TheVariants.{Idle, Token, Null, Reqp, Failp, Dov, Gotp, Didv}
use Rattle.zeronode.specs.declared.ZeroNode.{ZeroNode}
use Rattle.zeronode.specs.declared.ZeroRule.{ZeroRule}
use Rattle.zeronode.specs.declared.ZeroRule.TheVariants.{SendsIdle, SendsToken, SendsHead}
use Rattle.zeronode.specs.Rules.{on_token, on_head, zero_rule, keeps}
use Rattle.zeronode.specs.Turn.{shifted, head_off, sends, appended, arrives, zero_turn, count_left, overflows}
use Rattle.onelock.proofs.Whole.Zero.{sent_by, left_by, kept, queue_after}
use Rattle.onelock.proofs.State.AsLine.{queue_of}

-- the queue has its count of cars
pub queue_length : (z : ZeroNode) → z.count ≤ length z.queue → length (queue_of z) ≡ z.count
queue_length z c = length-take-le z.count z.queue c

-- the zero node as it sends: its queue is one of 65 places, it sends this car and has these cars left
record Sends (z x : ZeroNode) (y : Car) : Type 0 where
  car : x.car ≡ sent_by (queue_of z) y
  left : queue_of x ≡ left_by (queue_of z) y
  places : length x.queue ≡ 65
  most : x.count ≤ 65

-- the head taken off a queue leaves its places
shifted-length : (first : Car) (cars : List Car) (c : ℕ) → c ≤ length cars → length (shifted (first ∷ cars) (suc c)) ≡ suc (length cars)
unfolding shifted
shifted-length first cars c h =
    let e : suc c - 1 ≡ c = omega arith in
    rw (e, length-append) (omega (arith, length-take-le c cars h, length-drop c cars))

-- the queue then has the cars behind the head
shifted_queue : (first : Car) (cars : List Car) (c : ℕ) → c ≤ length cars → take (suc c - 1) (shifted (first ∷ cars) (suc c)) ≡ take c cars
unfolding shifted
shifted_queue first cars c h =
    let e : suc c - 1 ≡ c = omega arith in
    rw e (take_at (take c cars) _ c (length-take-le c cars h))

-- a queue with this head, and behind it these places, of which c are in use
abbrev headed : Car → Car → List Car → ℕ → ZeroNode
headed old head cars c = record { car = old; queue = head ∷ cars; count = suc c }

module _ (old : Car) (cars : List Car) (c : ℕ) (l : length cars ≡ 64) (h : c ≤ 64) where
  -- its head is sent
  head_sent : (head y sent : Car) → sent_by (queue_of (headed old head cars c)) y ≡ sent → left_by (queue_of (headed old head cars c)) y ≡ take c cars
      → Sends (headed old head cars c) (head_off (headed old head cars c) sent) y
  unfolding head_off
  head_sent head y sent s b =
      record {
        car = sym s;
        left = shifted_queue head cars c (omega arith) ∙ sym b;
        places = shifted-length head cars c (omega arith) ∙ ap suc l;
        most = omega arith;
      }

  -- its head, the token, waits
  head_waits : (y : Car) → sent_by (queue_of (headed old Token cars c)) y ≡ Idle
      → left_by (queue_of (headed old Token cars c)) y ≡ queue_of (headed old Token cars c)
      → Sends (headed old Token cars c) (sends (headed old Token cars c) SendsIdle) y
  unfolding sends
  head_waits y s b = record { car = sym s; left = sym b; places = ap suc l; most = omega arith }

  -- what is sent where the token is the head, by the arrival
  sends_token : (y : Car) → Sends (headed old Token cars c) (sends (headed old Token cars c) (on_token y)) y
  unfolding sends on_token
  sends_token Idle = head_sent Token Idle Token refl refl
  sends_token Token = head_waits Token refl refl
  sends_token Null = head_waits Null refl refl
  sends_token (Reqp tag) = head_waits (Reqp tag) refl refl
  sends_token (Failp tag) = head_waits (Failp tag) refl refl
  sends_token (Dov tag) = head_waits (Dov tag) refl refl
  sends_token (Gotp notice) = head_waits (Gotp notice) refl refl
  sends_token (Didv notice) = head_waits (Didv notice) refl refl

  -- what is sent, whatever the head is
  sends_head : (head y : Car) → Sends (headed old head cars c) (sends (headed old head cars c) (on_head head y)) y
  unfolding sends on_head
  sends_head Token y = sends_token y
  sends_head Idle y = head_sent Idle y Idle refl refl
  sends_head Null y = head_sent Null y Null refl refl
  sends_head (Reqp tag) y = head_sent (Reqp tag) y (Reqp tag) refl refl
  sends_head (Failp tag) y = head_sent (Failp tag) y (Failp tag) refl refl
  sends_head (Dov tag) y = head_sent (Dov tag) y (Dov tag) refl refl
  sends_head (Gotp notice) y = head_sent (Gotp notice) y (Gotp notice) refl refl
  sends_head (Didv notice) y = head_sent (Didv notice) y (Didv notice) refl refl

-- so it is with any queue of 65 places
sending : (z : ZeroNode) (y : Car) → length z.queue ≡ 65 → z.count ≤ 65 → Sends z (sends z (zero_rule z y)) y
unfolding zero_rule sends
sending z y l c = go z.car z.queue z.count l c
  where
    go : (old : Car) (queue : List Car) (count : ℕ) → length queue ≡ 65 → count ≤ 65
        → Sends (record { car = old; queue = queue; count = count }) (sends (record { car = old; queue = queue; count = count })
        (zero_rule (record { car = old; queue = queue; count = count }) y)) y
    go old queue zero l c = record { car = refl; left = refl; places = l; most = c }
    go old [] (suc count) l c = absurd (omega arith)
    go old (first ∷ cars) (suc count) l c = rw eqb-suc-zero (sends_head old cars count (omega arith) (omega arith) first y)

-- the count that is left is the model's
count_left_lem : (z : ZeroNode) (rule : ZeroRule) → count_left z rule ≡ (sends z rule).count
unfolding count_left sends head_off
count_left_lem z SendsIdle = refl
count_left_lem z SendsToken = refl
count_left_lem z (SendsHead head) = refl

-- the arrival appended to a queue that has a place for it
record Arrives (x z : ZeroNode) (more : List Car) : Type 0 where
  car : z.car ≡ x.car
  queue : queue_of z ≡ queue_of x ++ more

-- the arrival appended where there is room
append-arrives : (x : ZeroNode) (y : Car) → length x.queue ≡ 65 → x.count < 65 → Arrives x (appended x y) (y ∷ [])
unfolding appended
append-arrives x y l c =
    let room : x.count < length x.queue = omega arith in
    rw (lt-ltb x.count 65 c) (record {
      car = refl;
      queue = rw (add-one, take-suc-set x.queue x.count y room) refl;
    })

-- the arrival appended if it is kept
arriving : (x : ZeroNode) (y : Car) → length x.queue ≡ 65 → x.count ≤ 65 → (keeps y && leb 65 x.count) ≡ false → Arrives x (arrives x y) (kept y)
unfolding arrives
arriving x y l c o = go (keeps y) o
  where
    go : (b : Bool) → (b && leb 65 x.count) ≡ false → Arrives x (cond b (appended x y) x) (cond b (y ∷ []) [])
    go true e = append-arrives x y l (leb-false 65 x.count e)
    go false e = record { car = refl; queue = sym (append-nil (queue_of x)) }

-- the whole turn, with no 66th car
turned : (z : ZeroNode) (y : Car) → length z.queue ≡ 65 → z.count ≤ 65 → overflows z y ≡ false
    → Arrives (sends z (zero_rule z y)) (zero_turn z y) (kept y)
unfolding zero_turn overflows
turned z y l c o =
    let s = sending z y l c in
    rw (le-leb z.count 65 c) (arriving (sends z (zero_rule z y)) y s.places s.most (rw (count_left_lem z (zero_rule z y)) at o))

-- the car that the zero node sends
pub zero_car : (z : ZeroNode) (y : Car) → length z.queue ≡ 65 → z.count ≤ 65 → overflows z y ≡ false → (zero_turn z y).car ≡ sent_by (queue_of z) y
zero_car z y l c o = (turned z y l c o).car ∙ (sending z y l c).car

-- its queue after its turn
pub zero_queue : (z : ZeroNode) (y : Car) → length z.queue ≡ 65 → z.count ≤ 65 → overflows z y ≡ false → queue_of (zero_turn z y) ≡ queue_after (queue_of z) y
zero_queue z y l c o = (turned z y l c o).queue ∙ ap (λ (cs : List Car). cs ++ kept y) (sending z y l c).left

-- there is no 66th car where the queue after the step has at most 65
pub no_overflow : (z : ZeroNode) (y : Car) → length z.queue ≡ 65 → z.count ≤ 65 → length (queue_after (queue_of z) y) ≤ 65 → overflows z y ≡ false
unfolding overflows
no_overflow z y l c o = go (keeps y) o
  where
    go : (b : Bool) → length (left_by (queue_of z) y ++ cond b (y ∷ []) []) ≤ 65 → (b && leb 65 (count_left z (zero_rule z y))) ≡ false
    go true h =
        let s = sending z y l c in
        let x = sends z (zero_rule z y) in
        let n : length (queue_of x) ≡ x.count = queue_length x (omega (arith, s.places, s.most)) in
        lt-leb 65 (count_left z (zero_rule z y))
        (omega (arith, h, length-append (left_by (queue_of z) y) (y ∷ []), ap length s.left, n, count_left_lem z (zero_rule z y)))
    go false h = refl

-- the arrival leaves the places of the queue
arrives_places : (x : ZeroNode) (y : Car) → length x.queue ≡ 65 → length (arrives x y).queue ≡ 65
unfolding arrives appended
arrives_places x y l = go (keeps y) (ltb x.count 65) _ (length-set x.queue x.count _ ∙ l)
  where
    go : (b c : Bool) (more : ZeroNode) → length more.queue ≡ 65 → length (cond b (cond c more x) x).queue ≡ 65
    go true true more m = m
    go true false more m = l
    go false c more m = l

-- the zero node's turn keeps the queue's places
pub zero_places : (z : ZeroNode) (y : Car) → length z.queue ≡ 65 → z.count ≤ 65 → length (zero_turn z y).queue ≡ 65
unfolding zero_turn
zero_places z y l c = rw (le-leb z.count 65 c) (arrives_places (sends z (zero_rule z y)) y (sending z y l c).places)
