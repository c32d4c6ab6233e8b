-- The zero node's turn: what of its queue comes back, and that it is the same on zero nodes that are the same in every place in use.
use Prim.Native.Nat.{ℕ, zero, suc, ◌+◌, ◌-◌, ◌≤◌, ◌<◌}
use mathlib.Core.Path.{◌≡◌, refl, ◌∙◌, sym, ap, subst}
use mathlib.Core.Bool.{Bool, true, false, cond, ◌&&◌}
use mathlib.Core.Logic.{⊎_elim}
use mathlib.Core.List.{List, [], ◌∷◌}
use native.Mathlib.Omega.{arith}
use lib.Dec.{eqb, ltb, leb}
use lib.ListN.{length, get_or, take, drop, set, length-set, length-drop}
use lib.Seq.{drop-set-lt, take-nil, drop-nil}
use borrow.Author.Tests.{eqb-false}
use Rattle.cars.specs.declared.Car.{Car}
use Rattle.zeronode.specs.declared.ZeroNode.{ZeroNode}
use Rattle.zeronode.specs.declared.ZeroRule.{ZeroRule}
use Rattle.zeronode.specs.declared.ZeroRule.TheVariants.{SendsIdle, SendsToken, SendsHead}
use Rattle.zeronode.specs.Rules.{empty_slot, on_head, zero_rule, keeps}
use Rattle.zeronode.specs.Turn.{shifted, head_off, sends, appended, arrives, zero_turn, count_left, overflows}
use Rattle.zeronode.proofs.Queue.{idle_or_queued}
use Rattle.unused.specs.Unused.{QueueComesBack, SameZero}
use Rattle.unused.proofs.Lists.{same_at, same_next, put_in, put-length, put_behind, put_there, put_same}

-- a queue of k + 1 cars without its head: the idle place is put in behind the k cars that are left
shifted-put : (queue : List Car) (k : ℕ) → shifted queue (suc k) ≡ put_in k empty_slot (drop 1 queue)
unfolding shifted
shifted-put [] k =
    let e : suc k - 1 ≡ k = omega arith in
    rw (e, drop-nil k)
shifted-put (head ∷ queue) k =
    let e : suc k - 1 ≡ k = omega arith in
    rw e

-- what comes back of a zero node that stays as it is
pub stays : (z : ZeroNode) → QueueComesBack z z
stays z = record { places = λ place l m. refl; idle = λ place l m. absurd (omega arith); taken = omega arith; given = omega arith }

-- the zero node as it sends: what is beyond its count stays, and a place given up is idle
record Sent (before after : ZeroNode) : Type 0 where
  places : (place : ℕ) → before.count ≤ place → drop place after.queue ≡ drop place before.queue
  idle : (place : ℕ) → after.count ≤ place → place < before.count → get_or after.queue place empty_slot ≡ empty_slot
  most : after.count ≤ before.count
  least : before.count ≤ after.count + 1

-- what is beyond the count stays where the head is taken off
shifted_behind : (queue : List Car) (k place : ℕ) → suc k ≤ place → drop place (shifted queue (suc k)) ≡ drop place queue
shifted_behind queue k zero l = absurd (omega arith)
shifted_behind [] k (suc place) l = rw shifted-put (put_behind k place empty_slot [] (omega arith) ∙ drop-nil place)
shifted_behind (head ∷ queue) k (suc place) l = rw shifted-put (put_behind k place empty_slot queue (omega arith))

-- a zero node of its parts
abbrev zero_of : Car → List Car → ℕ → ZeroNode
zero_of car queue count = record { car = car; queue = queue; count = count }

-- the head taken off a queue of count cars
sent_head : (old : Car) (queue : List Car) (count : ℕ) (car : Car) → 0 < count → Sent (zero_of old queue count) (head_off (zero_of old queue count) car)
unfolding head_off
sent_head old queue zero car some = absurd (omega arith)
sent_head old queue (suc k) car some =
    record {
      places = shifted_behind queue k;
      idle = λ place l m.
          let last : place ≡ k = omega arith in
          rw (last, shifted-put) (put_there k empty_slot (drop 1 queue));
      most = omega arith;
      least = omega arith;
    }

-- whatever is sent; a head only from a queue that has one
sent : (z : ZeroNode) (arrival : Car) (rule : ZeroRule) → zero_rule z arrival ≡ rule → Sent z (sends z rule)
unfolding sends
sent z arrival SendsIdle e = record { places = λ place l. refl; idle = λ place l m. absurd (omega arith); most = omega arith; least = omega arith }
sent z arrival SendsToken e = sent_head z.car z.queue z.count _ (⊎_elim (λ idle. cc) (λ some. some) (idle_or_queued z arrival))
sent z arrival (SendsHead head) e = sent_head z.car z.queue z.count head (⊎_elim (λ idle. cc) (λ some. some) (idle_or_queued z arrival))

-- then the arrival is appended, or not
arrives_back : (z x : ZeroNode) (arrival : Car) → Sent z x → QueueComesBack z (arrives x arrival)
unfolding arrives appended
arrives_back z x arrival s = go (keeps arrival) (ltb x.count 65)
  where
    kept : QueueComesBack z x
    kept = record { places = λ place l m. s.places place l; idle = s.idle; taken = omega (arith, s.most); given = s.least }

    go : (keep room : Bool)
        → QueueComesBack z (cond keep (cond room (zero_of x.car (set x.queue x.count arrival) (x.count + 1)) x) x)
    go true true =
        record {
          places = λ place l m. drop-set-lt place x.queue x.count _ (omega arith) ∙ s.places place l;
          idle = λ place l m. absurd (omega (arith, s.least));
          taken = omega (arith, s.most);
          given = omega (arith, s.least);
        }
    go true false = kept
    go false room = kept

-- what of the queue comes back from a turn
pub turn_back : (z : ZeroNode) (arrival : Car) → QueueComesBack z (zero_turn z arrival)
unfolding zero_turn
turn_back z arrival = go (leb z.count 65)
  where
    go : (b : Bool) → QueueComesBack z (cond b (arrives (sends z (zero_rule z arrival)) arrival) z)
    go true = arrives_back z _ arrival (sent z arrival (zero_rule z arrival) refl)
    go false = stays z

-- what is behind the head of the first places
drop-take : (k : ℕ) (queue : List Car) → take k (drop 1 queue) ≡ drop 1 (take (suc k) queue)
drop-take k [] = take-nil k
drop-take k (head ∷ queue) = refl

-- without their heads queues are as long as each other if they were
tail_long : (queue other : List Car) → length queue ≡ length other → length (drop 1 queue) ≡ length (drop 1 other)
tail_long queue other long = length-drop 1 queue ∙ ap (λ (n : ℕ). n - 1) long ∙ sym (length-drop 1 other)

-- queues that are the same up to the count are so again with the head taken off
shifted_same : (count : ℕ) (queue other : List Car) → take count queue ≡ take count other → length queue ≡ length other
    → take (count - 1) (shifted queue count) ≡ take (count - 1) (shifted other count)
shifted_same zero queue other e long = refl
shifted_same (suc k) queue other e long =
    let less : suc k - 1 ≡ k = omega arith in
    let rest : take k (drop 1 queue) ≡ take k (drop 1 other) = drop-take k queue ∙ ap (λ (q : List Car). drop 1 q) e ∙ sym (drop-take k other) in
    rw (less, shifted-put queue k, shifted-put other k) (put_same k empty_slot (drop 1 queue) (drop 1 other) rest (tail_long queue other long))

-- and as long as each other
shifted_long : (count : ℕ) (queue other : List Car) → length queue ≡ length other → length (shifted queue count) ≡ length (shifted other count)
unfolding shifted
shifted_long zero queue other long = ap suc long
shifted_long (suc k) queue other long =
    ap length (shifted-put queue k) ∙ put-length k empty_slot (drop 1 queue) ∙ ap suc (tail_long queue other long) ∙ sym (put-length k empty_slot (drop 1 other))
    ∙ sym (ap length (shifted-put other k))

-- what holds of a zero node with another's car and count holds of one that is the same in every place in use
by_places : (P : ZeroNode → Type 0) (z x : ZeroNode) → SameZero z x → P (zero_of z.car x.queue z.count) → P x
by_places P z x s holds = subst P (λ i. zero_of (s.car i) x.queue (s.count i)) holds

-- zero nodes with queues that are the same up to the count
module _ (car : Car) (queue other : List Car) (count : ℕ) (e : take count queue ≡ take count other) (long : length queue ≡ length other) where
  -- the same rule
  rule_same : (arrival : Car) → zero_rule (zero_of car queue count) arrival ≡ zero_rule (zero_of car other count) arrival
  unfolding zero_rule
  rule_same arrival = go (eqb count 0) refl
    where
      go : (b : Bool) → eqb count 0 ≡ b
          → cond b SendsIdle (on_head (get_or queue 0 empty_slot) arrival) ≡ cond b SendsIdle (on_head (get_or other 0 empty_slot) arrival)
      go true z = refl
      go false z =
          let some : 0 < count = omega (arith, eqb-false count 0 z) in
          ap (λ (head : Car). on_head head arrival) (same_at empty_slot count queue other e 0 some)

  -- the same places where the head is taken off
  head_same : (sent : Car) → SameZero (head_off (zero_of car queue count) sent) (head_off (zero_of car other count) sent)
  unfolding head_off
  head_same sent = record { car = refl; count = refl; queue = shifted_same count queue other e long; places = shifted_long count queue other long }

  -- the same, whatever is sent
  sends_same : (rule : ZeroRule) → SameZero (sends (zero_of car queue count) rule) (sends (zero_of car other count) rule)
  unfolding sends
  sends_same SendsIdle = record { car = refl; count = refl; queue = e; places = long }
  sends_same SendsToken = head_same _
  sends_same (SendsHead head) = head_same head

  -- the same with the arrival
  arrives_same : (arrival : Car) → SameZero (arrives (zero_of car queue count) arrival) (arrives (zero_of car other count) arrival)
  unfolding arrives appended
  arrives_same arrival = go (keeps arrival) (ltb count 65)
    where
      same : SameZero (zero_of car queue count) (zero_of car other count)
      same = record { car = refl; count = refl; queue = e; places = long }

      go : (keep room : Bool) → SameZero (cond keep (cond room (zero_of car (set queue count arrival) (count + 1)) (zero_of car queue count)) (zero_of car queue count))
          (cond keep (cond room (zero_of car (set other count arrival) (count + 1)) (zero_of car other count)) (zero_of car other count))
      go true true =
          record {
            car = refl;
            count = refl;
            queue = same_next count queue other arrival long e;
            places = length-set queue count arrival ∙ long ∙ sym (length-set other count arrival);
          }
      go true false = same
      go false room = same

-- a turn is the same on zero nodes that are the same in every place in use
pub turn_same : (z x : ZeroNode) (arrival : Car) → SameZero z x → SameZero (zero_turn z arrival) (zero_turn x arrival)
unfolding zero_turn
turn_same z x arrival s = by_places (λ y. SameZero (zero_turn z arrival) (zero_turn y arrival)) z x s (go (leb z.count 65))
  where
    w : ZeroNode
    w = zero_of z.car x.queue z.count

    sent : SameZero (sends z (zero_rule z arrival)) (sends w (zero_rule w arrival))
    sent =
        subst (λ rule. SameZero (sends z (zero_rule z arrival)) (sends w rule)) (rule_same z.car z.queue x.queue z.count s.queue s.places arrival)
        (sends_same z.car z.queue x.queue z.count s.queue s.places (zero_rule z arrival))

    go : (b : Bool) → SameZero (cond b (arrives (sends z (zero_rule z arrival)) arrival) z) (cond b (arrives (sends w (zero_rule w arrival)) arrival) w)
    go true =
        by_places (λ y. SameZero (arrives (sends z (zero_rule z arrival)) arrival) (arrives y arrival)) _ _ sent
        (arrives_same _ _ _ _ sent.queue sent.places arrival)
    go false = record { car = refl; count = refl; queue = s.queue; places = s.places }

-- how many cars are left is read off the count
left_same : (z : ZeroNode) (other : List Car) (rule : ZeroRule) → count_left z rule ≡ count_left (zero_of z.car other z.count) rule
unfolding count_left
left_same z other SendsIdle = refl
left_same z other SendsToken = refl
left_same z other (SendsHead head) = refl

-- and so is whether the queue would need a 66th place
pub overflow_same : (z x : ZeroNode) (arrival : Car) → SameZero z x → overflows z arrival ≡ overflows x arrival
unfolding overflows
overflow_same z x arrival s =
    by_places (λ y. overflows z arrival ≡ overflows y arrival) z x s
    (ap (λ (count : ℕ). keeps arrival && leb 65 count)
    (ap (count_left z) (rule_same z.car z.queue x.queue z.count s.queue s.places arrival) ∙ left_same z x.queue _))
