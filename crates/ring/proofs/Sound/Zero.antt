-- Of 13, the zero node by itself: if it and the arrival name only nodes and locks of the plan, it does so after its turn too.
-- Only the queue's places in use count.
use Prim.Native.Nat.{ℕ, zero, suc, ◌+◌, ◌-◌, ◌≤◌, ◌<◌}
use mathlib.Core.Path.{◌≡◌, refl, sym, subst}
use mathlib.Core.Bool.{Bool, true, ◌&&◌}
use mathlib.Core.List.{List, [], ◌∷◌}
use mathlib.Core.Logic.{⊎_elim}
use native.Mathlib.Nat.{eq-or-lt_of_le}
use native.Mathlib.Omega.{arith}
use lib.Dec.{eqb, ltb, leb}
use lib.ListN.{get_or, set}
use borrow.Author.Tests.{ltb-true, leb-true, le-leb, eqb-false}
use Rattle.lists.specs.Loops.{every}
use Rattle.lists.proofs.Laws.{and_left, and_right, every-at, every_each}
use Rattle.lists.proofs.Tests.{and_both, by_test}
use Rattle.lists.proofs.Places.{place_set, place_stored, place_parted}
use Rattle.cars.specs.declared.Car.{Car}
use Rattle.cars.specs.declared.Car.TheVariants.{Idle, Token, Null, Reqp, Failp, Dov, Gotp, Didv}
use Rattle.cars.specs.Cars.{car_names}
use Rattle.zeronode.specs.declared.ZeroNode.{ZeroNode}
use Rattle.zeronode.specs.declared.ZeroRule.{ZeroRule}
use Rattle.zeronode.specs.declared.ZeroRule.TheVariants.{SendsIdle, SendsToken, SendsHead}
use Rattle.zeronode.specs.Rules.{queue_places, empty_slot, on_token, on_head, zero_rule, keeps}
use Rattle.zeronode.specs.Turn.{shifted, head_off, sends, appended, arrives, zero_turn}
use Rattle.zeronode.specs.Sound.{place_names, zero_sound}

module _ (rules nodes locks : ℕ) where
  -- a car names only what is there
  abbrev CarNames : Car → Type 0
  CarNames car = car_names rules nodes locks car ≡ true

  -- what 13 asks of the zero node, each thing by itself
  record ZeroInPlan (node : ZeroNode) : Type 0 where
    most : node.count ≤ 65
    sent : car_names rules nodes locks node.car ≡ true
    queue : (i : ℕ) → i < node.count → CarNames (get_or node.queue i empty_slot)

  -- the test of the zero node says each of these
  zero_in_plan : (node : ZeroNode) → zero_sound rules nodes locks node ≡ true → ZeroInPlan node
  unfolding zero_sound place_names
  zero_in_plan node e =
      let most = leb node.count queue_places in
      let sent = car_names rules nodes locks node.car in
      let queue = every (place_names rules nodes locks node) node.count in
      let two = and_left (most && sent) queue e in
      record {
        most = leb-true _ _ (and_left most sent two);
        sent = and_right most sent two;
        queue = λ i l. every-at (place_names rules nodes locks node) node.count i (and_right (most && sent) queue e) l;
      }

  -- and they say the test
  in_plan_zero : (node : ZeroNode) → ZeroInPlan node → zero_sound rules nodes locks node ≡ true
  unfolding zero_sound place_names
  in_plan_zero node f =
      and_both (and_both (le-leb _ _ f.most) f.sent) (every_each (place_names rules nodes locks node) node.count f.queue)

  -- a place not in use names nothing
  empty_names : CarNames empty_slot
  unfolding empty_slot car_names
  empty_names = refl

  -- whether what the zero node sends names only what is there
  zero_names : ZeroRule → Bool
  zero_names SendsIdle = true
  zero_names SendsToken = true
  zero_names (SendsHead head) = car_names rules nodes locks head

  -- a token at the head is sent or has to wait: it names nothing
  token_names : (arrival : Car) → zero_names (on_token arrival) ≡ true
  unfolding zero_names on_token
  token_names Idle = refl
  token_names Token = refl
  token_names Null = refl
  token_names (Reqp tag) = refl
  token_names (Failp tag) = refl
  token_names (Dov tag) = refl
  token_names (Gotp notice) = refl
  token_names (Didv notice) = refl

  -- what is sent with this car at the head names only what that names
  head_names : (head arrival : Car) → car_names rules nodes locks head ≡ true → zero_names (on_head head arrival) ≡ true
  unfolding zero_names on_head
  head_names Token arrival c = token_names arrival
  head_names Idle arrival c = c
  head_names Null arrival c = c
  head_names (Reqp tag) arrival c = c
  head_names (Failp tag) arrival c = c
  head_names (Dov tag) arrival c = c
  head_names (Gotp notice) arrival c = c
  head_names (Didv notice) arrival c = c

  -- the head taken off, each place in use still names only what is there
  shifted-names : (queue : List Car) (count : ℕ) → ((i : ℕ) → i < count → CarNames (get_or queue i empty_slot))
      → (i : ℕ) → i < count - 1 → CarNames (get_or (shifted queue count) i empty_slot)
  unfolding shifted
  shifted-names queue zero h i l = absurd (omega arith)
  shifted-names [] (suc zero) h i l = absurd (omega arith)
  shifted-names [] (suc (suc count)) h i l =
      let e : suc (suc count) - 1 ≡ suc count = omega arith in
      rw e (place_parted CarNames empty_slot [] (suc count) i (omega arith) empty_names empty_names)
  shifted-names (car ∷ cars) (suc count) h i l =
      let e : suc count - 1 ≡ count = omega arith in
      rw e (place_parted CarNames empty_slot cars count i (omega arith) empty_names (h (suc i) (omega arith)))

  -- the zero node that takes the head off and sends what names only what is there is still so
  head_off_in_plan : (node : ZeroNode) (car : Car) → car_names rules nodes locks car ≡ true → ZeroInPlan node → ZeroInPlan (head_off node car)
  unfolding head_off
  head_off_in_plan node car c f =
      record { most = omega (arith, f.most); sent = c; queue = shifted-names node.queue node.count f.queue }

  -- the zero node that sends idle, the token or the head is still so
  sends_in_plan : (node : ZeroNode) (r : ZeroRule) → zero_names r ≡ true → ZeroInPlan node → ZeroInPlan (sends node r)
  unfolding sends zero_names car_names
  sends_in_plan node SendsIdle r f = record { most = f.most; sent = refl; queue = f.queue }
  sends_in_plan node SendsToken r f = head_off_in_plan node Token refl f
  sends_in_plan node (SendsHead head) r f = head_off_in_plan node head r f

  -- the arrival at the queue's end: the places before it are as they were
  queue_longer : (queue : List Car) (count : ℕ) (arrival : Car) → car_names rules nodes locks arrival ≡ true
      → ((i : ℕ) → i < count → CarNames (get_or queue i empty_slot))
      → (i : ℕ) → i < count + 1 → CarNames (get_or (set queue count arrival) i empty_slot)
  queue_longer queue count arrival c h i l =
      ⊎_elim (λ e. subst (λ (k : ℕ). CarNames (get_or (set queue count arrival) k empty_slot)) (sym e)
      (place_stored CarNames empty_slot queue count arrival c empty_names))
      (λ b. place_set CarNames empty_slot queue count arrival i c (h i b)) (eq-or-lt_of_le (omega arith))

  -- the arrival appended, or not, it is still so
  arrives_in_plan : (node : ZeroNode) (arrival : Car) → car_names rules nodes locks arrival ≡ true → ZeroInPlan node → ZeroInPlan (arrives node arrival)
  unfolding arrives appended
  arrives_in_plan node arrival c f =
      by_test ZeroInPlan (keeps arrival)
      (λ e. by_test ZeroInPlan (ltb node.count queue_places)
      (λ l. record { most = omega (arith, ltb-true node.count 65 l); sent = f.sent; queue = queue_longer node.queue node.count arrival c f.queue })
      (λ l. f))
      (λ e. f)

  -- what the zero node sends names only what is there: the head is a place in use
  rule-names : (node : ZeroNode) (arrival : Car) → ZeroInPlan node → zero_names (zero_rule node arrival) ≡ true
  unfolding zero_rule zero_names
  rule-names node arrival f =
      by_test (λ r. zero_names r ≡ true) (eqb node.count 0) (λ e. refl)
      (λ e. head_names _ arrival (f.queue 0 (omega (arith, eqb-false node.count 0 e))))

  -- a zero node that passes still passes after its turn
  pub zero-sound : (node : ZeroNode) (arrival : Car) → car_names rules nodes locks arrival ≡ true → zero_sound rules nodes locks node ≡ true
      → zero_sound rules nodes locks (zero_turn node arrival) ≡ true
  unfolding zero_turn
  zero-sound node arrival c e =
      let f = zero_in_plan node e in
      by_test (λ z. zero_sound rules nodes locks z ≡ true) (leb node.count queue_places)
      (λ l. in_plan_zero _ (arrives_in_plan (sends node (zero_rule node arrival)) arrival c (sends_in_plan node (zero_rule node arrival) (rule-names node arrival f) f)))
      (λ l. e)

  -- the car of a zero node that passes names only what is there
  pub zero_car : (node : ZeroNode) → zero_sound rules nodes locks node ≡ true → car_names rules nodes locks node.car ≡ true
  zero_car node e = (zero_in_plan node e).sent
