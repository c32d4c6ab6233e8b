-- The invariant of a state: 13 does not refuse it, and the whole ring fits. It holds at the start of a plan in range, and a step and an accepted
-- action keep it; that they keep what 13 asks is ring's theorem, and a premise here.
use Prim.Native.Nat.{ℕ, ◌≤◌}
use mathlib.Core.Path.{◌≡◌, sym, ap, ◌∙◌, subst}
use mathlib.Core.Bool.{true, false}
use native.Mathlib.Omega.{arith}
use lib.ListN.{length}
use Rattle.cars.specs.declared.Car.{Car}
use Rattle.plan.specs.declared.Plan.{Plan}
use Rattle.plan.specs.Plan.{in_range, node_count}
use Rattle.plan.proofs.Laws.{nodes_count_most}
use Rattle.usernode.specs.declared.Node.{Node}
use Rattle.zeronode.specs.Turn.{overflows}
use Rattle.acts.specs.declared.Action.{Action}
use Rattle.acts.specs.Actions.{node_number}
use Rattle.ring.specs.declared.State.{State}
use Rattle.ring.specs.State.{node_of, start_of}
use Rattle.ring.specs.Sound.{sound}
use Rattle.ring.specs.Actions.{action_number, acted_state}
use Rattle.ring.specs.Walk.{walk}
use Rattle.ring.specs.Step.{next_state}
use Rattle.ring.proofs.Laws.{accepted_node, accepted, sound_count}
use Rattle.ring.proofs.Theorems.{start_sound}
use Rattle.onelock.proofs.Line.Ring.{step_line}
use Rattle.onelock.proofs.Line.Meets.{Both, meets_both, Numbers, agrees_meets, meets_at}
use Rattle.onelock.proofs.Line.Numbers.{Upto, numbered}
use Rattle.onelock.proofs.Whole.Step.{Whole, whole_step}
use Rattle.onelock.proofs.Whole.Start.{whole_start}
use Rattle.onelock.proofs.Whole.Acts.{whole_act}
use Rattle.onelock.proofs.Whole.Queue.{whole_queue}
use Rattle.onelock.proofs.Whole.Zero.{sent_by, queue_after}
use Rattle.onelock.proofs.State.AsLine.{line_of, queue_of, Formed}
use Rattle.onelock.proofs.State.Walk.{line_size, walk_last, line_next, Acts, line_acts}
use Rattle.onelock.proofs.State.Zero.{zero_car, zero_queue, no_overflow}
use Rattle.onelock.proofs.State.Acts.{formed_start, formed_next, formed_act, line_act}
use Rattle.onelock.proofs.State.Lists.{line_small, line_cars, line_mode, line_fresh}

-- the invariant of a state
pub record Kept (s : State) : Type 0 where
  pub plan : in_range s.plan ≡ true
  pub formed : Formed s
  pub pass : sound s ≡ true
  pub whole : Whole s.plan.rules (node_count s.plan) s.zeroth.car (queue_of s.zeroth) (line_of s)

-- the start of a plan in range has it
pub kept_start : (plan : Plan) → in_range plan ≡ true → Kept (start_of plan)
unfolding start_of
kept_start plan r =
    let s = start_of plan in
    record {
      plan = r;
      formed = formed_start plan;
      pass = start_sound plan r;
      whole = whole_start plan.rules (node_count plan) (line_of s) (line_fresh plan) (line_size s r) (line_mode s r);
    }

module _ (s : State) (x : Kept s) where
  -- the rules of its plan
  abbrev rules : ℕ
  rules = s.plan.rules

  -- the user nodes of its plan
  abbrev nodes : ℕ
  nodes = node_count s.plan

  -- its queue has at most 65 cars
  pub kept_count : s.zeroth.count ≤ 65
  kept_count = sound_count s x.pass

  -- the ring after a step fits, by what the zero node sends and what is left of its queue
  next_whole : Whole rules nodes (sent_by (queue_of s.zeroth) (walk s).last) (queue_after (queue_of s.zeroth) (walk s).last)
      (step_line rules false 0 s.zeroth.car (line_of s))
  next_whole =
      subst
      (λ (y : Car). Whole rules nodes (sent_by (queue_of s.zeroth) y) (queue_after (queue_of s.zeroth) y)
      (step_line rules false 0 s.zeroth.car (line_of s)))
      (sym (walk_last s))
      (whole_step rules nodes s.zeroth.car (queue_of s.zeroth) (line_of s) (line_small s x.pass) (line_cars s x.pass) x.whole)

  -- so its queue is short
  next_short : length (queue_after (queue_of s.zeroth) (walk s).last) ≤ 65
  next_short = omega (arith, whole_queue rules nodes _ _ _ next_whole, nodes_count_most s.plan x.plan)

  -- so there is room for the arrival
  pub kept_room : overflows s.zeroth (walk s).last ≡ false
  kept_room = no_overflow s.zeroth (walk s).last x.formed.queue kept_count next_short

  -- a step keeps it
  pub kept_next : sound (next_state s) ≡ true → Kept (next_state s)
  unfolding next_state
  kept_next e =
      let z = s.zeroth in
      let y = (walk s).last in
      let places = x.formed.queue in
      record {
        plan = x.plan;
        formed = formed_next s x.formed kept_count;
        pass = e;
        whole = rw (zero_car z y places kept_count kept_room, zero_queue z y places kept_count kept_room, line_next s x.plan x.formed) next_whole;
      }

  -- the invariant's nodes are the state's
  pub kept_node : (number : ℕ) → Upto nodes number → x.whole.ring.nodes number ≡ node_of s number
  kept_node number u =
      let car = s.zeroth.car in
      let A = x.whole.ring.nodes in
      let both = meets_both (Acts s) (Numbers A) 0 car (line_of s) (line_acts s x.plan x.formed)
      (agrees_meets A 0 car (line_of s) x.whole.ring.agrees) in
      let met = meets_at (Both (Acts s) (Numbers A)) 0 car (line_of s) number both u.low (omega (arith, line_size s x.plan, u.high)) in
      met.holds.1 ∙ sym met.holds.0.old

-- an accepted action keeps it
pub kept_act : (action : Action) (s : State) (node lock : ℕ) → Kept s → action_number action s node lock ≡ 0
    → sound (acted_state action s node lock) ≡ true → Kept (acted_state action s node lock)
unfolding acted_state
kept_act action s node lock x a e =
    let rules = s.plan.rules in
    let nodes = node_count s.plan in
    let u = numbered nodes node (accepted_node action s node lock a) in
    let allowed : node_number rules action (x.whole.ring.nodes node) lock ≡ 0 =
    ap (λ (v : Node). node_number rules action v lock) (kept_node s x node u) ∙ (accepted action s node lock a).1 in
    record {
      plan = x.plan;
      formed = formed_act action s node lock x.formed;
      pass = e;
      whole = rw (line_act action s node lock x.formed a x.plan)
          (whole_act rules nodes action node lock s.zeroth.car (queue_of s.zeroth) (line_of s) x.whole u.low u.high allowed
          (line_small s x.pass));
    }
