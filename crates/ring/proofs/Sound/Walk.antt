-- A step of a state that 13 lets pass: along the walk each car, node and junction names only what is there. Only the nodes and
-- junctions of the plan count, and only these the walk comes to.
use Prim.Native.Nat.{ℕ, ◌+◌, ◌≤◌, ◌<◌}
use mathlib.Core.Path.{◌≡◌, refl, ap, subst₂}
use mathlib.Core.Bool.{Bool, true, false}
use native.Mathlib.Omega.{arith}
use lib.ListN.{get_or, replicate}
use Rattle.std.proofs.Common.{Option}
use borrow.Author.Tests.{le-leb}
use Rattle.lists.proofs.Laws.{every_each}
use Rattle.lists.proofs.Tests.{and_both}
use Rattle.lists.proofs.Places.{place_set, place_default}
use Rattle.cars.specs.Cars.{is_node, car_names}
use Rattle.positions.specs.Ring.{Ring, no_more, user_node, a_junction, nodes_in, junctions_in}
use Rattle.plan.specs.Plan.{node_places, ring_of, node_count, junction_count}
use Rattle.plan.proofs.Laws.{in_range_lem, counted, junctions_counted}
use Rattle.usernode.specs.declared.Node.{Node}
use Rattle.usernode.specs.Sound.{node_sound}
use Rattle.turns.specs.declared.Event.{Event}
use Rattle.turns.specs.Turn.{event_lock}
use Rattle.junction.specs.declared.Junction.{Junction}
use Rattle.junction.specs.Sound.{junction_sound}
use Rattle.ring.specs.declared.State.{State}
use Rattle.ring.specs.State.{rest_node, rest_junction}
use Rattle.ring.specs.Sound.{zero_passes, node_passes, junction_passes, sound}
use Rattle.ring.specs.Walk.{Walk, quiet, node_here, junction_here, turn_here, on_node, wanted, enters, leaves, along, setting_out, walk}
use Rattle.ring.specs.Step.{next_state}
use Rattle.ring.proofs.Laws.{passed, passes, sound_plan, node_passes_lem, junction_passes_lem}
use Rattle.ring.proofs.Sound.Node.{sound_car, turn-sound, turn_event}
use Rattle.ring.proofs.Sound.Junction.{junction_in_plan, junction-sound}
use Rattle.ring.proofs.Sound.Zero.{zero_car, zero-sound}

module _ (s : State) (e : sound s ≡ true) where
  -- the rules, user nodes, junctions and locks of the state's plan
  abbrev rules : ℕ
  rules = s.plan.rules

  abbrev nodes : ℕ
  nodes = node_count s.plan

  abbrev junctions : ℕ
  junctions = junction_count s.plan

  abbrev locks : ℕ
  locks = s.plan.locks

  -- a node, and a junction, that 13 does not refuse
  abbrev NodeOk : Node → Type 0
  NodeOk node = node_sound rules nodes locks node ≡ true

  abbrev JunctionOk : Junction → Type 0
  JunctionOk junction = junction_sound rules nodes locks junction ≡ true

  -- what happened at a node names a lock of the plan
  abbrev EventOk : Option Event → Type 0
  EventOk event = event_lock event < locks

  -- a walk that has passed n nodes and turned j junctions, and whose car, nodes and junctions 13 does not refuse
  record Walks (n j : ℕ) (w : Walk) : Type 0 where
    passed : w.passed ≡ n
    turned : w.turned ≡ j
    last : car_names rules nodes locks w.last ≡ true
    nodes_pass : (i : ℕ) → i < nodes → NodeOk (get_or w.nodes i rest_node)
    junctions_pass : (i : ℕ) → i < junctions → JunctionOk (get_or w.junctions i rest_junction)
    events_name : (i : ℕ) → EventOk (get_or w.events i quiet)

  -- where nothing happens the lock is 0
  quiet-names : EventOk quiet
  unfolding quiet event_lock
  quiet-names = omega (arith, (in_range_lem s.plan (sound_plan s e)).locks_least)

  -- past a user node the walk is still so
  walks_node : (n j : ℕ) (w : Walk) → n < nodes → Walks n j w → Walks (n + 1) j (on_node s w)
  unfolding on_node turn_here node_here is_node
  walks_node n j w l h =
      let me = and_both (le-leb 1 (w.passed + 1) (omega arith)) (le-leb (w.passed + 1) nodes (omega (arith, h.passed))) in
      let here = node_passes_lem s e w.passed (omega (arith, h.passed)) in
      let range = in_range_lem s.plan (sound_plan s e) in
      let after = turn-sound rules nodes locks (w.passed + 1) me range.locks_most w.last (node_here s w) h.last here in
      let happens = turn_event rules nodes locks range.locks_least range.locks_most (w.passed + 1) w.last (node_here s w) h.last here in
      record {
        passed = ap (λ (k : ℕ). k + 1) h.passed;
        turned = h.turned;
        last = sound_car rules nodes locks (node_here s w) here;
        nodes_pass = λ i b. place_set NodeOk rest_node w.nodes w.passed _ i after (h.nodes_pass i b);
        junctions_pass = h.junctions_pass;
        events_name = λ i. place_set EventOk quiet w.events w.passed _ i happens (h.events_name i);
      }

  -- into a junction of the plan it is still so
  walks_into : (n j : ℕ) (w : Walk) → j < junctions → Walks n j w → Walks n (j + 1) (enters s w)
  unfolding enters junction_here
  walks_into n j w l h =
      let here = junction_in_plan rules nodes locks (junction_here s w) (junction_passes_lem s e w.turned (omega (arith, h.turned))) in
      record {
        passed = h.passed;
        turned = ap (λ (k : ℕ). k + 1) h.turned;
        last = here.1;
        nodes_pass = h.nodes_pass;
        junctions_pass = h.junctions_pass;
        events_name = h.events_name;
      }

  -- out of it, that which went into it and that which comes out being so
  walks_out : (inner : Bool) (n j m i size : ℕ) (before inside : Walk) → j < junctions → Walks n j before → Walks m i inside
      → Walks m i (leaves s inner size before inside)
  unfolding leaves junction_here
  walks_out inner n j m i size before inside l h g =
      let here = junction_passes_lem s e before.turned (omega (arith, h.turned)) in
      let after = junction-sound rules nodes locks inner before.passed (before.passed + size) (wanted s before.passed size) before.last inside.last
      (junction_here s before) h.last g.last here in
      record {
        passed = g.passed;
        turned = g.turned;
        last = (junction_in_plan rules nodes locks (junction_here s before) here).0;
        nodes_pass = g.nodes_pass;
        junctions_pass = λ k b. place_set JunctionOk rest_junction inside.junctions before.turned _ k after (g.junctions_pass k b);
        events_name = g.events_name;
      }

  -- along a ring of nodes and junctions of the plan
  walks_along : (inner : Bool) (t : Ring) (n j : ℕ) (w : Walk) → n + nodes_in t ≤ nodes → j + junctions_in t ≤ junctions → Walks n j w
      → Walks (n + nodes_in t) (j + junctions_in t) (along s inner t w)
  unfolding along nodes_in junctions_in
  walks_along inner no_more n j w a b h = subst₂ (λ (m i : ℕ). Walks m i w) (omega arith) (omega arith) h
  walks_along inner (user_node rest) n j w a b h =
      subst₂ (λ (m i : ℕ). Walks m i (along s inner rest (on_node s w))) (omega arith) refl
      (walks_along inner rest (n + 1) j (on_node s w) (omega (arith, a)) b (walks_node n j w (omega (arith, a)) h))
  walks_along inner (a_junction subring rest) n j w a b h =
      let inside = along s true subring (enters s w) in
      let out = leaves s inner (nodes_in subring) w inside in
      subst₂ (λ (m i : ℕ). Walks m i (along s inner rest out)) (omega arith) (omega arith)
      (walks_along inner rest (n + nodes_in subring) (j + 1 + junctions_in subring) out (omega (arith, a)) (omega (arith, b))
      (walks_out inner n j (n + nodes_in subring) (j + 1 + junctions_in subring) (nodes_in subring) w inside (omega (arith, b)) h
      (walks_along true subring n (j + 1) (enters s w) (omega (arith, a)) (omega (arith, b)) (walks_into n j w (omega (arith, b)) h))))

  -- the whole walk
  walked : Walks nodes junctions (walk s)
  unfolding walk setting_out zero_passes
  walked =
      let p = sound_plan s e in
      subst₂ (λ (m i : ℕ). Walks m i (walk s)) (omega (arith, counted s.plan p)) (omega (arith, junctions_counted s.plan p))
      (walks_along false (ring_of s.plan) 0 0 (setting_out s) (omega (arith, counted s.plan p)) (omega (arith, junctions_counted s.plan p))
      (record {
        passed = refl;
        turned = refl;
        last = zero_car rules nodes locks s.zeroth (passed s e).zeroth;
        nodes_pass = node_passes_lem s e;
        junctions_pass = junction_passes_lem s e;
        events_name = λ i. place_default EventOk quiet node_places i quiet-names;
      }))

-- 13 lets the state after a step pass
pub next_sound : (state : State) → sound state ≡ true → sound (next_state state) ≡ true
unfolding next_state walk zero_passes node_passes junction_passes
next_sound state e =
    let p = passed state e in
    let w = walked state e in
    passes (next_state state)
    (record {
      plan = p.plan;
      zeroth = zero-sound state.plan.rules (node_count state.plan) state.plan.locks state.zeroth (walk state).last w.last p.zeroth;
      nodes = every_each _ (node_count state.plan) w.nodes_pass;
      junctions = every_each _ (junction_count state.plan) w.junctions_pass;
    })

-- and what happens in it names locks of the plan
pub walk-events : (state : State) → sound state ≡ true → (place : ℕ) → event_lock (get_or (walk state).events place quiet) < state.plan.locks
unfolding walk
walk-events state e place = (walked state e).events_name place

pub no-events : (state : State) → sound state ≡ true → (place : ℕ) → event_lock (get_or (replicate node_places quiet) place quiet) < state.plan.locks
no-events state e place = place_default (EventOk state e) quiet node_places place (quiet-names state e)
