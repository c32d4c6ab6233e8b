-- What 13 lets pass stays so: the sentences of specs/Theorems, proved; and the start of a plan in range passes.
use Prim.Native.Nat.{ℕ, ◌-◌, ◌^◌, ◌<◌}
use mathlib.Core.Path.{◌≡◌}
use mathlib.Core.Bool.{true, or-true}
use native.Mathlib.Omega.{arith}
use lib.Dec.{eqb}
use lib.ListN.{get_or}
use lib.Pow.{pow_mono}
use borrow.Author.Tests.{lt-ltb, eqb-true}
use Rattle.lists.proofs.Laws.{every_none, every_each}
use Rattle.lists.proofs.Tests.{and_both, by_test}
use Rattle.lists.proofs.Places.{place_set, place_default}
use Rattle.words.specs.Words.{all_below}
use Rattle.cars.specs.Cars.{multiring, car_names}
use Rattle.plan.specs.declared.Plan.{Plan}
use Rattle.plan.specs.Plan.{node_places, junction_places, in_range, node_count, junction_count}
use Rattle.usernode.specs.Sound.{activity_names, letting_allowed, node_sound}
use Rattle.junction.specs.Sound.{junction_sound}
use Rattle.zeronode.specs.Sound.{zero_sound}
use Rattle.turns.specs.Turn.{event_lock}
use Rattle.acts.specs.declared.Action.{Action}
use Rattle.ring.specs.declared.State.{State}
use Rattle.ring.specs.State.{rest_node, rest_junction, start_of, node_of}
use Rattle.ring.specs.Sound.{zero_passes, node_passes, junction_passes, sound}
use Rattle.ring.specs.Actions.{action_number, acted_state, handed_back}
use Rattle.ring.specs.Step.{StepTold, step_number, refused, done, moving, stepping}
use Rattle.ring.specs.Walk.{quiet}
use Rattle.ring.specs.Theorems.{StepKeepsSound, ActionKeepsSound}
use Rattle.ring.proofs.Laws.{node_number_lem, accepted_node, accepted, passed, passes, node_passes_lem, step_of_sound, act_of_sound}
use Rattle.ring.proofs.Sound.Node.{acted-sound}
use Rattle.ring.proofs.Sound.Walk.{next_sound, walk-events, no-events}

-- 13 lets a state pass
abbrev Passes : State → Type 0
Passes state = sound state ≡ true

-- a step hands back the next state, or the one that it was given
pub step_keeps_sound : StepKeepsSound
unfolding moving done refused
step_keeps_sound state e =
    rw (step_of_sound state e)
    (by_test (λ (t : StepTold). Passes t.state) (eqb (step_number state) 0) (λ z. next_sound state e) (λ z. e))

-- its events name locks of the plan; a place without one has lock 0
pub step_events_name : (state : State) → sound state ≡ true → (place : ℕ) → event_lock (get_or (stepping state).events place quiet) < state.plan.locks
unfolding moving done refused
step_events_name state e place =
    rw (step_of_sound state e)
    (by_test (λ (t : StepTold). event_lock (get_or t.events place quiet) < state.plan.locks) (eqb (step_number state) 0)
    (λ z. walk-events state e place) (λ z. no-events state e place))

-- an action that is accepted changes one node, to one that 13 does not refuse
acted_state-sound : (action : Action) (state : State) (node lock : ℕ) → Passes state → action_number action state node lock ≡ 0
    → Passes (acted_state action state node lock)
unfolding acted_state node_of zero_passes node_passes junction_passes
acted_state-sound action state node lock e a =
    let rules = state.plan.rules in
    let nodes = node_count state.plan in
    let locks = state.plan.locks in
    let p = passed state e in
    let number = node_number_lem nodes node (accepted_node action state node lock a) in
    let acts = acted-sound rules nodes locks action (node_of state node) lock (accepted action state node lock a).0
    (node_passes_lem state e (node - 1) (omega (arith, number.0, number.1))) in
    passes (acted_state action state node lock)
    (record {
      plan = p.plan;
      zeroth = p.zeroth;
      nodes = every_each _ nodes (λ i l. place_set (λ u. node_sound rules nodes locks u ≡ true) rest_node state.nodes (node - 1) _ i acts (node_passes_lem state e i l));
      junctions = p.junctions;
    })

-- an action hands back that state, or the one that it was given
pub action_keeps_sound : ActionKeepsSound
unfolding handed_back
action_keeps_sound action state node lock e =
    rw (act_of_sound action state node lock e)
    (by_test Passes (eqb (action_number action state node lock) 0) (λ z. acted_state-sound action state node lock e (eqb-true _ 0 z)) (λ z. e))

module _ (rules nodes locks : ℕ) where
  -- the empty word has no bit of a missing lock
  empty_below : all_below 0 locks ≡ true
  unfolding all_below
  empty_below = lt-ltb 0 (2 ^ locks) (pow_mono {i = 0} (omega arith))

  -- a node at rest passes
  rest_node_lem : node_sound rules nodes locks rest_node ≡ true
  unfolding rest_node node_sound car_names activity_names letting_allowed
  rest_node_lem = and_both (and_both empty_below empty_below) (or-true (multiring rules))

  -- a junction at rest passes
  rest_junction_lem : junction_sound rules nodes locks rest_junction ≡ true
  unfolding rest_junction junction_sound car_names
  rest_junction_lem = empty_below

-- 13 lets the start of a plan in range pass
pub start_sound : (plan : Plan) → in_range plan ≡ true → sound (start_of plan) ≡ true
unfolding start_of zero_passes zero_sound node_passes junction_passes car_names
start_sound plan r =
    let rules = plan.rules in
    let nodes = node_count plan in
    let locks = plan.locks in
    passes (start_of plan)
    (record {
      plan = r;
      zeroth = every_none _;
      nodes = every_each _ nodes (λ i l. place_default (λ u. node_sound rules nodes locks u ≡ true) rest_node node_places i (rest_node_lem rules nodes locks));
      junctions = every_each _ (junction_count plan)
          (λ i l. place_default (λ j. junction_sound rules nodes locks j ≡ true) rest_junction junction_places i (rest_junction_lem rules nodes locks));
    })
