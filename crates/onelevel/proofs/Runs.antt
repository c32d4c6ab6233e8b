-- A step and an action of a state whose plan has no byte of 5: 13 refuses what it refused, and the rest is the walk of before.
use Prim.Native.Nat.{ℕ, ◌≤◌}
use mathlib.Core.Path.{◌≡◌, refl, ap, ap₂, ◌∙◌}
use mathlib.Core.Bool.{Bool, true, cond, not, ◌&&◌}
use lib.Dec.{eqb, ltb}
use lib.ListN.{length}
use Rattle.lists.specs.Loops.{every}
use Rattle.lists.specs.Refusal.{refused_if}
use Rattle.lists.proofs.Laws.{and_left}
use Rattle.lists.proofs.Tests.{by_value}
use Rattle.cars.specs.Cars.{is_node}
use Rattle.plan.specs.Plan.{node_count}
use Rattle.zeronode.specs.Turn.{zero_turn, overflows}
use Rattle.acts.specs.declared.Action.{Action}
use Rattle.acts.specs.Actions.{node_number}
use Rattle.ring.specs.declared.State.{State}
use Rattle.ring.specs.State.{node_of}
use Rattle.ring.specs.Sound.{zero_passes, node_passes, junction_passes, sound}
use Rattle.ring.specs.Actions.{action_number, acted_state, handed_back, acting}
use Rattle.ring.specs.Walk.{Walk}
use Rattle.ring.specs.Step.{StepTold, next_state, step_number, refused, done, moving, stepping}
use Rattle.onelevel.specs.Before.{without_five, in_range_before, nodes_before, junctions_before, sound_before, next_before, step_number_before, moving_before, stepping_before, action_number_before, acting_before}
use Rattle.onelevel.proofs.Range.{range_as_before, nodes_as_before, junctions_as_before}
use Rattle.onelevel.proofs.Walks.{walk_as_before}

module _ (state : State) (room : 16 ≤ length state.plan.values) (other : without_five state.plan ≡ true) where
  -- the tests of 13, of a plan in range or not with so many nodes and junctions
  abbrev passing : Bool → ℕ → ℕ → Bool
  passing range nodes junctions =
      range && zero_passes state nodes && every (node_passes state nodes) nodes && every (junction_passes state nodes) junctions

  nodes_same : node_count state.plan ≡ nodes_before state.plan
  nodes_same = nodes_as_before state.plan room other

  sound_same : sound state ≡ sound_before state
  unfolding sound sound_before
  sound_same =
      λ i. passing (range_as_before state.plan room other i) (nodes_same i) (junctions_as_before state.plan room other i)

  -- what 13 lets pass was in range
  passed_range : sound_before state ≡ true → in_range_before state.plan ≡ true
  unfolding sound_before
  passed_range e =
      let n = nodes_before state.plan in
      let range = in_range_before state.plan in
      let zeroth = zero_passes state n in
      let nodes = every (node_passes state n) n in
      let junctions = every (junction_passes state n) (junctions_before state.plan) in
      and_left range zeroth (and_left (range && zeroth) nodes (and_left (range && zeroth && nodes) junctions e))

  -- a step after this walk
  abbrev number : Walk → ℕ
  number w = refused_if (overflows state.zeroth w.last) 14 (refused_if w.astray 15 0)

  abbrev next : Walk → State
  next w =
      record {
        plan = state.plan;
        zeroth = zero_turn state.zeroth w.last;
        nodes = w.nodes;
        junctions = w.junctions;
      }

  abbrev told : Walk → StepTold
  told w = cond (eqb (number w) 0) (record { number = 0; state = next w; events = w.events }) (refused (number w) state)

  moving_same : sound_before state ≡ true → moving state ≡ moving_before state
  unfolding moving done next_state step_number moving_before next_before step_number_before
  moving_same e = ap told (walk_as_before state room (passed_range e))

  pub step_as_before : stepping state ≡ stepping_before state
  unfolding stepping stepping_before
  step_as_before =
      ap (λ (t : Bool). cond t (moving state) (refused 13 state)) sound_same
      ∙ by_value (λ t. cond t (moving state) (refused 13 state) ≡ cond t (moving_before state) (refused 13 state)) (sound_before state) moving_same (λ e. refl)

  module _ (action : Action) (node lock : ℕ) where
    -- the number of an action in a plan of so many nodes
    abbrev numbered : ℕ → ℕ
    numbered nodes =
        refused_if (not (is_node nodes node)) 7
        (refused_if (not (ltb lock state.plan.locks)) 8 (node_number state.plan.rules action (node_of state node) lock))

    pub action_as_before : acting action state node lock ≡ acting_before action state node lock
    unfolding acting acting_before action_number action_number_before
    action_as_before =
        ap₂ (λ (t : Bool) (nodes : ℕ). cond t (handed_back (numbered nodes) (acted_state action state node lock) state) (record { number = 13; state = state }))
        sound_same nodes_same
