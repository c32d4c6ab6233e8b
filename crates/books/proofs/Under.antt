-- A state and the same state under other rules that are alike: both have the same nodes and junctions, 13 says the same of them, and a step of one is
-- the step of the other, under those rules.
use Prim.Native.Nat.{ℕ, ◌+◌}
use mathlib.Core.Path.{◌≡◌, refl, ◌∙◌}
use mathlib.Core.Bool.{Bool, true, false, cond, ◌&&◌, ◌||◌}
use lib.Dec.{eqb, leb}
use lib.ListN.{get_or, set}
use Rattle.lists.specs.Loops.{every}
use Rattle.lists.specs.Refusal.{refused_if}
use Rattle.plan.specs.declared.Plan.{Plan}
use Rattle.positions.specs.Ring.{Ring, no_more, user_node, a_junction, nodes_in, junctions_in}
use Rattle.plan.specs.Plan.{heads_in_range, positions_read, ring_of, junctions_allowed, in_range, node_count, junction_count}
use Rattle.usernode.specs.Astray.{astray}
use Rattle.zeronode.specs.Turn.{zero_turn, overflows}
use Rattle.ring.specs.declared.State.{State}
use Rattle.ring.specs.State.{rest_node, rest_junction}
use Rattle.ring.specs.Sound.{zero_passes, node_passes, junction_passes, sound}
use Rattle.ring.specs.Walk.{node_here, junction_here, turn_here, on_node, wanted, enters, leaves, along, setting_out, walk}
use Rattle.ring.specs.Step.{StepTold, next_state, step_number, refused, done, moving, stepping}
use Rattle.books.specs.Alike.{Alike, under_plan, under, under_step}
use Rattle.books.proofs.Rules.{turn_same, node-sound, zero-sound, junction-sound}

-- the range of a plan, its user nodes and its junctions
module _ (k : ℕ) (plan : Plan) (a : Alike k plan.rules) where
  pub range_under : in_range (under_plan k plan) ≡ in_range plan
  unfolding in_range heads_in_range junctions_allowed ring_of positions_read
  range_under =
      λ i. a.least i && a.most i && leb 1 plan.locks && leb plan.locks 64 && leb 1 plan.positions && leb plan.positions 16
      && (positions_read plan).right && leb (nodes_in (ring_of plan)) 64 && (a.many i || eqb (junctions_in (ring_of plan)) 0)

  pub nodes_under : node_count (under_plan k plan) ≡ node_count plan
  unfolding node_count ring_of positions_read
  nodes_under = λ i. cond (range_under i) (nodes_in (ring_of plan)) 0

  pub junctions_under : junction_count (under_plan k plan) ≡ junction_count plan
  unfolding junction_count ring_of positions_read
  junctions_under = λ i. cond (range_under i) (junctions_in (ring_of plan)) 0

-- a choice of what is under these rules
step_chosen : (k : ℕ) (test : Bool) (one other : StepTold) → cond test (under_step k one) (under_step k other) ≡ under_step k (cond test one other)
step_chosen k true one other = refl
step_chosen k false one other = refl

module _ (k : ℕ) (state : State) (a : Alike k state.plan.rules) where
  -- 13
  pub sound-under : sound (under k state) ≡ sound state
  unfolding sound zero_passes node_passes junction_passes
  sound-under =
      let rules = state.plan.rules in
      let locks = state.plan.locks in
      let nodes = nodes_under k state.plan a in
      λ i. range_under k state.plan a i
      && zero-sound k rules a i (nodes i) locks state.zeroth
      && every (λ place. node-sound k rules a i (nodes i) locks (get_or state.nodes place rest_node)) (nodes i)
      && every (λ place. junction-sound k rules a i (nodes i) locks (get_or state.junctions place rest_junction)) (junctions_under k state.plan a i)

  -- the walk past a node, along a ring, along the plan's ring
  node_under : on_node (under k state) ≡ on_node state
  unfolding on_node turn_here node_here
  node_under =
      λ i walk. let here = node_here state walk in
      let turned = turn_same k state.plan.rules a i (walk.passed + 1) walk.last here in
      record {
        passed = walk.passed + 1;
        turned = walk.turned;
        last = here.car;
        astray = walk.astray || astray here (walk.passed + 1) walk.last;
        nodes = set walk.nodes walk.passed turned.node;
        events = set walk.events walk.passed turned.event;
        junctions = walk.junctions;
      }

  along_under : (inner : Bool) (ring : Ring) → along (under k state) inner ring ≡ along state inner ring
  unfolding along enters leaves junction_here wanted
  along_under inner no_more = refl
  along_under inner (user_node rest) = λ i walk. along_under inner rest i (node_under i walk)
  along_under inner (a_junction subring rest) =
      λ i walk. along_under inner rest i (leaves state inner (nodes_in subring) walk (along_under true subring i (enters state walk)))

  pub walk-under : walk (under k state) ≡ walk state
  unfolding walk setting_out ring_of positions_read
  walk-under = λ i. along_under false (ring_of state.plan) i (setting_out state)

  -- a step that 13 does not refuse
  moving-under : moving (under k state) ≡ under_step k (moving state)
  unfolding moving step_number done next_state refused
  moving-under =
      (λ i. let w = walk-under i in
      let number = refused_if (overflows state.zeroth w.last) 14 (refused_if w.astray 15 0) in
      cond (eqb number 0)
      (record {
        number = 0;
        state = record { plan = under_plan k state.plan; zeroth = zero_turn state.zeroth w.last; nodes = w.nodes; junctions = w.junctions };
        events = w.events;
      })
      (refused number (under k state)))
      ∙ step_chosen k (eqb (step_number state) 0) (done state) (refused (step_number state) state)

  -- any step
  pub stepping-under : stepping (under k state) ≡ under_step k (stepping state)
  unfolding stepping refused
  stepping-under = (λ i. cond (sound-under i) (moving-under i) (refused 13 (under k state))) ∙ step_chosen k (sound state) (moving state) (refused 13 state)
