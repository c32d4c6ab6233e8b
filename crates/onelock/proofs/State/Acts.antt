-- The line of a state after an action, and the lists' places after a start, a step and an action.
use Prim.Native.Nat.{ℕ, suc, ◌+◌, ◌-◌, ◌≤◌, ◌<◌}
use mathlib.Core.Path.{◌≡◌, refl, sym, ◌∙◌, ap, ap₂}
use mathlib.Core.Bool.{Bool, true, false, cond}
use mathlib.Core.List.{List}
use native.Mathlib.Omega.{arith}
use lib.Dec.{eqb}
use lib.ListN.{get_or, set, length, length-set, length-replicate}
use lib.Seq.{get_or-set_same, get_or-set_other}
use borrow.Author.Tests.{eqb-true, eqb-false}
use Rattle.cars.specs.declared.Car.TheVariants.{Idle}
use Rattle.plan.specs.declared.Plan.{Plan}
use Rattle.positions.specs.Ring.{Ring, no_more, user_node, a_junction, nodes_in, junctions_in}
use Rattle.plan.specs.Plan.{ring_of, in_range}
use Rattle.usernode.specs.declared.Node.{Node}
use Rattle.junction.specs.declared.Junction.{Junction}
use Rattle.acts.specs.declared.Action.{Action}
use Rattle.acts.specs.Actions.{acted}
use Rattle.ring.specs.declared.State.{State}
use Rattle.ring.specs.State.{rest_node, rest_junction, node_of, start_of}
use Rattle.ring.specs.Actions.{acted_state, action_number}
use Rattle.ring.specs.Walk.{setting_out, walk}
use Rattle.ring.specs.Step.{next_state}
use Rattle.ring.proofs.Laws.{accepted_node, node_place}
use Rattle.onelock.proofs.Line.Ring.{user, junction, change}
use Rattle.onelock.proofs.State.AsLine.{line_at, line_of, Formed}
use Rattle.onelock.proofs.State.Through.{line_nodes}
use Rattle.onelock.proofs.State.Walk.{goes_walk}
use Rattle.onelock.proofs.State.Zero.{zero_places}

-- the lists have their places at the start
pub formed_start : (plan : Plan) → Formed (start_of plan)
unfolding start_of
formed_start plan = record { nodes = length-replicate 64 rest_node; junctions = length-replicate 144 rest_junction; queue = length-replicate 65 Idle }

-- a step leaves the places of the lists
pub formed_next : (s : State) → Formed s → s.zeroth.count ≤ 65 → Formed (next_state s)
unfolding next_state setting_out
formed_next s f c =
    let l = (goes_walk s).later in
    record { nodes = l.node_places_lem ∙ f.nodes; junctions = l.junction_places_lem ∙ f.junctions; queue = zero_places s.zeroth (walk s).last f.queue c }

-- an action leaves the places of the lists
pub formed_act : (action : Action) (s : State) (node lock : ℕ) → Formed s → Formed (acted_state action s node lock)
unfolding acted_state
formed_act action s node lock f = record { nodes = length-set s.nodes (node - 1) _ ∙ f.nodes; junctions = f.junctions; queue = f.queue }

-- one node of the list put anew: the line with the node of that number changed
module _ (nodes : List Node) (q : ℕ) (f : Node → Node) (below : q < length nodes) where
  -- the list with that node put anew
  abbrev pub anew : List Node
  anew = set nodes q (f (get_or nodes q rest_node))

  -- a node of that list
  pub node_anew : (i : ℕ) → get_or anew i rest_node ≡ cond (eqb (suc i) (suc q)) (f (get_or nodes i rest_node)) (get_or nodes i rest_node)
  node_anew i = go (eqb (suc i) (suc q)) refl
    where
      go : (b : Bool) → eqb (suc i) (suc q) ≡ b → get_or anew i rest_node ≡ cond b (f (get_or nodes i rest_node)) (get_or nodes i rest_node)
      go true e =
          let same : i ≡ q = omega (arith, eqb-true (suc i) (suc q) e) in
          rw same (get_or-set_same nodes q _ rest_node below)
      go false e = get_or-set_other nodes q i _ rest_node (omega (arith, eqb-false (suc i) (suc q) e))

  -- a ring along that list
  line_anew : (t : Ring) (junctions : List Junction) (i j : ℕ) → line_at t anew junctions i j ≡ change (suc q) f i (line_at t nodes junctions i j)
  line_anew no_more junctions i j = refl
  line_anew (user_node rest) junctions i j = ap₂ user (node_anew i) (line_anew rest junctions (suc i) j)
  line_anew (a_junction subring rest) junctions i j =
      let behind = line_at rest nodes junctions (i + nodes_in subring) (j + 1 + junctions_in subring) in
      ap₂ (junction (get_or junctions j rest_junction)) (line_anew subring junctions i (j + 1))
      (line_anew rest junctions (i + nodes_in subring) (j + 1 + junctions_in subring)
      ∙ ap (λ (k : ℕ). change (suc q) f (i + k) behind) (sym (line_nodes subring nodes junctions i (j + 1))))

-- the line after an action
pub line_act : (action : Action) (s : State) (node lock : ℕ) → Formed s → action_number action s node lock ≡ 0 → in_range s.plan ≡ true
    → line_of (acted_state action s node lock) ≡ change node (λ u. acted s.plan.rules action u lock) 0 (line_of s)
unfolding acted_state node_of
line_act action s node lock f a r =
    let place = node_place s.plan node (accepted_node action s node lock a) in
    let e : suc (node - 1) ≡ node = omega (arith, place.0) in
    let low : node - 1 < length s.nodes = omega (arith, place.0, place.1, f.nodes) in
    let act : Node → Node = λ u. acted s.plan.rules action u lock in
    line_anew s.nodes (node - 1) act low (ring_of s.plan) s.junctions 0 0
    ∙ ap (λ (number : ℕ). change number act 0 (line_of s)) e
