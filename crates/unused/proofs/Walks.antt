-- The walks of two states that are the same in every place in use, side by side: they end with the same car, the same events and the same places in use,
-- and the places beyond the plan are as they were.
use Prim.Native.Nat.{ℕ, ◌+◌, ◌≤◌, ◌<◌}
use mathlib.Core.Path.{◌≡◌, refl, ◌∙◌, sym, ap, ap₂, subst, subst₂}
use mathlib.Core.Bool.{Bool, true, false, ◌||◌}
use mathlib.Core.List.{List}
use native.Mathlib.Omega.{arith}
use lib.ListN.{take, drop, set}
use lib.Seq.{drop-set-lt}
use Rattle.lists.proofs.Laws.{some_same}
use Rattle.cars.specs.declared.Car.{Car}
use Rattle.positions.specs.Ring.{Ring, no_more, user_node, a_junction, nodes_in, junctions_in}
use Rattle.plan.specs.Plan.{ring_of, in_range, node_count, junction_count}
use Rattle.plan.proofs.Laws.{counted, junctions_counted}
use Rattle.usernode.specs.declared.Node.{Node}
use Rattle.usernode.specs.Node.{wants_train}
use Rattle.usernode.specs.Astray.{astray}
use Rattle.std.specs.Prelude.{Option}
use Rattle.turns.specs.declared.Event.{Event}
use Rattle.turns.specs.Turn.{turn}
use Rattle.junction.specs.declared.Junction.{Junction}
use Rattle.junction.specs.Turn.{junction_turn}
use Rattle.ring.specs.declared.State.{State}
use Rattle.ring.specs.Walk.{Walk, node_here, junction_here, turn_here, on_node, wanted, enters, leaves, along, setting_out, walk}
use Rattle.unused.specs.Unused.{Agree}
use Rattle.unused.proofs.Lists.{same_set}
use Rattle.unused.proofs.Passing.{like, ring_same, node_same, junction_same}

-- a walk, by its parts
abbrev walk_of : ℕ → ℕ → Car → Bool → List Node → List (Option Event) → List Junction → Walk
walk_of passed turned last astray nodes events junctions =
    record { passed = passed; turned = turned; last = last; astray = astray; nodes = nodes; events = events; junctions = junctions }

-- a walk with other lists of nodes and junctions
abbrev pub with_lists : Walk → List Node → List Junction → Walk
with_lists w nodes junctions = walk_of w.passed w.turned w.last w.astray nodes w.events junctions

-- the walk past this node
abbrev past : ℕ → Node → Walk → Walk
past rules node w =
    record {
      passed = w.passed + 1;
      turned = w.turned;
      last = node.car;
      astray = w.astray || astray node (w.passed + 1) w.last;
      nodes = set w.nodes w.passed (turn rules (w.passed + 1) w.last node).node;
      events = set w.events w.passed (turn rules (w.passed + 1) w.last node).event;
      junctions = w.junctions;
    }

-- two states that are the same in every place in use, and whose plans are in range
module _ (a b : State) (g : Agree a (like a b)) (range : in_range a.plan ≡ true) where
  -- the numbers of user nodes and of junctions
  abbrev users : ℕ
  users = node_count a.plan

  abbrev gates : ℕ
  gates = junction_count a.plan

  -- two walks that have passed n nodes and turned j junctions: w is the first state's, v the second's
  pub record Beside (n j : ℕ) (w v : Walk) : Type 0 where
    pub passed : w.passed ≡ n
    pub turned : w.turned ≡ j
    pub its_nodes : List Node
    pub its_junctions : List Junction
    pub same : v ≡ with_lists w its_nodes its_junctions
    pub nodes_used : take users w.nodes ≡ take users its_nodes
    pub junctions_used : take gates w.junctions ≡ take gates its_junctions
    pub nodes_left : drop users w.nodes ≡ drop users a.nodes
    pub junctions_left : drop gates w.junctions ≡ drop gates a.junctions

  -- past a user node of the plan
  beside_node : (n j : ℕ) (w v : Walk) → n < users → Beside n j w v → Beside (n + 1) j (on_node a w) (on_node (like a b) v)
  unfolding on_node turn_here node_here
  beside_node n j w v below h =
      let here : w.passed < users = omega (arith, h.passed) in
      let node = node_same a b g w.passed here in
      record {
        passed = ap (λ (k : ℕ). k + 1) h.passed;
        turned = h.turned;
        its_nodes = set h.its_nodes w.passed _;
        its_junctions = h.its_junctions;
        same = ap (on_node (like a b)) h.same ∙ ap (λ (u : Node). past a.plan.rules u (with_lists w h.its_nodes h.its_junctions)) (sym node);
        nodes_used = same_set users w.nodes h.its_nodes w.passed _ here h.nodes_used;
        junctions_used = h.junctions_used;
        nodes_left = drop-set-lt users w.nodes w.passed _ here ∙ h.nodes_left;
        junctions_left = h.junctions_left;
      }

  -- into a junction of the plan
  beside_into : (n j : ℕ) (w v : Walk) → j < gates → Beside n j w v → Beside n (j + 1) (enters a w) (enters (like a b) v)
  unfolding enters junction_here
  beside_into n j w v below h =
      let junction = junction_same a b g w.turned (omega (arith, h.turned)) in
      record {
        passed = h.passed;
        turned = ap (λ (k : ℕ). k + 1) h.turned;
        its_nodes = h.its_nodes;
        its_junctions = h.its_junctions;
        same = ap (enters (like a b)) h.same ∙ ap (λ (x : Junction).
            walk_of w.passed (w.turned + 1) x.subring w.astray h.its_nodes w.events h.its_junctions) (sym junction);
        nodes_used = h.nodes_used;
        junctions_used = h.junctions_used;
        nodes_left = h.nodes_left;
        junctions_left = h.junctions_left;
      }

  -- some node within a junction wants a train in both, or in neither
  wanted_same : (place size : ℕ) → place + size ≤ users → wanted a place size ≡ wanted (like a b) place size
  unfolding wanted
  wanted_same place size room =
      some_same _ _ size (λ k below. ap wants_train (node_same a b g (place + k) (omega arith)))

  -- out of it: before is the walk at the junction, inside the walk at its subring's end
  beside_out : (inner : Bool) (n m j k size : ℕ) (before before' inside inside' : Walk) → n + size ≤ users → j < gates
      → Beside n j before before' → Beside m k inside inside'
      → Beside m k (leaves a inner size before inside) (leaves (like a b) inner size before' inside')
  unfolding leaves junction_here
  beside_out inner n m j k size before before' inside inside' room below h i =
      let here : before.turned < gates = omega (arith, h.turned) in
      let junction = junction_same a b g before.turned here in
      let wants = wanted_same before.passed size (omega (arith, h.passed)) in
      record {
        passed = i.passed;
        turned = i.turned;
        its_nodes = i.its_nodes;
        its_junctions = set i.its_junctions before.turned _;
        same = ap₂ (leaves (like a b) inner size) h.same i.same ∙ ap₂ (λ (t : Bool) (x : Junction).
            walk_of inside.passed inside.turned x.main inside.astray i.its_nodes inside.events
            (set i.its_junctions before.turned
            (junction_turn inner before.passed (before.passed + size) t before.last inside.last x))) (sym wants) (sym junction);
        nodes_used = i.nodes_used;
        junctions_used = same_set gates inside.junctions i.its_junctions before.turned _ here i.junctions_used;
        nodes_left = i.nodes_left;
        junctions_left = drop-set-lt gates inside.junctions before.turned _ here ∙ i.junctions_left;
      }

  -- along a ring of nodes and junctions of the plan
  beside_along : (inner : Bool) (ring : Ring) (n j : ℕ) (w v : Walk) → n + nodes_in ring ≤ users → j + junctions_in ring ≤ gates → Beside n j w v
      → Beside (n + nodes_in ring) (j + junctions_in ring) (along a inner ring w) (along (like a b) inner ring v)
  unfolding along nodes_in junctions_in
  beside_along inner no_more n j w v room gate h = subst₂ (λ (m i : ℕ). Beside m i w v) (omega arith) (omega arith) h
  beside_along inner (user_node rest) n j w v room gate h =
      let w₁ = on_node a w in
      let v₁ = on_node (like a b) v in
      subst (λ (m : ℕ). Beside m (j + junctions_in rest) (along a inner rest w₁) (along (like a b) inner rest v₁)) (omega arith)
      (beside_along inner rest (n + 1) j w₁ v₁ (omega (arith, room)) gate (beside_node n j w v (omega (arith, room)) h))
  beside_along inner (a_junction subring rest) n j w v room gate h =
      let size = nodes_in subring in
      let m = n + size in
      let k = j + 1 + junctions_in subring in
      let inside = along a true subring (enters a w) in
      let inside' = along (like a b) true subring (enters (like a b) v) in
      let out = leaves a inner size w inside in
      let out' = leaves (like a b) inner size v inside' in
      subst₂ (λ (x y : ℕ). Beside x y (along a inner rest out) (along (like a b) inner rest out')) (omega arith) (omega arith)
      (beside_along inner rest m k out out' (omega (arith, room)) (omega (arith, gate))
      (beside_out inner n m j k size w v inside inside' (omega (arith, room)) (omega (arith, gate)) h
      (beside_along true subring n (j + 1) (enters a w) (enters (like a b) v) (omega (arith, room)) (omega (arith, gate))
      (beside_into n j w v (omega (arith, gate)) h))))

  -- two walks at the end of the plan's ring
  abbrev pub Reached : Walk → Walk → Type 0
  Reached = Beside users gates

  beside_start : Beside 0 0 (setting_out a) (setting_out (like a b))
  unfolding setting_out
  beside_start =
      record {
        passed = refl;
        turned = refl;
        its_nodes = b.nodes;
        its_junctions = b.junctions;
        same = refl;
        nodes_used = g.nodes;
        junctions_used = g.junctions;
        nodes_left = refl;
        junctions_left = refl;
      }

  -- past all positions
  pub beside_walk : Reached (walk a) (walk (like a b))
  unfolding walk
  beside_walk =
      let ring = ring_of a.plan in
      let nodes = counted a.plan range in
      let junctions = junctions_counted a.plan range in
      subst (λ (r : Ring). Reached (walk a) (along (like a b) false r (setting_out (like a b)))) (ring_same a b g)
      (subst₂ (λ (n j : ℕ). Beside n j (walk a) (along (like a b) false ring (setting_out (like a b)))) (omega (arith, nodes)) (omega (arith, junctions))
      (beside_along false ring 0 0 (setting_out a) (setting_out (like a b)) (omega (arith, nodes)) (omega (arith, junctions)) beside_start))
