-- The walk along a ring whose positions are one byte each is the walk position by position of before.
use Prim.Native.Nat.{ℕ, zero, suc, ◌+◌, ◌≤◌}
use mathlib.Core.Path.{◌≡◌, refl, sym, ap, ◌∙◌}
use mathlib.Core.Bool.{true, false, cond}
use native.Mathlib.Nat.{zero-add}
use native.Mathlib.Omega.{arith}
use lib.Dec.{eqb, eqb-suc-zero}
use lib.ListN.{length, get_or, set}
use Rattle.lists.specs.Loops.{iterate, in_order}
use Rattle.lists.proofs.Laws.{iterate-first, in_order-more}
use Rattle.positions.specs.Ring.{Ring, nodes_in, users_only}
use Rattle.positions.proofs.Counts.{users_nodes}
use Rattle.positions.proofs.OldPlans.{ring_one, ring_from}
use Rattle.junction.proofs.MainRing.{on_the_main_ring}
use Rattle.ring.specs.declared.State.{State}
use Rattle.ring.specs.Walk.{Walk, node_here, junction_here, turn_here, on_node, wanted, enters, leaves, along, setting_out, walk}
use Rattle.onelevel.specs.Before.{value_at, in_range_before, junction_rule_before, junction_turn_before, into_subring, out_of_subring, on_junction, on_position, walk_before}
use Rattle.onelevel.proofs.Range.{was_ring}

module _ (state : State) where
  -- so many user nodes and nothing else
  users_along : (count : ℕ) (w : Walk) → along state true (users_only count) w ≡ iterate (on_node state) count w
  unfolding along users_only iterate
  users_along zero w = refl
  users_along (suc count) w = users_along count (on_node state w) ∙ sym (iterate-first (on_node state) count w)

  -- a junction was counted where the walk came to it, and once its turn was done before: what is between does not depend on it
  abbrev one_more_note : Walk → Walk
  one_more_note w =
      record {
        passed = w.passed;
        turned = w.turned + 1;
        last = w.last;
        astray = w.astray;
        nodes = w.nodes;
        events = w.events;
        junctions = w.junctions;
      }

  one-more_nodes : (count : ℕ) (w : Walk) → iterate (on_node state) count (one_more_note w) ≡ one_more_note (iterate (on_node state) count w)
  unfolding iterate on_node turn_here node_here
  one-more_nodes zero w = refl
  one-more_nodes (suc count) w = ap (on_node state) (one-more_nodes count w)

  -- user nodes turn no junction
  turned_kept : (count : ℕ) (w : Walk) → (iterate (on_node state) count w).turned ≡ w.turned
  unfolding iterate on_node
  turned_kept zero w = refl
  turned_kept (suc count) w = turned_kept count w

  junctions_kept : (count : ℕ) (w : Walk) → (iterate (on_node state) count w).junctions ≡ w.junctions
  unfolding iterate on_node
  junctions_kept zero w = refl
  junctions_kept (suc count) w = junctions_kept count w

  -- out of a junction on the main ring
  out_same : (size : ℕ) (before inside : Walk) → inside.turned ≡ before.turned → inside.junctions ≡ before.junctions
      → leaves state false size before (one_more_note inside) ≡ out_of_subring state size before inside
  unfolding leaves out_of_subring junction_turn_before junction_rule_before
  out_same size before inside turned junctions =
      let turn = on_the_main_ring before.passed (before.passed + size) (wanted state before.passed size) before.last inside.last
      (junction_here state before) in
      λ i. record {
        passed = inside.passed;
        turned = turned i + 1;
        last = (junction_here state before).main;
        astray = inside.astray;
        nodes = inside.nodes;
        events = inside.events;
        junctions = set (junctions i) before.turned (turn i);
      }

  -- a junction with so many user nodes on its subring
  abbrev through : ℕ → ℕ → Walk → Walk
  through size count w = leaves state false size w (along state true (users_only count) (enters state w))

  into_same : (w : Walk) → enters state w ≡ one_more_note (into_subring state w)
  unfolding enters into_subring
  into_same w = refl

  junction_same : (count : ℕ) (w : Walk) → through (nodes_in (users_only count)) count w ≡ on_junction state count w
  unfolding on_junction into_subring
  junction_same count w =
      let into = into_subring state w in
      let inside = iterate (on_node state) count into in
      ap (λ (size : ℕ). through size count w) (users_nodes count)
      ∙ ap (leaves state false count w) (users_along count (enters state w) ∙ ap (iterate (on_node state) count) (into_same w) ∙ one-more_nodes count into)
      ∙ out_same count w inside (turned_kept count into) (junctions_kept count into)

  -- a position of this value, then the rest of the ring
  position_same : (value : ℕ) (rest : Ring) (w : Walk)
      → along state false (ring_one value rest) w ≡ along state false rest (cond (eqb value 0) (on_node state w) (on_junction state value w))
  unfolding along ring_one
  position_same zero rest w = refl
  position_same (suc value) rest w = rw eqb-suc-zero (ap (along state false rest) (junction_same (suc value) w))

  -- so many positions from a place on, those before it being passed
  positions_same : (place count : ℕ) (w : Walk)
      → along state false (ring_from state.plan.values place count) (in_order (on_position state) place w)
      ≡ in_order (on_position state) (place + count) w
  unfolding along ring_from on_position value_at
  positions_same place zero w = let e : place ≡ place + 0 = omega arith in ap (λ (p : ℕ). in_order (on_position state) p w) e
  positions_same place (suc count) w =
      let rest = ring_from state.plan.values (place + 1) count in
      let end : place + 1 + count ≡ place + suc count = omega arith in
      position_same (get_or state.plan.values place 0) rest (in_order (on_position state) place w)
      ∙ ap (along state false rest) (sym (in_order-more (on_position state) place w))
      ∙ positions_same (place + 1) count w
      ∙ ap (λ (p : ℕ). in_order (on_position state) p w) end

  -- all of them
  pub walk_as_before : 16 ≤ length state.plan.values → in_range_before state.plan ≡ true → walk state ≡ walk_before state
  unfolding walk walk_before in_order
  walk_as_before room range =
      ap (λ (ring : Ring). along state false ring (setting_out state)) (was_ring state.plan room range)
      ∙ positions_same 0 state.plan.positions (setting_out state)
      ∙ ap (λ (p : ℕ). in_order (on_position state) p (setting_out state)) (zero-add state.plan.positions)
