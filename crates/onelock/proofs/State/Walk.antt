-- The model's walk and step, seen on the line: the walk's last car, a node astray, the line after the step, and what each node does.
use Prim.Native.Nat.{ℕ, ◌-◌, ◌≤◌}
use mathlib.Core.Path.{◌≡◌, ◌∙◌, sym}
use mathlib.Core.Bool.{true, false}
use native.Mathlib.Omega.{arith}
use lib.ListN.{get_or, length-replicate}
use Rattle.cars.specs.declared.Car.{Car}
use Rattle.plan.specs.Plan.{ring_of, node_count, in_range}
use Rattle.plan.proofs.Laws.{in_range_lem, counted, ring_junctions_most}
use Rattle.usernode.specs.declared.Node.{Node}
use Rattle.turns.specs.Turn.{turn}
use Rattle.ring.specs.declared.State.{State}
use Rattle.ring.specs.State.{node_of}
use Rattle.ring.specs.Step.{next_state}
use Rattle.ring.specs.Walk.{quiet, setting_out, walk}
use Rattle.ring.proofs.Routed.{along_passed, along_turned}
use Rattle.onelock.proofs.Line.Ring.{size, out, step_line}
use Rattle.onelock.proofs.Line.Meets.{Meets, meets_all}
use Rattle.onelock.proofs.State.AsLine.{line_at, line_of, strays, Formed}
use Rattle.onelock.proofs.State.Through.{Room, Made, Goes, between_self, line_nodes, goes_along}

-- the whole walk goes along the whole line
pub goes_walk : (s : State) → Goes s false (λ ns js. line_at (ring_of s.plan) ns js 0 0) (setting_out s) (walk s)
unfolding setting_out walk
goes_walk s = goes_along s false (ring_of s.plan) (setting_out s)

-- the walk ends with the line's last car
pub walk_last : (s : State) → (walk s).last ≡ out s.zeroth.car (line_of s)
unfolding setting_out
walk_last s = (goes_walk s).last

-- the walk finds a node astray where the line has one
pub walk-astray : (s : State) → (walk s).astray ≡ strays 0 s.zeroth.car (line_of s)
unfolding setting_out
walk-astray s = (goes_walk s).astray

-- the line has the plan's nodes
pub line_size : (s : State) → in_range s.plan ≡ true → size (line_of s) ≡ node_count s.plan
line_size s r = line_nodes (ring_of s.plan) s.nodes s.junctions 0 0 ∙ sym (counted s.plan r)

-- a formed state has places for the whole walk
pub has_room : (s : State) → in_range s.plan ≡ true → Formed s → Room (walk s)
unfolding walk setting_out
has_room s r f =
    let ring = ring_of s.plan in
    let l = (goes_walk s).later in
    let passed : (walk s).passed ≤ 64 = omega (arith, along_passed s false ring (setting_out s), (in_range_lem s.plan r).nodes_most) in
    let turned : (walk s).turned ≤ 144 = omega (arith, along_turned s false ring (setting_out s), ring_junctions_most s.plan r) in
    record {
      nodes = omega (arith, l.node_places_lem, f.nodes);
      events = omega (arith, l.event_places, length-replicate 64 quiet);
      junctions = omega (arith, l.junction_places_lem, f.junctions);
    }

-- the line after a step
pub line_next : (s : State) → in_range s.plan ≡ true → Formed s → line_of (next_state s) ≡ step_line s.plan.rules false 0 s.zeroth.car (line_of s)
unfolding next_state setting_out
line_next s r f = ((goes_walk s).after (walk s) (has_room s r f) (between_self (setting_out s) (walk s))).line

-- what a node of the line is before and after a step, and its event
pub record Acts (s : State) (number : ℕ) (arrival : Car) (u : Node) : Type 0 where
  pub old : node_of s number ≡ u
  pub new : node_of (next_state s) number ≡ (turn s.plan.rules number arrival u).node
  pub event : get_or (walk s).events (number - 1) quiet ≡ (turn s.plan.rules number arrival u).event

-- what the walk made of a node is what it is in the next state
made_acts : (s : State) (number : ℕ) (arrival : Car) (u : Node) → Made s (walk s) number arrival u → Acts s number arrival u
unfolding node_of next_state
made_acts s number arrival u t = record { old = t.old; new = t.new; event = t.event }

-- each node of the line takes its turn in a step
pub line_acts : (s : State) → in_range s.plan ≡ true → Formed s → Meets (Acts s) 0 s.zeroth.car (line_of s)
unfolding setting_out
line_acts s r f =
    meets_all (Made s (walk s)) (Acts s) (made_acts s) 0 s.zeroth.car (line_of s)
    ((goes_walk s).after (walk s) (has_room s r f) (between_self (setting_out s) (walk s))).acts
