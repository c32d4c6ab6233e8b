-- The step along a route as its loop sees it: what holds where a leg is reached, one leg more of each kind, and the end.
use Prim.Native.Nat.{ℕ, suc, ◌+◌, ◌≤◌, ◌<◌}
use mathlib.Core.Path.{◌≡◌, refl, ◌∙◌, ap, sym}
use mathlib.Core.Bool.{Bool, false, ◌||◌}
use mathlib.Core.List.{List, [], ◌∷◌}
use native.Mathlib.Numerals.{add-one}
use native.Mathlib.Omega.{arith}
use lib.ListN.{length, get_or, set, drop, drop_of_length-le}
use lib.Seq.{drop-cons}
use Rattle.std.proofs.Math.Bool.{or_comm}
use Rattle.std.proofs.Common.{Option, Some, None, Ok}
use Rattle.lists.specs.Refusal.{refused_if}
use Rattle.cars.specs.declared.Car.{Car}
use Rattle.plan.specs.declared.Plan.{Plan}
use Rattle.route.specs.declared.Leg.{Leg}
use Rattle.route.specs.declared.Leg.TheVariants.{At, Into, Out}
use Rattle.route.specs.Route.{leg_of}
use Rattle.usernode.specs.declared.Node.{Node}
use Rattle.usernode.specs.Node.{wants_train}
use Rattle.usernode.specs.Astray.{astray}
use Rattle.turns.specs.declared.Event.{Event}
use Rattle.turns.specs.declared.Turn.{Turn}
use Rattle.turns.specs.Turn.{turn}
use Rattle.junction.specs.declared.Junction.{Junction}
use Rattle.junction.specs.Turn.{junction_turn}
use Rattle.zeronode.specs.declared.ZeroNode.{ZeroNode}
use Rattle.zeronode.specs.Turn.{zero_turn, overflows}
use Rattle.ring.specs.declared.State.{State}
use Rattle.ring.specs.declared.Entered.{Entered}
use Rattle.ring.specs.State.{rest_node, rest_junction}
use Rattle.ring.specs.Step.{step_told, step_answer_number}
use Rattle.ring.specs.Trip.{Trip, unopened, at_node, into_junction, out_of_junction, on_leg, going, sets_out, trip, trip_number, trip_done, moving_along}

-- a trip of its parts
abbrev pub trip_of : ℕ → Car → Bool → Bool → List Node → List (Option Event) → List Junction → List Entered → Trip
trip_of passed last astray wants nodes events junctions opened =
    record { passed = passed; last = last; astray = astray; wants = wants; nodes = nodes; events = events; junctions = junctions; opened = opened }

-- the trip after a leg, of the parts that the leg leaves
pub trip_after : {passed passed₁ : ℕ} {last last₁ : Car} {astray astray₁ wants wants₁ : Bool} {next next₁ : State} {events events₁ : List (Option Event)} {opened opened₁ : List Entered}
    → passed ≡ passed₁ → last ≡ last₁ → astray ≡ astray₁ → wants ≡ wants₁ → next ≡ next₁ → events ≡ events₁ → opened ≡ opened₁
    → trip_of passed last astray wants next.nodes events next.junctions opened ≡ trip_of passed₁ last₁ astray₁ wants₁ next₁.nodes events₁ next₁.junctions opened₁
trip_after p l a w n e o = λ i. trip_of (p i) (l i) (a i) (w i) (n i).nodes (e i) (n i).junctions (o i)

-- where the leg at this place of the route is reached: what is still to come gives, with the trip so far, the whole trip
pub record Reached (state : State) (route : List ℕ) (i : ℕ) (t : Trip) : Type 0 where
  pub below : i ≤ length route
  pub so_far : going state (drop i route) t ≡ trip state route

pub reached_start : (state : State) (route : List ℕ) → Reached state route 0 (sets_out state)
unfolding trip
reached_start state route = record { below = omega arith; so_far = refl }

-- one leg more
pub reached_next_lem : (state : State) (route : List ℕ) (i : ℕ) (before after : Trip) (leg : Option Leg) → Reached state route i before → i < length route
    → leg ≡ leg_of (get_or route i 0) → after ≡ on_leg state before leg → Reached state route (i + 1) after
unfolding going
reached_next_lem state route i before after leg r l e a =
    let next : drop i route ≡ get_or route i 0 ∷ drop (suc i) route = drop-cons route i 0 l in
    let here : going state (drop i route) before ≡ going state (drop (suc i) route) (on_leg state before (leg_of (get_or route i 0))) = ap (λ (x : List ℕ). going state x before) next in
    record {
      below = omega (arith, l);
      so_far =
          ap (λ (k : ℕ). going state (drop k route) after) (add-one i)
          ∙ ap (going state (drop (suc i) route)) (a ∙ ap (on_leg state before) e)
          ∙ sym here
          ∙ r.so_far;
    }

-- past a number that names no sender
pub past_nowhere : (state : State) (t : Trip) → t ≡ on_leg state t None
unfolding on_leg
past_nowhere state t = refl

-- a user node's turn, put together from what the calls gave
pub past_node_lem : (state : State) (t : Trip) (place : ℕ) (turned : Turn) (stray wish : Bool)
    → turned ≡ turn state.plan.rules (place + 1) t.last (get_or state.nodes place rest_node)
    → stray ≡ astray (get_or state.nodes place rest_node) (place + 1) t.last
    → wish ≡ wants_train (get_or state.nodes place rest_node)
    → trip_of (place + 1) (get_or state.nodes place rest_node).car (t.astray || stray) (t.wants || wish) (set t.nodes place turned.node) (set t.events place turned.event) t.junctions t.opened
    ≡ on_leg state t (Some (At place))
unfolding on_leg at_node
past_node_lem state t place turned stray wish a b c = simp (c, b, a)

-- into a junction
pub into_junction_lem : (state : State) (t : Trip) (place : ℕ)
    → trip_of t.passed (get_or state.junctions place rest_junction).subring t.astray false t.nodes t.events t.junctions (set t.opened place (record { arrival = t.last; low = t.passed; wants = t.wants }))
    ≡ on_leg state t (Some (Into place))
unfolding on_leg into_junction
into_junction_lem state t place = refl

-- out of it
pub out_of_junction_lem : (state : State) (t : Trip) (inner : Bool) (place : ℕ) (junction : Junction)
    → junction ≡ junction_turn inner (get_or t.opened place unopened).low t.passed t.wants (get_or t.opened place unopened).arrival t.last (get_or state.junctions place rest_junction)
    → trip_of t.passed (get_or state.junctions place rest_junction).main t.astray (t.wants || (get_or t.opened place unopened).wants) t.nodes t.events (set t.junctions place junction) t.opened
    ≡ on_leg state t (Some (Out inner place))
unfolding on_leg out_of_junction
out_of_junction_lem state t inner place junction j = simp (j, or_comm t.wants (get_or t.opened place unopened).wants)

-- all legs gone
pub arrived : (state : State) (route : List ℕ) (i : ℕ) (t : Trip) → Reached state route i t → length route ≤ i → t ≡ trip state route
unfolding going
arrived state route i t r l =
    let none : drop i route ≡ [] = drop_of_length-le route l in
    let here : going state (drop i route) t ≡ t = ap (λ (x : List ℕ). going state x t) none in
    sym here ∙ r.so_far

-- a step that neither 14 nor 15 refuses: the zero node has had its turn too, and the plan is the one it was
pub moved : (state : State) (route : List ℕ) (after : Trip) (plan : Plan) (zeroth : ZeroNode)
    → after ≡ trip state route
    → plan ≡ state.plan
    → overflows state.zeroth after.last ≡ false
    → after.astray ≡ false
    → zeroth ≡ zero_turn state.zeroth after.last
    → step_told (record { answer = Ok tt; state = record { plan = plan; zeroth = zeroth; nodes = after.nodes; junctions = after.junctions }; events = after.events }) ≡ moving_along route state
unfolding moving_along step_told trip_number refused_if trip_done step_answer_number
moved state route after plan zeroth w p o a z = simp (z, ← w, p, o, a)
