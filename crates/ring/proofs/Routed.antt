-- Going along the route of a ring is the walk along it: number by number on the one side, by recursion on the other.
use Prim.Native.Nat.{ℕ, zero, suc, ◌+◌, ◌≤◌, ◌<◌}
use mathlib.Core.Path.{◌≡◌, refl, sym, ap, ap₂, ◌∙◌}
use mathlib.Core.Bool.{Bool, true, false, cond, ◌||◌, or-false}
use mathlib.Core.List.{List, [], ◌∷◌, ◌++◌, append_assoc, append-nil}
use native.Mathlib.Nat.{add-zero}
use native.Mathlib.Omega.{arith}
use lib.Dec.{eqb}
use lib.ListN.{length, get_or, set, take, replicate, length-set, length-replicate}
use lib.Seq.{sets, length-sets, length-take-le, get_or-set_same, get_or-set_other}
use Rattle.lists.specs.Loops.{some}
use Rattle.lists.specs.Refusal.{refused_if}
use Rattle.lists.proofs.Laws.{some_none}
use Rattle.positions.specs.Ring.{Ring, no_more, user_node, a_junction, nodes_in, junctions_in}
use Rattle.plan.specs.declared.Plan.{Plan}
use Rattle.plan.specs.Plan.{junction_places, positions_read, ring_of, in_range}
use Rattle.plan.proofs.Laws.{in_range_lem, ring_junctions_most}
use Rattle.route.specs.Route.{into_number, out_number, leg_of, route_at, route_of, laid_in}
use Rattle.route.proofs.Legs.{leg_node, leg_into, leg_out}
use Rattle.route.proofs.Fitting.{laid_in_room, laid_taken, laid_route}
use Rattle.usernode.specs.Node.{wants_train}
use Rattle.junction.specs.declared.Junction.{Junction}
use Rattle.junction.specs.Turn.{junction_turn}
use Rattle.zeronode.specs.Turn.{zero_turn, overflows}
use Rattle.ring.specs.declared.State.{State}
use Rattle.ring.specs.declared.Entered.{Entered}
use Rattle.ring.specs.State.{rest_node, rest_junction}
use Rattle.ring.specs.Walk.{Walk, node_here, junction_here, turn_here, on_node, wanted, enters, leaves, along, setting_out, walk}
use Rattle.ring.specs.Step.{step_number, next_state, refused, done, moving}
use Rattle.ring.specs.Trip.{Trip, unopened, at_node, into_junction, out_of_junction, on_leg, going, sets_out, trip, trip_number, trip_done, moving_along}

-- three tests, one of which holds
or_assoc : (a b c : Bool) → (a || (b || c)) ≡ (a || b || c)
or_assoc true b c = refl
or_assoc false b c = refl

module _ (state : State) where
  -- who wants a train among some nodes and those behind them
  wanted_none : (low : ℕ) → wanted state low 0 ≡ false
  unfolding wanted
  wanted_none low = some_none _

  wanted_both : (low n m : ℕ) → (wanted state low n || wanted state (low + n) m) ≡ wanted state low (n + m)
  unfolding wanted some
  wanted_both low n zero = or-false (wanted state low n) ∙ ap (wanted state low) (sym (add-zero n))
  wanted_both low n (suc m) =
      let more : n + suc m ≡ suc (n + m) = omega arith in
      let here : low + n + m ≡ low + (n + m) = omega arith in
      or_assoc (wanted state low n) (wanted state (low + n) m) (wants_train (get_or state.nodes (low + n + m) rest_node))
      ∙ ap₂ (λ (b : Bool) (k : ℕ). b || wants_train (get_or state.nodes k rest_node)) (wanted_both low n m) here
      ∙ ap (wanted state low) (sym more)

  wanted_one : (low : ℕ) → wants_train (get_or state.nodes low rest_node) ≡ wanted state low 1
  unfolding wanted some
  wanted_one low = ap (λ (k : ℕ). wants_train (get_or state.nodes k rest_node)) (sym (add-zero low))

  -- how far a walk comes: past every node of the ring, and into every junction
  pub along_passed : (inner : Bool) (t : Ring) (w : Walk) → (along state inner t w).passed ≡ w.passed + nodes_in t
  unfolding along nodes_in on_node enters leaves
  along_passed inner no_more w = sym (add-zero _)
  along_passed inner (user_node rest) w = omega (arith, along_passed inner rest (on_node state w))
  along_passed inner (a_junction subring rest) w =
      omega (arith, along_passed inner rest (leaves state inner (nodes_in subring) w (along state true subring (enters state w))), along_passed true subring (enters state w))

  pub along_turned : (inner : Bool) (t : Ring) (w : Walk) → (along state inner t w).turned ≡ w.turned + junctions_in t
  unfolding along junctions_in on_node enters leaves
  along_turned inner no_more w = sym (add-zero _)
  along_turned inner (user_node rest) w = along_turned inner rest (on_node state w)
  along_turned inner (a_junction subring rest) w =
      omega (arith, along_turned inner rest (leaves state inner (nodes_in subring) w (along state true subring (enters state w))), along_turned true subring (enters state w))

  -- a walk as a trip, by who wants a train since the last junction was entered, with what is kept of the junctions that were entered
  abbrev trip_with : Walk → Bool → List Junction → List Entered → Trip
  trip_with w wants junctions opened =
      record { passed = w.passed; last = w.last; astray = w.astray; wants = wants; nodes = w.nodes; events = w.events; junctions = junctions; opened = opened }

  abbrev trip_from : Walk → Bool → List Entered → Trip
  trip_from w wants opened = trip_with w wants w.junctions opened

  -- what is kept where a junction is entered
  abbrev entry : Walk → Bool → Entered
  entry w wants = record { arrival = w.last; low = w.passed; wants = wants }

  -- one leg each: at a user node, into a junction, out of it
  node_leg : (w : Walk) (wants : Bool) (opened : List Entered) → w.passed < 64
      → on_leg state (trip_from w wants opened) (leg_of w.passed) ≡ trip_from (on_node state w) (wants || wanted state w.passed 1) opened
  unfolding on_leg at_node on_node node_here turn_here
  node_leg w wants opened h =
      ap (on_leg state (trip_from w wants opened)) (leg_node w.passed h)
      ∙ ap (λ (b : Bool). trip_from (on_node state w) (wants || b) opened) (wanted_one w.passed)

  into_leg : (w : Walk) (wants : Bool) (opened : List Entered) → w.turned < 144
      → on_leg state (trip_from w wants opened) (leg_of (into_number w.turned)) ≡ trip_from (enters state w) false (set opened w.turned (entry w wants))
  unfolding on_leg into_junction enters junction_here
  into_leg w wants opened h = ap (on_leg state (trip_from w wants opened)) (leg_into w.turned h)

  out_leg : (inner : Bool) (size : ℕ) (before inside : Walk) (wants : Bool) (opened : List Entered) → before.turned < 144
      → get_or opened before.turned unopened ≡ entry before wants → inside.passed ≡ before.passed + size
      → on_leg state (trip_from inside (wanted state before.passed size) opened) (leg_of (out_number inner before.turned))
      ≡ trip_from (leaves state inner size before inside) (wants || wanted state before.passed size) opened
  unfolding on_leg out_of_junction leaves junction_here
  out_leg inner size before inside wants opened h e p =
      let here = get_or state.junctions before.turned rest_junction in
      let within = wanted state before.passed size in
      ap (on_leg state (trip_from inside within opened)) (leg_out inner before.turned h)
      ∙ ap (λ (o : Entered). trip_with (leaves state inner size before inside) (o.wants || within)
      (set inside.junctions before.turned (junction_turn inner o.low inside.passed within o.arrival inside.last here)) opened) e
      ∙ ap (λ (n : ℕ). trip_with (leaves state inner size before inside) (wants || within)
      (set inside.junctions before.turned (junction_turn inner before.passed n within before.last inside.last here)) opened) p

  -- going along the route of a ring, and on, is going on from where the walk along it ends; of the junctions before it nothing is forgotten
  record Gone (inner : Bool) (t : Ring) (w : Walk) (wants : Bool) (opened : List Entered) : Type 0 where
    then : List Entered
    places : length then ≡ 144
    kept : (n : ℕ) → n < w.turned → get_or then n unopened ≡ get_or opened n unopened
    goes : (rest : List ℕ) → going state (route_at inner t w.passed w.turned ++ rest) (trip_from w wants opened)
        ≡ going state rest (trip_from (along state inner t w) (wants || wanted state w.passed (nodes_in t)) then)

  -- past a user node: the node's leg, then the rest
  gone_node : (inner : Bool) (rest : Ring) (w : Walk) (wants : Bool) (opened : List Entered) → w.passed < 64
      → Gone inner rest (on_node state w) (wants || wanted state w.passed 1) opened → Gone inner (user_node rest) w wants opened
  unfolding going route_at along on_node nodes_in
  gone_node inner rest w wants opened h g =
      let one = wanted state w.passed 1 in
      let later = wanted state (w.passed + 1) (nodes_in rest) in
      let all : (wants || one || later) ≡ (wants || wanted state w.passed (nodes_in rest + 1)) =
      sym (or_assoc wants one later)
      ∙ ap (λ (b : Bool). wants || b) (wanted_both w.passed 1 (nodes_in rest) ∙ ap (wanted state w.passed) (omega arith)) in
      record {
        then = g.then;
        places = g.places;
        kept = g.kept;
        goes = λ more. ap (going state (route_at inner rest (w.passed + 1) w.turned ++ more)) (node_leg w wants opened h) ∙ g.goes more
            ∙ ap (λ (b : Bool). going state more (trip_from (along state inner rest (on_node state w)) b g.then)) all;
      }

  -- past a junction: into it, along its subring, out of it, then the rest
  gone_junction : (inner : Bool) (subring rest : Ring) (w : Walk) (wants : Bool) (opened : List Entered) → w.turned < 144 → length opened ≡ 144
      → (g : Gone true subring (enters state w) false (set opened w.turned (entry w wants)))
      → Gone inner rest (leaves state inner (nodes_in subring) w (along state true subring (enters state w))) (wants || wanted state w.passed (nodes_in subring)) g.then
      → Gone inner (a_junction subring rest) w wants opened
  unfolding route_at along going enters leaves nodes_in
  gone_junction inner subring rest w wants opened h l g r =
      record {
        then = r.then;
        places = r.places;
        kept = λ n b. r.kept n (omega (arith, b, along_turned true subring (enters state w))) ∙ g.kept n (omega (arith, b))
            ∙ get_or-set_other opened w.turned n (entry w wants) unopened (λ e. absurd (omega (arith, e, b)));
        goes = λ more. leads more;
      }
    where
      out : Walk
      out = leaves state inner (nodes_in subring) w (along state true subring (enters state w))

      within : Bool
      within = wanted state w.passed (nodes_in subring)

      -- where the rest of the ring begins
      passed_out : out.passed ≡ w.passed + nodes_in subring
      passed_out = along_passed true subring (enters state w)

      turned_out : out.turned ≡ w.turned + 1 + junctions_in subring
      turned_out = along_turned true subring (enters state w)

      -- what was kept of this junction
      kept_here : get_or g.then w.turned unopened ≡ entry w wants
      kept_here = g.kept w.turned (omega arith) ∙ get_or-set_same opened w.turned (entry w wants) unopened (omega (arith, l, h))

      -- who wants a train, of all the ring
      all : (wants || within || wanted state out.passed (nodes_in rest)) ≡ (wants || wanted state w.passed (nodes_in subring + nodes_in rest))
      all =
          ap (λ (k : ℕ). wants || within || wanted state k (nodes_in rest)) passed_out
          ∙ sym (or_assoc wants within (wanted state (w.passed + nodes_in subring) (nodes_in rest)))
          ∙ ap (λ (b : Bool). wants || b) (wanted_both w.passed (nodes_in subring) (nodes_in rest))

      leads : (more : List ℕ) → going state (route_at inner (a_junction subring rest) w.passed w.turned ++ more) (trip_from w wants opened)
          ≡ going state more (trip_from (along state inner (a_junction subring rest) w) (wants || wanted state w.passed (nodes_in subring + nodes_in rest)) r.then)
      leads more =
          let into = route_at true subring w.passed (w.turned + 1) in
          let behind = route_at inner rest (w.passed + nodes_in subring) (w.turned + 1 + junctions_in subring) in
          let leg = out_number inner w.turned in
          let inside = along state true subring (enters state w) in
          ap (going state ((into ++ (leg ∷ behind)) ++ more)) (into_leg w wants opened h)
          ∙ ap (λ (l : List ℕ). going state l (trip_from (enters state w) false (set opened w.turned (entry w wants)))) (append_assoc into (leg ∷ behind) more)
          ∙ g.goes (leg ∷ (behind ++ more))
          ∙ ap (going state (behind ++ more)) (out_leg inner (nodes_in subring) w inside wants g.then h kept_here (along_passed true subring (enters state w)))
          ∙ ap₂ (λ (p t : ℕ). going state (route_at inner rest p t ++ more) (trip_from out (wants || within) g.then)) (sym passed_out) (sym turned_out)
          ∙ r.goes more
          ∙ ap (λ (b : Bool). going state more (trip_from (along state inner rest out) b r.then)) all

  -- every ring for which there is room
  gone : (inner : Bool) (t : Ring) (w : Walk) (wants : Bool) (opened : List Entered) → w.passed + nodes_in t ≤ 64 → w.turned + junctions_in t ≤ 144
      → length opened ≡ 144 → Gone inner t w wants opened
  unfolding nodes_in junctions_in on_node enters leaves route_at along
  gone inner no_more w wants opened n j l =
      record {
        then = opened;
        places = l;
        kept = λ i b. refl;
        goes = λ more. ap (λ (b : Bool). going state more (trip_from w b opened)) (sym (or-false wants) ∙ ap (λ (b : Bool). wants || b) (sym (wanted_none w.passed)));
      }
  gone inner (user_node rest) w wants opened n j l =
      gone_node inner rest w wants opened (omega (arith, n)) (gone inner rest (on_node state w) (wants || wanted state w.passed 1) opened (omega (arith, n)) j l)
  gone inner (a_junction subring rest) w wants opened n j l =
      let inside = gone true subring (enters state w) false (set opened w.turned (entry w wants)) (omega (arith, n)) (omega (arith, j))
      (length-set opened w.turned (entry w wants) ∙ l) in
      gone_junction inner subring rest w wants opened (omega (arith, j)) l inside
      (gone inner rest (leaves state inner (nodes_in subring) w (along state true subring (enters state w))) (wants || wanted state w.passed (nodes_in subring)) inside.then
      (omega (arith, n, along_passed true subring (enters state w))) (omega (arith, j, along_turned true subring (enters state w))) inside.places)

-- a plan in range: its ring has room in the state's places
module _ (state : State) (r : in_range state.plan ≡ true) where
  -- the plan's route
  abbrev pub plan_route : List ℕ
  plan_route = route_of state.plan.values state.plan.positions

  -- going along the plan's route is the walk: what is kept of the junctions is all that the trip has beside it
  goes_whole : Gone state false (ring_of state.plan) (setting_out state) false (replicate junction_places unopened)
  unfolding setting_out
  goes_whole =
      gone state false (ring_of state.plan) (setting_out state) false (replicate junction_places unopened) (omega (arith, (in_range_lem state.plan r).nodes_most))
      (omega (arith, ring_junctions_most state.plan r)) (length-replicate 144 unopened)

  trip-walk : trip state plan_route ≡ trip_from state (walk state) (false || wanted state 0 (nodes_in (ring_of state.plan))) goes_whole.then
  unfolding trip sets_out setting_out route_of ring_of positions_read walk going
  trip-walk =
      ap (λ (l : List ℕ). going state l (sets_out state)) (sym (append-nil plan_route)) ∙ goes_whole.goes []

  -- so a step along it is the step
  pub moved_along : (route : List ℕ) → route ≡ plan_route → moving_along route state ≡ moving state
  unfolding moving_along trip_number trip_done moving step_number done next_state
  moved_along route e =
      ap (λ (l : List ℕ). moving_along l state) e
      ∙ ap (λ (t : Trip).
      cond (eqb (refused_if (overflows state.zeroth t.last) 14 (refused_if t.astray 15 0)) 0)
      (record { number = 0; state = record { plan = state.plan; zeroth = zero_turn state.zeroth t.last; nodes = t.nodes; junctions = t.junctions }; events = t.events })
      (refused (refused_if (overflows state.zeroth t.last) 14 (refused_if t.astray 15 0)) state)) trip-walk

  -- what is laid into a row of 352 numbers is that route
  abbrev laid : List ℕ
  laid = laid_in 352 state.plan.values state.plan.positions

  pub laid_there : (row : List ℕ) (n : ℕ) → n ≡ length laid → row ≡ sets (replicate 352 0) 0 laid → take n row ≡ plan_route
  unfolding ring_of positions_read
  laid_there row n e f =
      let range = in_range_lem state.plan r in
      ap₂ (λ (n : ℕ) (x : List ℕ). take n x) e f
      ∙ laid_taken (replicate 352 0) state.plan.values state.plan.positions
      ∙ laid_route 352 state.plan.values state.plan.positions range.right range.nodes_most (ring_junctions_most state.plan r) (omega arith)

  -- and it is within the row
  pub laid_within : (row : List ℕ) (n : ℕ) → n ≡ length laid → row ≡ sets (replicate 352 0) 0 laid → n ≤ length row
  laid_within row n e f =
      let long : length row ≡ 352 = ap length f ∙ length-sets (replicate 352 0) 0 laid ∙ length-replicate {0} {A = ℕ} 352 0 in
      omega (arith, e, long, laid_in_room 352 state.plan.values state.plan.positions)

  pub laid_long : (row : List ℕ) (n : ℕ) → n ≡ length laid → row ≡ sets (replicate 352 0) 0 laid → n ≡ length (take n row)
  laid_long row n e f = sym (length-take-le n row (laid_within row n e f))

-- two plans that are the same have the same route
pub same_route : (plan other : Plan) → plan ≡ other → route_of plan.values plan.positions ≡ route_of other.values other.positions
same_route plan other e = ap (λ (p : Plan). route_of p.values p.positions) e
