-- The walk along a route: what the code of the step goes by, named by private contracts only. A route is a list of numbers, one for each sender
-- in travelling order (crate route); that going along the plan's route is the walk of Walk.antt is a law (proofs/Routed).
use Rattle.std.specs.Prelude.{ℕ, ◌+◌, Bool, false, cond, ◌||◌, List, [], ◌∷◌, eqb, get_or, set, replicate, Option, Some, None}
use Rattle.lists.specs.Refusal.{refused_if}
use Rattle.cars.specs.declared.Car.{Car}
use Rattle.cars.specs.declared.Car.TheVariants.{Idle}
use Rattle.plan.specs.Plan.{node_places, junction_places}
use Rattle.route.specs.declared.Leg.{Leg}
use Rattle.route.specs.declared.Leg.TheVariants.{At, Into, Out}
use Rattle.route.specs.Route.{leg_of}
use Rattle.usernode.specs.declared.Node.{Node}
use Rattle.usernode.specs.Node.{wants_train}
use Rattle.usernode.specs.Astray.{astray}
use Rattle.turns.specs.declared.Event.{Event}
use Rattle.turns.specs.Turn.{turn}
use Rattle.junction.specs.declared.Junction.{Junction}
use Rattle.junction.specs.Turn.{junction_turn}
use Rattle.zeronode.specs.Turn.{zero_turn, overflows}
use Rattle.ring.specs.declared.State.{State}
use Rattle.ring.specs.declared.Entered.{Entered}
use Rattle.ring.specs.State.{rest_node, rest_junction}
use Rattle.ring.specs.Walk.{quiet}
use Rattle.ring.specs.Step.{StepTold, refused}

-- the trip: the nodes passed, the car sent by the last sender met, whether a car is astray, whether a node met since the last junction was entered, or
-- within it, wants a train; nodes, events and junctions as the step leaves them; and what is kept of each junction entered
pub record Trip : Type 0 where
  pub passed : ℕ
  pub last : Car
  pub astray : Bool
  pub wants : Bool
  pub nodes : List Node
  pub events : List (Option Event)
  pub junctions : List Junction
  pub opened : List Entered

-- a junction that was not entered
unfoldable pub unopened : Entered
unopened = record { arrival = Idle; low = 0; wants = false }

-- the turn of the user node at a place
unfoldable pub at_node : State → ℕ → Trip → Trip
at_node state place trip =
    record {
      passed = place + 1;
      last = (get_or state.nodes place rest_node).car;
      astray = trip.astray || astray (get_or state.nodes place rest_node) (place + 1) trip.last;
      wants = trip.wants || wants_train (get_or state.nodes place rest_node);
      nodes = set trip.nodes place (turn state.plan.rules (place + 1) trip.last (get_or state.nodes place rest_node)).node;
      events = set trip.events place (turn state.plan.rules (place + 1) trip.last (get_or state.nodes place rest_node)).event;
      junctions = trip.junctions;
      opened = trip.opened;
    }

-- into the junction at a place: what came to it is kept, and no node within is met yet
unfoldable pub into_junction : State → ℕ → Trip → Trip
into_junction state place trip =
    record {
      passed = trip.passed;
      last = (get_or state.junctions place rest_junction).subring;
      astray = trip.astray;
      wants = false;
      nodes = trip.nodes;
      events = trip.events;
      junctions = trip.junctions;
      opened = set trip.opened place (record { arrival = trip.last; low = trip.passed; wants = trip.wants });
    }

-- out of it: its turn; who wants a train within it does so within the junctions around it too
unfoldable pub out_of_junction : State → Bool → ℕ → Trip → Trip
out_of_junction state inner place trip =
    record {
      passed = trip.passed;
      last = (get_or state.junctions place rest_junction).main;
      astray = trip.astray;
      wants = (get_or trip.opened place unopened).wants || trip.wants;
      nodes = trip.nodes;
      events = trip.events;
      junctions = set trip.junctions place
          (junction_turn inner (get_or trip.opened place unopened).low trip.passed trip.wants
          (get_or trip.opened place unopened).arrival trip.last (get_or state.junctions place rest_junction));
      opened = trip.opened;
    }

unfoldable pub on_leg : State → Trip → Option Leg → Trip
on_leg state trip None = trip
on_leg state trip (Some (At place)) = at_node state place trip
on_leg state trip (Some (Into place)) = into_junction state place trip
on_leg state trip (Some (Out inner place)) = out_of_junction state inner place trip

-- along a route, whatever numbers it has
unfoldable pub going : State → List ℕ → Trip → Trip
going state [] trip = trip
going state (number ∷ route) trip = going state route (on_leg state trip (leg_of number))

-- the start: the first sender takes the zero node's car
unfoldable pub sets_out : State → Trip
sets_out state =
    record {
      passed = 0;
      last = state.zeroth.car;
      astray = false;
      wants = false;
      nodes = state.nodes;
      events = replicate node_places quiet;
      junctions = state.junctions;
      opened = replicate junction_places unopened;
    }

unfoldable pub trip : State → List ℕ → Trip
trip state route = going state route (sets_out state)

-- a step along a route, of a state that 13 does not refuse: as `moving`, with this trip for the walk
unfoldable pub trip_number : State → List ℕ → ℕ
trip_number state route = refused_if (overflows state.zeroth (trip state route).last) 14 (refused_if (trip state route).astray 15 0)

unfoldable pub trip_done : State → List ℕ → StepTold
trip_done state route =
    record {
      number = 0;
      state = record {
        plan = state.plan;
        zeroth = zero_turn state.zeroth (trip state route).last;
        nodes = (trip state route).nodes;
        junctions = (trip state route).junctions;
      };
      events = (trip state route).events;
    }

unfoldable pub moving_along : List ℕ → State → StepTold
moving_along route state = cond (eqb (trip_number state route) 0) (trip_done state route) (refused (trip_number state route) state)
