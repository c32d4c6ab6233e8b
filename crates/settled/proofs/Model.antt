-- The promises of the model leave one answer: each names the answer itself, or what tells answers apart (Apart).
use Rattle.settled.specs.Model.{Words, Cars, Positions, Route, PlanOf, UserNode, Turns, Acts, ZeroNodeOf, Tours, JunctionOf, Ring}
use Rattle.settled.proofs.Apart.{same, answer_apart, start_apart, action_apart, step_apart}

pub words : Words
words =
    record {
      has = (λ a. tt, λ a x y d e. same);
      with_lock = (λ a. tt, λ a x y d e. same);
      without_lock = (λ a. tt, λ a x y d e. same);
      least = (λ a. tt, λ a x y d e. same);
      all_below = (λ a. tt, λ a x y d e. same);
    }

pub cars : Cars
cars =
    record {
      multiring = (λ a. tt, λ a x y d e. same);
      release_needs_idle = (λ a. tt, λ a x y d e. same);
      is_node = (λ a. tt, λ a x y d e. same);
      car_names = (λ a. tt, λ a x y d e. same);
      flag_after = (λ a. tt, λ a x y d e. same);
    }

pub positions : Positions
positions =
    record {
      position_at = λ κ. (λ a. tt, λ a x y d e. same);
      survey_of = (λ a. tt, λ a x y d e. same);
      ends_exactly = λ κ. (λ a. tt, λ a x y d e. same);
    }

pub route : Route
route =
    record {
      leg_of = (λ a. tt, λ a x y d e. same);
      lay_route_row = λ κ a x y d e p q. same p.1 q.1;
      lay_route = λ κ. (λ a. tt, λ a x y d e p q. same p.0 q.0);
    }

pub plan_of : PlanOf
plan_of =
    record {
      survey = (λ a. tt, λ a x y d e. same);
      in_range = (λ a. tt, λ a x y d e. same);
      nodes = (λ a. tt, λ a x y d e. same);
      junctions = (λ a. tt, λ a x y d e. same);
    }

pub user_node : UserNode
user_node =
    record {
      let_go = (λ a. tt, λ a x y d e. same);
      is_idle = (λ a. tt, λ a x y d e. same);
      had = (λ a. tt, λ a x y d e. same);
      wants_train = (λ a. tt, λ a x y d e. same);
      rule = (λ a. tt, λ a x y d e p q. same p.0 q.0);
      astray = (λ a. tt, λ a x y d e. same);
      sound = (λ a. tt, λ a x y d e. same);
    }

pub turns : Turns
turns =
    record {
      turn_of = (λ a. tt, λ a x y d e. same);
      event_letter = (λ a. tt, λ a x y d e. same);
      event_lock = (λ a. tt, λ a x y d e. same);
    }

pub acts : Acts
acts =
    record {
      refusal_number = (λ a. tt, λ a x y d e. same);
      answer_number = (λ a. tt, λ a x y d e. same);
      answer = (λ a. tt, λ a x y d e p q. answer_apart x y (same p q));
      acted = (λ a. tt, λ a x y d e. same);
    }

pub zero_node_of : ZeroNodeOf
zero_node_of =
    record {
      keeps = (λ a. tt, λ a x y d e. same);
      start = (λ a. tt, λ a x y d e. same);
      rule = (λ a. tt, λ a x y d e p q. same p.0 q.0);
      turn = (λ a. tt, λ a x y d e. same);
      overflows = (λ a. tt, λ a x y d e. same);
      sound = (λ a. tt, λ a x y d e. same);
    }

pub tours : Tours
tours =
    record {
      within = (λ a. tt, λ a x y d e. same);
      outside = (λ a. tt, λ a x y d e p q. same p.0 q.0);
      in_tour = (λ a. tt, λ a x y d e p q. same p.0 q.0);
    }

pub junction_of : JunctionOf
junction_of =
    record {
      rule = (λ a. tt, λ a x y d e p q. same p.0 q.0);
      turn = (λ a. tt, λ a x y d e. same);
      sound = (λ a. tt, λ a x y d e. same);
    }

pub ring : Ring
ring =
    record {
      plan_number = (λ a. tt, λ a x y d e. same);
      step_number = (λ a. tt, λ a x y d e. same);
      start = (λ a. tt, λ a x y d e p q. start_apart x y (same p q));
      sound = (λ a. tt, λ a x y d e. same);
      act = (λ a. tt, λ a x y d e p q. action_apart x y (same p q));
      take = (λ a. tt, λ a x y d e p q. action_apart x y (same p q));
      release = (λ a. tt, λ a x y d e p q. action_apart x y (same p q));
      force = (λ a. tt, λ a x y d e p q. action_apart x y (same p q));
      step = (λ a. tt, λ a x y d e p q. step_apart x y (same p q));
      advance = (λ a. tt, λ a x y d e. same);
    }
