-- 01, "The plan and the things in it": the state at the start, and number 4 for a start that is asked of a plan out of range.
use Rattle.std.specs.Prelude.{ℕ, ◌-◌, cond, false, get_or, replicate, Result, Ok, Err}
use Rattle.cars.specs.declared.Car.TheVariants.{Idle}
use Rattle.plan.specs.declared.Plan.{Plan}
use Rattle.plan.specs.Plan.{value_places, node_places, junction_places, in_range, plan_number}
use Rattle.usernode.specs.declared.Node.{Node}
use Rattle.usernode.specs.declared.Activity.TheVariants.{Idle as Resting}
use Rattle.zeronode.specs.Rules.{zero_start}
use Rattle.junction.specs.declared.Junction.{Junction}
use Rattle.ring.specs.declared.State.{State}
use Rattle.ring.specs.declared.Started.{Started}
use Rattle.ring.specs.declared.PlanOutOfRange.{PlanOutOfRange}

-- "all other senders send idle; words, flags, queue and activities are empty, clear or idle, unused places too"
unfoldable pub rest_node : Node
rest_node = record { car = Idle; flag = false; activity = Resting; held = 0; letting = 0 }

unfoldable pub rest_junction : Junction
rest_junction = record { main = Idle; subring = Idle; train = false; tour = false; word = 0 }

-- the start: the zero node as it starts, all others at rest
unfoldable pub start_of : Plan → State
start_of plan =
    record {
      plan = plan;
      zeroth = zero_start;
      nodes = replicate node_places rest_node;
      junctions = replicate junction_places rest_junction;
    }

-- "plan 1, 1, 1, 0": rules, locks, positions, their values
unfoldable pub small_plan : Plan
small_plan = record { rules = 1; locks = 1; positions = 1; values = replicate value_places 0 }

-- 4: "a start state asked for such a plan is refused too, with the start state of plan 1, 1, 1, 0 beside it"
unfoldable pub start_state : Plan → State
start_state plan = cond (in_range plan) (start_of plan) (start_of small_plan)

-- the number of an answer; 0: accepted
unfoldable pub plan_answer_number : Result Unit PlanOutOfRange → ℕ
plan_answer_number (Ok nothing) = 0
plan_answer_number (Err out_of_range) = 4

-- what an answer tells: its number and the state beside it
pub record Told : Type 0 where
  pub number : ℕ
  pub state : State

unfoldable pub start_told : Started → Told
start_told r = record { number = plan_answer_number r.answer; state = r.state }

-- what a start that is asked of a plan must tell
unfoldable pub starting : Plan → Told
starting plan = record { number = plan_number plan; state = start_state plan }

-- the node of a number: numbers start at 1, places at 0
unfoldable pub node_of : State → ℕ → Node
node_of state node = get_or state.nodes (node - 1) rest_node
