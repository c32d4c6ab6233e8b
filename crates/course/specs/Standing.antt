-- 01, "The run and its lines": where a run stands, and how one step, one item and the end change that.
use Rattle.std.specs.Prelude.{ℕ, ◌+◌, ◌-◌, cond, true, false, List, eqb, replicate}
use Rattle.plan.specs.Plan.{node_places, node_count}
use Rattle.acts.specs.declared.Action.{Action}
use Rattle.ring.specs.State.{start_state}
use Rattle.ring.specs.Actions.{acting}
use Rattle.ring.specs.Walk.{quiet}
use Rattle.ring.specs.Step.{stepping}
use Rattle.tally.specs.Tally.{empty_tally, step_tally}
use Rattle.nightfile.specs.File.{file_number, file_place, plan_part, plan_of}
use Rattle.course.specs.declared.Reached.{Reached}
use Rattle.course.specs.declared.Run.{Run}
use Rattle.course.specs.declared.Phase.{Phase}
use Rattle.course.specs.declared.Phase.TheVariants.{Items, Refused}

-- the user nodes and the locks of its plan
unfoldable pub nodes_of : Run → ℕ
nodes_of run = node_count run.reached.state.plan

unfoldable pub locks_of : Run → ℕ
locks_of run = run.reached.state.plan.locks

-- a run at its start: of a refused file with its number, and the place beside it
unfoldable pub beginning : List ℕ → Run
beginning file =
    record {
      reached = record { state = start_state (plan_of (plan_part file)); tally = empty_tally; steps = 0 };
      at = 0;
      left = 0;
      events = replicate node_places quiet;
      next = 0;
      phase = cond (eqb (file_number file) 0) Items (Refused (file_number file) (file_place file));
      over = false;
    }

-- one step more, refused or not, and what is counted after it
unfoldable pub reached_next : Reached → Reached
reached_next reached =
    record {
      state = (stepping reached.state).state;
      tally = step_tally (stepping reached.state).state.nodes (stepping reached.state).events (node_count reached.state.plan) reached.state.plan.locks reached.tally;
      steps = reached.steps + 1;
    }

-- a step of the item: one fewer left, its events to be told from the first node on
unfoldable pub one_step : Run → Run
one_step run =
    record {
      reached = reached_next run.reached;
      at = run.at;
      left = run.left - 1;
      events = (stepping run.reached.state).events;
      next = 0;
      phase = run.phase;
      over = run.over;
    }

-- the next node, or the next lock
unfoldable pub past : Run → Run
past run =
    record { reached = run.reached; at = run.at; left = run.left; events = run.events; next = run.next + 1; phase = run.phase; over = run.over }

-- an item of so many steps: they are left to do, and the place is past it
unfoldable pub steps_item : ℕ → Run → Run
steps_item steps run =
    record { reached = run.reached; at = run.at + 3; left = steps; events = run.events; next = run.next; phase = run.phase; over = run.over }

-- an action, accepted or refused, and the place past it
unfoldable pub action_item : Action → ℕ → ℕ → Run → Run
action_item action node lock run =
    record {
      reached = record { state = (acting action run.reached.state node lock).state; tally = run.reached.tally; steps = run.reached.steps };
      at = run.at + 3;
      left = run.left;
      events = run.events;
      next = run.next;
      phase = run.phase;
      over = run.over;
    }

-- at the end: the locks are told from lock 0 on
unfoldable pub at_end : Phase → Run → Run
at_end phase run =
    record { reached = run.reached; at = run.at; left = run.left; events = run.events; next = 0; phase = phase; over = run.over }

-- all is said
unfoldable pub all_said : Run → Run
all_said run =
    record { reached = run.reached; at = run.at; left = run.left; events = run.events; next = run.next; phase = run.phase; over = true }
