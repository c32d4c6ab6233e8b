-- 01, "One step": the state after it, its events, and the numbers 13 to 15 in their order.
use Rattle.std.specs.Prelude.{ℕ, cond, List, eqb, replicate, Option, Result, Ok, Err}
use Rattle.lists.specs.Refusal.{refused_if}
use Rattle.plan.specs.Plan.{node_places}
use Rattle.turns.specs.declared.Event.{Event}
use Rattle.zeronode.specs.Turn.{zero_turn, overflows}
use Rattle.ring.specs.declared.State.{State}
use Rattle.ring.specs.declared.Stepped.{Stepped}
use Rattle.ring.specs.declared.StepRefusal.{StepRefusal}
use Rattle.ring.specs.declared.StepRefusal.TheVariants.{BadState, QueueFull, Astray}
use Rattle.ring.specs.Sound.{sound}
use Rattle.ring.specs.Walk.{quiet, walk}

-- the number of an answer; 0: done
unfoldable pub step_answer_number : Result Unit StepRefusal → ℕ
step_answer_number (Ok nothing) = 0
step_answer_number (Err BadState) = 13
step_answer_number (Err QueueFull) = 14
step_answer_number (Err Astray) = 15

-- what an answer tells: its number, the state, and the event of each node
pub record StepTold : Type 0 where
  pub number : ℕ
  pub state : State
  pub events : List (Option Event)

unfoldable pub step_told : Stepped → StepTold
step_told r = record { number = step_answer_number r.answer; state = r.state; events = r.events }

-- the state after the step: every node, every junction and the zero node has had its turn
unfoldable pub next_state : State → State
next_state state =
    record {
      plan = state.plan;
      zeroth = zero_turn state.zeroth (walk state).last;
      nodes = (walk state).nodes;
      junctions = (walk state).junctions;
    }

-- 14 "the queue would need a 66th place", 15 "own reqp, failp or dov arrives and .."
unfoldable pub step_number : State → ℕ
step_number state = refused_if (overflows state.zeroth (walk state).last) 14 (refused_if (walk state).astray 15 0)

-- "A refused .. step hands back the state it was given" (demand 1), with no events
unfoldable pub refused : ℕ → State → StepTold
refused number state = record { number = number; state = state; events = replicate node_places quiet }

unfoldable pub done : State → StepTold
done state = record { number = 0; state = next_state state; events = (walk state).events }

-- a step of a state that 13 does not refuse
unfoldable pub moving : State → StepTold
moving state = cond (eqb (step_number state) 0) (done state) (refused (step_number state) state)

-- "For a step 13, 14, 15."
unfoldable pub stepping : State → StepTold
stepping state = cond (sound state) (moving state) (refused 13 state)
