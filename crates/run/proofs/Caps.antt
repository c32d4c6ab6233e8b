-- No count of a run comes near its top: along a run a lock is busy at most once a step, and a node has at most one event a step.
use Prim.Native.Nat.{ℕ, ◌+◌, ◌*◌, ◌^◌, ◌≤◌, ◌<◌}
use mathlib.Core.Path.{◌≡◌, refl, ◌∙◌, ap}
use mathlib.Core.Bool.{Bool, true, false}
use mathlib.Core.List.{List}
use native.Mathlib.Nat.{mul-suc}
use native.Mathlib.Numerals.{add-one}
use native.Mathlib.Omega.{arith}
use lib.Dec.{eqb}
use lib.ListN.{get_or}
use borrow.Author.Tests.{eqb-true, eqb-false}
use Rattle.plan.specs.Plan.{node_count}
use Rattle.acts.specs.declared.Action.{Action}
use Rattle.tally.proofs.Small.{events_in, none_busy, none_events, step_busy, step_events, sum-together}
use Rattle.nightfile.specs.File.{file_number, schedule_part}
use Rattle.course.specs.declared.Reached.{Reached}
use Rattle.course.specs.declared.Run.{Run}
use Rattle.course.specs.Standing.{nodes_of, locks_of, beginning, reached_next, one_step, action_item, all_said}
use Rattle.course.specs.Whole.{Course, says, silence}
use Rattle.course.proofs.Moves.{step_nodes, action_nodes, nodes_most}
use Rattle.run.specs.Outcomes.{outcome_of, file_course, file_outcome}
use Rattle.run.specs.Theorems.{NoCountIsCapped}
use Rattle.run.proofs.Along.{along}
use Rattle.run.proofs.Sum.{file_steps_lem, refused-course}
use Rattle.run.proofs.ShortSum.{sum_short}

-- what has been counted with so many nodes
pub record Counted (nodes : ℕ) (reached : Reached) : Type 0 where
  pub count : node_count reached.state.plan ≡ nodes
  pub busy : (lock : ℕ) → get_or reached.tally.busy lock 0 ≤ reached.steps
  pub events : events_in reached.tally ≤ nodes * reached.steps

counted_begin : (file : List ℕ) → Counted (nodes_of (beginning file)) (beginning file).reached
unfolding beginning nodes_of
counted_begin file = record { count = refl; busy = λ lock. omega (arith, none_busy lock); events = omega (arith, none_events) }

counted_step : (nodes : ℕ) (run : Run) → Counted nodes run.reached → Counted nodes (one_step run).reached
unfolding one_step reached_next nodes_of
counted_step nodes run c =
    let more : events_in (one_step run).reached.tally ≤ events_in run.reached.tally + node_count run.reached.state.plan =
    step_events _ _ (node_count run.reached.state.plan) _ run.reached.tally in
    record {
      count = step_nodes run ∙ c.count;
      busy = λ lock.
          let one : get_or (one_step run).reached.tally.busy lock 0 ≤ get_or run.reached.tally.busy lock 0 + 1 =
          step_busy _ _ _ _ run.reached.tally lock in
          omega (arith, one, c.busy lock);
      events = rw (add-one, mul-suc) (omega (arith, more, c.count, c.events));
    }

counted_action : (nodes : ℕ) (action : Action) (node lock : ℕ) (run : Run) → Counted nodes run.reached → Counted nodes (action_item action node lock run).reached
unfolding action_item nodes_of
counted_action nodes action node lock run c = record { count = action_nodes action node lock run ∙ c.count; busy = c.busy; events = c.events }

pub counted_end : (ceiling : ℕ) (file : List ℕ) → Counted (nodes_of (beginning file)) (file_course ceiling file).end.reached
unfolding file_course says silence all_said beginning
counted_end ceiling file =
    let nodes = nodes_of (beginning file) in
    along (Counted nodes) (λ c. Counted nodes c.end.reached) (λ line run c. c) (λ line before after rest c. c) (counted_step nodes) (counted_action nodes)
    ceiling (schedule_part file) (beginning file) refl (counted_begin file)

-- the steps of a file of bytes
few_steps : (ceiling : ℕ) (file : List ℕ) → ((place : ℕ) → get_or file place 0 < 256) → (file_outcome ceiling file).steps < 2 ^ 32
unfolding file_outcome outcome_of says silence all_said beginning
few_steps ceiling file bytes = go (eqb (file_number file) 0) refl
  where
    go : (shown : Bool) → eqb (file_number file) 0 ≡ shown → (file_outcome ceiling file).steps < 2 ^ 32
    go true e = omega (arith, file_steps_lem ceiling file (eqb-true _ _ e), sum_short file bytes)
    go false e =
        let none : (file_outcome ceiling file).steps ≡ 0 = ap (λ (c : Course). c.end.reached.steps) (refused-course ceiling file (eqb-false _ _ e)) in
        omega (arith, none)

pub no_count_is_capped : NoCountIsCapped
unfolding file_outcome outcome_of
no_count_is_capped ceiling file bytes =
    let end = (file_course ceiling file).end in
    let counted = counted_end ceiling file in
    let tally = end.reached.tally in
    record {
      steps = few_steps ceiling file bytes;
      busy = counted.busy;
      events = omega (arith, counted.events, sum-together tally.grants (locks_of end), sum-together tally.failed (locks_of end));
      nodes = nodes_most (beginning file);
    }
