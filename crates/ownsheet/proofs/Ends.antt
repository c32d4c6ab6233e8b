-- What holds of a run when all is said: its plan is its file's, its three lists have 64 places each, and what is counted is small.
use Rattle.std.specs.Prelude.{Option, None, Some}
use Prim.Native.Nat.{ℕ, zero, suc, ◌+◌, ◌*◌, ◌≤◌, ◌<◌, min}
use mathlib.Core.Path.{◌≡◌, refl, ◌∙◌, ap}
use mathlib.Core.List.{List}
use native.Mathlib.Nat.{mul-le-mul_right}
use native.Mathlib.Omega.{arith}
use lib.ListN.{length, get_or, length-set, length-replicate}
use Rattle.lists.specs.Loops.{in_order}
use Rattle.lists.proofs.Laws.{total-within}
use Rattle.plan.specs.declared.Plan.{Plan}
use Rattle.plan.proofs.Laws.{in_range_lem}
use Rattle.acts.specs.declared.Action.{Action}
use Rattle.usernode.specs.declared.Node.{Node}
use Rattle.turns.specs.declared.Event.{Event}
use Rattle.turns.specs.declared.Event.TheVariants.{Granted, Failed, Lost, Back, Sent}
use Rattle.ring.specs.State.{start_of, start_state}
use Rattle.ring.specs.Walk.{quiet}
use Rattle.ring.proofs.Laws.{stepping_plan}
use Rattle.tally.specs.declared.Tally.{Tally}
use Rattle.tally.specs.Tally.{no_counts, empty_tally, counted, event_tally, place_tally, events_tally, step_tally}
use Rattle.tally.proofs.Small.{together}
use Rattle.tally.proofs.Exact.{step_places}
use Rattle.nightfile.specs.File.{file_number, plan_part, plan_of, schedule_part}
use Rattle.nightfile.proofs.Laws.{plan-in_range}
use Rattle.course.specs.declared.Reached.{Reached}
use Rattle.course.specs.declared.Run.{Run}
use Rattle.course.specs.Standing.{nodes_of, locks_of, beginning, reached_next, one_step, action_item, all_said}
use Rattle.course.specs.Whole.{says, silence}
use Rattle.course.proofs.Moves.{acting_plan, nodes_most}
use Rattle.run.specs.Outcomes.{outcome_of, file_course, file_outcome}
use Rattle.run.proofs.Along.{along}
use Rattle.run.proofs.Sum.{file_steps_lem}
use Rattle.run.proofs.Caps.{counted_end}
use Rattle.ownsheet.specs.Numbers.{night_ceiling, locks_in}
use Rattle.ownsheet.specs.Theorems.{TheLocksAreThePlans}

-- ---- the places

-- an event leaves as many places
event_grants : (event : Option Event) (tally : Tally) → length (event_tally event tally).grants ≡ length tally.grants
unfolding event_tally counted
event_grants None tally = refl
event_grants (Some (Granted lock)) tally = length-set tally.grants lock _
event_grants (Some (Failed lock)) tally = refl
event_grants (Some (Lost lock)) tally = refl
event_grants (Some (Back lock)) tally = refl
event_grants (Some (Sent lock)) tally = refl

event_failed : (event : Option Event) (tally : Tally) → length (event_tally event tally).failed ≡ length tally.failed
unfolding event_tally counted
event_failed None tally = refl
event_failed (Some (Granted lock)) tally = refl
event_failed (Some (Failed lock)) tally = length-set tally.failed lock _
event_failed (Some (Lost lock)) tally = refl
event_failed (Some (Back lock)) tally = refl
event_failed (Some (Sent lock)) tally = refl

-- so do those of so many nodes
events_grants : (events : List (Option Event)) (count : ℕ) (tally : Tally) → length (events_tally events count tally).grants ≡ length tally.grants
unfolding events_tally place_tally in_order
events_grants events zero tally = refl
events_grants events (suc count) tally =
    event_grants (get_or events count quiet) (events_tally events count tally) ∙ events_grants events count tally

events_failed : (events : List (Option Event)) (count : ℕ) (tally : Tally) → length (events_tally events count tally).failed ≡ length tally.failed
unfolding events_tally place_tally in_order
events_failed events zero tally = refl
events_failed events (suc count) tally =
    event_failed (get_or events count quiet) (events_tally events count tally) ∙ events_failed events count tally

-- a step
module _ (nodes : List Node) (events : List (Option Event)) (count locks : ℕ) (tally : Tally) where
  step_grants : length (step_tally nodes events count locks tally).grants ≡ length tally.grants
  unfolding step_tally
  step_grants = events_grants events (min count 64) tally

  step_failed : length (step_tally nodes events count locks tally).failed ≡ length tally.failed
  unfolding step_tally
  step_failed = events_failed events (min count 64) tally

-- ---- along the run

-- what is reached by a run with this plan
pub record Shaped (plan : Plan) (reached : Reached) : Type 0 where
  pub plan_same : reached.state.plan ≡ plan
  pub busy_places : length reached.tally.busy ≡ 64
  pub grants_places : length reached.tally.grants ≡ 64
  pub failed_places : length reached.tally.failed ≡ 64

shaped_begin : (file : List ℕ) → Shaped (beginning file).reached.state.plan (beginning file).reached
unfolding beginning empty_tally no_counts
shaped_begin file =
    record {
      plan_same = refl;
      busy_places = length-replicate {A = ℕ} 64 0;
      grants_places = length-replicate {A = ℕ} 64 0;
      failed_places = length-replicate {A = ℕ} 64 0;
    }

shaped_step : (plan : Plan) (run : Run) → Shaped plan run.reached → Shaped plan (one_step run).reached
unfolding one_step reached_next
shaped_step plan run s =
    record {
      plan_same = stepping_plan run.reached.state ∙ s.plan_same;
      busy_places = step_places _ _ _ _ run.reached.tally ∙ s.busy_places;
      grants_places = step_grants _ _ _ _ run.reached.tally ∙ s.grants_places;
      failed_places = step_failed _ _ _ _ run.reached.tally ∙ s.failed_places;
    }

shaped_action : (plan : Plan) (action : Action) (node lock : ℕ) (run : Run) → Shaped plan run.reached → Shaped plan (action_item action node lock run).reached
unfolding action_item
shaped_action plan action node lock run s =
    record {
      plan_same = acting_plan action run.reached.state node lock ∙ s.plan_same;
      busy_places = s.busy_places;
      grants_places = s.grants_places;
      failed_places = s.failed_places;
    }

pub shaped_end : (ceiling : ℕ) (file : List ℕ) → Shaped (beginning file).reached.state.plan (file_course ceiling file).end.reached
unfolding file_course says silence all_said beginning
shaped_end ceiling file =
    let plan = (beginning file).reached.state.plan in
    along (Shaped plan) (λ c. Shaped plan c.end.reached) (λ line run s. s) (λ line before after rest s. s) (shaped_step plan) (shaped_action plan)
    ceiling (schedule_part file) (beginning file) refl (shaped_begin file)

-- ---- the plan

-- the run of an accepted file begins with the file's plan
begins_with : (file : List ℕ) → file_number file ≡ 0 → (beginning file).reached.state.plan ≡ plan_of (plan_part file)
unfolding beginning start_state start_of
begins_with file e = rw (plan-in_range file e)

pub the_locks_are_the_plans : TheLocksAreThePlans
unfolding locks_of locks_in
the_locks_are_the_plans ceiling file e =
    let range = in_range_lem (plan_of (plan_part file)) (plan-in_range file e) in
    record {
      same = ap (λ (p : Plan). p.locks) ((shaped_end ceiling file).plan_same ∙ begins_with file e);
      least = range.locks_least;
      most = range.locks_most;
    }

-- ---- what is counted

-- each count of a list is within all of them together
within : (counts : List ℕ) (lock : ℕ) → lock < 64 → get_or counts lock 0 ≤ together counts 64
within counts lock below = omega (arith, total-within (λ k. get_or counts k 0) 64 lock below)

-- grants and N events together: at most one for each of at most 64 nodes in each step
pub record Within (reached : Reached) : Type 0 where
  pub busy : (lock : ℕ) → get_or reached.tally.busy lock 0 ≤ reached.steps
  pub both : together reached.tally.grants 64 + together reached.tally.failed 64 ≤ 64 * reached.steps
  pub grants : (lock : ℕ) → lock < 64 → get_or reached.tally.grants lock 0 ≤ 64 * reached.steps
  pub failed : (lock : ℕ) → lock < 64 → get_or reached.tally.failed lock 0 ≤ 64 * reached.steps

pub within_end : (ceiling : ℕ) (file : List ℕ) → Within (file_course ceiling file).end.reached
within_end ceiling file =
    let reached = (file_course ceiling file).end.reached in
    let c = counted_end ceiling file in
    let most : nodes_of (beginning file) * reached.steps ≤ 64 * reached.steps = mul-le-mul_right reached.steps (nodes_most (beginning file)) in
    let all : together reached.tally.grants 64 + together reached.tally.failed 64 ≤ 64 * reached.steps = omega (arith, c.events, most) in
    record {
      busy = c.busy;
      both = all;
      grants = λ lock below. omega (arith, all, within reached.tally.grants lock below);
      failed = λ lock below. omega (arith, all, within reached.tally.failed lock below);
    }

-- the steps under the night program's ceiling
pub few_steps : (file : List ℕ) → file_number file ≡ 0 → (file_course night_ceiling file).end.reached.steps ≤ 1000000
unfolding file_outcome outcome_of
few_steps file e =
    let steps : (file_outcome night_ceiling file).steps ≤ 1000000 = omega (arith, file_steps_lem night_ceiling file e) in
    steps
