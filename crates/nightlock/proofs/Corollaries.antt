-- Demand 3 of a night run: the sentences of specs/Corollaries, proved of every accepted file and every ceiling.
use Prim.Native.Nat.{ℕ, ◌-◌, ◌^◌, min}
use mathlib.Core.Path.{◌≡◌, refl, ◌∙◌, ap, sym, subst}
use mathlib.Core.Bool.{true}
use mathlib.Core.List.{List, [], ◌∷◌, ◌++◌}
use native.Mathlib.Omega.{arith}
use lib.ListN.{get_or, length-replicate}
use Rattle.plan.specs.declared.Plan.{Plan}
use Rattle.plan.specs.Plan.{node_places, in_range}
use Rattle.ring.specs.declared.State.{State}
use Rattle.ring.specs.State.{start_of, start_state}
use Rattle.tally.specs.Tally.{empty_tally, no_counts}
use Rattle.tally.proofs.Small.{none_busy}
use Rattle.nightfile.specs.File.{file_number, schedule_part}
use Rattle.nightfile.proofs.Laws.{plan-in_range as part-in-range}
use Rattle.course.specs.Standing.{nodes_of, beginning, reached_next, action_item}
use Rattle.course.specs.Whole.{telling_all, many_steps, items_from, on_items, on_steps, working}
use Rattle.run.specs.Outcomes.{outcome_of, file_course, file_outcome}
use Rattle.course.proofs.Moves.{course-items, with_next}
use Rattle.run.proofs.Sum.{beginning-items}
use Rattle.onelock.specs.OneLock.{Item, step, act, after_item, after_all, reached, in_step, history_from, history, steps_among}
use Rattle.onelock.proofs.Run.Parts.{reached-more}
use Rattle.onelock.proofs.Theorems.{never_stuck}
use Rattle.nightlock.specs.NightLock.{plan_in, items_in, at_first, by_step, by_action, IsReached}
use Rattle.nightlock.specs.Busy.{some_has, file_steps}
use Rattle.nightlock.specs.Corollaries.{EveryStateIsReached, EveryLineStands, NoStepRefused, TheLinesAreTheHistory}
use Rattle.nightlock.proofs.Deeds.{apart, tells_none}
use Rattle.nightlock.proofs.Counting.{none_after}
use Rattle.nightlock.proofs.Courses.{At, at_same, standing, Goes, none, goes_same, goes_telling, goes_items}

-- the plan of an accepted file is in range
pub plan-in_range : (file : List ℕ) → file_number file ≡ 0 → in_range (plan_in file) ≡ true
unfolding plan_in
plan-in_range file e = part-in-range file e

-- the run of an accepted file begins with nothing done
begins : (file : List ℕ) → file_number file ≡ 0 → At file [] (items_in file) (beginning file)
unfolding beginning reached after_all steps_among start_state plan_in empty_tally no_counts file_steps
begins file e =
    record {
      split = refl;
      state = rw (plan-in_range file e);
      steps = refl;
      counted = record {
        places = length-replicate {A = ℕ} 64 0;
        busy = λ lock below. let none : get_or empty_tally.busy lock 0 ≡ 0 = omega (arith, none_busy lock) in none ∙ ap (λ (n : ℕ). min n (2 ^ 64 - 1)) (sym (none_after (some_has lock) (items_in file) (start_of (plan_in file))));
      };
    }

-- so much is known of its course: it has nothing to tell at first, and goes through its items
pub file_goes : (ceiling : ℕ) (file : List ℕ) → file_number file ≡ 0 → Goes file none [] (file_course ceiling file)
unfolding file_course working telling_all on_steps on_items many_steps beginning items_in apart
file_goes ceiling file e =
    let r = plan-in_range file e in
    let schedule = schedule_part file in
    let run = beginning file in
    let a = begins file e in
    subst (Goes file none []) (sym (course-items ceiling schedule run (beginning-items file e)))
    (goes_same _ none (λ lock. ap (apart (in_step 0)) (tells_none (plan_in file).rules lock node_places 0 (nodes_of run - 0)))
    (goes_telling (nodes_of run - 0) run (on_steps ceiling schedule) a
    (λ next. goes_items file r ceiling (items_from schedule 0) (with_next run next) (at_same _ refl a))))

-- each line stands where the items have brought the run
pub every-line_stands : EveryLineStands
every-line_stands ceiling file e = (file_goes ceiling file e).each

-- one item more is reached too
pub reached_next_lem : (plan : Plan) (item : Item) (state : State) → IsReached plan state → IsReached plan (after_item item state)
reached_next_lem plan item state x =
    record { items = x.items ++ (item ∷ []); is = ap (after_item item) x.is ∙ sym (reached-more plan x.items item) }

-- the start is reached by no item, and each move of the run is one item more
pub every_state_is-reached : EveryStateIsReached
unfolding beginning start_state plan_in reached after_all reached_next action_item after_item
every_state_is-reached file e _ at_first = record { items = []; is = rw (plan-in_range file e) }
every_state_is-reached file e _ (by_step before way) = reached_next_lem (plan_in file) step before.state (every_state_is-reached file e before.state way)
every_state_is-reached file e _ (by_action action node lock before way) =
    reached_next_lem (plan_in file) (act action node lock) before.reached.state (every_state_is-reached file e before.reached.state way)

-- C of demand 3, of the file's plan
pub no_step_refused : NoStepRefused
no_step_refused file e items = never_stuck (plan_in file) (plan-in_range file e) items

-- from the start on, all that the course does is all that is done
pub the_lines_are_the_history : TheLinesAreTheHistory
unfolding file_outcome outcome_of history reached after_all steps_among
the_lines_are_the_history ceiling file e =
    let g = file_goes ceiling file e in
    let plan = plan_in file in
    record {
      stands = standing g.way.ends;
      all = g.way.whole;
      lines = λ lock. g.lines lock ∙ ap (λ (items : List Item). history_from lock items 0 (start_of plan)) (sym g.way.sum);
    }
