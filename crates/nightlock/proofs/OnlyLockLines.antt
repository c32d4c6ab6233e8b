-- Busy counts reach nothing but the H lines and themselves: along a course two runs that differ only in them stay so, and say the same but for the
-- busy steps.
use Rattle.std.specs.Prelude.{Option, None, Some}
use Prim.Native.Nat.{ℕ, zero, suc, ◌-◌, min}
use mathlib.Core.Path.{◌≡◌, refl, ◌∙◌, sym, ap, ap₂, subst}
use mathlib.Core.Bool.{Bool, true, false, cond}
use mathlib.Core.List.{List, [], ◌∷◌, ◌++◌}
use lib.Dec.{ltb}
use lib.ListN.{get_or}
use Rattle.lists.specs.Loops.{in_order}
use Rattle.plan.specs.Plan.{node_count}
use Rattle.turns.specs.declared.Event.{Event}
use Rattle.turns.specs.declared.Event.TheVariants.{Granted, Failed, Lost, Back, Sent}
use Rattle.ring.specs.Walk.{quiet}
use Rattle.ring.specs.Step.{stepping}
use Rattle.tally.specs.declared.Tally.{Tally}
use Rattle.tally.specs.Tally.{event_tally, place_tally, events_tally, step_tally}
use Rattle.items.specs.declared.Item.{Item}
use Rattle.items.specs.declared.Item.TheVariants.{Steps, Act}
use Rattle.wording.specs.declared.Line.{Line}
use Rattle.wording.specs.Wording.{text, lock_says}
use Rattle.course.specs.declared.Run.{Run}
use Rattle.course.specs.declared.Phase.{Phase}
use Rattle.course.specs.declared.Phase.TheVariants.{Items, Ended, Cut, Refused}
use Rattle.course.specs.Standing.{nodes_of, locks_of, reached_next, one_step, past, steps_item, action_item, at_end, all_said}
use Rattle.course.specs.Wording.{event_here, is_event, event_line, action_refusal, action_line, lock_line, last_line, refusal_line}
use Rattle.course.specs.Whole.{Course, says, silence, telling, telling_all, closing, closing_all, many_steps, items, items_from, on_items, on_steps, working, course_in, course}
use Rattle.nightlock.specs.Busy.{third_and_fourth, recounted, text_by, with_busy}
use Rattle.nightlock.specs.Corollaries.{OnlyBusyDiffers, OnlyLockLinesTellBusySteps}

-- a tally with other busy counts
abbrev other : List ℕ → Tally → Tally
other counts tally = record { busy = counts; grants = tally.grants; failed = tally.failed }

-- an event is counted the same beside them
event_other : (counts : List ℕ) (event : Option Event) (tally : Tally) → event_tally event (other counts tally) ≡ other counts (event_tally event tally)
unfolding event_tally
event_other counts None tally = refl
event_other counts (Some (Granted lock)) tally = refl
event_other counts (Some (Failed lock)) tally = refl
event_other counts (Some (Lost lock)) tally = refl
event_other counts (Some (Back lock)) tally = refl
event_other counts (Some (Sent lock)) tally = refl

events_other : (counts : List ℕ) (events : List (Option Event)) (n : ℕ) (tally : Tally)
    → events_tally events n (other counts tally) ≡ other counts (events_tally events n tally)
unfolding events_tally place_tally in_order
events_other counts events zero tally = refl
events_other counts events (suc n) tally =
    ap (event_tally (get_or events n quiet)) (events_other counts events n tally) ∙ event_other counts (get_or events n quiet) _

-- so a step leaves two runs that differ only in their busy counts
step_other : (counts : List ℕ) (run : Run)
    → one_step (with_busy counts run) ≡ with_busy (one_step (with_busy counts run)).reached.tally.busy (one_step run)
unfolding one_step reached_next step_tally with_busy
step_other counts run =
    let state = run.reached.state in
    let next = stepping state in
    let told = events_other counts next.events (min (node_count state.plan) 64) run.reached.tally in
    λ i. record {
      reached = record {
        state = next.state;
        tally = record {
          busy = (one_step (with_busy counts run)).reached.tally.busy;
          grants = (told i).grants;
          failed = (told i).failed;
        };
        steps = (one_step run).reached.steps;
      };
      at = run.at;
      left = (one_step run).left;
      events = next.events;
      next = 0;
      phase = run.phase;
      over = run.over;
    }

-- what comes then, from runs that differ only in their busy counts
abbrev Then : (Run → Course) → Type 0
Then then = (counts : List ℕ) (run : Run) → OnlyBusyDiffers (then (with_busy counts run)) (then run)

-- nothing more
same_silence : Then silence
unfolding silence with_busy
same_silence counts run = record { text = λ count. refl; end = refl }

-- a line that is the same but for busy steps, and then the rest
same_says : (line line' : Line) (before before' after after' : Run) (c d : Course) → ((count : ℕ → ℕ → ℕ) → recounted count line ≡ recounted count line')
    → OnlyBusyDiffers c d → OnlyBusyDiffers (says line before after c) (says line' before' after' d)
unfolding says text_by
same_says line line' before before' after after' c d e s =
    record { text = λ count. ap₂ (λ (first rest : List ℕ). first ++ rest) (ap text (e count)) (s.text count); end = s.end }

perhaps : (event : Bool) (line : Line) (before before' after after' : Run) (c d : Course) → OnlyBusyDiffers c d
    → OnlyBusyDiffers (cond event (says line before after c) c) (cond event (says line before' after' d) d)
perhaps true line before before' after after' c d s = same_says line line before before' after after' c d (λ count. refl) s
perhaps false line before before' after after' c d s = s

-- the events of a step
same_telling : (n : ℕ) (then : Run → Course) → Then then → Then (λ run. telling n run then)
unfolding telling past event_here event_line with_busy
same_telling zero then t counts run = t counts run
same_telling (suc n) then t counts run =
    perhaps (is_event (event_here run)) (event_line run) (with_busy counts run) run (with_busy counts (past run)) (past run)
    (telling n (with_busy counts (past run)) then) (telling n (past run) then) (same_telling n then t counts (past run))

same_telling_all : (then : Run → Course) → Then then → Then (λ run. telling_all run then)
unfolding telling_all nodes_of with_busy
same_telling_all then t counts run = same_telling (nodes_of run - run.next) then t counts run

-- the lines of the end
same_closing : (n : ℕ) → Then (closing n)
unfolding closing past all_said lock_line last_line locks_of third_and_fourth recounted lock_says with_busy
same_closing zero counts run =
    same_says (last_line run) (last_line run) (with_busy counts run) run (with_busy counts (all_said run)) (all_said run)
    (silence (with_busy counts (all_said run))) (silence (all_said run)) (λ count. refl) (same_silence counts (all_said run))
same_closing (suc n) counts run =
    same_says (lock_line (with_busy counts run)) (lock_line run) (with_busy counts run) run (with_busy counts (past run)) (past run)
    (closing n (with_busy counts (past run))) (closing n (past run)) (λ count. refl) (same_closing n counts (past run))

same_closing_all : Then closing_all
unfolding closing_all locks_of with_busy
same_closing_all counts run = same_closing (locks_of run - run.next) counts run

same_end : (phase : Phase) → Then (λ run. closing_all (at_end phase run))
unfolding at_end with_busy
same_end phase counts run = same_closing_all counts (at_end phase run)

-- a step and then the rest, or the end before it
same_step : (room : Bool) (then : Run → Course) → Then then → Then (λ run. cond room (telling_all (one_step run) then) (closing_all (at_end Cut run)))
same_step true then t counts run =
    subst (λ next. OnlyBusyDiffers (telling_all next then) (telling_all (one_step run) then)) (sym (step_other counts run)) (same_telling_all then t _ (one_step run))
same_step false then t counts run = same_end Cut counts run

-- so many steps
same_steps : (ceiling n : ℕ) (then : Run → Course) → Then then → Then (λ run. many_steps ceiling n run then)
unfolding many_steps with_busy
same_steps ceiling zero then t counts run = t counts run
same_steps ceiling (suc n) then t counts run =
    same_step (ltb run.reached.steps ceiling) (λ next. many_steps ceiling n next then) (same_steps ceiling n then t) counts run

-- the items
same_items : (ceiling : ℕ) (l : List Item) → Then (items ceiling l)
unfolding items steps_item action_item action_line action_refusal with_busy
same_items ceiling [] counts run = same_end Ended counts run
same_items ceiling (Steps n ∷ rest) counts run = same_steps ceiling n (items ceiling rest) (same_items ceiling rest) counts (steps_item n run)
same_items ceiling (Act action node lock ∷ rest) counts run =
    let next = action_item action node lock run in
    same_says (action_line action node lock run) (action_line action node lock run) (with_busy counts run) run (with_busy counts next) next
    (items ceiling rest (with_busy counts next)) (items ceiling rest next) (λ count. refl) (same_items ceiling rest counts next)

same_on_items : (ceiling : ℕ) (schedule : List ℕ) → Then (on_items ceiling schedule)
unfolding on_items with_busy
same_on_items ceiling schedule counts run = same_items ceiling (items_from schedule run.at) counts run

same_on_steps : (ceiling : ℕ) (schedule : List ℕ) → Then (on_steps ceiling schedule)
unfolding on_steps with_busy
same_on_steps ceiling schedule counts run = same_steps ceiling run.left (on_items ceiling schedule) (same_on_items ceiling schedule) counts run

-- by what the run is at
same_in : (phase : Phase) (ceiling : ℕ) (schedule : List ℕ) → Then (course_in phase ceiling schedule)
unfolding course_in working refusal_line all_said with_busy
same_in Items ceiling schedule counts run = same_telling_all (on_steps ceiling schedule) (same_on_steps ceiling schedule) counts run
same_in Ended ceiling schedule counts run = same_closing_all counts run
same_in Cut ceiling schedule counts run = same_closing_all counts run
same_in (Refused number place) ceiling schedule counts run =
    same_says (refusal_line number place run) (refusal_line number place run) (with_busy counts run) run (with_busy counts (all_said run)) (all_said run)
    (silence (with_busy counts (all_said run))) (silence (all_said run)) (λ count. refl) (same_silence counts (all_said run))

-- all is said, or not
same_course : (over : Bool) (ceiling : ℕ) (schedule : List ℕ) → Then (λ run. cond over (silence run) (course_in run.phase ceiling schedule run))
unfolding with_busy
same_course true ceiling schedule counts run = same_silence counts run
same_course false ceiling schedule counts run = same_in run.phase ceiling schedule counts run

pub only_lock_lines_tell_busy_steps : OnlyLockLinesTellBusySteps
unfolding course with_busy
only_lock_lines_tell_busy_steps ceiling schedule counts run = same_course run.over ceiling schedule counts run
