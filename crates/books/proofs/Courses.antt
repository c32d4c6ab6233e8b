-- A run under other rules beside the run that has 9 for every action: where it fits (Fits), both say the same and end with the same result.
use Prim.Native.Nat.{ℕ, zero, suc, ◌+◌, ◌-◌}
use mathlib.Core.Path.{◌≡◌, refl, sym, ap, ap₂, subst}
use mathlib.Core.Bool.{Bool, true, false, cond, ◌||◌}
use mathlib.Core.List.{List, [], ◌∷◌, ◌++◌}
use lib.Dec.{eqb, ltb}
use Rattle.cars.specs.Cars.{release_needs_idle}
use Rattle.tally.specs.Tally.{step_tally}
use Rattle.acts.specs.declared.Action.{Action}
use Rattle.items.specs.declared.Item.{Item as FileItem}
use Rattle.items.specs.declared.Item.TheVariants.{Steps, Act}
use Rattle.items.specs.Items.{place_at}
use Rattle.wording.specs.declared.Line.{Line}
use Rattle.wording.specs.Wording.{text, action_says, refused_says}
use Rattle.course.specs.declared.Run.{Run}
use Rattle.course.specs.declared.Phase.{Phase}
use Rattle.course.specs.declared.Phase.TheVariants.{Ended, Cut}
use Rattle.course.specs.Standing.{nodes_of, locks_of, reached_next, one_step, past, steps_item, action_item, at_end, all_said}
use Rattle.course.specs.Wording.{event_here, is_event, event_line, action_refusal, action_line, lock_line, last_line}
use Rattle.course.specs.Whole.{Course, says, silence, telling, telling_all, closing, closing_all, many_steps, items}
use Rattle.run.specs.Filling.{texts}
use Rattle.run.specs.Outcomes.{outcome_of}
use Rattle.onelock.specs.OneLock.{Item, step, act}
use Rattle.nightlock.specs.NightLock.{many_steps as item_steps, as_items}
use Rattle.books.specs.Alike.{Alike, under}
use Rattle.books.specs.Before.{action_item01, action_line01, items01}
use Rattle.books.specs.Calm.{calm_item}
use Rattle.books.proofs.Under.{nodes_under, stepping-under}
use Rattle.books.proofs.Acts.{acting-under}
use Rattle.books.proofs.Fits.{Fits, fits_step, fits_now, fits_act}

-- two courses with the same text and the same result
pub record Same (one other : Course) : Type 0 where
  pub text : texts one.lines ≡ texts other.lines
  pub result : outcome_of one.end ≡ outcome_of other.end

-- a line, and then the rest
same_says : (one other : Line) (before before' after after' : Run) (c d : Course) → one ≡ other → Same c d → Same (says one before after c) (says other before' after' d)
unfolding says texts
same_says one other before before' after after' c d e s =
    record { text = ap₂ (λ (first rest : List ℕ). first ++ rest) (ap text e) s.text; result = s.result }

-- a line, if it is said
perhaps : (event : Bool) (line : Line) (before before' after after' : Run) (c d : Course) → Same c d
    → Same (cond event (says line before after c) c) (cond event (says line before' after' d) d)
perhaps true line before before' after after' c d s = same_says line line before before' after after' c d refl s
perhaps false line before before' after after' c d s = s

module _ (k : ℕ) where
  -- a run under these rules, where this node or lock is told of next
  abbrev pub under_run : ℕ → Run → Run
  under_run next run =
      record {
        reached = record { state = under k run.reached.state; tally = run.reached.tally; steps = run.reached.steps };
        at = run.at;
        left = run.left;
        events = run.events;
        next = next;
        phase = run.phase;
        over = run.over;
      }

  -- the same run
  abbrev like_run : Run → Run
  like_run run = under_run run.next run

  -- what comes then is the same, from each run that fits the items left
  abbrev pub Then : List Item → (Run → Course) → (Run → Course) → Type 0
  Then left one other = (next : ℕ) (run : Run) → Fits k left run.reached.state → Same (one (under_run next run)) (other run)

  -- a step
  step_under : (next : ℕ) (run : Run) → Alike k run.reached.state.plan.rules → one_step (under_run next run) ≡ under_run 0 (one_step run)
  unfolding one_step reached_next
  step_under next run a =
      let state = run.reached.state in
      λ i. let stepped = stepping-under k state a i in
      record {
        reached = record {
          state = stepped.state;
          tally = step_tally stepped.state.nodes stepped.events (nodes_under k state.plan a i) state.plan.locks run.reached.tally;
          steps = run.reached.steps + 1;
        };
        at = run.at;
        left = run.left - 1;
        events = stepped.events;
        next = 0;
        phase = run.phase;
        over = run.over;
      }

  -- the events of a step
  same_telling : (left : List Item) (one other : Run → Course) → Then left one other → (n : ℕ) (run : Run) → Fits k left run.reached.state
      → Same (telling n (like_run run) one) (telling n run other)
  unfolding telling past event_here event_line
  same_telling left one other t zero run f = t run.next run f
  same_telling left one other t (suc n) run f =
      perhaps (is_event (event_here run)) (event_line run) (like_run run) run (like_run (past run)) (past run)
      (telling n (like_run (past run)) one) (telling n (past run) other) (same_telling left one other t n (past run) f)

  same_telling_all : (left : List Item) (one other : Run → Course) → Then left one other → (run : Run) → Fits k left run.reached.state
      → Same (telling_all (like_run run) one) (telling_all run other)
  unfolding telling_all nodes_of
  same_telling_all left one other t run f =
      subst (λ (nodes : ℕ). Same (telling (nodes - run.next) (like_run run) one) (telling (nodes_of run - run.next) run other))
      (sym (nodes_under k run.reached.state.plan f.alike)) (same_telling left one other t (nodes_of run - run.next) run f)

  -- the lines of the end
  same_closing : (n : ℕ) (run : Run) → Same (closing n (like_run run)) (closing n run)
  unfolding closing past all_said lock_line last_line locks_of silence outcome_of
  same_closing zero run =
      same_says (last_line run) (last_line run) (like_run run) run (like_run (all_said run)) (all_said run)
      (silence (like_run (all_said run))) (silence (all_said run)) refl (record { text = refl; result = refl })
  same_closing (suc n) run =
      same_says (lock_line run) (lock_line run) (like_run run) run (like_run (past run)) (past run)
      (closing n (like_run (past run))) (closing n (past run)) refl (same_closing n (past run))

  same_end : (phase : Phase) (next : ℕ) (run : Run) → Same (closing_all (at_end phase (under_run next run))) (closing_all (at_end phase run))
  unfolding closing_all at_end locks_of
  same_end phase next run = same_closing (locks_of run - 0) (at_end phase run)

  -- a step and then the rest, or the end before it
  same_step : (left : List Item) (one other : Run → Course) → Then left one other → (room : Bool) (next : ℕ) (run : Run) → Fits k (step ∷ left) run.reached.state
      → Same (cond room (telling_all (one_step (under_run next run)) one) (closing_all (at_end Cut (under_run next run))))
      (cond room (telling_all (one_step run) other) (closing_all (at_end Cut run)))
  unfolding one_step reached_next
  same_step left one other t true next run f =
      subst (λ (stepped : Run). Same (telling_all stepped one) (telling_all (one_step run) other)) (sym (step_under next run f.alike))
      (same_telling_all left one other t (one_step run) (fits_step k left run.reached.state f))
  same_step left one other t false next run f = same_end Cut next run

  -- so many steps
  same_steps : (ceiling n : ℕ) (left : List Item) (one other : Run → Course) → Then left one other
      → Then (item_steps n left) (λ run. many_steps ceiling n run one) (λ run. many_steps ceiling n run other)
  unfolding many_steps item_steps
  same_steps ceiling zero left one other t next run f = t next run f
  same_steps ceiling (suc n) left one other t next run f =
      same_step (item_steps n left) (λ after. many_steps ceiling n after one) (λ after. many_steps ceiling n after other) (same_steps ceiling n left one other t)
      (ltb run.reached.steps ceiling) next run f

  -- an action's line, and the run after it
  module _ (action : Action) (node lock next : ℕ) (run : Run) (a : Alike k run.reached.state.plan.rules)
      (e : (release_needs_idle k || calm_item (act action node lock) run.reached.state) ≡ true) where
    line-under : action_line action node lock (under_run next run) ≡ action_line01 action node lock run
    unfolding action_line action_refusal action_line01
    line-under =
        λ i. let number = (acting-under k action run.reached.state node lock a e i).number in
        cond (eqb number 0) (action_says run.reached.steps action node lock) (refused_says run.reached.steps number (place_at run.at))

    action_under : action_item action node lock (under_run next run) ≡ under_run next (action_item01 action node lock run)
    unfolding action_item action_item01
    action_under =
        λ i. record {
          reached = record {
            state = (acting-under k action run.reached.state node lock a e i).state;
            tally = run.reached.tally;
            steps = run.reached.steps;
          };
          at = run.at + 3;
          left = run.left;
          events = run.events;
          next = next;
          phase = run.phase;
          over = run.over;
        }

  -- the items
  pub same_items : (ceiling : ℕ) (l : List FileItem) → Then (as_items l) (items ceiling l) (items01 ceiling l)
  unfolding items items01 as_items steps_item action_item01
  same_items ceiling [] next run f = same_end Ended next run
  same_items ceiling (Steps n ∷ rest) next run f =
      same_steps ceiling n (as_items rest) (items ceiling rest) (items01 ceiling rest) (same_items ceiling rest) next (steps_item n run) f
  same_items ceiling (Act action node lock ∷ rest) next run f =
      let state = run.reached.state in
      let e = fits_now k action node lock (as_items rest) state f in
      let after = action_item01 action node lock run in
      same_says _ (action_line01 action node lock run) (under_run next run) run _ after (items ceiling rest (action_item action node lock (under_run next run)))
      (items01 ceiling rest after) (line-under action node lock next run f.alike e)
      (subst (λ (acted : Run). Same (items ceiling rest acted) (items01 ceiling rest after)) (sym (action_under action node lock next run f.alike e))
      (same_items ceiling rest next after (fits_act k action node lock (as_items rest) state f)))
