-- Along a course, from a run that is not over to the last line: what is so of what is reached is kept by each step and each action, and what is
-- so of a course with the last line alone is so with each line more.
use Prim.Native.Nat.{ℕ, zero, suc}
use mathlib.Core.Path.{◌≡◌, sym, subst}
use mathlib.Core.Bool.{Bool, true, false, cond}
use mathlib.Core.List.{List, [], ◌∷◌}
use lib.Dec.{ltb}
use Rattle.acts.specs.declared.Action.{Action}
use Rattle.items.specs.declared.Item.{Item}
use Rattle.items.specs.declared.Item.TheVariants.{Steps, Act}
use Rattle.wording.specs.declared.Line.{Line}
use Rattle.course.specs.declared.Reached.{Reached}
use Rattle.course.specs.declared.Run.{Run}
use Rattle.course.specs.declared.Phase.{Phase}
use Rattle.course.specs.declared.Phase.TheVariants.{Items, Ended, Cut, Refused}
use Rattle.course.specs.Standing.{one_step, past, steps_item, action_item, at_end, all_said}
use Rattle.course.specs.Wording.{event_here, is_event}
use Rattle.course.specs.Whole.{Course, says, silence, telling, telling_all, closing, closing_all, many_steps, items, on_items, on_steps, working, course_in, course}

module _ (P : Reached → Type 0) (Q : Course → Type 0)
    (last : (line : Line) (run : Run) → P run.reached → Q (says line run (all_said run) (silence (all_said run))))
    (more : (line : Line) (before after : Run) (rest : Course) → Q rest → Q (says line before after rest))
    (step : (run : Run) → P run.reached → P (one_step run).reached)
    (act : (action : Action) (node lock : ℕ) (run : Run) → P run.reached → P (action_item action node lock run).reached) where
  -- what comes then, from every run where it is so
  abbrev Then : (Run → Course) → Type 0
  Then then = (run : Run) → P run.reached → Q (then run)

  -- a line, if it is said
  perhaps : (event : Bool) (line : Line) (before after : Run) (rest : Course) → Q rest → Q (cond event (says line before after rest) rest)
  perhaps true line before after rest q = more line before after rest q
  perhaps false line before after rest q = q

  -- the events of a step
  told : (n : ℕ) (run : Run) (then : Run → Course) → Then then → P run.reached → Q (telling n run then)
  unfolding telling past
  told zero run then t p = t run p
  told (suc n) run then t p = perhaps (is_event (event_here run)) _ run (past run) (telling n (past run) then) (told n (past run) then t p)

  -- the lines of the end
  closed : (n : ℕ) (run : Run) → P run.reached → Q (closing n run)
  unfolding closing past
  closed zero run p = last _ run p
  closed (suc n) run p = more _ run (past run) (closing n (past run)) (closed n (past run) p)

  closed_at : (phase : Phase) (run : Run) → P run.reached → Q (closing_all (at_end phase run))
  unfolding closing_all at_end
  closed_at phase run p = closed _ (at_end phase run) p

  -- so many steps
  one : (room : Bool) (run : Run) (then : Run → Course) → Then then → P run.reached
      → Q (cond room (telling_all (one_step run) then) (closing_all (at_end Cut run)))
  unfolding telling_all
  one true run then t p = told _ (one_step run) then t (step run p)
  one false run then t p = closed_at Cut run p

  stepped : (ceiling n : ℕ) (run : Run) (then : Run → Course) → Then then → P run.reached → Q (many_steps ceiling n run then)
  unfolding many_steps
  stepped ceiling zero run then t p = t run p
  stepped ceiling (suc n) run then t p =
      one (ltb run.reached.steps ceiling) run (λ next. many_steps ceiling n next then) (λ next q. stepped ceiling n next then t q) p

  -- the items
  in_order : (ceiling : ℕ) (l : List Item) (run : Run) → P run.reached → Q (items ceiling l run)
  unfolding items steps_item
  in_order ceiling [] run p = closed_at Ended run p
  in_order ceiling (Steps n ∷ rest) run p = stepped ceiling n (steps_item n run) (items ceiling rest) (λ next q. in_order ceiling rest next q) p
  in_order ceiling (Act action node lock ∷ rest) run p =
      more _ run (action_item action node lock run) (items ceiling rest (action_item action node lock run))
      (in_order ceiling rest (action_item action node lock run) (act action node lock run p))

  -- by what the run is at
  going : (ceiling : ℕ) (schedule : List ℕ) (run : Run) (phase : Phase) → P run.reached → Q (course_in phase ceiling schedule run)
  unfolding course_in working telling_all on_steps on_items closing_all
  going ceiling schedule run Items p =
      told _ run (on_steps ceiling schedule) (λ next q. stepped ceiling next.left next (on_items ceiling schedule) (λ other o. in_order ceiling _ other o) q) p
  going ceiling schedule run Ended p = closed _ run p
  going ceiling schedule run Cut p = closed _ run p
  going ceiling schedule run (Refused number place) p = last _ run p

  pub along : (ceiling : ℕ) (schedule : List ℕ) (run : Run) → run.over ≡ false → P run.reached → Q (course ceiling schedule run)
  unfolding course
  along ceiling schedule run o p =
      subst (λ (over : Bool). Q (cond over (silence run) (course_in run.phase ceiling schedule run))) (sym o) (going ceiling schedule run run.phase p)
