-- The lines of actions and events of an accepted file: two numbers each, and steps and numbers far below 2 ^ 64. An induction along the run's course.
use Rattle.std.specs.Prelude.{Option, Some, None, Result, Ok, Err}
use Prim.Native.Nat.{ℕ, zero, suc, ◌+◌, ◌-◌, ◌*◌, ◌^◌, ◌≤◌, ◌<◌}
use mathlib.Core.Path.{◌≡◌, refl, ◌∙◌, sym, subst}
use mathlib.Core.Bool.{Bool, true, false, cond, true≢false}
use mathlib.Core.List.{List, [], ◌∷◌}
use native.Mathlib.Omega.{arith}
use lib.Dec.{eqb, ltb}
use lib.ListN.{length, get_or, length-drop}
use borrow.Author.Tests.{ltb-true, eqb-true}
use Rattle.lists.proofs.Tests.{by_test}
use Rattle.lists.proofs.Places.{place_default}
use Rattle.plan.specs.Plan.{node_places}
use Rattle.plan.proofs.Laws.{in_range_lem}
use Rattle.turns.specs.Turn.{event_lock}
use Rattle.acts.specs.declared.Action.{Action}
use Rattle.ring.specs.declared.State.{State}
use Rattle.turns.specs.declared.Event.{Event}
use Rattle.ring.specs.State.{start_state}
use Rattle.ring.specs.Sound.{sound}
use Rattle.ring.specs.Walk.{quiet}
use Rattle.ring.specs.Actions.{action_number, handed_back, acting}
use Rattle.ring.proofs.Laws.{sound_plan, node_place, accepted_node, accepted, act_of_sound}
use Rattle.ring.proofs.Theorems.{start_sound, step_keeps_sound, action_keeps_sound, step_events_name}
use Rattle.nightfile.specs.File.{file_number, plan_part, plan_of, schedule_body, schedule_start, if_accepted, schedule_part}
use Rattle.nightfile.proofs.Laws.{accepted as accepted-file, plan-in_range}
use Rattle.items.specs.declared.Item.{Item}
use Rattle.items.specs.declared.Item.TheVariants.{Steps, Act}
use Rattle.items.specs.declared.ItemRefusal.{ItemRefusal}
use Rattle.items.specs.Items.{place_at, read_at}
use Rattle.wording.specs.declared.Line.{Line}
use Rattle.wording.specs.Wording.{line_of, action_says, refused_says, event_says, lock_says, end_letter, last_says}
use Rattle.course.specs.declared.Run.{Run}
use Rattle.course.specs.declared.Phase.TheVariants.{Ended, Cut}
use Rattle.course.specs.Standing.{nodes_of, beginning, reached_next, one_step, past, steps_item, action_item, at_end}
use Rattle.course.specs.Wording.{is_cut, event_here, is_event, event_line, action_refusal, action_line, lock_line, last_line}
use Rattle.course.specs.Whole.{Course, says, silence, telling, telling_all, closing, closing_all, many_steps, items, and_others, items_within, items_from, on_items, on_steps, working}
use Rattle.course.proofs.Moves.{nodes_most, course-items}
use Rattle.run.specs.Outcomes.{file_course}
use Rattle.run.proofs.Sum.{beginning-items}
use Rattle.onelock.proofs.Run.Reached.{number_small}
use Rattle.linereader.specs.Reading.{is_deed as is_deed_letter}
use Rattle.ownsheet.specs.Numbers.{is_deed, lines_of}

-- ---- small lines

-- a line of two numbers, below 2 ^ 64 as its steps are
pub record Small (line : Line) : Type 0 where
  pub short : line.more ≡ None
  pub steps : line.steps < 2 ^ 64
  pub first : line.first < 2 ^ 64
  pub second : line.second < 2 ^ 64

-- so it is if it is of an action or an event
abbrev pub SmallDeed : Line → Type 0
SmallDeed line = is_deed line ≡ true → Small line

-- so it is of each of these lines
pub data Deedlike : List Line → Type 0 where
  none : Deedlike []
  one_more : {line : Line} {rest : List Line} → SmallDeed line → Deedlike rest → Deedlike (line ∷ rest)

small_line : (steps letter first second : ℕ) → steps < 2 ^ 64 → first < 2 ^ 64 → second < 2 ^ 64 → Small (line_of steps letter first second)
unfolding line_of
small_line steps letter first second a b c = record { short = refl; steps = a; first = b; second = c }

-- ---- courses

-- a course whose lines are so
abbrev SmallIn : Course → Type 0
SmallIn c = Deedlike (lines_of c.lines)

-- a line, and then the rest
small_more : (line : Line) (before after : Run) (rest : Course) → SmallDeed line → SmallIn rest → SmallIn (says line before after rest)
unfolding says lines_of
small_more line before after rest small r = Deedlike.one_more small r

-- the lines of the end are of no action and no event
lock_other : (run : Run) → SmallDeed (lock_line run)
unfolding is_deed is_deed_letter lock_line lock_says
lock_other run e = absurd (true≢false (sym e))

last_other : (steps : ℕ) (cut : Bool) (grants failed : ℕ) → SmallDeed (last_says steps cut grants failed)
unfolding is_deed is_deed_letter last_says line_of end_letter
last_other steps true grants failed e = absurd (true≢false (sym e))
last_other steps false grants failed e = absurd (true≢false (sym e))

closed : (n : ℕ) (run : Run) → SmallIn (closing n run)
unfolding closing silence lines_of last_line
closed zero run = small_more _ _ _ (silence _) (last_other _ (is_cut run.phase) _ _) Deedlike.none
closed (suc n) run = small_more _ _ _ (closing n (past run)) (lock_other run) (closed n (past run))

-- a line, if it is said
perhaps : (event : Bool) (line : Line) (before after : Run) (rest : Course) → SmallDeed line → SmallIn rest
    → SmallIn (cond event (says line before after rest) rest)
perhaps true line before after rest small r = small_more line before after rest small r
perhaps false line before after rest small r = r

-- ---- what is small

-- the number of an action's answer, in a state that 13 lets pass
number_same : (action : Action) (state : State) (node lock : ℕ) → sound state ≡ true
    → (acting action state node lock).number ≡ action_number action state node lock
unfolding handed_back
number_same action state node lock p = rw (act_of_sound action state node lock p)

-- as many items as bytes, at most
others_most : (answer : Result (Option Item) ItemRefusal) (others : List Item) (n : ℕ) → length others ≤ n → length (and_others answer others) ≤ suc n
unfolding and_others
others_most (Ok None) others n m = omega arith
others_most (Ok (Some item)) others n m = omega (arith, m)
others_most (Err refusal) others n m = omega arith

items_most : (n : ℕ) (schedule : List ℕ) (at : ℕ) → length (items_within n schedule at) ≤ n
unfolding items_within
items_most zero schedule at = omega arith
items_most (suc n) schedule at = others_most (read_at schedule at).answer _ n (items_most n schedule (read_at schedule at).at)

-- the schedule of an accepted file is within the file
schedule_most : (file : List ℕ) → file_number file ≡ 0 → length (schedule_part file) ≤ 65535
unfolding schedule_part if_accepted schedule_body
schedule_most file e =
    by_test (λ (l : List ℕ). length l ≤ 65535) (eqb (file_number file) 0)
    (λ z. omega (arith, length-drop (schedule_start file) file, (accepted-file file e).most)) (λ z. omega arith)

-- where nothing happens the lock is 0
quiet_lock : event_lock quiet < 64
unfolding quiet event_lock
quiet_lock = omega arith

-- ---- along the run

module _ (ceiling : ℕ) (few : ceiling < 2 ^ 64) where
  -- a run that stays under the ceiling, with a state that 13 lets pass, events of locks below 64, and so many items still to come: a file has fewer than
  -- 65,536 bytes, so its place stays below three times that
  record Going (left : ℕ) (run : Run) : Type 0 where
    passes : sound run.reached.state ≡ true
    steps : run.reached.steps ≤ ceiling
    events : (place : ℕ) → event_lock (get_or run.events place quiet) < 64
    at : run.at + 3 * left ≤ 196605

  -- what comes then
  abbrev Then : ℕ → (Run → Course) → Type 0
  Then left then = (run : Run) → Going left run → SmallIn (then run)

  -- an event
  event_small : (left : ℕ) (run : Run) → Going left run → run.next < 64 → SmallDeed (event_line run)
  unfolding event_line event_says event_here
  event_small left run g below e = small_line _ _ _ _ (omega (arith, g.steps, few)) (omega (arith, below)) (omega (arith, g.events run.next))

  -- past a node
  going-past : (left : ℕ) (run : Run) → Going left run → Going left (past run)
  unfolding past
  going-past left run g = record { passes = g.passes; steps = g.steps; events = g.events; at = g.at }

  -- the events of so many nodes
  told : (left n : ℕ) (run : Run) (then : Run → Course) → run.next + n ≤ 64 → Then left then → Going left run → SmallIn (telling n run then)
  unfolding telling past
  told left zero run then room t g = t run g
  told left (suc n) run then room t g =
      perhaps (is_event (event_here run)) (event_line run) run (past run) (telling n (past run) then) (event_small left run g (omega (arith, room)))
      (told left n (past run) then (omega (arith, room)) t (going-past left run g))

  told_all : (left : ℕ) (run : Run) (then : Run → Course) → run.next ≡ 0 → Then left then → Going left run → SmallIn (telling_all run then)
  unfolding telling_all
  told_all left run then first t g = told left (nodes_of run - run.next) run then (omega (arith, nodes_most run, first)) t g

  -- a step
  going_step : (left : ℕ) (run : Run) → run.reached.steps < ceiling → Going left run → Going left (one_step run)
  unfolding one_step reached_next
  going_step left run room g =
      let state = run.reached.state in
      let most = (in_range_lem state.plan (sound_plan state g.passes)).locks_most in
      record {
        passes = step_keeps_sound state g.passes;
        steps = omega (arith, room);
        events = λ place. omega (arith, step_events_name state g.passes place, most);
        at = g.at;
      }

  one : (room : Bool) (left : ℕ) (run : Run) (then : Run → Course) → ltb run.reached.steps ceiling ≡ room → Then left then → Going left run
      → SmallIn (cond room (telling_all (one_step run) then) (closing_all (at_end Cut run)))
  unfolding one_step closing_all
  one true left run then e t g = told_all left (one_step run) then refl t (going_step left run (ltb-true _ _ e) g)
  one false left run then e t g = closed _ (at_end Cut run)

  -- so many steps
  stepped : (left n : ℕ) (run : Run) (then : Run → Course) → Then left then → Going left run → SmallIn (many_steps ceiling n run then)
  unfolding many_steps
  stepped left zero run then t g = t run g
  stepped left (suc n) run then t g =
      one (ltb run.reached.steps ceiling) left run (λ next. many_steps ceiling n next then) refl (λ next h. stepped left n next then t h) g

  -- an action
  action_small : (left : ℕ) (action : Action) (node lock : ℕ) (run : Run) → Going left run → SmallDeed (action_line action node lock run)
  unfolding action_line action_says refused_says action_refusal place_at
  action_small left action node lock run g e =
      let state = run.reached.state in
      let same : (acting action state node lock).number ≡ action_number action state node lock = number_same action state node lock g.passes in
      let most = (in_range_lem state.plan (sound_plan state g.passes)).locks_most in
      let steps : run.reached.steps < 2 ^ 64 = omega (arith, g.steps, few) in
      by_test Small (eqb (acting action state node lock).number 0)
      (λ z.
      let none : action_number action state node lock ≡ 0 = sym same ∙ eqb-true _ 0 z in
      let there = node_place state.plan node (accepted_node action state node lock none) in
      small_line _ _ _ _ steps (omega (arith, there.1)) (omega (arith, (accepted action state node lock none).0, most)))
      (λ z. small_line _ _ _ _ steps (omega (arith, number_small action state node lock, same)) (omega (arith, g.at)))

  going_action : (left : ℕ) (action : Action) (node lock : ℕ) (run : Run) → Going (suc left) run → Going left (action_item action node lock run)
  unfolding action_item
  going_action left action node lock run g =
      record {
        passes = action_keeps_sound action run.reached.state node lock g.passes;
        steps = g.steps;
        events = g.events;
        at = omega (arith, g.at);
      }

  going_steps : (left n : ℕ) (run : Run) → Going (suc left) run → Going left (steps_item n run)
  unfolding steps_item
  going_steps left n run g = record { passes = g.passes; steps = g.steps; events = g.events; at = omega (arith, g.at) }

  -- the items
  in_order : (l : List Item) (run : Run) → Going (length l) run → SmallIn (items ceiling l run)
  unfolding items closing_all
  in_order [] run g = closed _ (at_end Ended run)
  in_order (Steps n ∷ rest) run g =
      stepped (length rest) n (steps_item n run) (items ceiling rest) (λ next h. in_order rest next h) (going_steps (length rest) n run g)
  in_order (Act action node lock ∷ rest) run g =
      small_more (action_line action node lock run) run (action_item action node lock run) (items ceiling rest (action_item action node lock run))
      (action_small (suc (length rest)) action node lock run g)
      (in_order rest (action_item action node lock run) (going_action (length rest) action node lock run g))

  -- from a place on there are no more items than bytes
  going-items : (schedule : List ℕ) (run : Run) → Going (length schedule) run → Going (length (items_from schedule run.at)) run
  unfolding items_from
  going-items schedule run g =
      record {
        passes = g.passes;
        steps = g.steps;
        events = g.events;
        at = omega (arith, g.at, items_most (length schedule - run.at) schedule run.at);
      }

  -- the whole of it
  working-says : (schedule : List ℕ) (run : Run) → run.next ≡ 0 → Going (length schedule) run → SmallIn (working ceiling schedule run)
  unfolding working on_steps on_items
  working-says schedule run first g =
      told_all (length schedule) run (on_steps ceiling schedule) first
      (λ next h. stepped (length schedule) next.left next (on_items ceiling schedule)
      (λ other o. in_order (items_from schedule other.at) other (going-items schedule other o)) h) g

  -- where an accepted file begins
  going-first : (file : List ℕ) → file_number file ≡ 0 → Going (length (schedule_part file)) (beginning file)
  unfolding beginning start_state
  going-first file e =
      let plan = plan_of (plan_part file) in
      let range = plan-in_range file e in
      record {
        passes = by_test (λ (s : State). sound s ≡ true) _ (λ z. start_sound plan range) (λ z. absurd (true≢false (sym range ∙ z)));
        steps = omega arith;
        events = λ place. place_default (λ (event : Option Event). event_lock event < 64) quiet node_places place quiet_lock;
        at = omega (arith, schedule_most file e);
      }

  pub file_deeds : (file : List ℕ) → file_number file ≡ 0 → Deedlike (lines_of (file_course ceiling file).lines)
  unfolding file_course beginning
  file_deeds file e =
      subst SmallIn (sym (course-items ceiling (schedule_part file) (beginning file) (beginning-items file e)))
      (working-says (schedule_part file) (beginning file) refl (going-first file e))
