-- The lines of an accepted file: first those of actions and events, then the lines of the end. An induction along the run's course.
use Rattle.std.specs.Prelude.{Option, None, Some}
use Prim.Native.Nat.{ℕ, zero, suc, ◌-◌}
use mathlib.Core.Path.{◌≡◌, refl, ◌∙◌, sym, ap, ap₂, subst}
use mathlib.Core.Bool.{Bool, true, false, cond, true≢false}
use mathlib.Core.List.{List, [], ◌∷◌, ◌++◌, append_assoc}
use native.Mathlib.Omega.{arith}
use lib.Dec.{eqb, ltb}
use Rattle.lists.proofs.Tests.{and_both, by_test}
use Rattle.acts.specs.declared.Action.{Action}
use Rattle.acts.specs.declared.Action.TheVariants.{Take, Release, Force}
use Rattle.turns.specs.declared.Event.{Event}
use Rattle.turns.specs.declared.Event.TheVariants.{Granted, Failed, Lost, Back, Sent}
use Rattle.turns.specs.Turn.{event_letter}
use Rattle.items.specs.declared.Item.{Item}
use Rattle.items.specs.declared.Item.TheVariants.{Steps, Act}
use Rattle.items.specs.Items.{place_at}
use Rattle.nightfile.specs.File.{file_number, schedule_part}
use Rattle.tally.specs.Tally.{sum_of}
use Rattle.wording.specs.declared.Line.{Line}
use Rattle.wording.specs.Wording.{line_of, text, action_letter, action_says, refused_says, event_says, last_says}
use Rattle.course.specs.declared.Reached.{Reached}
use Rattle.course.specs.declared.Run.{Run}
use Rattle.course.specs.declared.Phase.{Phase}
use Rattle.course.specs.declared.Phase.TheVariants.{Ended, Cut}
use Rattle.course.specs.Standing.{locks_of, beginning, one_step, past, steps_item, action_item, at_end}
use Rattle.course.specs.Wording.{is_cut, event_here, is_event, event_line, action_refusal, action_line, lock_line, last_line}
use Rattle.course.specs.Whole.{Said, Course, says, silence, telling, telling_all, closing, closing_all, many_steps, items, on_items, on_steps, working}
use Rattle.course.proofs.Moves.{course-items}
use Rattle.run.specs.Filling.{texts}
use Rattle.run.specs.Outcomes.{file_course, file_text}
use Rattle.run.proofs.Sum.{closing-reached, closing_phase, beginning-items}
use Rattle.linereader.specs.Reading.{is_deed as is_deed_letter}
use Rattle.ownsheet.specs.Numbers.{lock_lines, last_lines, is_deed, all_deeds, lines_of, text_of}
use Rattle.ownsheet.specs.Theorems.{TheLinesEndWithTheNumbers}

-- ---- the lines before the end

-- an event's line
event_deed : (steps place : ℕ) (event : Option Event) → is_event event ≡ true → is_deed (event_says steps place event) ≡ true
unfolding is_event is_deed is_deed_letter event_says line_of event_letter
event_deed steps place None e = absurd (true≢false (sym e))
event_deed steps place (Some (Granted lock)) e = refl
event_deed steps place (Some (Failed lock)) e = refl
event_deed steps place (Some (Lost lock)) e = refl
event_deed steps place (Some (Back lock)) e = refl
event_deed steps place (Some (Sent lock)) e = refl

-- an action's line, accepted or refused
accepted_deed : (steps : ℕ) (action : Action) (node lock : ℕ) → is_deed (action_says steps action node lock) ≡ true
unfolding is_deed is_deed_letter action_says line_of action_letter
accepted_deed steps Take node lock = refl
accepted_deed steps Release node lock = refl
accepted_deed steps Force node lock = refl

refused_deed : (steps number place : ℕ) → is_deed (refused_says steps number place) ≡ true
unfolding is_deed is_deed_letter refused_says line_of
refused_deed steps number place = refl

action_deed : (action : Action) (node lock : ℕ) (run : Run) → is_deed (action_line action node lock run) ≡ true
unfolding action_line
action_deed action node lock run =
    by_test (λ (line : Line). is_deed line ≡ true) (eqb (action_refusal action node lock run) 0)
    (λ e. accepted_deed run.reached.steps action node lock)
    (λ e. refused_deed run.reached.steps (action_refusal action node lock run) (place_at run.at))

-- ---- the lines of the end

-- from a lock on, and then the last one
closing_lines : (n : ℕ) (run : Run) → lines_of (closing n run).lines ≡ lock_lines run.reached run.next n ++ (last_line run ∷ [])
unfolding closing says silence lines_of lock_lines lock_line last_line past locks_of
closing_lines zero run = refl
closing_lines (suc n) run = ap (λ (rest : List Line). lock_line run ∷ rest) (closing_lines n (past run))

-- ---- the course

-- a course whose lines end so
record Ending (c : Course) : Type 0 where
  before : List Line
  deeds : all_deeds before ≡ true
  lines : lines_of c.lines ≡ before ++ last_lines c.end

-- what comes then, from every run
abbrev Then : (Run → Course) → Type 0
Then then = (run : Run) → Ending (then run)

-- a line of an action or an event, and then the rest
one_more : (line : Line) (before after : Run) (rest : Course) → is_deed line ≡ true → Ending rest → Ending (says line before after rest)
unfolding says lines_of all_deeds
one_more line before after rest deed e =
    record { before = line ∷ e.before; deeds = and_both deed e.deeds; lines = ap (λ (l : List Line). line ∷ l) e.lines }

-- the lines of the end, by what is reached and the phase
abbrev end_lines : Reached → Phase → List Line
end_lines reached phase =
    lock_lines reached 0 reached.state.plan.locks
    ++ (last_says reached.steps (is_cut phase) (sum_of reached.tally.grants reached.state.plan.locks) (sum_of reached.tally.failed reached.state.plan.locks) ∷ [])

-- the end itself: its lines are all there are
ending_closing : (phase : Phase) (run : Run) → Ending (closing_all (at_end phase run))
unfolding closing_all at_end all_deeds last_lines last_line locks_of
ending_closing phase run =
    let here = at_end phase run in
    let n : ℕ = run.reached.state.plan.locks - 0 in
    let all : n ≡ run.reached.state.plan.locks = omega arith in
    record {
      before = [];
      deeds = refl;
      lines = closing_lines n here
          ∙ ap (λ (k : ℕ). lock_lines run.reached 0 k ++ (last_line here ∷ [])) all
          ∙ sym (ap₂ end_lines (closing-reached n here) (closing_phase n here));
    }

-- an event, if there is one
perhaps : (event : Bool) (run : Run) (rest : Course) → is_event (event_here run) ≡ event → Ending rest → Ending (cond event (says (event_line run) run (past run) rest) rest)
unfolding event_line
perhaps true run rest e i = one_more _ run (past run) rest (event_deed run.reached.steps run.next (event_here run) e) i
perhaps false run rest e i = i

-- the events of so many nodes
told : (n : ℕ) (run : Run) (then : Run → Course) → Then then → Ending (telling n run then)
unfolding telling
told zero run then t = t run
told (suc n) run then t = perhaps (is_event (event_here run)) run (telling n (past run) then) refl (told n (past run) then t)

told_all : (run : Run) (then : Run → Course) → Then then → Ending (telling_all run then)
unfolding telling_all
told_all run then t = told _ run then t

-- so many steps
one : (room : Bool) (run : Run) (then : Run → Course) → Then then → Ending (cond room (telling_all (one_step run) then) (closing_all (at_end Cut run)))
one true run then t = told_all (one_step run) then t
one false run then t = ending_closing Cut run

stepped : (ceiling n : ℕ) (run : Run) (then : Run → Course) → Then then → Ending (many_steps ceiling n run then)
unfolding many_steps
stepped ceiling zero run then t = t run
stepped ceiling (suc n) run then t =
    one (ltb run.reached.steps ceiling) run (λ next. many_steps ceiling n next then) (λ next. stepped ceiling n next then t)

-- the items
in_order : (ceiling : ℕ) (l : List Item) (run : Run) → Ending (items ceiling l run)
unfolding items
in_order ceiling [] run = ending_closing Ended run
in_order ceiling (Steps n ∷ rest) run = stepped ceiling n (steps_item n run) (items ceiling rest) (λ next. in_order ceiling rest next)
in_order ceiling (Act action node lock ∷ rest) run =
    one_more _ run (action_item action node lock run) (items ceiling rest (action_item action node lock run)) (action_deed action node lock run)
    (in_order ceiling rest (action_item action node lock run))

-- the whole of it
working_ends : (ceiling : ℕ) (schedule : List ℕ) (run : Run) → Ending (working ceiling schedule run)
unfolding working on_steps on_items
working_ends ceiling schedule run =
    told_all run (on_steps ceiling schedule) (λ next. stepped ceiling next.left next (on_items ceiling schedule) (λ other. in_order ceiling _ other))

file_ending : (ceiling : ℕ) (file : List ℕ) → file_number file ≡ 0 → Ending (file_course ceiling file)
unfolding file_course
file_ending ceiling file e =
    subst Ending (sym (course-items ceiling (schedule_part file) (beginning file) (beginning-items file e)))
    (working_ends ceiling (schedule_part file) (beginning file))

-- ---- the bytes

texts_lines : (said : List Said) → texts said ≡ text_of (lines_of said)
unfolding texts text_of lines_of
texts_lines [] = refl
texts_lines (one ∷ rest) = ap (λ (t : List ℕ). text one.line ++ t) (texts_lines rest)

pub text_both : (a b : List Line) → text_of (a ++ b) ≡ text_of a ++ text_of b
unfolding text_of
text_both [] b = refl
text_both (line ∷ a) b = ap (λ (t : List ℕ). text line ++ t) (text_both a b) ∙ sym (append_assoc (text line) (text_of a) (text_of b))

pub the_lines_end_with_the_numbers : TheLinesEndWithTheNumbers
unfolding file_text
the_lines_end_with_the_numbers ceiling file e =
    let ending = file_ending ceiling file e in
    let end = (file_course ceiling file).end in
    record {
      before = ending.before;
      deeds = ending.deeds;
      lines = ending.lines;
      written = texts_lines (file_course ceiling file).lines ∙ ap text_of ending.lines ∙ text_both ending.before (last_lines end);
    }
