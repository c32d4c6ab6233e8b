-- The run of a file from its beginning: that of an accepted file begins with its plan's start, that of a refused one is what is told of the file. An
-- accepted file whose plan is another's, under rules that are alike, says what 01 had the other say before 02, item 4.
use Prim.Native.Nat.{ℕ, zero, suc, ◌-◌}
use mathlib.Core.Path.{◌≡◌, refl, ◌∙◌, sym, ap, ap₂, subst, subst₂}
use mathlib.Core.Bool.{Bool, false, cond}
use Rattle.std.specs.Prelude.{Option}
use mathlib.Core.List.{List, []}
use lib.ListN.{get_or}
use borrow.Author.Tests.{eq-eqb, ne_eqb}
use Rattle.lists.proofs.Places.{place_default}
use Rattle.plan.specs.declared.Plan.{Plan}
use Rattle.plan.specs.Plan.{node_places}
use Rattle.turns.specs.Turn.{event_letter}
use Rattle.ring.specs.declared.State.{State}
use Rattle.turns.specs.declared.Event.{Event}
use Rattle.ring.specs.State.{start_of, start_state}
use Rattle.ring.specs.Walk.{quiet}
use Rattle.tally.specs.Tally.{empty_tally, no_events}
use Rattle.nightfile.specs.File.{plan_of, file_number, Told, number_and_place, file_told, file_place, if_accepted, plan_part, schedule_part}
use Rattle.nightfile.proofs.Laws.{plan-in_range}
use Rattle.course.specs.declared.Run.{Run}
use Rattle.course.specs.declared.Phase.{Phase}
use Rattle.course.specs.declared.Phase.TheVariants.{Items, Refused}
use Rattle.course.specs.Standing.{nodes_of, beginning, past}
use Rattle.course.specs.Wording.{event_here, is_event, event_line}
use Rattle.course.specs.Whole.{Course, says, telling, telling_all, many_steps, items_from, on_items, on_steps, working, course_in, course}
use Rattle.course.proofs.Moves.{with_next}
use Rattle.run.specs.Outcomes.{file_course}
use Rattle.nightlock.specs.NightLock.{plan_in, as_items, items_in}
use Rattle.books.specs.Alike.{under_plan}
use Rattle.books.specs.Before.{items01, file_course01}
use Rattle.books.proofs.Fits.{Fits}
use Rattle.books.proofs.Courses.{Same, same_items}

-- a run at its beginning
abbrev begun : State → Phase → Run
begun state phase =
    record {
      reached = record { state = state; tally = empty_tally; steps = 0 };
      at = 0;
      left = 0;
      events = no_events;
      next = 0;
      phase = phase;
      over = false;
    }

-- of an accepted file
accepted_begins : (file : List ℕ) → file_number file ≡ 0 → beginning file ≡ begun (start_of (plan_in file)) Items
unfolding beginning start_state plan_in
accepted_begins file e = simp (plan-in_range file e, eq-eqb _ _ e)

-- of a refused one, by what is told of it
abbrev pub refused_course : ℕ → Told → Course
refused_course ceiling told = course ceiling [] (begun (start_state (plan_of [])) (Refused told.number told.place))

pub refused-course : (ceiling : ℕ) (file : List ℕ) → (file_number file ≡ 0 → ⊥) → file_course ceiling file ≡ refused_course ceiling (file_told file)
unfolding file_course beginning plan_part schedule_part if_accepted file_place file_told number_and_place
refused-course ceiling file e = simp (ne_eqb _ _ e)

-- nodes at which nothing happened are passed by
quiet_told : (P : Course → Type 0) (n : ℕ) (run : Run) (then : Run → Course) → ((place : ℕ) → is_event (get_or run.events place quiet) ≡ false)
    → ((next : ℕ) → P (then (with_next run next))) → P (telling n run then)
unfolding telling past event_here
quiet_told P zero run then none p = p run.next
quiet_told P (suc n) run then none p =
    subst (λ (event : Bool). P (cond event (says (event_line run) run (past run) (telling n (past run) then)) (telling n (past run) then)))
    (sym (none run.next)) (quiet_told P n (past run) then none p)

-- so the run of an accepted file goes through its items at once
course_same : (ceiling k : ℕ) (plan : Plan) (schedule : List ℕ) → Fits k (as_items (items_from schedule 0)) (start_of plan)
    → Same (course ceiling schedule (begun (start_of (under_plan k plan)) Items)) (items01 ceiling (items_from schedule 0) (begun (start_of plan) Items))
unfolding course course_in working telling_all on_steps on_items many_steps start_of is_event event_letter quiet
course_same ceiling k plan schedule f =
    let run = begun (start_of (under_plan k plan)) Items in
    quiet_told (λ c. Same c (items01 ceiling (items_from schedule 0) (begun (start_of plan) Items))) (nodes_of run - 0) run (on_steps ceiling schedule)
    (λ place. place_default (λ (event : Option Event). is_event event ≡ false) quiet node_places place refl)
    (λ next. same_items k ceiling (items_from schedule 0) next (begun (start_of plan) Items) f)

-- an accepted file, and another accepted one with its schedule and with its plan under these rules
pub said_before : (ceiling k : ℕ) (file other : List ℕ) → file_number file ≡ 0 → file_number other ≡ 0 → plan_in other ≡ under_plan k (plan_in file)
    → schedule_part other ≡ schedule_part file → Fits k (items_in file) (start_of (plan_in file)) → Same (file_course ceiling other) (file_course01 ceiling file)
unfolding file_course file_course01 items_in
said_before ceiling k file other e o plan schedule f =
    subst₂ Same
    (sym (ap₂ (course ceiling) schedule (accepted_begins other o ∙ ap (λ (p : Plan). begun (start_of p) Items) plan)))
    (sym (ap (items01 ceiling (items_from (schedule_part file) 0)) (accepted_begins file e)))
    (course_same ceiling k (plan_in file) (schedule_part file) f)
