-- The steps of a run are the smaller of the ceiling and the schedule's sum, and it is cut where the sum is above the ceiling; a refused file gives
-- only its number, with 6 the place of the first bad item.
use Prim.Native.Nat.{ℕ, zero, suc, ◌+◌, ◌-◌, ◌≤◌, ◌<◌, min}
use mathlib.Core.Path.{◌≡◌, refl, ◌∙◌, sym, ap, subst}
use mathlib.Core.Bool.{Bool, true, false, cond}
use mathlib.Core.List.{List, [], ◌∷◌, append-nil}
use native.Mathlib.Nat.{zero-add}
use native.Mathlib.Omega.{arith}
use lib.Dec.{eqb, ltb}
use borrow.Author.Tests.{eqb-true, eqb-false, ltb-true, ltb-false, lt-ltb, le-ltb, eq-eqb, ne_eqb}
use Rattle.items.specs.declared.Item.{Item}
use Rattle.items.specs.declared.Item.TheVariants.{Steps, Act}
use Rattle.nightfile.specs.File.{file_number, Told, number_and_place, file_told, file_place, schedule_part}
use Rattle.nightfile.proofs.FirstBad.{six_tells_the_first_bad, only_six_tells_a_place}
use Rattle.course.specs.declared.Reached.{Reached}
use Rattle.course.specs.declared.Run.{Run}
use Rattle.course.specs.declared.Phase.{Phase}
use Rattle.course.specs.declared.Phase.TheVariants.{Ended, Cut, Refused}
use Rattle.course.specs.Standing.{nodes_of, beginning, reached_next, one_step, past, steps_item, action_item, at_end, all_said}
use Rattle.lines.specs.Line.{line}
use Rattle.run.specs.Filling.{texts}
use Rattle.wording.specs.Wording.{text, more_of, numbers_of, line_of, refusal_says}
use Rattle.course.specs.Wording.{event_here, is_event, is_cut, refusal_line}
use Rattle.course.specs.Whole.{Course, says, silence, telling, telling_all, closing, closing_all, many_steps, items, items_from, steps_in, on_items, on_steps, working, course_in, course}
use Rattle.course.proofs.Moves.{AtItems, course-items, with_next}
use Rattle.run.specs.Theorems.{TheSmallerOfBoth, CutAboveTheCeiling, OnlyTheNumberAndPlace, TheNumberInTheResult, ThePlaceInTheResult, SixNamesTheFirstBad, OthersStay0}
use Rattle.run.specs.Outcomes.{refusal_of, place_of, outcome_of, file_course, file_outcome, file_text, schedule_sum}

-- what a phase tells of a refusal: its number and the place beside it
abbrev told : Phase → Told
told phase = record { number = refusal_of phase; place = place_of phase }

abbrev nothing : Told
nothing = record { number = 0; place = 0 }

-- a course that ends with the smaller of the ceiling and a sum, and tells of no refusal
pub record Ends (ceiling sum : ℕ) (c : Course) : Type 0 where
  pub steps : c.end.reached.steps ≡ min ceiling sum
  pub cut : is_cut c.end.phase ≡ ltb ceiling sum
  pub none : told c.end.phase ≡ nothing

-- a line said changes nothing of that
ends_says : (ceiling sum : ℕ) (event : Bool) (a b : Course) → a.end ≡ b.end → Ends ceiling sum b → Ends ceiling sum (cond event a b)
ends_says ceiling sum true a b e i =
    record {
      steps = ap (λ (r : Run). r.reached.steps) e ∙ i.steps;
      cut = ap (λ (r : Run). is_cut r.phase) e ∙ i.cut;
      none = ap (λ (r : Run). told r.phase) e ∙ i.none;
    }
ends_says ceiling sum false a b e i = i

ends_telling : (ceiling sum n : ℕ) (run : Run) (then : Run → Course)
    → ((next : ℕ) → Ends ceiling sum (then (with_next run next))) → Ends ceiling sum (telling n run then)
unfolding telling says past
ends_telling ceiling sum zero run then e = e run.next
ends_telling ceiling sum (suc n) run then e = ends_says ceiling sum (is_event (event_here run)) _ (telling n (past run) then) refl (ends_telling ceiling sum n (past run) then e)

-- the lines of the end leave what was reached, and the phase
pub closing-reached : (n : ℕ) (run : Run) → (closing n run).end.reached ≡ run.reached
unfolding closing says silence all_said past
closing-reached zero run = refl
closing-reached (suc n) run = closing-reached n (past run)

pub closing_phase : (n : ℕ) (run : Run) → (closing n run).end.phase ≡ run.phase
unfolding closing says silence all_said past
closing_phase zero run = refl
closing_phase (suc n) run = closing_phase n (past run)

ends_closing : (ceiling sum n : ℕ) (phase : Phase) (run : Run) → run.reached.steps ≡ min ceiling sum → is_cut phase ≡ ltb ceiling sum
    → told phase ≡ nothing → Ends ceiling sum (closing n (at_end phase run))
unfolding at_end
ends_closing ceiling sum n phase run s c none =
    record {
      steps = ap (λ (r : Reached). r.steps) (closing-reached n (at_end phase run)) ∙ s;
      cut = ap is_cut (closing_phase n (at_end phase run)) ∙ c;
      none = ap told (closing_phase n (at_end phase run)) ∙ none;
    }

-- so many steps, and then the rest
ends_step : (ceiling sum n : ℕ) (run : Run) (then : Run → Course) (room : Bool) → run.reached.steps ≤ ceiling → run.reached.steps + suc n ≤ sum
    → ((r : Run) → r.reached.steps ≡ run.reached.steps + 1 → r.reached.steps ≤ ceiling → r.at ≡ run.at → Ends ceiling sum (then r))
    → ltb run.reached.steps ceiling ≡ room
    → Ends ceiling sum (cond room (telling_all (one_step run) then) (closing_all (at_end Cut run)))
unfolding telling_all one_step reached_next closing_all is_cut refusal_of place_of
ends_step ceiling sum n run then true most less again e =
    let under : run.reached.steps < ceiling = ltb-true run.reached.steps ceiling e in
    ends_telling ceiling sum _ (one_step run) then (λ next. again (with_next (one_step run) next) refl (omega (arith, under)) refl)
ends_step ceiling sum n run then false most less again e =
    let above : ceiling ≤ run.reached.steps = ltb-false run.reached.steps ceiling e in
    let over : ceiling < sum = omega arith in
    ends_closing ceiling sum _ Cut run (omega arith) (sym (lt-ltb ceiling sum over)) refl

ends_steps : (ceiling sum n : ℕ) (run : Run) (then : Run → Course) → run.reached.steps ≤ ceiling → run.reached.steps + n ≤ sum
    → ((r : Run) → r.reached.steps ≡ run.reached.steps + n → r.reached.steps ≤ ceiling → r.at ≡ run.at → Ends ceiling sum (then r))
    → Ends ceiling sum (many_steps ceiling n run then)
unfolding many_steps
ends_steps ceiling sum zero run then most less again = again run (omega arith) most refl
ends_steps ceiling sum (suc n) run then most less again =
    ends_step ceiling sum n run (λ next. many_steps ceiling n next then) (ltb run.reached.steps ceiling) most less
    (λ r f m p. let l : r.reached.steps + n ≤ sum = omega (arith, f) in
    ends_steps ceiling sum n r then m l (λ q g k o. let h : q.reached.steps ≡ run.reached.steps + suc n = omega (arith, f, g) in again q h k (o ∙ p))) refl

-- all items
ends_items : (ceiling sum : ℕ) (l : List Item) (run : Run) → run.reached.steps ≤ ceiling → sum ≡ run.reached.steps + steps_in l → Ends ceiling sum (items ceiling l run)
unfolding items steps_in closing_all is_cut refusal_of place_of steps_item action_item says
ends_items ceiling sum [] run most e =
    let under : sum ≤ ceiling = omega (arith, e) in
    ends_closing ceiling sum _ Ended run (omega (arith, e)) (sym (le-ltb ceiling sum under)) refl
ends_items ceiling sum (Steps n ∷ rest) run most e =
    let l : run.reached.steps + n ≤ sum = omega (arith, e) in
    ends_steps ceiling sum n (steps_item n run) (items ceiling rest) most l
    (λ r f m p. let g : sum ≡ r.reached.steps + steps_in rest = omega (arith, e, f) in ends_items ceiling sum rest r m g)
ends_items ceiling sum (Act action node lock ∷ rest) run most e =
    let i = ends_items ceiling sum rest (action_item action node lock run) most e in
    record { steps = i.steps; cut = i.cut; none = i.none }

-- a run from where it stands: the steps done, those left of the item, and those of the items to come
pub run_ends : (ceiling : ℕ) (schedule : List ℕ) (run : Run) → AtItems run → run.reached.steps ≤ ceiling
    → Ends ceiling (run.reached.steps + run.left + steps_in (items_from schedule run.at)) (course ceiling schedule run)
unfolding working telling_all on_steps on_items
run_ends ceiling schedule run i most =
    let sum : ℕ = run.reached.steps + run.left + steps_in (items_from schedule run.at) in
    let l : run.reached.steps + run.left ≤ sum = omega arith in
    rw (course-items ceiling schedule run i)
    (ends_telling ceiling sum (nodes_of run - run.next) run (on_steps ceiling schedule)
    (λ next. ends_steps ceiling sum run.left (with_next run next) (on_items ceiling schedule) most l
    (λ r f m p. let g : sum ≡ r.reached.steps + steps_in (items_from schedule run.at) = omega (arith, f) in
    subst (λ (at : ℕ). Ends ceiling sum (items ceiling (items_from schedule at) r)) (sym p) (ends_items ceiling sum (items_from schedule run.at) r m g))))

-- an accepted file: "the steps it reports are the smaller of the ceiling and the schedule's sum"; "C where the schedule's sum is above
-- the ceiling"
pub beginning-items : (file : List ℕ) → file_number file ≡ 0 → AtItems (beginning file)
unfolding beginning
beginning-items file e = record { not_over = refl; at-items = simp (eq-eqb _ _ e) }

file_ends : (ceiling : ℕ) (file : List ℕ) → file_number file ≡ 0 → Ends ceiling (schedule_sum (schedule_part file)) (file_course ceiling file)
unfolding file_course schedule_sum beginning
file_ends ceiling file e =
    subst (λ (sum : ℕ). Ends ceiling sum (course ceiling (schedule_part file) (beginning file))) (zero-add (steps_in (items_from (schedule_part file) 0)))
    (run_ends ceiling (schedule_part file) (beginning file) (beginning-items file e) (omega arith))

pub file_steps_lem : TheSmallerOfBoth
unfolding file_outcome outcome_of
file_steps_lem ceiling file e = (file_ends ceiling file e).steps

pub file_cut : CutAboveTheCeiling
unfolding file_outcome outcome_of
file_cut ceiling file e = (file_ends ceiling file e).cut

-- a refused file: only the line with its number and the place beside it
pub refused-course : (ceiling : ℕ) (file : List ℕ) → (file_number file ≡ 0 → ⊥)
    → file_course ceiling file ≡ says (refusal_line (file_number file) (file_place file) (beginning file)) (beginning file) (all_said (beginning file)) (silence (all_said (beginning file)))
unfolding file_course course course_in beginning
refused-course ceiling file e = simp (ne_eqb _ _ e)

refused_phase : (file : List ℕ) → (file_number file ≡ 0 → ⊥) → (beginning file).phase ≡ Refused (file_number file) (file_place file)
unfolding beginning
refused_phase file e = simp (ne_eqb _ _ e)

pub refused-text : OnlyTheNumberAndPlace
unfolding file_text says silence texts text numbers_of more_of refusal_line refusal_says line_of beginning
refused-text ceiling file e = ap (λ (c : Course). texts c.lines) (refused-course ceiling file e) ∙ append-nil _

refused_told : (ceiling : ℕ) (file : List ℕ) → (file_number file ≡ 0 → ⊥) → told (file_course ceiling file).end.phase ≡ file_told file
unfolding says silence all_said refusal_of place_of file_place file_told number_and_place
refused_told ceiling file e = ap (λ (c : Course). told c.end.phase) (refused-course ceiling file e) ∙ ap told (refused_phase file e)

accepted_told : (file : List ℕ) → file_number file ≡ 0 → nothing ≡ file_told file
unfolding file_told number_and_place
accepted_told file none = rw none

-- the number and the place in the result, of any file
file_told_lem : (ceiling : ℕ) (file : List ℕ) → told (file_course ceiling file).end.phase ≡ file_told file
file_told_lem ceiling file = go (eqb (file_number file) 0) refl
  where
    go : (accepted : Bool) → eqb (file_number file) 0 ≡ accepted → told (file_course ceiling file).end.phase ≡ file_told file
    go true e = let none : file_number file ≡ 0 = eqb-true _ _ e in (file_ends ceiling file none).none ∙ accepted_told file none
    go false e = refused_told ceiling file (eqb-false _ _ e)

pub file_refusal : TheNumberInTheResult
unfolding file_outcome outcome_of file_told number_and_place
file_refusal ceiling file = ap (λ (t : Told). t.number) (file_told_lem ceiling file)

pub file_place_lem : ThePlaceInTheResult
unfolding file_outcome outcome_of file_place
file_place_lem ceiling file = ap (λ (t : Told). t.place) (file_told_lem ceiling file)

-- the place beside 6 is the first bad item's, and beside the other numbers it is 0
pub six_named : SixNamesTheFirstBad
six_named ceiling file six =
    record {
      place = file_place file;
      first = six_tells_the_first_bad file six;
      text = refused-text ceiling file (λ none. omega (arith, none, six)) ∙ ap (λ (n : ℕ). line 0 81 (n ∷ file_place file ∷ [])) six;
      result = file_place_lem ceiling file;
    }

pub others_stay_0 : OthersStay0
others_stay_0 ceiling file refused other =
    refused-text ceiling file refused ∙ ap (λ (n : ℕ). line 0 81 (file_number file ∷ n ∷ [])) (only_six_tells_a_place file other)
