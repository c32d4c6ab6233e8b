-- A run that is ready says the line that it is at, and goes on from the run after it.
use Rattle.std.specs.Prelude.{Option, Some, None, Result, Ok, Err}
use Prim.Native.Nat.{ℕ, zero, suc, ◌+◌, ◌-◌, ◌≤◌, ◌<◌}
use mathlib.Core.Path.{◌≡◌, refl, ◌∙◌, sym, ap, subst}
use mathlib.Core.Bool.{Bool, true, false, cond, ◌&&◌}
use mathlib.Core.List.{List}
use native.Mathlib.Omega.{arith}
use lib.Dec.{eqb, ltb, T}
use borrow.Author.Tests.{ltb-true, ltb-false, eqb-true}
use Rattle.lists.proofs.Laws.{and_left, and_right}
use Rattle.items.specs.declared.Item.{Item}
use Rattle.items.specs.declared.Item.TheVariants.{Steps, Act}
use Rattle.items.specs.declared.ItemRefusal.{ItemRefusal}
use Rattle.wording.specs.declared.Line.{Line}
use Rattle.course.specs.declared.Run.{Run}
use Rattle.course.specs.declared.Phase.{Phase}
use Rattle.course.specs.declared.Phase.TheVariants.{Items, Ended, Cut, Refused}
use Rattle.course.specs.Standing.{nodes_of, locks_of, past, all_said}
use Rattle.course.specs.Wording.{event_here, is_event, event_line, lock_line, last_line, refusal_line}
use Rattle.course.specs.Whole.{says, silence, closing, closing_all, course_in, course}
use Rattle.course.specs.Ready.{answer_here, is_act, is_action, ready_in, ready}
use Rattle.run.specs.Current.{Saying, saying, said, act_saying, answer_saying, end_saying, saying_in, saying_now}
use Rattle.course.proofs.Moves.{AtItems, on_event, on_action}

not_so : false ≡ true → ⊥
not_so e = subst T (sym e) tt

-- a line is said, and the course goes on after it
abbrev pub Goes : ℕ → List ℕ → Run → Option Saying → Type 0
Goes ceiling schedule run None = ⊥
Goes ceiling schedule run (Some s) = course ceiling schedule run ≡ says s.line run s.run (course ceiling schedule s.run)

-- all is said
pub course_over : (ceiling : ℕ) (schedule : List ℕ) (run : Run) → run.over ≡ true → course ceiling schedule run ≡ silence run
unfolding course
course_over ceiling schedule run e = simp e

-- at an action
act_goes : (ceiling : ℕ) (schedule : List ℕ) (run : Run) (item : Item) → AtItems run → nodes_of run ≤ run.next → run.left ≡ 0
    → answer_here schedule run ≡ Ok (Some item) → is_act item ≡ true → Goes ceiling schedule run (act_saying item run)
unfolding is_act act_saying saying answer_here
act_goes ceiling schedule run (Steps n) i told left found e = absurd (not_so e)
act_goes ceiling schedule run (Act action node lock) i told left found e = on_action ceiling schedule run action node lock i told left found

answer_goes : (ceiling : ℕ) (schedule : List ℕ) (run : Run) (answer : Result (Option Item) ItemRefusal) → AtItems run → nodes_of run ≤ run.next → run.left ≡ 0
    → answer_here schedule run ≡ answer → is_action answer ≡ true → Goes ceiling schedule run (answer_saying answer run)
unfolding is_action answer_saying
answer_goes ceiling schedule run (Ok None) i told left found e = absurd (not_so e)
answer_goes ceiling schedule run (Ok (Some item)) i told left found e = act_goes ceiling schedule run item i told left found e
answer_goes ceiling schedule run (Err refusal) i told left found e = absurd (not_so e)

-- at an event, or an action
items_go : (ceiling : ℕ) (schedule : List ℕ) (run : Run) (below : Bool) → AtItems run → ltb run.next (nodes_of run) ≡ below
    → cond below (is_event (event_here run)) (eqb run.left 0 && is_action (answer_here schedule run)) ≡ true
    → Goes ceiling schedule run (cond below (Some (saying (event_line run) (past run))) (answer_saying (answer_here schedule run) run))
unfolding saying
items_go ceiling schedule run true i b e = on_event ceiling schedule run i (ltb-true _ _ b) e
items_go ceiling schedule run false i b e =
    answer_goes ceiling schedule run (answer_here schedule run) i (ltb-false _ _ b) (eqb-true _ _ (and_left (eqb run.left 0) (is_action (answer_here schedule run)) e)) refl (and_right (eqb run.left 0) (is_action (answer_here schedule run)) e)

-- at the end: a lock, or the last line
closing-more : (n : ℕ) (run : Run) → 0 < n → closing n run ≡ says (lock_line run) run (past run) (closing (n - 1) (past run))
unfolding closing
closing-more zero run p = absurd (omega arith)
closing-more (suc n) run p = let one : suc n - 1 ≡ n = omega arith in rw one refl

closing_last : (run : Run) → closing 0 run ≡ says (last_line run) run (all_said run) (silence (all_said run))
unfolding closing
closing_last run = refl

said_silent : (ceiling : ℕ) (schedule : List ℕ) (run : Run) → course ceiling schedule (all_said run) ≡ silence (all_said run)
unfolding course all_said
said_silent ceiling schedule run = refl

end_goes : (ceiling : ℕ) (schedule : List ℕ) (run : Run) (below : Bool) → course ceiling schedule run ≡ closing_all run
    → course ceiling schedule (past run) ≡ closing_all (past run) → ltb run.next (locks_of run) ≡ below
    → Goes ceiling schedule run (Some (cond below (saying (lock_line run) (past run)) (saying (last_line run) (all_said run))))
unfolding saying closing_all locks_of past
end_goes ceiling schedule run true here there b =
    let under : run.next < locks_of run = ltb-true _ _ b in
    let more : 0 < locks_of run - run.next = omega arith in
    let one : locks_of run - run.next - 1 ≡ locks_of run - (run.next + 1) = omega arith in
    here ∙ closing-more _ run more ∙ ap (λ (n : ℕ). says (lock_line run) run (past run) (closing n (past run))) one
    ∙ ap (says (lock_line run) run (past run)) (sym there)
end_goes ceiling schedule run false here there b =
    let above : locks_of run ≤ run.next = ltb-false _ _ b in
    let none : locks_of run - run.next ≡ 0 = omega arith in
    here ∙ ap (λ (n : ℕ). closing n run) none ∙ closing_last run
    ∙ ap (says (last_line run) run (all_said run)) (sym (said_silent ceiling schedule run))

ended_closes : (ceiling : ℕ) (schedule : List ℕ) (run : Run) → run.over ≡ false → run.phase ≡ Ended → course ceiling schedule run ≡ closing_all run
unfolding course course_in
ended_closes ceiling schedule run o p = simp (o, p)

cut_closes : (ceiling : ℕ) (schedule : List ℕ) (run : Run) → run.over ≡ false → run.phase ≡ Cut → course ceiling schedule run ≡ closing_all run
unfolding course course_in
cut_closes ceiling schedule run o p = simp (o, p)

past_open : (run : Run) → run.over ≡ false → (past run).over ≡ false
unfolding past
past_open run o = o

past_phase : (run : Run) (phase : Phase) → run.phase ≡ phase → (past run).phase ≡ phase
unfolding past
past_phase run phase p = p

refused_goes : (ceiling : ℕ) (schedule : List ℕ) (run : Run) (number place : ℕ) → run.over ≡ false → run.phase ≡ Refused number place
    → course ceiling schedule run ≡ says (refusal_line number place run) run (all_said run) (silence (all_said run))
unfolding course course_in
refused_goes ceiling schedule run number place o p = simp (o, p)

-- by what the run is at
pub goes_in : (ceiling : ℕ) (schedule : List ℕ) (run : Run) (phase : Phase) → run.over ≡ false → run.phase ≡ phase → ready_in phase schedule run ≡ true
    → Goes ceiling schedule run (saying_in phase schedule run)
unfolding ready_in saying_in end_saying saying
goes_in ceiling schedule run Items o p e = items_go ceiling schedule run (ltb run.next (nodes_of run)) (record { not_over = o; at-items = p }) refl e
goes_in ceiling schedule run Ended o p e = end_goes ceiling schedule run (ltb run.next (locks_of run)) (ended_closes ceiling schedule run o p) (ended_closes ceiling schedule (past run) (past_open run o) (past_phase run Ended p)) refl
goes_in ceiling schedule run Cut o p e = end_goes ceiling schedule run (ltb run.next (locks_of run)) (cut_closes ceiling schedule run o p) (cut_closes ceiling schedule (past run) (past_open run o) (past_phase run Cut p)) refl
goes_in ceiling schedule run (Refused number place) o p e =
    refused_goes ceiling schedule run number place o p ∙ ap (says (refusal_line number place run) run (all_said run)) (sym (said_silent ceiling schedule run))

-- a run that is ready, and not over
pub ready_goes : (ceiling : ℕ) (schedule : List ℕ) (run : Run) → ready schedule run ≡ true → run.over ≡ false → Goes ceiling schedule run (saying_now schedule run)
unfolding ready saying_now
ready_goes ceiling schedule run r o = goes_in ceiling schedule run run.phase o refl (simp o at r)

-- so it has a line to say, and what is said is that line, and the run after it
pub record Says (ceiling : ℕ) (schedule : List ℕ) (run after : Run) (line : Option Line) : Type 0 where
  pub some : Line
  pub is : line ≡ Some some
  pub goes : Goes ceiling schedule run (Some (record { line = some; run = after }))

says_by : (ceiling : ℕ) (schedule : List ℕ) (run after : Run) (line : Option Line) → Goes ceiling schedule run (said line after) → Says ceiling schedule run after line
unfolding said saying
says_by ceiling schedule run after None goes = absurd goes
says_by ceiling schedule run after (Some line) goes = record { some = line; is = refl; goes = goes }

pub line_said : (ceiling : ℕ) (schedule : List ℕ) (run after : Run) (line : Option Line) → ready schedule run ≡ true → run.over ≡ false
    → said line after ≡ saying_now schedule run → Says ceiling schedule run after line
line_said ceiling schedule run after line r o e = says_by ceiling schedule run after line (subst (Goes ceiling schedule run) (sym e) (ready_goes ceiling schedule run r o))

-- the line that was said, by its name
pub this_said : {ceiling : ℕ} {schedule : List ℕ} {run after : Run} {line : Option Line} {this : Line} → Says ceiling schedule run after line → line ≡ Some this
    → Goes ceiling schedule run (Some (record { line = this; run = after }))
this_said {ceiling} {schedule} {run} {after} {this = this} s e =
    let same : s.some ≡ this = cc (s.is, e) in
    subst (λ (line : Line). Goes ceiling schedule run (Some (record { line = line; run = after }))) same s.goes
