-- The course of a run, moved on by several steps at once: those before the last have no event, so nothing is said of them.
use Prim.Native.Nat.{ℕ, zero, suc, ◌+◌, ◌-◌, ◌≤◌, ◌<◌, min}
use mathlib.Core.Path.{◌≡◌, refl, ◌∙◌, sym, ap}
use mathlib.Core.Bool.{true, false, ◌&&◌}
use mathlib.Core.List.{List}
use native.Mathlib.Omega.{arith}
use lib.Dec.{ltb}
use lib.ListN.{get_or}
use borrow.Author.Tests.{ltb-true}
use Rattle.lists.specs.Loops.{iterate}
use Rattle.lists.proofs.Laws.{and_left, and_right}
use Rattle.lists.proofs.Tests.{by_test}
use Rattle.plan.specs.declared.Plan.{Plan}
use Rattle.plan.specs.Plan.{node_count}
use Rattle.turns.specs.Turn.{event_letter}
use Rattle.ring.specs.declared.State.{State}
use Rattle.ring.specs.declared.Advanced.{Advanced}
use Rattle.ring.specs.Walk.{quiet}
use Rattle.ring.specs.Step.{stepping}
use Rattle.ring.specs.Advance.{silent, one_more_note, advancing}
use Rattle.ring.proofs.Laws.{stepping_plan}
use Rattle.tally.specs.Tally.{step_tally, silent_tally}
use Rattle.tally.proofs.Silent.{silent_place, silent-more}
use Rattle.course.specs.declared.Run.{Run}
use Rattle.course.specs.Standing.{nodes_of, locks_of, reached_next, one_step, past}
use Rattle.course.specs.Wording.{event_here, is_event}
use Rattle.course.specs.Whole.{course}
use Rattle.course.specs.Several.{AtOnce, several_tally, after_steps, several_steps}
use Rattle.course.proofs.Moves.{AtItems, past-items, step_items, step_nodes, with_next, on_quiet, on_step}

-- of so many steps, at least one is done where one may be, and at most so many
done-some : (n : ℕ) (state : State) → 1 ≤ n → 1 ≤ (advancing n state).done
unfolding advancing one_more_note
done-some zero state some = absurd (omega arith)
done-some (suc n) state some = by_test (λ (a : Advanced). 1 ≤ a.done) (silent state && ltb 0 n) (λ e. omega arith) (λ e. omega arith)

done_most : (n : ℕ) (state : State) → (advancing n state).done ≤ n
unfolding advancing one_more_note
done_most zero state = omega arith
done_most (suc n) state =
    by_test (λ (a : Advanced). a.done ≤ suc n) (silent state && ltb 0 n) (λ e. omega (arith, done_most n (stepping state).state)) (λ e. omega arith)

-- at once may be done the smaller of those left and those up to the ceiling
pub at_once : (ceiling steps left limit : ℕ) → limit ≡ min left (ceiling - steps) → 0 < left → steps < ceiling → AtOnce ceiling steps left limit
at_once ceiling steps left limit e some below = record { some = omega arith; most = omega arith; room = omega arith }

-- and those that are done where so many may be
pub done_at_once : (ceiling steps left limit : ℕ) (state : State) (a : Advanced) → a ≡ advancing limit state → AtOnce ceiling steps left limit
    → AtOnce ceiling steps left a.done
done_at_once ceiling steps left limit state a e o =
    let some : 1 ≤ a.done = rw e (done-some limit state o.some) in
    let most : a.done ≤ limit = rw e (done_most limit state) in
    record { some = some; most = omega (arith, o.most); room = omega (arith, o.room) }

pub done_fits : {ceiling steps left limit : ℕ} (state : State) {a : Advanced} → a ≡ advancing limit state → AtOnce ceiling steps left limit
    → (1 ≤ a.done) × (a.done ≤ left) × (steps + a.done ≤ ceiling)
done_fits state e o = let done = done_at_once _ _ _ _ _ _ e o in (done.some, done.most, done.room)

-- they keep the plan
advancing_plan : (n : ℕ) (state : State) → (advancing n state).state.plan ≡ state.plan
unfolding advancing one_more_note
advancing_plan zero state = refl
advancing_plan (suc n) state =
    by_test (λ (a : Advanced). a.state.plan ≡ state.plan) (silent state && ltb 0 n)
    (λ e. advancing_plan n (stepping state).state ∙ stepping_plan state) (λ e. stepping_plan state)

pub several_nodes : (n : ℕ) (run : Run) → nodes_of (several_steps n run) ≡ nodes_of run
unfolding nodes_of several_steps after_steps
several_nodes n run = ap node_count (advancing_plan n run.reached.state)

pub several_items : (n : ℕ) (run : Run) → AtItems run → AtItems (several_steps n run)
unfolding several_steps after_steps
several_items n run i = record { not_over = i.not_over; at-items = i.at-items }

-- one step of several, with none after it, is the run's step
one_only : (run : Run)
    → after_steps (record { state = (stepping run.reached.state).state; events = (stepping run.reached.state).events; done = 1 }) run ≡ one_step run
unfolding after_steps several_tally silent_tally iterate one_step reached_next nodes_of locks_of
one_only run = refl

-- a silent step and then several are one more than several
first_of_several : (run : Run) (next : ℕ) (a : Advanced) → silent run.reached.state ≡ true → 1 ≤ a.done
    → after_steps a (with_next (one_step run) next) ≡ after_steps (one_more_note a) run
unfolding after_steps several_tally one_step reached_next nodes_of locks_of one_more_note
first_of_several run next a none some =
    let state = run.reached.state in
    let after = (stepping state).state in
    let count = node_count state.plan in
    let locks = state.plan.locks in
    let first = step_tally after.nodes (stepping state).events count locks run.reached.tally in
    let last = step_tally a.state.nodes a.events in
    let fewer : a.done - 1 + 1 ≡ a.done + 1 - 1 = omega arith in
    let tallies =
    ap (λ (plan : Plan). last (node_count plan) plan.locks (silent_tally after.nodes (node_count plan) plan.locks (a.done - 1) first)) (stepping_plan state)
    ∙ ap (last count locks) (sym (silent-more state none locks (a.done - 1) run.reached.tally) ∙ ap (λ (k : ℕ). silent_tally state.nodes count locks k run.reached.tally) fewer) in
    let steps : run.reached.steps + 1 + a.done ≡ run.reached.steps + (a.done + 1) = omega arith in
    let left : run.left - 1 - a.done ≡ run.left - (a.done + 1) = omega arith in
    λ i. record {
      reached = record { state = a.state; tally = tallies i; steps = steps i };
      at = run.at;
      left = left i;
      events = a.events;
      next = 0;
      phase = run.phase;
      over = run.over;
    }

-- past so many nodes with no event
quiet_nodes : (ceiling : ℕ) (schedule : List ℕ) (n : ℕ) (run : Run) → AtItems run → run.next + n ≤ nodes_of run
    → ((place : ℕ) → place < nodes_of run → is_event (get_or run.events place quiet) ≡ false)
    → course ceiling schedule run ≡ course ceiling schedule (with_next run (run.next + n))
unfolding past nodes_of event_here
quiet_nodes ceiling schedule zero run i room e =
    let none : run.next ≡ run.next + 0 = omega arith in
    ap (λ (next : ℕ). course ceiling schedule (with_next run next)) none
quiet_nodes ceiling schedule (suc n) run i room e =
    let one : run.next + 1 + n ≡ run.next + suc n = omega arith in
    on_quiet ceiling schedule run i (omega arith) (e run.next (omega arith))
    ∙ quiet_nodes ceiling schedule n (past run) (past-items run i) (omega arith) e
    ∙ ap (λ (next : ℕ). course ceiling schedule (with_next run next)) one

-- a silent step has no event to tell of
no_event_told : (run : Run) → silent run.reached.state ≡ true → (place : ℕ) → place < nodes_of (one_step run)
    → is_event (get_or (one_step run).events place quiet) ≡ false
unfolding one_step is_event event_letter nodes_of reached_next
no_event_told run none place below =
    ap is_event (silent_place run.reached.state none place (omega (arith, step_nodes run)))

-- several steps, where so many are left and the ceiling leaves room for them
pub on_several : (ceiling : ℕ) (schedule : List ℕ) (n : ℕ) (run : Run) → AtItems run → nodes_of run ≤ run.next
    → AtOnce ceiling run.reached.steps run.left n → course ceiling schedule run ≡ course ceiling schedule (several_steps n run)
unfolding several_steps advancing one_step reached_next nodes_of
on_several ceiling schedule zero run i told o = absurd (omega (arith, o.some))
on_several ceiling schedule (suc n) run i told o =
    let state = run.reached.state in
    let all = nodes_of (one_step run) in
    let next = with_next (one_step run) (0 + all) in
    on_step ceiling schedule run i told (omega (arith, o.most)) (omega (arith, o.room))
    ∙ by_test (λ (a : Advanced). course ceiling schedule (one_step run) ≡ course ceiling schedule (after_steps a run)) (silent state && ltb 0 n)
    (λ e.
    let none = and_left (silent state) (ltb 0 n) e in
    let others : 1 ≤ n = ltb-true 0 n (and_right (silent state) (ltb 0 n) e) in
    quiet_nodes ceiling schedule all (one_step run) (step_items run i) (omega arith) (no_event_told run none)
    ∙ on_several ceiling schedule n next (record { not_over = i.not_over; at-items = i.at-items }) (omega arith)
    (record { some = others; most = omega (arith, o.most); room = omega (arith, o.room) })
    ∙ ap (course ceiling schedule) (first_of_several run (0 + all) (advancing n (stepping state).state) none (done-some n (stepping state).state others)))
    (λ e. ap (course ceiling schedule) (sym (one_only run)))
