-- The course of a run, moved on by the least amount: past a node with no event, by a step, by an item, to the end.
use Prim.Native.Nat.{ℕ, zero, suc, ◌+◌, ◌-◌, ◌≤◌, ◌<◌}
use mathlib.Core.Path.{◌≡◌, refl, ◌∙◌, sym, ap}
use mathlib.Core.Bool.{true, false, cond}
use mathlib.Core.List.{List, []}
use native.Mathlib.Omega.{arith}
use lib.Dec.{eqb, ltb}
use borrow.Author.Tests.{lt-ltb, le-ltb}
use Rattle.lists.proofs.Tests.{by_test}
use Rattle.plan.specs.Plan.{node_count}
use Rattle.acts.specs.declared.Action.{Action}
use Rattle.items.specs.declared.Item.{Item}
use Rattle.items.specs.declared.Item.TheVariants.{Steps, Act}
use Rattle.std.specs.Prelude.{Some, Ok}
use Rattle.items.specs.Items.{read_at}
use Rattle.ring.specs.declared.State.{State}
use Rattle.ring.specs.State.{Told}
use Rattle.ring.specs.Sound.{sound}
use Rattle.ring.specs.Actions.{action_number, acted_state, handed_back, acting}
use Rattle.plan.proofs.Laws.{nodes_most as count_most}
use Rattle.ring.proofs.Laws.{stepping_plan}
use Rattle.course.specs.declared.Run.{Run}
use Rattle.course.specs.declared.Phase.TheVariants.{Items, Ended, Cut}
use Rattle.course.specs.Standing.{nodes_of, reached_next, one_step, past, steps_item, action_item, at_end}
use Rattle.course.specs.Wording.{event_here, is_event, event_line, action_line}
use Rattle.course.specs.Whole.{Course, says, telling, telling_all, closing_all, many_steps, items, items_from, on_items, on_steps, working, course_in, course, and_others}
use Rattle.course.proofs.Found.{items_found, items_none}

-- an action keeps the plan
pub acting_plan : (action : Action) (state : State) (node lock : ℕ) → (acting action state node lock).state.plan ≡ state.plan
unfolding acting handed_back acted_state
acting_plan action state node lock =
    by_test (λ (t : Told). t.state.plan ≡ state.plan) (sound state)
    (λ e. by_test (λ (s : State). s.plan ≡ state.plan) (eqb (action_number action state node lock) 0) (λ z. refl) (λ z. refl)) (λ e. refl)

-- so does a step
pub step_nodes : (run : Run) → nodes_of (one_step run) ≡ nodes_of run
unfolding nodes_of one_step reached_next
step_nodes run = ap node_count (stepping_plan run.reached.state)

pub action_nodes : (action : Action) (node lock : ℕ) (run : Run) → nodes_of (action_item action node lock run) ≡ nodes_of run
unfolding nodes_of action_item
action_nodes action node lock run = ap node_count (acting_plan action run.reached.state node lock)

-- there are places for all its nodes
pub nodes_most : (run : Run) → nodes_of run ≤ 64
unfolding nodes_of
nodes_most run = count_most run.reached.state.plan

-- a run that is at its items
pub record AtItems (run : Run) : Type 0 where
  pub not_over : run.over ≡ false
  pub at-items : run.phase ≡ Items

pub course-items : (ceiling : ℕ) (schedule : List ℕ) (run : Run) → AtItems run → course ceiling schedule run ≡ working ceiling schedule run
unfolding course course_in
course-items ceiling schedule run i = simp (i.not_over, i.at-items)

-- past a node with no event, and at a node with one
told_quiet : (n : ℕ) (run : Run) (then : Run → Course) → 0 < n → is_event (event_here run) ≡ false → telling n run then ≡ telling (n - 1) (past run) then
unfolding telling
told_quiet zero run then p e = absurd (omega arith)
told_quiet (suc n) run then p e = let one : suc n - 1 ≡ n = omega arith in rw (e, one) refl

told_event : (n : ℕ) (run : Run) (then : Run → Course) → 0 < n → is_event (event_here run) ≡ true
    → telling n run then ≡ says (event_line run) run (past run) (telling (n - 1) (past run) then)
unfolding telling
told_event zero run then p e = absurd (omega arith)
told_event (suc n) run then p e = let one : suc n - 1 ≡ n = omega arith in rw (e, one) refl

pub past-items : (run : Run) → AtItems run → AtItems (past run)
unfolding past
past-items run i = record { not_over = i.not_over; at-items = i.at-items }

pub on_quiet : (ceiling : ℕ) (schedule : List ℕ) (run : Run) → AtItems run → run.next < nodes_of run → is_event (event_here run) ≡ false
    → course ceiling schedule run ≡ course ceiling schedule (past run)
unfolding working telling_all nodes_of past
on_quiet ceiling schedule run i below e =
    let more : 0 < nodes_of run - run.next = omega arith in
    let one : nodes_of run - run.next - 1 ≡ nodes_of run - (run.next + 1) = omega arith in
    course-items ceiling schedule run i ∙ told_quiet _ run _ more e ∙ ap (λ (n : ℕ). telling n (past run) (on_steps ceiling schedule)) one
    ∙ sym (course-items ceiling schedule (past run) (past-items run i))

pub on_event : (ceiling : ℕ) (schedule : List ℕ) (run : Run) → AtItems run → run.next < nodes_of run → is_event (event_here run) ≡ true
    → course ceiling schedule run ≡ says (event_line run) run (past run) (course ceiling schedule (past run))
unfolding working telling_all nodes_of past
on_event ceiling schedule run i below e =
    let more : 0 < nodes_of run - run.next = omega arith in
    let one : nodes_of run - run.next - 1 ≡ nodes_of run - (run.next + 1) = omega arith in
    course-items ceiling schedule run i ∙ told_event _ run _ more e
    ∙ ap (λ (n : ℕ). says (event_line run) run (past run) (telling n (past run) (on_steps ceiling schedule))) one
    ∙ ap (says (event_line run) run (past run)) (sym (course-items ceiling schedule (past run) (past-items run i)))

-- all nodes are told of: the steps that are left
all_told : (ceiling : ℕ) (schedule : List ℕ) (run : Run) → AtItems run → nodes_of run ≤ run.next
    → course ceiling schedule run ≡ on_steps ceiling schedule run
unfolding working telling_all telling
all_told ceiling schedule run i past =
    let none : nodes_of run - run.next ≡ 0 = omega arith in
    course-items ceiling schedule run i ∙ ap (λ (n : ℕ). telling n run (on_steps ceiling schedule)) none

-- telling does not look at what comes then but at runs that differ in the next node only
abbrev pub with_next : Run → ℕ → Run
with_next run next = record { reached = run.reached; at = run.at; left = run.left; events = run.events; next = next; phase = run.phase; over = run.over }

told_same : (n : ℕ) (run : Run) (f g : Run → Course) → ((next : ℕ) → f (with_next run next) ≡ g (with_next run next)) → telling n run f ≡ telling n run g
unfolding telling past
told_same zero run f g e = e run.next
told_same (suc n) run f g e =
    ap (λ (rest : Course). cond (is_event (event_here run)) (says (event_line run) run (past run) rest) rest) (told_same n (past run) f g e)

-- nor do steps, but at runs whose place is the same
steps_same : (ceiling n : ℕ) (run : Run) (f g : Run → Course) → ((other : Run) → other.at ≡ run.at → f other ≡ g other)
    → many_steps ceiling n run f ≡ many_steps ceiling n run g
unfolding many_steps telling_all one_step
steps_same ceiling zero run f g e = e run refl
steps_same ceiling (suc n) run f g e =
    ap (λ (rest : Course). cond (ltb run.reached.steps ceiling) rest (closing_all (at_end Cut run)))
    (told_same (nodes_of (one_step run) - 0) (one_step run) (λ next. many_steps ceiling n next f) (λ next. many_steps ceiling n next g)
    (λ next. steps_same ceiling n (with_next (one_step run) next) f g e))

-- a step, where one is left and the ceiling is not reached
step_done : (ceiling n : ℕ) (run : Run) (then : Run → Course) → 0 < n → run.reached.steps < ceiling
    → many_steps ceiling n run then ≡ telling_all (one_step run) (λ next. many_steps ceiling (n - 1) next then)
unfolding many_steps
step_done ceiling zero run then p below = absurd (omega arith)
step_done ceiling (suc n) run then p below = let one : suc n - 1 ≡ n = omega arith in rw (lt-ltb _ _ below, one) refl

pub step_items : (run : Run) → AtItems run → AtItems (one_step run)
unfolding one_step
step_items run i = record { not_over = i.not_over; at-items = i.at-items }

pub on_step : (ceiling : ℕ) (schedule : List ℕ) (run : Run) → AtItems run → nodes_of run ≤ run.next → 0 < run.left → run.reached.steps < ceiling
    → course ceiling schedule run ≡ course ceiling schedule (one_step run)
unfolding on_steps working telling_all one_step
on_step ceiling schedule run i told left below =
    all_told ceiling schedule run i told
    ∙ step_done ceiling run.left run (on_items ceiling schedule) left below
    ∙ told_same _ (one_step run) (λ next. many_steps ceiling (run.left - 1) next (on_items ceiling schedule)) (on_steps ceiling schedule) (λ next. refl)
    ∙ sym (course-items ceiling schedule (one_step run) (step_items run i))

-- the ceiling is reached
step_cut : (ceiling n : ℕ) (run : Run) (then : Run → Course) → 0 < n → ceiling ≤ run.reached.steps → many_steps ceiling n run then ≡ closing_all (at_end Cut run)
unfolding many_steps
step_cut ceiling zero run then p above = absurd (omega arith)
step_cut ceiling (suc n) run then p above = rw (le-ltb _ _ above) refl

-- the course of a run at its end
pub course_ended : (ceiling : ℕ) (schedule : List ℕ) (run : Run) → run.over ≡ false → course ceiling schedule (at_end Ended run) ≡ closing_all (at_end Ended run)
unfolding course course_in at_end
course_ended ceiling schedule run e = simp e

pub course_cut : (ceiling : ℕ) (schedule : List ℕ) (run : Run) → run.over ≡ false → course ceiling schedule (at_end Cut run) ≡ closing_all (at_end Cut run)
unfolding course course_in at_end
course_cut ceiling schedule run e = simp e

pub on_cut : (ceiling : ℕ) (schedule : List ℕ) (run : Run) → AtItems run → nodes_of run ≤ run.next → 0 < run.left → ceiling ≤ run.reached.steps
    → course ceiling schedule run ≡ course ceiling schedule (at_end Cut run)
unfolding on_steps
on_cut ceiling schedule run i told left above =
    all_told ceiling schedule run i told ∙ step_cut ceiling run.left run _ left above ∙ sym (course_cut ceiling schedule run i.not_over)

-- no step is left: the items from the run's place
steps_done : (ceiling : ℕ) (schedule : List ℕ) (run : Run) → AtItems run → nodes_of run ≤ run.next → run.left ≡ 0
    → course ceiling schedule run ≡ on_items ceiling schedule run
unfolding on_steps many_steps
steps_done ceiling schedule run i told left =
    all_told ceiling schedule run i told ∙ ap (λ (n : ℕ). many_steps ceiling n run (on_items ceiling schedule)) left

pub on_end : (ceiling : ℕ) (schedule : List ℕ) (run : Run) → AtItems run → nodes_of run ≤ run.next → run.left ≡ 0
    → ((others : List Item) → and_others (read_at schedule run.at).answer others ≡ [])
    → course ceiling schedule run ≡ course ceiling schedule (at_end Ended run)
unfolding on_items items
on_end ceiling schedule run i told left none =
    steps_done ceiling schedule run i told left
    ∙ ap (λ (l : List Item). items ceiling l run) (items_none schedule run.at none)
    ∙ sym (course_ended ceiling schedule run i.not_over)

pub steps_items : (n : ℕ) (run : Run) → AtItems run → AtItems (steps_item n run)
unfolding steps_item
steps_items n run i = record { not_over = i.not_over; at-items = i.at-items }

pub on_steps_lem : (ceiling : ℕ) (schedule : List ℕ) (run : Run) (n : ℕ) → AtItems run → nodes_of run ≤ run.next → run.left ≡ 0
    → (read_at schedule run.at).answer ≡ Ok (Some (Steps n))
    → course ceiling schedule run ≡ course ceiling schedule (steps_item n run)
unfolding on_items items on_steps steps_item nodes_of
on_steps_lem ceiling schedule run n i told left found =
    steps_done ceiling schedule run i told left
    ∙ ap (λ (l : List Item). items ceiling l run) (items_found schedule run.at (Steps n) found)
    ∙ steps_same ceiling n (steps_item n run) (items ceiling (items_from schedule (run.at + 3))) (on_items ceiling schedule)
    (λ other e. ap (λ (at : ℕ). items ceiling (items_from schedule at) other) (sym e))
    ∙ sym (all_told ceiling schedule (steps_item n run) (steps_items n run i) told)

-- an action
action_items : (action : Action) (node lock : ℕ) (run : Run) → AtItems run → AtItems (action_item action node lock run)
unfolding action_item
action_items action node lock run i = record { not_over = i.not_over; at-items = i.at-items }

pub on_action : (ceiling : ℕ) (schedule : List ℕ) (run : Run) (action : Action) (node lock : ℕ) → AtItems run → nodes_of run ≤ run.next → run.left ≡ 0
    → (read_at schedule run.at).answer ≡ Ok (Some (Act action node lock))
    → course ceiling schedule run ≡ says (action_line action node lock run) run (action_item action node lock run) (course ceiling schedule (action_item action node lock run))
unfolding on_items items action_item nodes_of
on_action ceiling schedule run action node lock i told left found =
    let kept : nodes_of (action_item action node lock run) ≡ nodes_of run = action_nodes action node lock run in
    steps_done ceiling schedule run i told left
    ∙ ap (λ (l : List Item). items ceiling l run) (items_found schedule run.at (Act action node lock) found)
    ∙ ap (says (action_line action node lock run) run (action_item action node lock run))
    (sym (steps_done ceiling schedule (action_item action node lock run) (action_items action node lock run i) (rw kept told) left))
