-- The way of a run to its next line: each turn of the loop leaves its course as it was, and brings it nearer.
use Prim.Native.Nat.{ℕ, ◌+◌, ◌-◌, ◌*◌, ◌≤◌, ◌<◌}
use mathlib.Core.Path.{◌≡◌, refl, ◌∙◌, sym, ap}
use mathlib.Core.Bool.{Bool, true, false, ◌||◌}
use mathlib.Core.List.{List, []}
use native.Mathlib.Omega.{arith}
use lib.ListN.{length}
use borrow.Author.Tests.{lt-ltb, le-ltb, eq-eqb}
use Rattle.items.specs.declared.Item.{Item}
use Rattle.items.specs.declared.Item.TheVariants.{Steps}
use Rattle.std.specs.Prelude.{Some, Ok}
use Rattle.items.specs.Items.{read_at}
use Rattle.course.specs.declared.Run.{Run}
use Rattle.course.specs.declared.Phase.{Phase}
use Rattle.course.specs.declared.Phase.TheVariants.{Items, Ended, Cut, Refused}
use Rattle.course.specs.Standing.{nodes_of, past, steps_item, at_end}
use Rattle.course.specs.Wording.{event_here, is_event}
use Rattle.course.specs.Whole.{items_from, course, and_others, steps_in}
use Rattle.course.specs.Ready.{answer_here, is_action, ready_in, ready}
use Rattle.course.specs.Several.{AtOnce, after_steps, several_steps}
use Rattle.course.proofs.Found.{found_moves, items_found}
use Rattle.course.proofs.Moves.{AtItems, past-items, steps_items, nodes_most, on_quiet, on_steps_lem, on_cut, on_end}
use Rattle.course.proofs.Several.{done_at_once, several_items, several_nodes, on_several}

-- what is so in the loop: the run is at its items, its course is the one it had, and it has so many nodes
pub record Way (ceiling : ℕ) (schedule : List ℕ) (nodes : ℕ) (start run : Run) : Type 0 where
  pub going : AtItems run
  pub same : course ceiling schedule run ≡ course ceiling schedule start
  pub count : nodes ≡ nodes_of run
  pub most : nodes ≤ 64

-- how far it can still go: the nodes to pass, the steps, and the bytes of the items
unfoldable pub to_go : List ℕ → ℕ → Run → ℕ
to_go schedule nodes run = nodes - run.next + 70 * (run.left + steps_in (items_from schedule run.at)) + (length schedule - run.at)

pub sets_out : (ceiling : ℕ) (schedule : List ℕ) (nodes : ℕ) (run : Run) → run.over ≡ false → run.phase ≡ Items → nodes ≡ nodes_of run
    → Way ceiling schedule nodes run run
sets_out ceiling schedule nodes run o p n = record { going = record { not_over = o; at-items = p }; same = refl; count = n; most = rw n (nodes_most run) }

-- past a node with no event
pub way_past : (ceiling : ℕ) (schedule : List ℕ) (nodes : ℕ) (start run : Run) → Way ceiling schedule nodes start run → run.next < nodes
    → is_event (event_here run) ≡ false → Way ceiling schedule nodes start (past run)
unfolding past nodes_of
way_past ceiling schedule nodes start run w below e =
    let under : run.next < nodes_of run = omega (arith, w.count) in
    record {
      going = past-items run w.going;
      same = sym (on_quiet ceiling schedule run w.going under e) ∙ w.same;
      count = w.count;
      most = w.most;
    }

-- several steps
pub way_several : (ceiling : ℕ) (schedule : List ℕ) (nodes : ℕ) (start run : Run) (limit : ℕ) → Way ceiling schedule nodes start run → nodes ≤ run.next
    → AtOnce ceiling run.reached.steps run.left limit → Way ceiling schedule nodes start (several_steps limit run)
way_several ceiling schedule nodes start run limit w told o =
    let all : nodes_of run ≤ run.next = omega (arith, w.count) in
    record {
      going = several_items limit run w.going;
      same = sym (on_several ceiling schedule limit run w.going all o) ∙ w.same;
      count = w.count ∙ sym (several_nodes limit run);
      most = w.most;
    }

-- an item of steps
pub way_steps : (ceiling : ℕ) (schedule : List ℕ) (nodes : ℕ) (start run : Run) (n : ℕ) → Way ceiling schedule nodes start run → nodes ≤ run.next
    → run.left ≤ 0 → (read_at schedule run.at).answer ≡ Ok (Some (Steps n)) → Way ceiling schedule nodes start (steps_item n run)
unfolding steps_item nodes_of
way_steps ceiling schedule nodes start run n w told left found =
    let all : nodes_of run ≤ run.next = omega (arith, w.count) in
    let none : run.left ≡ 0 = omega arith in
    record {
      going = steps_items n run w.going;
      same = sym (on_steps_lem ceiling schedule run n w.going all none found) ∙ w.same;
      count = w.count;
      most = w.most;
    }

-- each is nearer
pub past_nearer : (schedule : List ℕ) (nodes : ℕ) (run : Run) → run.next < nodes → to_go schedule nodes (past run) < to_go schedule nodes run
unfolding to_go past
past_nearer schedule nodes run below = omega arith

pub several_nearer : (ceiling : ℕ) (schedule : List ℕ) (nodes : ℕ) (run : Run) (limit : ℕ) → nodes ≤ 64 → nodes ≤ run.next
    → AtOnce ceiling run.reached.steps run.left limit → to_go schedule nodes (several_steps limit run) < to_go schedule nodes run
unfolding to_go several_steps after_steps
several_nearer ceiling schedule nodes run limit most told o =
    let d = done_at_once ceiling run.reached.steps run.left limit run.reached.state _ refl o in
    omega (arith, d.some, d.most)

pub steps_nearer : (schedule : List ℕ) (nodes : ℕ) (run : Run) (n : ℕ) → run.left ≤ 0 → (read_at schedule run.at).answer ≡ Ok (Some (Steps n))
    → to_go schedule nodes (steps_item n run) < to_go schedule nodes run
unfolding to_go steps_item steps_in
steps_nearer schedule nodes run n left found =
    let sum : steps_in (items_from schedule run.at) ≡ n + steps_in (items_from schedule (run.at + 3)) = ap steps_in (items_found schedule run.at (Steps n) found) in
    let fits : run.at + 3 ≤ length schedule = (found_moves schedule run.at (Steps n) found).1 in
    omega (arith, sum, fits)

-- where the loop ends: the course is the one it had, and the run is ready
abbrev Arrived : ℕ → List ℕ → Run → Run → Type 0
Arrived ceiling schedule start run = (course ceiling schedule run ≡ course ceiling schedule start) × (ready schedule run ≡ true)

pub at_event : (ceiling : ℕ) (schedule : List ℕ) (nodes : ℕ) (start run : Run) → Way ceiling schedule nodes start run → run.next < nodes
    → is_event (event_here run) ≡ true → Arrived ceiling schedule start run
unfolding ready ready_in
at_event ceiling schedule nodes start run w below e =
    let under : run.next < nodes_of run = omega (arith, w.count) in
    (w.same, simp (w.going.not_over, w.going.at-items, lt-ltb _ _ under, e))

pub at_action : (ceiling : ℕ) (schedule : List ℕ) (nodes : ℕ) (start run : Run) → Way ceiling schedule nodes start run
    → nodes ≤ run.next → run.left ≤ 0 → is_action (read_at schedule run.at).answer ≡ true → Arrived ceiling schedule start run
unfolding ready ready_in answer_here
at_action ceiling schedule nodes start run w told left found =
    let all : nodes_of run ≤ run.next = omega (arith, w.count) in
    let none : run.left ≡ 0 = omega arith in
    (w.same, simp (w.going.not_over, w.going.at-items, le-ltb _ _ all, eq-eqb _ _ none, found))

pub at_ceiling : (ceiling : ℕ) (schedule : List ℕ) (nodes : ℕ) (start run : Run) → Way ceiling schedule nodes start run → nodes ≤ run.next → 0 < run.left
    → ceiling ≤ run.reached.steps → Arrived ceiling schedule start (at_end Cut run)
unfolding ready ready_in at_end
at_ceiling ceiling schedule nodes start run w told left above =
    let all : nodes_of run ≤ run.next = omega (arith, w.count) in
    (sym (on_cut ceiling schedule run w.going all left above) ∙ w.same, simp w.going.not_over)

pub at-items_end : (ceiling : ℕ) (schedule : List ℕ) (nodes : ℕ) (start run : Run) → Way ceiling schedule nodes start run → nodes ≤ run.next → run.left ≤ 0
    → ((others : List Item) → and_others (read_at schedule run.at).answer others ≡ []) → Arrived ceiling schedule start (at_end Ended run)
unfolding ready ready_in at_end
at-items_end ceiling schedule nodes start run w told left nothing =
    let all : nodes_of run ≤ run.next = omega (arith, w.count) in
    let none : run.left ≡ 0 = omega arith in
    (sym (on_end ceiling schedule run w.going all none nothing) ∙ w.same, simp w.going.not_over)

-- a run that is over, or not at its items, is ready where it stands
pub ready_over : (schedule : List ℕ) (run : Run) → run.over ≡ true → ready schedule run ≡ true
unfolding ready
ready_over schedule run e = rw e refl

pub ready_at_end : (schedule : List ℕ) (run : Run) → (run.phase ≡ Items → ⊥) → ready schedule run ≡ true
unfolding ready ready_in
ready_at_end schedule run other = by_phase run.phase run.over other
  where
    by_phase : (phase : Phase) (over : Bool) → (phase ≡ Items → ⊥) → (over || ready_in phase schedule run) ≡ true
    by_phase Items over other = absurd (other refl)
    by_phase Ended true other = refl
    by_phase Ended false other = refl
    by_phase Cut true other = refl
    by_phase Cut false other = refl
    by_phase (Refused number place) true other = refl
    by_phase (Refused number place) false other = refl
