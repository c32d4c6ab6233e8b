-- The busy steps of a night run: the sentences of specs/Corollaries, proved of every accepted file and every ceiling.
use Prim.Native.Nat.{ℕ, suc, ◌-◌}
use mathlib.Core.Path.{◌≡◌, refl, ◌∙◌, ap, sym, subst}
use mathlib.Core.Bool.{Bool, true, false, ◌||◌, or-false}
use mathlib.Core.List.{List, []}
use native.Mathlib.Omega.{arith}
use lib.ListN.{get_or}
use Rattle.lists.proofs.Laws.{some_at, some_found, some_same}
use Rattle.words.specs.Words.{has}
use Rattle.words.proofs.Sets.{has_none}
use Rattle.cars.specs.Cars.{multiring}
use Rattle.plan.specs.declared.Plan.{Plan}
use Rattle.plan.specs.Plan.{in_range, node_count}
use Rattle.usernode.specs.Node.{had}
use Rattle.ring.specs.declared.State.{State}
use Rattle.ring.specs.State.{rest_node, node_of, start_of}
use Rattle.run.specs.Outcomes.{outcome_of, file_course, file_outcome, file_text}
use Rattle.onelock.specs.OneLock.{Item, after_all, reached, Lock}
use Rattle.onelock.proofs.Run.Items.{having, fine_node}
use Rattle.onelock.proofs.Run.Moments.{Follows, nobody, holder}
use Rattle.onelock.proofs.Run.Histories.{follows}
use Rattle.onelock.proofs.Run.Reached.{good_reached, plan_reached}
use Rattle.nightlock.specs.NightLock.{plan_in, items_in, IsReached}
use Rattle.nightlock.specs.Busy.{some_has, some_holds, file_steps, is_held}
use Rattle.nightlock.specs.Corollaries.{BusyStepsAre, BusyStepsOfSomeHas, RingFilesKeepTheirLines, BusyWhileHeld}
use Rattle.nightlock.proofs.Counting.{same_after, not_capped}
use Rattle.nightlock.proofs.Recounted.{text-recounted, text_same}
use Rattle.nightlock.proofs.Courses.{busy_steps}
use Rattle.nightlock.proofs.Corollaries.{plan-in_range, file_goes, reached_next_lem}

-- every line says the busy steps that are counted, and no count is at its top
pub busy-steps_of-some-has : BusyStepsOfSomeHas
unfolding file_text file_outcome outcome_of
busy-steps_of-some-has ceiling file bytes e =
    let goes = file_goes ceiling file e in
    let lines = (file_course ceiling file).lines in
    let end = (file_course ceiling file).end in
    record {
      text = text-recounted (busy_steps file) lines goes.busy ∙ text_same (busy_steps file) (file_steps some_has file) (not_capped some_has file bytes) lines;
      result = λ lock below. goes.way.ends.counted.busy lock below ∙ not_capped some_has file bytes end.reached.steps lock;
    }

-- counted in another way that comes to the same
other_count : (so other : ℕ → State → Bool) (ceiling : ℕ) (file : List ℕ) → ((steps lock : ℕ) → file_steps so file steps lock ≡ file_steps other file steps lock)
    → BusyStepsAre so ceiling file → BusyStepsAre other ceiling file
other_count so other ceiling file same are =
    record {
      text = are.text ∙ text_same (file_steps so file) (file_steps other file) same (file_course ceiling file).lines;
      result = λ lock below. are.result lock below ∙ same (file_outcome ceiling file).steps lock;
    }

-- the place of a node, from its number
here : (place : ℕ) → place ≡ suc place - 1
here place = omega arith

module _ (plan : Plan) (r : in_range plan ≡ true) where
  -- under ring rules nothing is let go: who has a lock holds it
  ring_holds : multiring plan.rules ≡ false → (lock : ℕ) (items : List Item) → some_has lock (reached plan items) ≡ some_holds lock (reached plan items)
  unfolding some_has some_holds had node_of
  ring_holds ring lock items =
      let state = reached plan items in
      some_same _ _ (node_count state.plan) (λ place below.
      let none : (node_of state (suc place)).letting ≡ 0 =
      (fine_node state (good_reached plan r items) (suc place) (record { low = omega arith; high = below })
      ).ring (ap (λ (p : Plan). multiring p.rules) (plan_reached plan r items) ∙ ring) in
      ap (λ (letting : ℕ). has (get_or state.nodes place rest_node).held lock || has letting lock)
      (ap (λ (k : ℕ). (get_or state.nodes k rest_node).letting) (here place) ∙ none)
      ∙ ap (λ (b : Bool). has (get_or state.nodes place rest_node).held lock || b) (has_none lock) ∙ or-false _)

pub ring_files_keep_their_lines : RingFilesKeepTheirLines
unfolding file_steps reached after_all
ring_files_keep_their_lines ceiling file bytes e ring =
    let plan = plan_in file in
    let r = plan-in_range file e in
    let same : (lock : ℕ) (state : State) → IsReached plan state → some_has lock state ≡ some_holds lock state =
    λ lock state x. subst (λ s. some_has lock s ≡ some_holds lock s) (sym x.is) (ring_holds plan r ring lock x.items) in
    other_count some_has some_holds ceiling file
    (λ steps lock. same_after (IsReached plan) (some_has lock) (some_holds lock) (same lock) (reached_next_lem plan) steps (items_in file) (start_of plan)
    (record { items = []; is = refl }))
    (busy-steps_of-some-has ceiling file bytes e)

-- a plain lock that follows who has the lock has a holder where some node has it
follows_held : {n : ℕ} {l : Lock} (lock : ℕ) (state : State) → node_count state.plan ≡ n → Follows n (having state lock) l → some_has lock state ≡ is_held l
unfolding some_has is_held node_of
follows_held lock state count (nobody none) = go (some_has lock state) refl
  where
    go : (b : Bool) → some_has lock state ≡ b → b ≡ false
    go true e =
        let x = some_found _ (node_count state.plan) e in
        absurd (none (suc x.place) (record { low = omega arith; high = omega (arith, x.below, count) })
        (ap (λ (k : ℕ). had (get_or state.nodes k rest_node) lock) (sym (here x.place)) ∙ x.holds))
    go false e = refl
follows_held lock state count (holder i u has only) =
    some_at _ (node_count state.plan) (i - 1) (omega (arith, u.low, u.high, count)) has

pub busy_while_held : BusyWhileHeld
busy_while_held plan r items lock = follows_held lock (reached plan items) (ap node_count (plan_reached plan r items)) (follows plan r items lock)
