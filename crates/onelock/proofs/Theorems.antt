-- Demand 3: the sentences of specs/Theorems and specs/Shadows, proved of every accepted plan and every schedule.
use Prim.Native.Nat.{ℕ, ◌+◌, ◌≤◌, ◌<◌}
use mathlib.Core.Path.{◌≡◌, refl, ◌∙◌, ap, sym, subst}
use mathlib.Core.Bool.{true, false, true≢false}
use mathlib.Core.List.{List}
use native.Mathlib.Omega.{arith}
use Rattle.onelock.specs.Theorems.{OnePlainLock, OneDeedAtATime, TimesAscend, StepsAtTheirNumber, ActionsBetweenSteps, DeedsHaveTheirTime}
use Rattle.onelock.specs.Theorems.{ToursNest, NoNodeRewritesShadows, NoJunctionRewritesShadows}
use Rattle.onelock.specs.Theorems.{TrueWords, NeverStuck, NeverBadState, ShortQueue, TheHolderHasIt, OnlyTheHolderHasIt}
use Rattle.onelock.specs.Shadows.{OnlyRealCarsAreRewritten}
use Rattle.lists.proofs.Tests.{by_value}
use Rattle.plan.specs.declared.Plan.{Plan}
use Rattle.plan.specs.Plan.{in_range, node_count, junction_count}
use Rattle.ring.specs.State.{node_of}
use Rattle.ring.specs.Step.{StepTold, done}
use Rattle.onelock.specs.OneLock.{Item, step, act, reached, time_of, junction_at, is_within, stands_around}
use Rattle.onelock.proofs.Line.Numbers.{numbered}
use Rattle.onelock.proofs.Line.Nested.{Aside}
use Rattle.onelock.proofs.Step.Shadows.{clear_fails_none, aside_fails_none}
use Rattle.onelock.proofs.Run.Moments.{one_deed, follows_sound, holder_has, has_holder}
use Rattle.onelock.proofs.Run.Reached.{step_done, act_number, number_small, kept_reached, good_reached, plan_reached}
use Rattle.onelock.proofs.Run.Items.{item_tells}
use Rattle.onelock.proofs.Run.Histories.{follows}
use Rattle.onelock.proofs.Run.Parts.{history-more}
use Rattle.onelock.proofs.Run.Times.{ascend, placed}
use Rattle.onelock.proofs.Real.Schedules.{rewrites_none}

-- A
pub one_plain_lock : OnePlainLock
one_plain_lock plan r items lock = follows_sound (follows plan r items lock)

-- A, its strong form
pub one_deed_at_a_time : OneDeedAtATime
one_deed_at_a_time plan r items item lock = one_deed (item_tells item lock (reached plan items) (kept_reached plan r items))

-- A, its times
pub times_ascend : TimesAscend
times_ascend plan r items lock = ascend plan items lock (one_plain_lock plan r items lock)

pub steps_at_their_number : StepsAtTheirNumber
unfolding time_of
steps_at_their_number plan items lock = history-more plan items step lock

pub actions_between_steps : ActionsBetweenSteps
unfolding time_of
actions_between_steps plan items action node own lock = history-more plan items (act action node own) lock

pub deeds_have_their_time : DeedsHaveTheirTime
deeds_have_their_time plan r items lock = placed plan r items lock

-- B
pub true_words : TrueWords
true_words plan r items junction below tour lock =
    (good_reached plan r items).words junction (subst (λ p. junction < junction_count p) (sym (plan_reached plan r items)) below) tour lock

-- within a junction that is outside a tour, in a reached state: the nodes' flags are clear, and the junctions are outside tours, their flags clear
module _ (plan : Plan) (r : in_range plan ≡ true) (items : List Item) where
  nodes_clear : (junction node : ℕ) → junction < junction_count plan → is_within plan junction node ≡ true
      → (junction_at (reached plan items) junction).tour ≡ false → (node_of (reached plan items) node).flag ≡ false
  nodes_clear junction node below inside tour =
      let same = sym (plan_reached plan r items) in
      (good_reached plan r items).flags junction node (subst (λ p. junction < junction_count p) same below)
      (subst (λ p. is_within p junction node ≡ true) same inside) tour

  junctions_aside : (outer inner : ℕ) → inner < junction_count plan → stands_around plan outer inner ≡ true
      → (junction_at (reached plan items) outer).tour ≡ false → Aside (junction_at (reached plan items) inner)
  junctions_aside outer inner below stands tour =
      let same = sym (plan_reached plan r items) in
      (good_reached plan r items).aside outer inner (subst (λ p. inner < junction_count p) same below)
      (subst (λ p. stands_around p outer inner ≡ true) same stands) tour

-- tours nest
pub tours_nest : ToursNest
tours_nest plan r items outer inner below stands tour =
    by_value (λ b. b ≡ true) (junction_at (reached plan items) outer).tour (λ e. refl)
    (λ e. absurd (true≢false (sym tour ∙ (junctions_aside plan r items outer inner below stands e).tour)))

-- no car on a shadow train is rewritten
pub no_node_rewrites_shadows : NoNodeRewritesShadows
no_node_rewrites_shadows plan r items junction node below inside tour arrival tag =
    clear_fails_none (node_of (reached plan items) node) node (nodes_clear plan r items junction node below inside tour) arrival tag

pub no_junction_rewrites_shadows : NoJunctionRewritesShadows
no_junction_rewrites_shadows plan r items outer inner below stands tour low high wants arrival out tag =
    aside_fails_none (junction_at (reached plan items) inner) (junctions_aside plan r items outer inner below stands tour) low high wants arrival out tag

-- its strong form, of every car by itself
pub only_real_cars_are_rewritten : OnlyRealCarsAreRewritten
only_real_cars_are_rewritten = rewrites_none

-- C
pub never_stuck : NeverStuck
unfolding done
never_stuck plan r items = ap (λ (t : StepTold). t.number) (step_done (reached plan items) (good_reached plan r items))

-- C, of 13 to an action
pub never_bad_state : NeverBadState
never_bad_state plan r items action node lock e =
    let s = reached plan items in
    omega (arith, number_small action s node lock, act_number action s node lock (good_reached plan r items))

-- C, of the queue
pub short_queue : ShortQueue
short_queue plan r items =
    subst (λ p. (reached plan items).zeroth.count ≤ node_count p + 1) (plan_reached plan r items) (good_reached plan r items).short

-- D
pub the_holder_has_it : TheHolderHasIt
the_holder_has_it plan r items node lock e = holder_has (follows plan r items lock) e

-- D, the other way
pub only_the_holder_has_it : OnlyTheHolderHasIt
only_the_holder_has_it plan r items node lock n h = has_holder (follows plan r items lock) (numbered (node_count plan) node n) h
