-- Every state that a schedule reaches from the start of an accepted plan has the invariant, and the plan that it started from; so no step and
-- no action is refused for its state, and the queue is short.
use Prim.Native.Nat.{ℕ, ◌≤◌}
use mathlib.Core.Path.{◌≡◌, refl, ◌∙◌, ap, sym, subst}
use mathlib.Core.Bool.{Bool, true, false, cond, not, ◌&&◌}
use mathlib.Core.List.{List, [], ◌∷◌}
use lib.Dec.{eqb, ltb, lit≤}
use borrow.Author.Tests.{eqb-true}
use Rattle.lists.specs.Refusal.{refused_if}
use Rattle.words.specs.Words.{has}
use Rattle.cars.specs.Cars.{is_node}
use Rattle.plan.specs.declared.Plan.{Plan}
use Rattle.plan.specs.Plan.{in_range, node_count}
use Rattle.usernode.specs.declared.Node.{Node}
use Rattle.usernode.specs.Node.{is_idle}
use Rattle.acts.specs.declared.Action.{Action}
use Rattle.acts.specs.declared.Action.TheVariants.{Take, Release, Force}
use Rattle.acts.specs.Actions.{wish_number, release_number, later_number, needs_idle, node_number}
use Rattle.ring.specs.declared.State.{State}
use Rattle.ring.specs.State.{Told, node_of, start_of}
use Rattle.ring.specs.Sound.{sound}
use Rattle.ring.specs.Actions.{action_number, acted_state, handed_back, acting}
use Rattle.ring.specs.Step.{StepTold, next_state, step_number, done, moving, stepping}
use Rattle.ring.proofs.Laws.{act_of_sound}
use Rattle.ring.proofs.Theorems.{step_keeps_sound, action_keeps_sound}
use Rattle.onelock.specs.OneLock.{Item, step, act, after_item, after_all, reached}
use Rattle.lists.proofs.Tests.{by_test}
use Rattle.onelock.proofs.State.Kept.{Kept, kept_start, kept_next, kept_act}
use Rattle.onelock.proofs.State.Good.{Good, good}

-- a step of a good state is done
pub step_done : (s : State) → Good s → stepping s ≡ done s
unfolding stepping moving step_number refused_if
step_done s g = simp (g.pass, g.room, g.ready)

-- the state after a step
pub after_step_lem : (s : State) → Good s → after_item step s ≡ next_state s
unfolding after_item done
after_step_lem s g = ap (λ (t : StepTold). t.state) (step_done s g)

-- an action on a good state goes by its number: by 7 to 12 alone
pub act_handed : (action : Action) (s : State) (node lock : ℕ) → Good s
    → acting action s node lock ≡ handed_back (action_number action s node lock) (acted_state action s node lock) s
act_handed action s node lock g = act_of_sound action s node lock g.pass

-- the number that it is handed back with is the action's own
pub act_number : (action : Action) (s : State) (node lock : ℕ) → Good s → (acting action s node lock).number ≡ action_number action s node lock
unfolding handed_back
act_number action s node lock g = ap (λ (t : Told). t.number) (act_handed action s node lock g)

-- the state after an action: accepted or as it was
pub after_act : (action : Action) (s : State) (node lock : ℕ) → Good s
    → after_item (act action node lock) s ≡ cond (eqb (action_number action s node lock) 0) (acted_state action s node lock) s
unfolding after_item handed_back
after_act action s node lock g = ap (λ (t : Told). t.state) (act_handed action s node lock g)

-- where both of two numbers are at most 12, so is the one that a test chooses
either_small : (test : Bool) {a b : ℕ} → a ≤ 12 → b ≤ 12 → cond test a b ≤ 12
either_small true l m = l
either_small false l m = m

-- the numbers that come last are at most 12
later_small : (action : Action) (u : Node) (lock : ℕ) → later_number action u lock ≤ 12
unfolding later_number wish_number release_number
later_small Take u lock = either_small (has u.held lock) (lit≤ tt) (either_small (has u.letting lock) (lit≤ tt) (lit≤ tt))
later_small Release u lock = either_small (has u.held lock) (lit≤ tt) (lit≤ tt)
later_small Force u lock = either_small (has u.held lock) (lit≤ tt) (either_small (has u.letting lock) (lit≤ tt) (lit≤ tt))

-- an action's number is at most 12
pub number_small : (action : Action) (s : State) (node lock : ℕ) → action_number action s node lock ≤ 12
unfolding action_number refused_if node_number
number_small action s node lock =
    either_small (not (is_node (node_count s.plan) node)) (lit≤ tt) (either_small (not (ltb lock s.plan.locks)) (lit≤ tt)
    (either_small (not (is_idle (node_of s node).activity) && needs_idle s.plan.rules action) (lit≤ tt) (later_small action (node_of s node) lock)))

-- what holds of a good state, of the next one and of the one after any accepted action holds after every item
by_item : (P : State → Type 0) (item : Item) (s : State) → Good s → P s → P (next_state s)
    → ((action : Action) (node lock : ℕ) → action_number action s node lock ≡ 0 → P (acted_state action s node lock)) → P (after_item item s)
by_item P step s g same next acted = subst P (sym (after_step_lem s g)) next
by_item P (act action node lock) s g same next acted =
    subst P (sym (after_act action s node lock g))
    (by_test P (eqb (action_number action s node lock) 0) (λ e. acted action node lock (eqb-true _ 0 e)) (λ e. same))

-- an item keeps what 13 asks
sound_item : (item : Item) (s : State) → sound s ≡ true → sound (after_item item s) ≡ true
unfolding after_item
sound_item step s e = step_keeps_sound s e
sound_item (act action node lock) s e = action_keeps_sound action s node lock e

-- an item keeps the invariant
pub kept_item : (item : Item) (s : State) → Kept s → Kept (after_item item s)
kept_item item s x =
    by_item (λ t. sound t ≡ true → Kept t) item s (good s x) (λ e. x) (kept_next s x) (λ action node lock. kept_act action s node lock x)
    (sound_item item s x.pass)

-- the next state has it
pub kept_after : (s : State) → Kept s → Kept (next_state s)
kept_after s x = subst Kept (after_step_lem s (good s x)) (kept_item step s x)

-- an item keeps the plan
pub plan_item : (item : Item) (s : State) → Good s → (after_item item s).plan ≡ s.plan
unfolding next_state acted_state
plan_item item s g = by_item (λ t. t.plan ≡ s.plan) item s g refl refl (λ action node lock a. refl)

-- a schedule keeps the invariant
kept_all : (items : List Item) (s : State) → Kept s → Kept (after_all items s)
unfolding after_all
kept_all [] s x = x
kept_all (item ∷ items) s x = kept_all items (after_item item s) (kept_item item s x)

-- a schedule keeps the plan
plan_all : (items : List Item) (s : State) → Kept s → (after_all items s).plan ≡ s.plan
unfolding after_all
plan_all [] s x = refl
plan_all (item ∷ items) s x = plan_all items (after_item item s) (kept_item item s x) ∙ plan_item item s (good s x)

-- every reached state has the invariant
pub kept_reached : (plan : Plan) → in_range plan ≡ true → (items : List Item) → Kept (reached plan items)
unfolding reached
kept_reached plan r items = kept_all items (start_of plan) (kept_start plan r)

-- so every reached state is good
pub good_reached : (plan : Plan) → in_range plan ≡ true → (items : List Item) → Good (reached plan items)
good_reached plan r items = good (reached plan items) (kept_reached plan r items)

-- and has the plan that it started from
pub plan_reached : (plan : Plan) → in_range plan ≡ true → (items : List Item) → (reached plan items).plan ≡ plan
unfolding reached start_of
plan_reached plan r items = plan_all items (start_of plan) (kept_start plan r)
