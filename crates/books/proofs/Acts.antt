-- An action that is answered as 01 answered it before 02, item 4: one under rules where a release needs an idle activity, or one that is no release by a
-- node of the plan, or of a node that is idle. Under rules that are alike it is then the action of before, under those rules.
use Prim.Native.Nat.{ℕ, ◌-◌}
use mathlib.Core.Path.{◌≡◌, refl, ◌∙◌, sym, ap}
use mathlib.Core.Bool.{Bool, true, false, cond, not, ◌&&◌, ◌||◌, true≢false}
use lib.Dec.{eqb, ltb}
use lib.ListN.{set}
use Rattle.lists.specs.Refusal.{refused_if}
use Rattle.cars.specs.Cars.{release_needs_idle, is_node}
use Rattle.plan.specs.Plan.{node_count}
use Rattle.usernode.specs.declared.Node.{Node}
use Rattle.usernode.specs.Node.{is_idle}
use Rattle.acts.specs.declared.Action.{Action}
use Rattle.acts.specs.declared.Action.TheVariants.{Take, Release, Force}
use Rattle.acts.specs.Actions.{later_number, needs_idle, node_number}
use Rattle.ring.specs.declared.State.{State}
use Rattle.ring.specs.State.{node_of}
use Rattle.ring.specs.Sound.{sound}
use Rattle.ring.specs.Actions.{action_number, acted_state, handed_back, acting}
use Rattle.onelock.specs.OneLock.{act, releases}
use Rattle.books.specs.Alike.{Alike, under_plan, under, under_told}
use Rattle.books.specs.Before.{node_number01, action_number01, acting01}
use Rattle.books.specs.Calm.{calm_item}
use Rattle.books.proofs.Rules.{alike_self, acted_same}
use Rattle.books.proofs.Under.{nodes_under, sound-under}

-- a release needs an idle activity, or this is no release by a node that is there, or the node is idle
abbrev pub fine : ℕ → Action → Bool → Node → Bool
fine rules action there node = release_needs_idle rules || (not (releases action && there) || is_idle node.activity)

-- of a node that is there, the activity is then idle, or it has to be
idle_or_needed : (rules : ℕ) (action : Action) (node : Node) → fine rules action true node ≡ true → (needs_idle rules action || is_idle node.activity) ≡ true
unfolding needs_idle releases
idle_or_needed rules Take node e = refl
idle_or_needed rules Release node e = e
idle_or_needed rules Force node e = refl

-- the test of 9 turned round
turned_round : (idle needed : Bool) (later : ℕ) → (needed || idle) ≡ true → cond (not idle && needed) 9 later ≡ cond idle later 9
turned_round true needed later e = refl
turned_round false true later e = refl
turned_round false false later e = absurd (true≢false (sym e))

-- 9 to 12
pub node_number_lem : (rules : ℕ) (action : Action) (node : Node) (lock : ℕ) → fine rules action true node ≡ true
    → node_number rules action node lock ≡ node_number01 action node lock
unfolding node_number node_number01
node_number_lem rules action node lock e =
    turned_round (is_idle node.activity) (needs_idle rules action) (later_number action node lock) (idle_or_needed rules action node e)

-- 7 to 12; of a node that is not there it is 7 in both
number_there : (rules : ℕ) (action : Action) (there known : Bool) (node : Node) (lock : ℕ) → fine rules action (there && known) node ≡ true
    → refused_if (not there) 7 (refused_if (not known) 8 (node_number rules action node lock))
    ≡ refused_if (not there) 7 (refused_if (not known) 8 (node_number01 action node lock))
unfolding refused_if
number_there rules action true true node lock e = node_number_lem rules action node lock e
number_there rules action true false node lock e = refl
number_there rules action false known node lock e = refl

-- a choice of what is under these rules
told_chosen : (k : ℕ) (test accepted : Bool) (number : ℕ) (one other : State)
    → cond test (record { number = number; state = cond accepted (under k one) (under k other) }) (record { number = 13; state = under k other })
    ≡ under_told k (cond test (record { number = number; state = cond accepted one other }) (record { number = 13; state = other }))
told_chosen k true true number one other = refl
told_chosen k true false number one other = refl
told_chosen k false accepted number one other = refl

module _ (k : ℕ) (action : Action) (state : State) (node lock : ℕ) (a : Alike k state.plan.rules)
    (e : (release_needs_idle k || calm_item (act action node lock) state) ≡ true) where
  -- its number
  number_under : action_number action (under k state) node lock ≡ action_number01 action state node lock
  unfolding action_number action_number01 node_of calm_item
  number_under =
      (λ i. refused_if (not (is_node (nodes_under k state.plan a i) node)) 7
      (refused_if (not (ltb lock state.plan.locks)) 8 (node_number k action (node_of state node) lock)))
      ∙ number_there k action (is_node (node_count state.plan) node) (ltb lock state.plan.locks) (node_of state node) lock e

  -- the whole answer
  pub acting-under : acting action (under k state) node lock ≡ under_told k (acting01 action state node lock)
  unfolding acting acting01 handed_back acted_state node_of
  acting-under =
      (λ i. cond (sound-under k state a i)
      (record {
        number = number_under i;
        state = cond (eqb (number_under i) 0)
            (record {
              plan = under_plan k state.plan;
              zeroth = state.zeroth;
              nodes = set state.nodes (node - 1) (acted_same k state.plan.rules a i action (node_of state node) lock);
              junctions = state.junctions;
            })
            (under k state);
      })
      (record { number = 13; state = under k state }))
      ∙ told_chosen k (sound state) (eqb (action_number01 action state node lock) 0) (action_number01 action state node lock) (acted_state action state node lock) state

-- under the state's own rules it is the action of before
pub acting-own : (action : Action) (state : State) (node lock : ℕ) → (release_needs_idle state.plan.rules || calm_item (act action node lock) state) ≡ true
    → acting action state node lock ≡ acting01 action state node lock
unfolding acting acting01
acting-own action state node lock e =
    ap (λ (number : ℕ). cond (sound state) (handed_back number (acted_state action state node lock) state) (record { number = 13; state = state }))
    (number_under state.plan.rules action state node lock (alike_self state.plan.rules) e)
