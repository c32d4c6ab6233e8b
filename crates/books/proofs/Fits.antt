-- What is asked of a state and the items left, so that from there on a run under other rules goes as 01 had it go: the rules are alike, the state's own
-- are 1 or 2, and no node of the plan releases a lock while it is not idle, unless that is refused under the others too. A step and an action keep it.
use Prim.Native.Nat.{ℕ}
use mathlib.Core.Path.{◌≡◌, ◌∙◌, sym, ap, subst}
use mathlib.Core.Bool.{Bool, true, false, ◌&&◌, ◌||◌}
use mathlib.Core.List.{List, ◌∷◌}
use Rattle.lists.proofs.Laws.{and_left, and_right}
use Rattle.lists.proofs.Tests.{or_by_first}
use Rattle.cars.specs.Cars.{release_needs_idle}
use Rattle.plan.specs.declared.Plan.{Plan}
use Rattle.acts.specs.declared.Action.{Action}
use Rattle.ring.specs.declared.State.{State}
use Rattle.ring.specs.State.{Told}
use Rattle.ring.specs.Actions.{acting}
use Rattle.ring.specs.Step.{stepping}
use Rattle.ring.proofs.Laws.{stepping_plan}
use Rattle.course.proofs.Moves.{acting_plan}
use Rattle.onelock.specs.OneLock.{Item, step, act, after_item}
use Rattle.books.specs.Alike.{Alike}
use Rattle.books.specs.Before.{acting01}
use Rattle.books.specs.Calm.{calm_item, calm_from}
use Rattle.books.proofs.Acts.{acting-own}

-- so it is from this state on, by the rules k
pub record Fits (k : ℕ) (left : List Item) (state : State) : Type 0 where
  pub alike : Alike k state.plan.rules
  pub own : release_needs_idle state.plan.rules ≡ true
  pub calm : (release_needs_idle k || calm_from left state) ≡ true

-- with the plan kept and the items that are then left
fits_on : (k : ℕ) (left : List Item) (before after : State) → after.plan ≡ before.plan → Alike k before.plan.rules
    → release_needs_idle before.plan.rules ≡ true → (release_needs_idle k || calm_from left after) ≡ true → Fits k left after
fits_on k left before after kept alike own calm =
    record {
      alike = subst (λ (plan : Plan). Alike k plan.rules) (sym kept) alike;
      own = ap (λ (plan : Plan). release_needs_idle plan.rules) kept ∙ own;
      calm = calm;
    }

-- after a step
pub fits_step : (k : ℕ) (left : List Item) (state : State) → Fits k (step ∷ left) state → Fits k left (stepping state).state
unfolding calm_from calm_item after_item
fits_step k left state f = fits_on k left state (stepping state).state (stepping_plan state) f.alike f.own f.calm

-- where one test holds or both of two others, the one or the first holds, and the one or the second
each_of : (a b c : Bool) → (a || (b && c)) ≡ true → ((a || b) ≡ true) × ((a || c) ≡ true)
each_of true b c e = (e, e)
each_of false b c e = (and_left b c e, and_right b c e)

module _ (k : ℕ) (action : Action) (node lock : ℕ) (left : List Item) (state : State) (f : Fits k (act action node lock ∷ left) state) where
  -- an action is answered as before
  pub fits_now : (release_needs_idle k || calm_item (act action node lock) state) ≡ true
  unfolding calm_from
  fits_now = (each_of (release_needs_idle k) (calm_item (act action node lock) state) (calm_from left _) f.calm).0

  -- and after it
  pub fits_act : Fits k left (acting01 action state node lock).state
  unfolding calm_from after_item
  fits_act =
      subst (λ (told : Told). Fits k left told.state) (acting-own action state node lock (or_by_first _ _ f.own))
      (fits_on k left state (acting action state node lock).state (acting_plan action state node lock) f.alike f.own
      (each_of (release_needs_idle k) (calm_item (act action node lock) state) (calm_from left _) f.calm).1)
