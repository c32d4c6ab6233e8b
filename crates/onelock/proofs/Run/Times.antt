-- The times of a history: they rise, and each tells where in the schedule its deeds come from.
use Prim.Native.Nat.{ℕ, suc, ◌+◌, ◌*◌, ◌≤◌, ◌<◌}
use mathlib.Core.Path.{◌≡◌, refl, ◌∙◌, ap, sym, subst}
use mathlib.Core.Bool.{Bool, true, false, cond, not, ◌&&◌, true≢false}
use mathlib.Core.List.{List, [], ◌∷◌, ◌++◌}
use native.Mathlib.Omega.{arith}
use lib.Dec.{eqb}
use lib.Seq.{append_snoc}
use borrow.Author.Tests.{eqb-true}
use Rattle.lists.proofs.Tests.{by_value}
use Rattle.cars.specs.Cars.{multiring}
use Rattle.plan.specs.declared.Plan.{Plan}
use Rattle.plan.specs.Plan.{in_range, node_count}
use Rattle.acts.specs.declared.Action.TheVariants.{Take, Release, Force}
use Rattle.ring.specs.declared.State.{State}
use Rattle.ring.specs.State.{start_of}
use Rattle.ring.specs.Actions.{acting}
use Rattle.ring.specs.Step.{stepping}
use Rattle.onelock.specs.OneLock.{Item, step, act, after_item, after_all, reached, Deed, granted, ended, deed_if, releases, deeds_in, deeds_of}
use Rattle.onelock.specs.OneLock.{Time, in_step, after_step, Moment, rank, time_of, done_after, noted, history_from, history, steps_among, ComesFrom}
use Rattle.onelock.specs.OneLock.{Lock, free, held_by, broken, after, or_else, after_moment, plain_from, plain, is_broken}
use Rattle.onelock.proofs.Run.Reached.{plan_reached}
use Rattle.onelock.proofs.Run.Parts.{reached-more, among_more}

-- every moment is later than this rank, and than those before it
Rise : ℕ → List Moment → Type 0
Rise from [] = Unit
Rise from (moment ∷ later) = (from < rank moment.time) × Rise (rank moment.time) later

-- a broken lock stays broken
moment_broken : (deeds : List Deed) → after_moment deeds broken ≡ broken
unfolding after_moment or_else after
moment_broken [] = refl
moment_broken (granted node ∷ []) = refl
moment_broken (ended node ∷ []) = refl
moment_broken (granted node ∷ granted other ∷ []) = refl
moment_broken (granted node ∷ ended other ∷ []) = refl
moment_broken (ended node ∷ granted other ∷ []) = refl
moment_broken (ended node ∷ ended other ∷ []) = refl
moment_broken (granted node ∷ other ∷ third ∷ deeds) = refl
moment_broken (ended node ∷ other ∷ third ∷ deeds) = refl

stays_broken : (moments : List Moment) → plain_from moments broken ≡ broken
unfolding plain_from
stays_broken [] = refl
stays_broken (moment ∷ moments) = ap (plain_from moments) (moment_broken moment.deeds) ∙ stays_broken moments

-- a lock that nobody holds, as after an ending: an ending breaks it
data Unheld : Lock → Type 0 where
  is_free : Unheld free
  is_broken_lem : Unheld broken

unheld_after : (node : ℕ) (l : Lock) → Unheld (after (ended node) l)
unfolding after
unheld_after node free = is_broken_lem
unheld_after node (held_by holder) = by_value (λ b. Unheld (cond b free broken)) (eqb node holder) (λ e. is_free) (λ e. is_broken_lem)
unheld_after node broken = is_broken_lem

unheld_breaks : (node : ℕ) (later : List Moment) {l : Lock} → Unheld l → is_broken (plain_from later (after (ended node) l)) ≡ true
unfolding after is_broken
unheld_breaks node later is_free = ap is_broken (stays_broken later)
unheld_breaks node later is_broken_lem = ap is_broken (stays_broken later)

-- a step's moment is later than all that was after the steps before it
step_rises : (deeds : List Deed) (later : List Moment) (done from : ℕ) (l : Lock) → from ≤ 2 * done + 1
    → is_broken (plain_from (noted (in_step (suc done)) deeds later) l) ≡ false
    → ((since : ℕ) (k : Lock) → since ≤ 2 * suc done → is_broken (plain_from later k) ≡ false → Rise since later)
    → Rise from (noted (in_step (suc done)) deeds later)
unfolding noted plain_from Rise rank
step_rises [] later done from l below sound again = again from l (omega arith) sound
step_rises (deed ∷ deeds) later done from l below sound again = (omega arith, again (2 * suc done) _ (omega arith) sound)

-- an ending after these steps is the first there: after another the lock would be broken
act_rises : (test : Bool) (node : ℕ) (later : List Moment) (done from : ℕ) (l : Lock) → from ≤ 2 * done + 1 → (from ≡ 2 * done + 1 → Unheld l)
    → is_broken (plain_from (noted (after_step done) (deed_if test (ended node)) later) l) ≡ false
    → ((since : ℕ) (k : Lock) → since ≤ 2 * done + 1 → (since ≡ 2 * done + 1 → Unheld k) → is_broken (plain_from later k) ≡ false → Rise since later)
    → Rise from (noted (after_step done) (deed_if test (ended node)) later)
unfolding noted plain_from after_moment deed_if Rise rank
act_rises false node later done from l below first sound again = again from l below first sound
act_rises true node later done from l below first sound again =
    let new : from ≡ 2 * done + 1 → ⊥ = λ e. true≢false (sym (unheld_breaks node later (first e)) ∙ sound) in
    (omega (arith, new), again (2 * done + 1) _ (omega arith) (λ e. unheld_after node l) sound)

-- a history that a plain lock could give rises
rises : (lock : ℕ) (items : List Item) (done from : ℕ) (s : State) (l : Lock) → from ≤ 2 * done + 1 → (from ≡ 2 * done + 1 → Unheld l)
    → is_broken (plain_from (history_from lock items done s) l) ≡ false → Rise from (history_from lock items done s)
unfolding history_from time_of done_after deeds_of Rise
rises lock [] done from s l below first sound = tt
rises lock (step ∷ items) done from s l below first sound =
    step_rises _ _ done from l below sound
    (λ since k low fine. rises lock items (suc done) since (after_item step s) k (omega arith) (λ e. absurd (omega arith)) fine)
rises lock (act action node own ∷ items) done from s l below first sound =
    act_rises _ node _ done from l below first sound (λ since k low new fine. rises lock items done since (after_item (act action node own) s) k low new fine)

-- what is behind, and what is behind a moment within
rise_behind : (from : ℕ) (between : List Moment) (next : Moment) (later : List Moment) → Rise from (between ++ (next ∷ later)) → from < rank next.time
unfolding Rise
rise_behind from [] next later r = r.0
rise_behind from (moment ∷ between) next later r = omega (arith, r.0, rise_behind (rank moment.time) between next later r.1)

rise_within : (from : ℕ) (earlier between later : List Moment) (moment next : Moment) → Rise from (earlier ++ (moment ∷ between ++ (next ∷ later)))
    → rank moment.time < rank next.time
unfolding Rise
rise_within from [] between later moment next r = rise_behind (rank moment.time) between next later r.1
rise_within from (first ∷ earlier) between later moment next r = rise_within (rank first.time) earlier between later moment next r.1

-- so the times of a history ascend, where a plain lock could give it
pub ascend : (plan : Plan) (items : List Item) (lock : ℕ) → is_broken (plain (history plan items lock)) ≡ false
    → (earlier between later : List Moment) (moment next : Moment)
    → history plan items lock ≡ earlier ++ (moment ∷ between ++ (next ∷ later)) → rank moment.time < rank next.time
unfolding history plain
ascend plan items lock sound earlier between later moment next e =
    rise_within 0 earlier between later moment next
    (subst (Rise 0) e (rises lock items 0 0 (start_of plan) free (omega arith) (λ z. absurd (omega arith)) sound))

-- it holds of each moment; so of one among them
Each : (Moment → Type 0) → List Moment → Type 0
Each P [] = Unit
Each P (moment ∷ later) = P moment × Each P later

each_one : (P : Moment → Type 0) (earlier later : List Moment) (moment : Moment) → Each P (earlier ++ (moment ∷ later)) → P moment
unfolding Each
each_one P [] later moment a = a.0
each_one P (first ∷ earlier) later moment a = each_one P earlier later moment a.1

each_noted : (P : Moment → Type 0) (time : Time) (deeds : List Deed) (later : List Moment) → P (record { time = time; deeds = deeds })
    → Each P later → Each P (noted time deeds later)
unfolding Each noted
each_noted P time [] later p a = a
each_noted P time (deed ∷ deeds) later p a = (p, a)

module _ (plan : Plan) (r : in_range plan ≡ true) (items : List Item) (lock : ℕ) where
  -- a moment has its place in this schedule
  abbrev Placed : Moment → Type 0
  Placed moment = ComesFrom plan items lock moment.time moment.deeds

  -- an item's moment has, where the item has a deed of the lock
  item_placed : (item : Item) (before left : List Item) (done : ℕ) (s : State) (later : List Moment) → items ≡ before ++ (item ∷ left)
      → done ≡ steps_among before → s ≡ reached plan before → Each Placed later → Each Placed (noted (time_of item done) (deeds_of lock item s) later)
  unfolding time_of deeds_of deed_if releases noted Each
  item_placed step before left done s later split count is all =
      let same : s.plan ≡ plan = ap (λ (z : State). z.plan) is ∙ plan_reached plan r before in
      each_noted Placed (in_step (suc done)) (deeds_of lock step s) later
      (record {
        before = before;
        left = left;
        split = split;
        count = ap suc count;
        said = ap (λ (p : Plan). deeds_in p.rules lock (stepping s).events (node_count p)) same
            ∙ ap (λ (z : State). deeds_in plan.rules lock (stepping z).events (node_count plan)) is;
      }) all
  item_placed (act Take node own) before left done s later split count is all = all
  item_placed (act Force node own) before left done s later split count is all = all
  item_placed (act Release node own) before left done s later split count is all =
      go (multiring s.plan.rules) (eqb own lock) (eqb (acting Release s node own).number 0) refl refl refl
    where
      go : (multi same taken : Bool) → multiring s.plan.rules ≡ multi → eqb own lock ≡ same → eqb (acting Release s node own).number 0 ≡ taken
          → Each Placed (noted (after_step done) (deed_if (not multi && same && taken) (ended node)) later)
      go true same taken m o t = all
      go false false taken m o t = all
      go false true false m o t = all
      go false true true m o t =
          let this : own ≡ lock = eqb-true own lock o in (
            record {
              node = node;
              before = before;
              left = left;
              split = split ∙ ap (λ (x : ℕ). before ++ (act Release node x ∷ left)) this;
              count = count;
              ring = ap (λ (p : Plan). multiring p.rules) (sym (ap (λ (z : State). z.plan) is ∙ plan_reached plan r before)) ∙ m;
              accepted = subst (λ (x : ℕ). (acting Release (reached plan before) node x).number ≡ 0) this
                  (subst (λ (z : State). (acting Release z node own).number ≡ 0) is (eqb-true _ 0 t));
              ending = refl;
            },
            all,
          )

  -- so has every moment, from where a first part of the schedule is done
  all_placed : (before left : List Item) (done : ℕ) (s : State) → items ≡ before ++ left → done ≡ steps_among before → s ≡ reached plan before
      → Each Placed (history_from lock left done s)
  unfolding history_from Each
  all_placed before [] done s split count is = tt
  all_placed before (item ∷ left) done s split count is =
      item_placed item before left done s _ split count is
      (all_placed (before ++ (item ∷ [])) left (done_after item done) (after_item item s) (split ∙ sym (append_snoc before item left))
      (ap (done_after item) count ∙ sym (among_more before item)) (ap (after_item item) is ∙ sym (reached-more plan before item)))

  -- so has each moment of the history
  pub placed : (earlier later : List Moment) (moment : Moment) → history plan items lock ≡ earlier ++ (moment ∷ later)
      → ComesFrom plan items lock moment.time moment.deeds
  unfolding history reached after_all steps_among
  placed earlier later moment e =
      each_one Placed earlier later moment (subst (Each Placed) e (all_placed [] items 0 (start_of plan) refl refl refl))
