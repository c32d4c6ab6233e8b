-- The plain lock of a lock's history follows, through every schedule, who has the lock.
use Prim.Native.Nat.{ℕ}
use mathlib.Core.Path.{◌≡◌, refl, ◌∙◌, ap, sym, subst}
use mathlib.Core.Bool.{true, true≢false}
use mathlib.Core.List.{List, [], ◌∷◌}
use Rattle.plan.specs.declared.Plan.{Plan}
use Rattle.plan.specs.Plan.{in_range, node_count}
use Rattle.ring.specs.declared.State.{State}
use Rattle.ring.specs.State.{start_of}
use Rattle.onelock.specs.OneLock.{Item, after_item, after_all, reached, Deed, deeds_of, Time, Moment, time_of, done_after, noted, history_from, history}
use Rattle.onelock.specs.OneLock.{Lock, free, after_moment, plain_from, plain}
use Rattle.onelock.proofs.State.Kept.{Kept, kept_start}
use Rattle.onelock.proofs.State.Good.{rest_has_none, good}
use Rattle.onelock.proofs.Run.Moments.{Tells, Follows, nobody, follows_after}
use Rattle.onelock.proofs.Run.Reached.{kept_item, plan_item}
use Rattle.onelock.proofs.Run.Items.{having, item_tells}

-- a moment that is left out changes nothing
plain-noted : (time : Time) (ds : List Deed) (later : List Moment) (l : Lock) → plain_from (noted time ds later) l ≡ plain_from later (after_moment ds l)
unfolding noted plain_from after_moment
plain-noted time [] later l = refl
plain-noted time (d ∷ ds) later l = refl

-- from a state with the invariant and a plain lock that follows who has the lock in it, it does so through a schedule
follows_from : (n lock : ℕ) (items : List Item) (done : ℕ) (s : State) (l : Lock) → Kept s → n ≡ node_count s.plan → Follows n (having s lock) l
    → Follows n (having (after_all items s) lock) (plain_from (history_from lock items done s) l)
unfolding after_all history_from plain_from
follows_from n lock [] done s l x e a = a
follows_from n lock (item ∷ items) done s l x e a =
    subst (Follows n (having (after_all (item ∷ items) s) lock)) (sym (plain-noted (time_of item done) (deeds_of lock item s) _ l))
    (follows_from n lock items (done_after item done) (after_item item s) (after_moment (deeds_of lock item s) l) (kept_item item s x)
    (e ∙ ap node_count (sym (plan_item item s (good s x))))
    (follows_after (subst (λ m. Tells m m (having s lock) (having (after_item item s) lock) (deeds_of lock item s)) (sym e) (item_tells item lock s x)) a))

-- so it is from the start on, where nobody has anything
pub follows : (plan : Plan) → in_range plan ≡ true → (items : List Item) (lock : ℕ)
    → Follows (node_count plan) (having (reached plan items) lock) (plain (history plan items lock))
unfolding reached history plain start_of
follows plan r items lock =
    follows_from (node_count plan) lock items 0 (start_of plan) free (kept_start plan r) refl (nobody (λ k u h. true≢false (sym h ∙ rest_has_none plan k lock)))
