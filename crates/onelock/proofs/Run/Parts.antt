-- A schedule and one item more: what it reaches, how many steps are in it, and its history, which grows at its end.
use Prim.Native.Nat.{ℕ, suc, ◌+◌}
use mathlib.Core.Path.{◌≡◌, refl, ◌∙◌, ap}
use mathlib.Core.List.{List, [], ◌∷◌, ◌++◌}
use native.Mathlib.Omega.{arith}
use Rattle.plan.specs.declared.Plan.{Plan}
use Rattle.ring.specs.declared.State.{State}
use Rattle.ring.specs.State.{start_of}
use Rattle.onelock.specs.OneLock.{Item, step, act, after_item, after_all, reached, Deed, deeds_of, Time, Moment, time_of, done_after, noted, history_from, history}
use Rattle.onelock.specs.OneLock.{steps_among}

-- the state after one item more
after_more : (items : List Item) (item : Item) (s : State) → after_all (items ++ (item ∷ [])) s ≡ after_item item (after_all items s)
unfolding after_all
after_more [] item s = refl
after_more (first ∷ items) item s = after_more items item (after_item first s)

pub reached-more : (plan : Plan) (items : List Item) (item : Item) → reached plan (items ++ (item ∷ [])) ≡ after_item item (reached plan items)
unfolding reached
reached-more plan items item = after_more items item (start_of plan)

-- a step is one step more, an action none
pub among_more : (items : List Item) (item : Item) → steps_among (items ++ (item ∷ [])) ≡ done_after item (steps_among items)
unfolding steps_among done_after
among_more [] step = refl
among_more [] (act action node lock) = refl
among_more (step ∷ items) step = ap suc (among_more items step)
among_more (step ∷ items) (act action node lock) = ap suc (among_more items (act action node lock))
among_more (act action node lock ∷ items) item = among_more items item

-- a moment, and then what is behind it in two parts
pub noted_more : (time : Time) (deeds : List Deed) (later more : List Moment) → noted time deeds (later ++ more) ≡ noted time deeds later ++ more
unfolding noted
noted_more time [] later more = refl
noted_more time (deed ∷ deeds) later more = refl

-- a history from a state on, its last item apart
history_from-more : (lock : ℕ) (items : List Item) (item : Item) (done all : ℕ) (s : State) → all ≡ done + steps_among items
    → history_from lock (items ++ (item ∷ [])) done s ≡ history_from lock items done s ++ noted (time_of item all) (deeds_of lock item (after_all items s)) []
unfolding history_from after_all steps_among done_after
history_from-more lock [] item done all s e =
    let same : done ≡ all = omega arith in
    ap (λ (n : ℕ). noted (time_of item n) (deeds_of lock item s) []) same
history_from-more lock (step ∷ items) item done all s e =
    ap (noted (time_of step done) (deeds_of lock step s)) (history_from-more lock items item (suc done) all (after_item step s) (omega arith))
    ∙ noted_more (time_of step done) (deeds_of lock step s) _ _
history_from-more lock (act action node own ∷ items) item done all s e =
    let this = act action node own in
    ap (noted (time_of this done) (deeds_of lock this s)) (history_from-more lock items item done all (after_item this s) e)
    ∙ noted_more (time_of this done) (deeds_of lock this s) _ _

-- a history, its last item apart
pub history-more : (plan : Plan) (items : List Item) (item : Item) (lock : ℕ)
    → history plan (items ++ (item ∷ [])) lock ≡ history plan items lock ++ noted (time_of item (steps_among items)) (deeds_of lock item (reached plan items)) []
unfolding history reached
history-more plan items item lock = history_from-more lock items item 0 (steps_among items) (start_of plan) (omega arith)
