-- Demand 3 as sentences: what proofs/ proves of every accepted plan and every schedule. The words are those of OneLock.
use Rattle.std.specs.Prelude.{ℕ, suc, ◌+◌, ◌≤◌, ◌<◌, ◌≡◌, Bool, true, false, List, [], ◌∷◌, ◌++◌, length}
use Rattle.words.specs.Words.{has}
use Rattle.cars.specs.Cars.{is_node}
use Rattle.plan.specs.declared.Plan.{Plan}
use Rattle.cars.specs.declared.Car.{Car}
use Rattle.cars.specs.declared.Tag.{Tag}
use Rattle.plan.specs.Plan.{in_range, node_count, junction_count}
use Rattle.usernode.specs.declared.Rule.TheVariants.{FailsReqp as NodeFailsReqp}
use Rattle.usernode.specs.Node.{had}
use Rattle.usernode.specs.Rules.{rule}
use Rattle.tours.specs.declared.JunctionRule.TheVariants.{FailsReqp}
use Rattle.junction.specs.Turn.{junction_rule}
use Rattle.acts.specs.declared.Action.{Action}
use Rattle.ring.specs.State.{node_of}
use Rattle.ring.specs.Actions.{acting}
use Rattle.ring.specs.Step.{stepping}
use Rattle.onelock.specs.OneLock.{Item, step, act, reached, deeds_of, in_step, after_step, Moment, rank, noted, history, steps_among, ComesFrom}
use Rattle.onelock.specs.OneLock.{held_by, plain, is_broken, junction_at, is_within, stands_around, somebody_within_has}

-- A. "For each lock, its grants and endings in order of time, two of one step in one of their two orders, are what one plain lock
-- could give"
abbrev pub OnePlainLock : Type 0
OnePlainLock = (plan : Plan) → in_range plan ≡ true → (items : List Item) (lock : ℕ) → is_broken (plain (history plan items lock)) ≡ false

-- A, its strong form: in a step, and in an action, a lock has at most one grant or ending
abbrev pub OneDeedAtATime : Type 0
OneDeedAtATime =
    (plan : Plan) → in_range plan ≡ true → (items : List Item) (item : Item) (lock : ℕ) → length (deeds_of lock item (reached plan items)) ≤ 1

-- A, "in order of time": every moment of a history is later than every one before it
abbrev pub TimesAscend : Type 0
TimesAscend =
    (plan : Plan) → in_range plan ≡ true → (items : List Item) (lock : ℕ) (earlier between later : List Moment) (moment next : Moment)
    → history plan items lock ≡ earlier ++ (moment ∷ between ++ (next ∷ later)) → rank moment.time < rank next.time

-- A, at what time: one step more adds to a history what it does to the lock, at the step's own number
abbrev pub StepsAtTheirNumber : Type 0
StepsAtTheirNumber =
    (plan : Plan) (items : List Item) (lock : ℕ)
    → history plan (items ++ (step ∷ [])) lock ≡ history plan items lock ++ noted (in_step (suc (steps_among items))) (deeds_of lock step (reached plan items)) []

-- one action more adds what it does to the lock, after the steps that are done
abbrev pub ActionsBetweenSteps : Type 0
ActionsBetweenSteps =
    (plan : Plan) (items : List Item) (action : Action) (node own lock : ℕ)
    → history plan (items ++ (act action node own ∷ [])) lock
    ≡ history plan items lock ++ noted (after_step (steps_among items)) (deeds_of lock (act action node own) (reached plan items)) []

-- A, what at which time: a moment in a step is what the events of that step of the schedule say of the lock; a moment between two steps is one ending,
-- by a release that is accepted there, under ring rules
abbrev pub DeedsHaveTheirTime : Type 0
DeedsHaveTheirTime =
    (plan : Plan) → in_range plan ≡ true → (items : List Item) (lock : ℕ) (earlier later : List Moment) (moment : Moment)
    → history plan items lock ≡ earlier ++ (moment ∷ later) → ComesFrom plan items lock moment.time moment.deeds

-- B. "whenever a junction is not in a local tour, its lock word has exactly the locks that some node" within "holds or is letting go": of every
-- junction at every level
abbrev pub TrueWords : Type 0
TrueWords =
    (plan : Plan) → in_range plan ≡ true → (items : List Item) (junction : ℕ) → junction < junction_count plan
    → (junction_at (reached plan items) junction).tour ≡ false
    → (lock : ℕ) → has (junction_at (reached plan items) junction).word lock ≡ somebody_within_has (reached plan items) junction lock

-- docs/NESTED.md: "An inner junction in a local tour has every junction around it in a local tour."
abbrev pub ToursNest : Type 0
ToursNest =
    (plan : Plan) → in_range plan ≡ true → (items : List Item) (outer inner : ℕ) → inner < junction_count plan → stands_around plan outer inner ≡ true
    → (junction_at (reached plan items) inner).tour ≡ true → (junction_at (reached plan items) outer).tour ≡ true

-- docs/NESTED.md: "No car on a shadow train is rewritten." What a junction outside a local tour sends to its subring is shadow: no node within and no
-- junction within makes a failp of any reqp that comes to it
abbrev pub NoNodeRewritesShadows : Type 0
NoNodeRewritesShadows =
    (plan : Plan) → in_range plan ≡ true → (items : List Item) (junction node : ℕ) → junction < junction_count plan → is_within plan junction node ≡ true
    → (junction_at (reached plan items) junction).tour ≡ false
    → (arrival : Car) (tag : Tag) → rule (node_of (reached plan items) node) node arrival ≡ NodeFailsReqp tag → ⊥

abbrev pub NoJunctionRewritesShadows : Type 0
NoJunctionRewritesShadows =
    (plan : Plan) → in_range plan ≡ true → (items : List Item) (outer inner : ℕ) → inner < junction_count plan → stands_around plan outer inner ≡ true
    → (junction_at (reached plan items) outer).tour ≡ false
    → (low high : ℕ) (wants : Bool) (arrival out : Car) (tag : Tag)
    → junction_rule true low high wants arrival out (junction_at (reached plan items) inner) ≡ FailsReqp tag → ⊥

-- C. from the start 13, 14 and 15 never occur, and the queue never has more than U + 1 cars
abbrev pub NeverStuck : Type 0
NeverStuck = (plan : Plan) → in_range plan ≡ true → (items : List Item) → (stepping (reached plan items)).number ≡ 0

abbrev pub NeverBadState : Type 0
NeverBadState =
    (plan : Plan) → in_range plan ≡ true → (items : List Item) (action : Action) (node lock : ℕ)
    → (acting action (reached plan items) node lock).number ≡ 13 → ⊥

abbrev pub ShortQueue : Type 0
ShortQueue = (plan : Plan) → in_range plan ≡ true → (items : List Item) → (reached plan items).zeroth.count ≤ node_count plan + 1

-- D. a node has a lock (holds it or is letting it go) exactly where it is the holder that the lock's history gives: so at most one node has it
abbrev pub TheHolderHasIt : Type 0
TheHolderHasIt =
    (plan : Plan) → in_range plan ≡ true → (items : List Item) (node lock : ℕ)
    → plain (history plan items lock) ≡ held_by node → had (node_of (reached plan items) node) lock ≡ true

abbrev pub OnlyTheHolderHasIt : Type 0
OnlyTheHolderHasIt =
    (plan : Plan) → in_range plan ≡ true → (items : List Item) (node lock : ℕ) → is_node (node_count plan) node ≡ true
    → had (node_of (reached plan items) node) lock ≡ true → plain (history plan items lock) ≡ held_by node
