-- Demand 3: "Take any accepted plan and any schedule from the start state, refused items among it, with nobody editing the state between calls."
use Rattle.std.specs.Prelude.{ℕ, zero, suc, ◌+◌, ◌*◌, ◌≡◌, Bool, true, false, cond, not, ◌&&◌, Option, None, Some, List, [], ◌∷◌, ◌++◌, eqb, ltb, leb, get_or}
use Rattle.lists.specs.Loops.{some}
use Rattle.cars.specs.Cars.{multiring}
use Rattle.plan.specs.declared.Plan.{Plan}
use Rattle.positions.specs.Ring.{Ring, no_more, user_node, a_junction, nodes_in}
use Rattle.plan.specs.Plan.{ring_of, node_count}
use Rattle.turns.specs.declared.Event.{Event}
use Rattle.turns.specs.declared.Event.TheVariants.{Granted, Failed, Lost, Back, Sent}
use Rattle.usernode.specs.Node.{had}
use Rattle.acts.specs.declared.Action.{Action}
use Rattle.acts.specs.declared.Action.TheVariants.{Take, Release, Force}
use Rattle.junction.specs.declared.Junction.{Junction}
use Rattle.ring.specs.declared.State.{State}
use Rattle.ring.specs.State.{rest_node, rest_junction, start_of}
use Rattle.ring.specs.Actions.{acting}
use Rattle.ring.specs.Walk.{quiet}
use Rattle.ring.specs.Step.{stepping}

-- "any schedule": a list of steps and of actions of a node on a lock
pub data Item : Type 0 where
  step : Item
  act : Action → ℕ → ℕ → Item

-- the state after an item and after a schedule; a refused item hands back the state it was given
unfoldable pub after_item : Item → State → State
after_item step state = (stepping state).state
after_item (act action node lock) state = (acting action state node lock).state

unfoldable pub after_all : List Item → State → State
after_all [] state = state
after_all (item ∷ items) state = after_all items (after_item item state)

unfoldable pub reached : Plan → List Item → State
reached plan items = after_all items (start_of plan)

-- what happens to a lock: it is granted to a node, or the node's having it ends
pub data Deed : Type 0 where
  granted : ℕ → Deed
  ended : ℕ → Deed

unfoldable pub deed_if : Bool → Deed → List Deed
deed_if true deed = deed ∷ []
deed_if false deed = []

-- endings: "the release or the force car's arrival at the holder"; "the step in which the holder's didv car goes on the train"
unfoldable pub deed_of : ℕ → ℕ → ℕ → Option Event → List Deed
deed_of rules lock node None = []
deed_of rules lock node (Some (Granted own)) = deed_if (eqb own lock) (granted node)
deed_of rules lock node (Some (Failed own)) = []
deed_of rules lock node (Some (Lost own)) = deed_if (not (multiring rules) && eqb own lock) (ended node)
deed_of rules lock node (Some (Back own)) = []
deed_of rules lock node (Some (Sent own)) = deed_if (multiring rules && eqb own lock) (ended node)

unfoldable pub releases : Action → Bool
releases Take = false
releases Release = true
releases Force = false

-- the deeds of the first nodes in a step
unfoldable pub deeds_in : ℕ → ℕ → List (Option Event) → ℕ → List Deed
deeds_in rules lock events zero = []
deeds_in rules lock events (suc n) = deeds_in rules lock events n ++ deed_of rules lock (suc n) (get_or events n quiet)

-- the deeds of an item, of this lock
unfoldable pub deeds_of : ℕ → Item → State → List Deed
deeds_of lock step state = deeds_in state.plan.rules lock (stepping state).events (node_count state.plan)
deeds_of lock (act action node own) state =
    deed_if (releases action && not (multiring state.plan.rules) && eqb own lock && eqb (acting action state node own).number 0) (ended node)

-- "grants and endings in order of time": a moment is a step, by its number, or between two steps, where a release stands
pub data Time : Type 0 where
  in_step : ℕ → Time
  after_step : ℕ → Time

pub record Moment : Type 0 where
  pub time : Time
  pub deeds : List Deed

-- the order of times: step n, between the steps n and n + 1, step n + 1
unfoldable pub rank : Time → ℕ
rank (in_step n) = 2 * n
rank (after_step n) = 2 * n + 1

-- an item at a time: a step is the one after those that are done
unfoldable pub time_of : Item → ℕ → Time
time_of step done = in_step (suc done)
time_of (act action node lock) done = after_step done

unfoldable pub done_after : Item → ℕ → ℕ
done_after step done = suc done
done_after (act action node lock) done = done

-- the history of a lock; a moment without a deed of this lock is left out
unfoldable pub noted : Time → List Deed → List Moment → List Moment
noted time [] later = later
noted time (deed ∷ deeds) later = record { time = time; deeds = deed ∷ deeds } ∷ later

unfoldable pub history_from : ℕ → List Item → ℕ → State → List Moment
history_from lock [] done state = []
history_from lock (item ∷ items) done state =
    noted (time_of item done) (deeds_of lock item state) (history_from lock items (done_after item done) (after_item item state))

unfoldable pub history : Plan → List Item → ℕ → List Moment
history plan items lock = history_from lock items 0 (start_of plan)

-- how many of the items are steps
unfoldable pub steps_among : List Item → ℕ
steps_among [] = 0
steps_among (step ∷ rest) = suc (steps_among rest)
steps_among (act action node lock ∷ rest) = steps_among rest

-- deeds in the step of this number: that step is in the schedule, and the deeds are what its events say of the lock
pub record FromStep (plan : Plan) (items : List Item) (lock number : ℕ) (deeds : List Deed) : Type 0 where
  pub before : List Item
  pub left : List Item
  pub split : items ≡ before ++ (step ∷ left)
  pub count : number ≡ suc (steps_among before)
  pub said : deeds ≡ deeds_in plan.rules lock (stepping (reached plan before)).events (node_count plan)

-- deeds after so many steps: there a node's release of the lock is in the schedule, under ring rules, it is accepted, and the one deed is its ending
pub record FromRelease (plan : Plan) (items : List Item) (lock number : ℕ) (deeds : List Deed) : Type 0 where
  pub node : ℕ
  pub before : List Item
  pub left : List Item
  pub split : items ≡ before ++ (act Release node lock ∷ left)
  pub count : number ≡ steps_among before
  pub ring : multiring plan.rules ≡ false
  pub accepted : (acting Release (reached plan before) node lock).number ≡ 0
  pub ending : deeds ≡ ended node ∷ []

-- by the time, where in the schedule a moment's deeds come from
abbrev pub ComesFrom : Plan → List Item → ℕ → Time → List Deed → Type 0
ComesFrom plan items lock (in_step number) deeds = FromStep plan items lock number deeds
ComesFrom plan items lock (after_step number) deeds = FromRelease plan items lock number deeds

-- one plain lock: "granted only while free, ended only by its holder"; anything else is not what a plain lock could give
pub data Lock : Type 0 where
  free : Lock
  held_by : ℕ → Lock
  broken : Lock

unfoldable pub after : Deed → Lock → Lock
after (granted node) free = held_by node
after (granted node) (held_by holder) = broken
after (granted node) broken = broken
after (ended node) free = broken
after (ended node) (held_by holder) = cond (eqb node holder) free broken
after (ended node) broken = broken

-- "two of one step in one of their two orders"
unfoldable pub or_else : Lock → Lock → Lock
or_else free other = free
or_else (held_by node) other = held_by node
or_else broken other = other

unfoldable pub after_moment : List Deed → Lock → Lock
after_moment [] lock = lock
after_moment (deed ∷ []) lock = after deed lock
after_moment (deed ∷ other ∷ []) lock = or_else (after other (after deed lock)) (after deed (after other lock))
after_moment (deed ∷ other ∷ third ∷ deeds) lock = broken

-- the plain lock after a history
unfoldable pub plain_from : List Moment → Lock → Lock
plain_from [] lock = lock
plain_from (moment ∷ moments) lock = plain_from moments (after_moment moment.deeds lock)

unfoldable pub plain : List Moment → Lock
plain moments = plain_from moments free

unfoldable pub is_broken : Lock → Bool
is_broken free = false
is_broken (held_by node) = false
is_broken broken = true

-- "all nodes within a junction" (docs/NESTED.md): so many from a place on
pub record Within : Type 0 where
  pub low : ℕ
  pub many : ℕ

-- the junctions along a ring whose first node stands at this place, in travelling order, each with the nodes within it
unfoldable pub junctions_from : Ring → ℕ → List Within
junctions_from no_more place = []
junctions_from (user_node rest) place = junctions_from rest (place + 1)
junctions_from (a_junction subring rest) place =
    record { low = place; many = nodes_in subring } ∷ (junctions_from subring place ++ junctions_from rest (place + nodes_in subring))

-- the nodes within the junction at a place of the state's junctions
unfoldable pub within : Plan → ℕ → Within
within plan junction = get_or (junctions_from (ring_of plan) 0) junction (record { low = 0; many = 0 })

-- "its lock word has exactly the locks that some node within holds or is letting go", of that junction
unfoldable pub junction_at : State → ℕ → Junction
junction_at state junction = get_or state.junctions junction rest_junction

unfoldable pub somebody_within_has : State → ℕ → ℕ → Bool
somebody_within_has state junction lock =
    some (λ k. had (get_or state.nodes ((within state.plan junction).low + k) rest_node) lock) (within state.plan junction).many

-- a node is within the junction at a place
unfoldable pub is_within : Plan → ℕ → ℕ → Bool
is_within plan junction node = ltb (within plan junction).low node && leb node ((within plan junction).low + (within plan junction).many)

-- the junction at the second place is within the one at the first: it comes later in travelling order, and the nodes within it are among those within
-- the first
unfoldable pub stands_around : Plan → ℕ → ℕ → Bool
stands_around plan outer inner =
    ltb outer inner
    && leb (within plan outer).low (within plan inner).low
    && leb ((within plan inner).low + (within plan inner).many) ((within plan outer).low + (within plan outer).many)
