-- 01, "The run and its lines", with busy steps as 02's item 1 has them: what a run counts for each lock: busy steps, grants and N events.
use Rattle.std.specs.Prelude.{ℕ, ◌+◌, ◌-◌, ◌^◌, min, Bool, cond, true, false, Option, None, Some, List, ltb, get_or, set, replicate}
use Rattle.lists.specs.Loops.{some, iterate, in_order}
use Rattle.plan.specs.Plan.{node_places}
use Rattle.usernode.specs.declared.Node.{Node}
use Rattle.usernode.specs.Node.{had}
use Rattle.turns.specs.declared.Event.{Event}
use Rattle.turns.specs.declared.Event.TheVariants.{Granted, Failed, Lost, Back, Sent}
use Rattle.ring.specs.State.{rest_node}
use Rattle.ring.specs.Walk.{quiet}
use Rattle.tally.specs.declared.Tally.{Tally}

-- the places kept for locks: "Locks: 1 to 64"
abbrev pub lock_places : ℕ
lock_places = 64

-- nothing counted yet
unfoldable pub no_counts : List ℕ
no_counts = replicate lock_places 0

unfoldable pub empty_tally : Tally
empty_tally = record { busy = no_counts; grants = no_counts; failed = no_counts }

-- one more; a count of 64 bits that is at its top stays there (the steps of a file are below 2 ^ 32)
unfoldable pub more : ℕ → ℕ
more count = cond (ltb count (2 ^ 64 - 1)) (count + 1) count

-- one more of a lock
unfoldable pub counted : List ℕ → ℕ → List ℕ
counted counts lock = set counts lock (more (get_or counts lock 0))

-- 02: "A lock is busy after a step if some node holds it or is letting it go", of the first nodes
unfoldable pub busy : List Node → ℕ → ℕ → Bool
busy nodes count lock = some (λ place. had (get_or nodes place rest_node) lock) count

-- busy steps, the steps after which a lock is busy: one more for each busy lock of the first locks
unfoldable pub busy_lock : List Node → ℕ → ℕ → List ℕ → List ℕ
busy_lock nodes count lock counts = cond (busy nodes count lock) (counted counts lock) counts

unfoldable pub busy_counts : List Node → ℕ → ℕ → List ℕ → List ℕ
busy_counts nodes count locks = in_order (busy_lock nodes count) locks

-- whether an event is one that is counted: G and N
unfoldable pub is_counted : Option Event → Bool
is_counted None = false
is_counted (Some (Granted lock)) = true
is_counted (Some (Failed lock)) = true
is_counted (Some (Lost lock)) = false
is_counted (Some (Back lock)) = false
is_counted (Some (Sent lock)) = false

-- one more grant for G, one more failure for N, of the event's lock
unfoldable pub event_tally : Option Event → Tally → Tally
event_tally None tally = tally
event_tally (Some (Granted lock)) tally = record { busy = tally.busy; grants = counted tally.grants lock; failed = tally.failed }
event_tally (Some (Failed lock)) tally = record { busy = tally.busy; grants = tally.grants; failed = counted tally.failed lock }
event_tally (Some (Lost lock)) tally = tally
event_tally (Some (Back lock)) tally = tally
event_tally (Some (Sent lock)) tally = tally

-- the events of the first nodes
unfoldable pub place_tally : List (Option Event) → ℕ → Tally → Tally
place_tally events place tally = event_tally (get_or events place quiet) tally

unfoldable pub events_tally : List (Option Event) → ℕ → Tally → Tally
events_tally events count tally = in_order (place_tally events) count tally

-- what is counted after a step: its events, and who has what then; of at most as many nodes and locks as there are places
unfoldable pub step_tally : List Node → List (Option Event) → ℕ → ℕ → Tally → Tally
step_tally nodes events count locks tally =
    record {
      busy = busy_counts nodes (min count node_places) (min locks lock_places) tally.busy;
      grants = (events_tally events (min count node_places) tally).grants;
      failed = (events_tally events (min count node_places) tally).failed;
    }

-- no event at any node
abbrev pub no_events : List (Option Event)
no_events = replicate node_places quiet

-- what is counted after so many steps without an event: who has what stays as it is
unfoldable pub silent_tally : List Node → ℕ → ℕ → ℕ → Tally → Tally
silent_tally nodes count locks steps tally = iterate (step_tally nodes no_events count locks) steps tally

-- the sum over the first locks, at most the top
unfoldable pub add_up : List ℕ → ℕ → ℕ → ℕ
add_up counts lock sum = min (sum + get_or counts lock 0) (2 ^ 64 - 1)

unfoldable pub sum_of : List ℕ → ℕ → ℕ
sum_of counts locks = in_order (add_up counts) (min locks lock_places) 0
