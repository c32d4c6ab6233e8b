-- Several steps, each of them 01's step, which says itself where it is refused.
use Rattle.std.specs.Prelude.{ℕ, zero, suc, ◌+◌, Bool, true, false, cond, ◌&&◌, ltb, get_or, replicate, Option, Some, None}
use Rattle.lists.specs.Loops.{every}
use Rattle.plan.specs.Plan.{node_places, node_count}
use Rattle.turns.specs.declared.Event.{Event}
use Rattle.ring.specs.declared.State.{State}
use Rattle.ring.specs.declared.Advanced.{Advanced}
use Rattle.ring.specs.Walk.{quiet}
use Rattle.ring.specs.Step.{stepping}

-- nothing happened
unfoldable pub no_event : Option Event → Bool
no_event None = true
no_event (Some event) = false

-- no node of the plan has an event in a step of this state
unfoldable pub silent : State → Bool
silent state = every (λ place. no_event (get_or (stepping state).events place quiet)) (node_count state.plan)

-- one step more was done, before these
unfoldable pub one_more_note : Advanced → Advanced
one_more_note advanced = record { state = advanced.state; events = advanced.events; done = advanced.done + 1 }

-- steps until one has an event, or so many are done: the state after the last of them, its events, and how many were done.
-- A refused step (13, 14, 15) counts as a step: it has no events and leaves the state.
unfoldable pub advancing : ℕ → State → Advanced
advancing zero state = record { state = state; events = replicate node_places quiet; done = 0 }
advancing (suc n) state =
    cond (silent state && ltb 0 n) (one_more_note (advancing n (stepping state).state))
    (record { state = (stepping state).state; events = (stepping state).events; done = 1 })
