-- 01, "The run and its lines": the line that a run has to say where it stands. The words of each line are in crate wording.
use Rattle.std.specs.Prelude.{ℕ, Bool, true, false, cond, not, eqb, get_or, Option}
use Rattle.acts.specs.declared.Action.{Action}
use Rattle.items.specs.Items.{place_at}
use Rattle.turns.specs.declared.Event.{Event}
use Rattle.turns.specs.Turn.{event_letter}
use Rattle.ring.specs.Actions.{acting}
use Rattle.ring.specs.Walk.{quiet}
use Rattle.tally.specs.Tally.{sum_of}
use Rattle.wording.specs.declared.Line.{Line}
use Rattle.wording.specs.Wording.{action_says, refused_says, event_says, lock_says, last_says, refusal_says}
use Rattle.course.specs.declared.Run.{Run}
use Rattle.course.specs.declared.Phase.{Phase}
use Rattle.course.specs.declared.Phase.TheVariants.{Items, Ended, Cut, Refused}
use Rattle.course.specs.Standing.{locks_of}

-- the event of the node that is told of next, and whether there is one
unfoldable pub event_here : Run → Option Event
event_here run = get_or run.events run.next quiet

unfoldable pub is_event : Option Event → Bool
is_event event = not (eqb (event_letter event) 0)

-- its line
unfoldable pub event_line : Run → Line
event_line run = event_says run.reached.steps run.next (event_here run)

-- the number of an action's refusal; 0: accepted
unfoldable pub action_refusal : Action → ℕ → ℕ → Run → ℕ
action_refusal action node lock run = (acting action run.reached.state node lock).number

-- an action's line: accepted, or refused with its number and the place of the item that the run is at
unfoldable pub action_line : Action → ℕ → ℕ → Run → Line
action_line action node lock run =
    cond (eqb (action_refusal action node lock run) 0)
    (action_says run.reached.steps action node lock)
    (refused_says run.reached.steps (action_refusal action node lock run) (place_at run.at))

-- the line of the lock that is told of next: its busy steps, its grants, its N events
unfoldable pub lock_line : Run → Line
lock_line run =
    lock_says run.reached.steps run.next (get_or run.reached.tally.busy run.next 0) (get_or run.reached.tally.grants run.next 0)
    (get_or run.reached.tally.failed run.next 0)

-- "C where the schedule's sum is above the ceiling": whether the run was cut there
unfoldable pub is_cut : Phase → Bool
is_cut Items = false
is_cut Ended = false
is_cut Cut = true
is_cut (Refused number place) = false

-- the last line, with the sums over all locks
unfoldable pub last_line : Run → Line
last_line run =
    last_says run.reached.steps (is_cut run.phase) (sum_of run.reached.tally.grants (locks_of run)) (sum_of run.reached.tally.failed (locks_of run))

-- the line of a refused file
unfoldable pub refusal_line : ℕ → ℕ → Run → Line
refusal_line number place run = refusal_says run.reached.steps number place
