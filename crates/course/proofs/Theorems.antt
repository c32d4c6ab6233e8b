-- A run with a state that 13 refuses: by the definitions of the step and the action.
use Prim.Native.Nat.{ℕ}
use mathlib.Core.Path.{◌≡◌, ap}
use mathlib.Core.Bool.{false}
use Rattle.acts.specs.declared.Action.{Action}
use Rattle.ring.specs.declared.State.{State}
use Rattle.ring.specs.State.{Told}
use Rattle.ring.specs.Sound.{sound}
use Rattle.ring.specs.Actions.{acting}
use Rattle.ring.specs.Step.{refused, stepping}
use Rattle.course.specs.declared.Run.{Run}
use Rattle.course.specs.Standing.{reached_next, one_step, action_item}
use Rattle.course.specs.Wording.{action_refusal, action_line}
use Rattle.course.specs.Theorems.{ActionsSayThirteen, ActionsLeaveTheState, StepsLeaveTheState}

-- what an action tells
thirteen : (action : Action) (state : State) (node lock : ℕ) → sound state ≡ false → acting action state node lock ≡ record { number = 13; state = state }
unfolding acting
thirteen action state node lock bad = simp bad

refused_with : (action : Action) (node lock : ℕ) (run : Run) → sound run.reached.state ≡ false → action_refusal action node lock run ≡ 13
unfolding action_refusal
refused_with action node lock run bad = ap (λ (told : Told). told.number) (thirteen action run.reached.state node lock bad)

pub actions_say_thirteen : ActionsSayThirteen
unfolding action_line
actions_say_thirteen action node lock run bad = simp (refused_with action node lock run bad)

pub actions_leave_the_state : ActionsLeaveTheState
unfolding action_item
actions_leave_the_state action node lock run bad = ap (λ (told : Told). told.state) (thirteen action run.reached.state node lock bad)

pub steps_leave_the_state : StepsLeaveTheState
unfolding one_step reached_next stepping refused
steps_leave_the_state run bad = simp bad
