-- A run that was made up with a state that 13 refuses is answered with 13. Proved in proofs/.
use Rattle.std.specs.Prelude.{ℕ, ◌≡◌, false}
use Rattle.acts.specs.declared.Action.{Action}
use Rattle.items.specs.Items.{place_at}
use Rattle.ring.specs.Sound.{sound}
use Rattle.wording.specs.Wording.{refused_says}
use Rattle.course.specs.declared.Run.{Run}
use Rattle.course.specs.Standing.{one_step, action_item}
use Rattle.course.specs.Wording.{action_line}

-- each of its actions says X 13, whatever else would refuse it
abbrev pub ActionsSayThirteen : Type 0
ActionsSayThirteen =
    (action : Action) (node lock : ℕ) (run : Run) → sound run.reached.state ≡ false
    → action_line action node lock run ≡ refused_says run.reached.steps 13 (place_at run.at)

-- and neither its actions nor its steps change the state
abbrev pub ActionsLeaveTheState : Type 0
ActionsLeaveTheState =
    (action : Action) (node lock : ℕ) (run : Run) → sound run.reached.state ≡ false
    → (action_item action node lock run).reached.state ≡ run.reached.state

abbrev pub StepsLeaveTheState : Type 0
StepsLeaveTheState = (run : Run) → sound run.reached.state ≡ false → (one_step run).reached.state ≡ run.reached.state
