-- What 13 lets pass stays so: a step and an action of such a state, refused or not, hand back such a state. Proved in proofs/.
use Rattle.std.specs.Prelude.{ℕ, ◌≡◌, true}
use Rattle.acts.specs.declared.Action.{Action}
use Rattle.ring.specs.declared.State.{State}
use Rattle.ring.specs.Sound.{sound}
use Rattle.ring.specs.Actions.{acting}
use Rattle.ring.specs.Step.{stepping}

-- a step keeps what 13 asks
abbrev pub StepKeepsSound : Type 0
StepKeepsSound = (state : State) → sound state ≡ true → sound (stepping state).state ≡ true

-- an action keeps what 13 asks
abbrev pub ActionKeepsSound : Type 0
ActionKeepsSound =
    (action : Action) (state : State) (node lock : ℕ) → sound state ≡ true → sound (acting action state node lock).state ≡ true
