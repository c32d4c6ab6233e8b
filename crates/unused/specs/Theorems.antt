-- 01: "Places for positions, nodes, junctions or queue cars beyond the plan and the count are never read and come back as they were." Proved of every
-- state, made-up ones among them, and of every answer, refusals too. The words are those of Unused.
use Rattle.std.specs.Prelude.{ℕ, ◌≡◌, true, false}
use Rattle.plan.specs.declared.Plan.{Plan}
use Rattle.plan.specs.Plan.{positions_read, in_range}
use Rattle.acts.specs.declared.Action.{Action}
use Rattle.ring.specs.declared.State.{State}
use Rattle.ring.specs.Actions.{acting}
use Rattle.ring.specs.Step.{stepping}
use Rattle.unused.specs.Unused.{values_taken, ComesBack, Agree}

-- "come back as they were": after a step, and after an action
abbrev pub StepGivesBack : Type 0
StepGivesBack = (state : State) → ComesBack state (stepping state).state

abbrev pub ActionGivesBack : Type 0
ActionGivesBack = (action : Action) (state : State) (node lock : ℕ) → ComesBack state (acting action state node lock).state

-- an action takes and gives up no place of the queue: the zero node comes back whole
abbrev pub ActionLeavesTheQueue : Type 0
ActionLeavesTheQueue = (action : Action) (state : State) (node lock : ℕ) → (acting action state node lock).state.zeroth ≡ state.zeroth

-- "never read": on two states that are the same in every place in use a step has the same number and the same events, and the states after it are the
-- same in every place in use again
abbrev pub StepNeverReads : Type 0
StepNeverReads =
    (a b : State) → Agree a b
    → ((stepping a).number ≡ (stepping b).number) × ((stepping a).events ≡ (stepping b).events) × Agree (stepping a).state (stepping b).state

-- and an action the same number
abbrev pub ActionNeverReads : Type 0
ActionNeverReads =
    (action : Action) (a b : State) (node lock : ℕ) → Agree a b
    → ((acting action a node lock).number ≡ (acting action b node lock).number)
    × Agree (acting action a node lock).state (acting action b node lock).state

-- and no more values are in use than a plan in range needs: those up to the place behind its last position
abbrev pub ValuesInUse : Type 0
ValuesInUse = (plan : Plan) → in_range plan ≡ true → values_taken false plan.positions plan.values ≡ (positions_read plan).place
