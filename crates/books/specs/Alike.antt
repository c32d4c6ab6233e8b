-- Two numbers of the rules that are alike, and a state under another number of the rules.
use Rattle.std.specs.Prelude.{ℕ, ◌≡◌, leb}
use Rattle.cars.specs.Cars.{multiring}
use Rattle.plan.specs.declared.Plan.{Plan}
use Rattle.ring.specs.declared.State.{State}
use Rattle.ring.specs.State.{Told}
use Rattle.ring.specs.Step.{StepTold}

-- both are multiring rules or neither is, and both are in their range, 1 to 4, or neither is
pub record Alike (one other : ℕ) : Type 0 where
  pub many : multiring one ≡ multiring other
  pub least : leb 1 one ≡ leb 1 other
  pub most : leb one 4 ≡ leb other 4

-- a plan, and a state, under these rules
abbrev pub under_plan : ℕ → Plan → Plan
under_plan rules plan = record { rules = rules; locks = plan.locks; positions = plan.positions; values = plan.values }

abbrev pub under : ℕ → State → State
under rules state = record { plan = under_plan rules state.plan; zeroth = state.zeroth; nodes = state.nodes; junctions = state.junctions }

-- what a step and an action tell, with the state under these rules
abbrev pub under_step : ℕ → StepTold → StepTold
under_step rules told = record { number = told.number; state = under rules told.state; events = told.events }

abbrev pub under_told : ℕ → Told → Told
under_told rules told = record { number = told.number; state = under rules told.state }
