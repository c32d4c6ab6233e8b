-- The sentences of specs/Theorems, proved of every plan, state and body.
use Rattle.junction.proofs.MainRing.{on_the_main_ring}
use Rattle.onelevel.specs.Before.{junction_rule_before, junction_turn_before}
use Rattle.onelevel.specs.Theorems.{RangeAsBefore, NodesAsBefore, JunctionsAsBefore, TurnAsBefore, StepAsBefore, ActionAsBefore, PlanPartAsBefore, PlanAsBefore}
use Rattle.onelevel.proofs.Range.{range_as_before, nodes_as_before, junctions_as_before}
use Rattle.onelevel.proofs.Runs.{step_as_before, action_as_before}
use Rattle.onelevel.proofs.Bodies.{body_as_before, plan_as_before}

-- a plan
pub the_range_as_before : RangeAsBefore
the_range_as_before = range_as_before

pub the_nodes_as_before : NodesAsBefore
the_nodes_as_before = nodes_as_before

pub the_junctions_as_before : JunctionsAsBefore
the_junctions_as_before = junctions_as_before

-- a junction's turn
pub the_turn_as_before : TurnAsBefore
unfolding junction_turn_before junction_rule_before
the_turn_as_before = on_the_main_ring

-- a step and an action
pub the_step_as_before : StepAsBefore
the_step_as_before = step_as_before

pub the_action_as_before : ActionAsBefore
the_action_as_before action state node lock room other = action_as_before state room other action node lock

-- a plan's body
pub the_plan_part_as_before : PlanPartAsBefore
the_plan_part_as_before = body_as_before

pub the_plan_as_before : PlanAsBefore
the_plan_as_before = plan_as_before
