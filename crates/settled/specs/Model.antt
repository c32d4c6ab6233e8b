-- Every public function of the model, by crate: its promise leaves one possible answer.
use Rattle.words.proofs.has.Reads as has
use Rattle.words.proofs.with_lock.Reads as with_lock
use Rattle.words.proofs.without_lock.Reads as without_lock
use Rattle.words.proofs.least.Reads as least
use Rattle.words.proofs.all_below.Reads as all_below
use Rattle.cars.proofs.multiring.Reads as multiring
use Rattle.cars.proofs.release_needs_idle.Reads as release_needs_idle
use Rattle.cars.proofs.is_node.Reads as is_node
use Rattle.cars.proofs.car_names.Reads as car_names
use Rattle.cars.proofs.flag_after.Reads as flag_after
use Rattle.positions.proofs.position_at.Reads as position_at
use Rattle.positions.proofs.survey_of.Reads as survey_of
use Rattle.positions.proofs.ends_exactly.Reads as ends_exactly
use Rattle.route.proofs.leg_of.Reads as leg_of
use Rattle.route.proofs.lay_route.Reads as lay_route
use Rattle.plan.proofs.Plan.survey.Reads as survey
use Rattle.plan.proofs.Plan.in_range.Reads as in_range
use Rattle.plan.proofs.Plan.nodes.Reads as nodes
use Rattle.plan.proofs.Plan.junctions.Reads as junctions
use Rattle.usernode.proofs.let_go.Reads as let_go
use Rattle.usernode.proofs.is_idle.Reads as is_idle
use Rattle.usernode.proofs.Node.had.Reads as had
use Rattle.usernode.proofs.Node.wants_train.Reads as wants_train
use Rattle.usernode.proofs.Node.rule.Reads as rule
use Rattle.usernode.proofs.Node.astray.Reads as astray
use Rattle.usernode.proofs.Node.sound.Reads as sound
use Rattle.turns.proofs.turn_of.Reads as turn_of
use Rattle.turns.proofs.event_letter.Reads as event_letter
use Rattle.turns.proofs.event_lock.Reads as event_lock
use Rattle.acts.proofs.ActionRefusal.number.Reads as action_refusal_number
use Rattle.acts.proofs.answer_number.Reads as answer_number
use Rattle.acts.proofs.answer.Reads as answer
use Rattle.acts.proofs.acted.Reads as acted
use Rattle.zeronode.proofs.keeps.Reads as keeps
use Rattle.zeronode.proofs.ZeroNode.start.Reads as start
use Rattle.zeronode.proofs.ZeroNode.rule.Reads as zeronode_rule
use Rattle.zeronode.proofs.ZeroNode.turn.Reads as turn
use Rattle.zeronode.proofs.ZeroNode.overflows.Reads as overflows
use Rattle.zeronode.proofs.ZeroNode.sound.Reads as zeronode_sound
use Rattle.tours.proofs.within.Reads as within
use Rattle.tours.proofs.outside.Reads as outside
use Rattle.tours.proofs.in_tour.Reads as in_tour
use Rattle.junction.proofs.Junction.rule.Reads as junction_rule
use Rattle.junction.proofs.Junction.turn.Reads as junction_turn
use Rattle.junction.proofs.Junction.sound.Reads as junction_sound
use Rattle.ring.proofs.plan_number.Reads as plan_number
use Rattle.ring.proofs.step_number.Reads as step_number
use Rattle.ring.proofs.State.start.Reads as ring_start
use Rattle.ring.proofs.State.sound.Reads as ring_sound
use Rattle.ring.proofs.State.act.Reads as act
use Rattle.ring.proofs.State.take.Reads as take
use Rattle.ring.proofs.State.release.Reads as release
use Rattle.ring.proofs.State.force.Reads as force
use Rattle.ring.proofs.State.step.Reads as step
use Rattle.ring.proofs.State.advance.Reads as advance
use contract.Lifetimes.{Lfts}
use Rattle.settled.specs.Settled.{OneTold, Settled}

-- words
pub record Words : Type 0 where
  pub has : Settled (has.Asked tt) (has.Learnt tt)
  pub with_lock : Settled (with_lock.Asked tt) (with_lock.Learnt tt)
  pub without_lock : Settled (without_lock.Asked tt) (without_lock.Learnt tt)
  pub least : Settled (least.Asked tt) (least.Learnt tt)
  pub all_below : Settled (all_below.Asked tt) (all_below.Learnt tt)

-- cars
pub record Cars : Type 0 where
  pub multiring : Settled (multiring.Asked tt) (multiring.Learnt tt)
  pub release_needs_idle : Settled (release_needs_idle.Asked tt) (release_needs_idle.Learnt tt)
  pub is_node : Settled (is_node.Asked tt) (is_node.Learnt tt)
  pub car_names : Settled (car_names.Asked tt) (car_names.Learnt tt)
  pub flag_after : Settled (flag_after.Asked tt) (flag_after.Learnt tt)

-- positions
pub record Positions : Type 0 where
  pub position_at : (κ : Lfts 1) → Settled (position_at.Asked κ) (position_at.Learnt κ)
  pub survey_of : Settled (survey_of.Asked tt) (survey_of.Learnt tt)
  pub ends_exactly : (κ : Lfts 1) → Settled (ends_exactly.Asked κ) (ends_exactly.Learnt κ)

-- route
pub record Route : Type 0 where
  pub leg_of : Settled (leg_of.Asked tt) (leg_of.Learnt tt)
  pub lay_route_row : (κ : Lfts 1) → OneTold (λ r e. e.1.1.0.now) (lay_route.Learnt κ)
  pub lay_route : (κ : Lfts 1) → Settled (lay_route.Asked κ) (lay_route.Learnt κ)

-- plan
pub record PlanOf : Type 0 where
  pub survey : Settled (survey.Asked tt) (survey.Learnt tt)
  pub in_range : Settled (in_range.Asked tt) (in_range.Learnt tt)
  pub nodes : Settled (nodes.Asked tt) (nodes.Learnt tt)
  pub junctions : Settled (junctions.Asked tt) (junctions.Learnt tt)

-- usernode
pub record UserNode : Type 0 where
  pub let_go : Settled (let_go.Asked tt) (let_go.Learnt tt)
  pub is_idle : Settled (is_idle.Asked tt) (is_idle.Learnt tt)
  pub had : Settled (had.Asked tt) (had.Learnt tt)
  pub wants_train : Settled (wants_train.Asked tt) (wants_train.Learnt tt)
  pub rule : Settled (rule.Asked tt) (rule.Learnt tt)
  pub astray : Settled (astray.Asked tt) (astray.Learnt tt)
  pub sound : Settled (sound.Asked tt) (sound.Learnt tt)

-- turns
pub record Turns : Type 0 where
  pub turn_of : Settled (turn_of.Asked tt) (turn_of.Learnt tt)
  pub event_letter : Settled (event_letter.Asked tt) (event_letter.Learnt tt)
  pub event_lock : Settled (event_lock.Asked tt) (event_lock.Learnt tt)

-- acts
pub record Acts : Type 0 where
  pub refusal_number : Settled (action_refusal_number.Asked tt) (action_refusal_number.Learnt tt)
  pub answer_number : Settled (answer_number.Asked tt) (answer_number.Learnt tt)
  pub answer : Settled (answer.Asked tt) (answer.Learnt tt)
  pub acted : Settled (acted.Asked tt) (acted.Learnt tt)

-- zeronode
pub record ZeroNodeOf : Type 0 where
  pub keeps : Settled (keeps.Asked tt) (keeps.Learnt tt)
  pub start : Settled (start.Asked tt) (start.Learnt tt)
  pub rule : Settled (zeronode_rule.Asked tt) (zeronode_rule.Learnt tt)
  pub turn : Settled (turn.Asked tt) (turn.Learnt tt)
  pub overflows : Settled (overflows.Asked tt) (overflows.Learnt tt)
  pub sound : Settled (zeronode_sound.Asked tt) (zeronode_sound.Learnt tt)

-- tours
pub record Tours : Type 0 where
  pub within : Settled (within.Asked tt) (within.Learnt tt)
  pub outside : Settled (outside.Asked tt) (outside.Learnt tt)
  pub in_tour : Settled (in_tour.Asked tt) (in_tour.Learnt tt)

-- junction
pub record JunctionOf : Type 0 where
  pub rule : Settled (junction_rule.Asked tt) (junction_rule.Learnt tt)
  pub turn : Settled (junction_turn.Asked tt) (junction_turn.Learnt tt)
  pub sound : Settled (junction_sound.Asked tt) (junction_sound.Learnt tt)

-- ring
pub record Ring : Type 0 where
  pub plan_number : Settled (plan_number.Asked tt) (plan_number.Learnt tt)
  pub step_number : Settled (step_number.Asked tt) (step_number.Learnt tt)
  pub start : Settled (ring_start.Asked tt) (ring_start.Learnt tt)
  pub sound : Settled (ring_sound.Asked tt) (ring_sound.Learnt tt)
  pub act : Settled (act.Asked tt) (act.Learnt tt)
  pub take : Settled (take.Asked tt) (take.Learnt tt)
  pub release : Settled (release.Asked tt) (release.Learnt tt)
  pub force : Settled (force.Asked tt) (force.Learnt tt)
  pub step : Settled (step.Asked tt) (step.Learnt tt)
  pub advance : Settled (advance.Asked tt) (advance.Learnt tt)
