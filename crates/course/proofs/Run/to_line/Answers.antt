-- `Run::to_line` meets its contract. Each turn of its loop leaves the run's course as it was, and brings the run nearer to its next line.
use mathlib.Core.Path.{sym, ◌∙◌}
use borrow.Author.Rules.{rules}
use Rattle.ring.specs.Walk.{quiet}
use Rattle.course.specs.Standing.{past}
use Rattle.course.specs.Wording.{event_here}
use Rattle.course.proofs.Way.{sets_out, way_past, way_several, past_nearer, several_nearer, at_event, at_action, at_ceiling, at-items_end}
use Rattle.course.proofs.Several.{at_once}
use Rattle.course.proofs.LookAhead.{event_here_lem, action_here, none_here, steps_to, way_ahead, ahead_nearer}
use Rattle.course.proofs.Run.to_line.Goals as goal

pub loop-run-init : goal.loop-run-init
loop-run-init c = sets_out _ _ _ _ c.requires.0 c.requires.1 c.nodes-nodes.ensures

pub returns-then-is_some : goal.returns-then-is_some
unfolding event_here quiet
returns-then-is_some c =
    at_event _ _ _ _ _ c.loop-run.invariant c.if-run-nodes.true (event_here_lem _ ∙ sym c.is_some.ensures ∙ c.if-is_some.true)

pub loop-run-smaller-then-run-nodes : goal.loop-run-smaller-then-run-nodes
unfolding past
loop-run-smaller-then-run-nodes c = past_nearer _ _ _ c.if-run-nodes.true

pub loop-run-preserved-then-run-nodes : goal.loop-run-preserved-then-run-nodes
unfolding past event_here quiet
loop-run-preserved-then-run-nodes c =
    way_past _ _ _ _ _ c.loop-run.invariant c.if-run-nodes.true (event_here_lem _ ∙ sym c.is_some.ensures ∙ c.if-is_some.false)

pub returns-then-ceiling-run : goal.returns-then-ceiling-run
returns-then-ceiling-run c =
    rw c.at_end.ensures (at_ceiling _ _ _ _ _ c.loop-run.invariant c.if-run-nodes.false c.if-run-gt0.true c.if-ceiling-run.true)

pub several_steps-run-requires : goal.several_steps-run-requires
several_steps-run-requires c =
    let o = at_once _ _ _ _ c.at_once.ensures c.if-run-gt0.true c.if-ceiling-run.false in
    record { some = o.some; most = o.most; room = search rules }

pub loop-run-smaller-then-run-gt0 : goal.loop-run-smaller-then-run-gt0
loop-run-smaller-then-run-gt0 c =
    rw c.several_steps-run.ensures
    (several_nearer _ _ _ _ _ c.loop-run.invariant.most c.if-run-nodes.false
    (at_once _ _ _ _ c.at_once.ensures c.if-run-gt0.true c.if-ceiling-run.false))

pub loop-run-preserved-then-run-gt0 : goal.loop-run-preserved-then-run-gt0
loop-run-preserved-then-run-gt0 c =
    rw c.several_steps-run.ensures
    (way_several _ _ _ _ _ _ c.loop-run.invariant c.if-run-nodes.false
    (at_once _ _ _ _ c.at_once.ensures c.if-run-gt0.true c.if-ceiling-run.false))

pub returns-in_default : goal.returns-in_default
returns-in_default c =
    rw c.at_end-in_default.ensures
    (at-items_end _ _ _ _ _ c.loop-run.invariant c.if-run-nodes.false c.if-run-gt0.false (none_here _ _ c.item_from-reading.ensures c.in_default.ensures))

pub returns-in-Act : goal.returns-in-Act
returns-in-Act c =
    at_action _ _ _ _ _ c.loop-run.invariant c.if-run-nodes.false c.if-run-gt0.false
    (action_here _ _ c.item_from-reading.ensures c.in-Some.ensures c.in-Act.is)

pub loop-run-smaller : goal.loop-run-smaller
unfolding steps_to
loop-run-smaller c = ahead_nearer _ _ c.item_from-reading.ensures c.in-Some.ensures c.in-Steps.is _ c.if-run-gt0.false

pub loop-run-preserved : goal.loop-run-preserved
unfolding steps_to
loop-run-preserved c =
    way_ahead _ _ c.item_from-reading.ensures c.in-Some.ensures c.in-Steps.is _ _ _ c.loop-run.invariant c.if-run-nodes.false c.if-run-gt0.false
