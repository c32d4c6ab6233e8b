-- A step along a route without 13: 14 where the queue would overflow, 15 where a car is astray, else what the trip leaves. The loop's invariant: what
-- is still to come of the route gives, with the trip so far, the whole trip.
use mathlib.Core.Path.{refl, sym, ap, ◌∙◌}
use Rattle.std.proofs.Common.{Some}
use Rattle.lists.specs.Refusal.{refused_if}
use Rattle.ring.specs.declared.State.{State}
use Rattle.ring.specs.State.{rest_node, rest_junction}
use Rattle.ring.specs.Walk.{quiet}
use Rattle.ring.specs.Step.{step_answer_number}
use Rattle.ring.specs.Trip.{sets_out, unopened, trip_number, moving_along}
use Rattle.ring.proofs.Going.{trip_after, reached_start, reached_next_lem, past_nowhere, past_node_lem, into_junction_lem, out_of_junction_lem, arrived, moved}
use Rattle.ring.proofs.State.moving.Goals as goal
use Rattle.ring.proofs.State.moving.Goals.{in-At, in-Into, in-Out}

pub loop-number-init : goal.loop-number-init
unfolding sets_out quiet unopened
loop-number-init c = record { at = reached_start _ _; kept = refl }

pub loop-number-preserved-in_default : goal.loop-number-preserved-in_default
loop-number-preserved-in_default c =
    let before = c.loop-number.invariant in
    record { at = reached_next_lem _ _ _ _ _ _ before.at c.loop-number-test.true (sym c.in_default.is ∙ c.leg_of.ensures) (past_nowhere _ _); kept = before.kept }

pub loop-number-preserved : goal.loop-number-preserved
unfolding rest_node rest_junction unopened
loop-number-preserved c =
    let before = c.loop-number.invariant in
    elim c.match-leg.branch [
      | in-At w ↦ record {
        at = reached_next_lem _ _ _ _ _ _ before.at c.loop-number-test.true (sym (c.in-Some.is ∙ ap Some w.in-At.is) ∙ c.leg_of.ensures)
            (trip_after w.passed-is w.last-is w.astray-is w.wants-is w.next-is w.events-is w.opened-is
            ∙ past_node_lem _ _ _ _ _ _ w.turn_of-turn.ensures w.astray-astray.ensures w.wants_train-wants.ensures);
        kept = ap (λ (s : State). s.plan) w.next-is ∙ before.kept;
      }
      | in-Into w ↦ record {
        at = reached_next_lem _ _ _ _ _ _ before.at c.loop-number-test.true (sym (c.in-Some.is ∙ ap Some w.in-Into.is) ∙ c.leg_of.ensures)
            (trip_after w.passed-is w.last-is w.astray-is w.wants-is w.next-is w.events-is w.opened-is ∙ into_junction_lem _ _ _);
        kept = ap (λ (s : State). s.plan) w.next-is ∙ before.kept;
      }
      | in-Out w ↦ record {
        at = reached_next_lem _ _ _ _ _ _ before.at c.loop-number-test.true (sym (c.in-Some.is ∙ ap Some w.in-Out.is) ∙ c.leg_of.ensures)
            (trip_after w.passed-is w.last-is w.astray-is w.wants-is w.next-is w.events-is w.opened-is ∙ out_of_junction_lem _ _ _ _ _ w.turn.ensures);
        kept = ap (λ (s : State). s.plan) w.next-is ∙ before.kept;
      }
    ]

pub returns-then-overflows : goal.returns-then-overflows
unfolding moving_along trip_number refused_if step_answer_number
returns-then-overflows c =
    simp (c.refused.ensures, c.if-overflows.true, ← c.overflows.ensures, ← arrived _ _ _ _ c.loop-number.invariant.at c.loop-number-test.false)

pub returns-then-astray : goal.returns-then-astray
unfolding moving_along trip_number refused_if step_answer_number
returns-then-astray c =
    simp (c.refused-then-astray.ensures, c.if-astray.true, c.if-overflows.false, ← c.overflows.ensures, ← arrived _ _ _ _ c.loop-number.invariant.at c.loop-number-test.false)

pub returns : goal.returns
returns c =
    moved _ _ _ _ _ (arrived _ _ _ _ c.loop-number.invariant.at c.loop-number-test.false) c.loop-number.invariant.kept (sym c.overflows.ensures ∙ c.if-overflows.false) c.if-astray.false c.turn-next.ensures
