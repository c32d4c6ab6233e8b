-- No event yet, and one more, counted or not.
use mathlib.Core.Path.{◌∙◌, sym, ap}
use Rattle.std.specs.Prelude.{Option}
use Rattle.turns.specs.declared.Event.{Event}
use Rattle.lists.proofs.Laws.{in_order_none, in_order-more}
use Rattle.ring.specs.Walk.{quiet}
use Rattle.tally.specs.Tally.{event_tally, place_tally, events_tally}
use Rattle.tally.proofs.Laws.{not-counted, first-at}
use Rattle.tally.proofs.events_tally.Goals as goal
use Rattle.tally.proofs.events_tally.Goals.{then-is_counted, else-is_counted}

pub loop-event-init : goal.loop-event-init
unfolding events_tally
loop-event-init c = sym (in_order_none _ _)

pub loop-event-preserved : goal.loop-event-preserved
unfolding events_tally place_tally quiet
loop-event-preserved c =
    let here = first-at c.args.count c.args.events.now c.loop-event.event-index quiet c.loop-event-test.true in
    let more = ap (λ (event : Option Event). event_tally event c.loop-event.next) here ∙ ap (event_tally _) c.loop-event.invariant ∙ sym (in_order-more _ _ _) in
    elim c.if-is_counted.branch [
      | then-is_counted w ↦ w.next-is ∙ w.event_tally-next.ensures ∙ more
      | else-is_counted w ↦ w.next-is ∙ not-counted _ _ (sym c.is_counted.ensures ∙ w.if-is_counted.false) ∙ more
    ]
