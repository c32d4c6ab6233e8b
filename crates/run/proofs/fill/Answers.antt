-- A line that fits is written, and the run goes on; at a line that does not fit, and when all is said, nothing more is written.
use Rattle.std.proofs.Common.{ap, refl, ◌∙◌}
use Rattle.std.proofs.lemmas.Bool.{not-true, not-false}
use Rattle.run.specs.Filling.{filling, filled_buffer}
use Rattle.run.proofs.Ready.{line_said, this_said}
use Rattle.run.proofs.Fills.{fills_none, full_over, full_line, fills_line, fewer_lines}
use Rattle.run.proofs.fill.Goals as goal

pub loop-here-init : goal.loop-here-init
loop-here-init c = fills_none _ _ _ _ _ refl c.onward-here.ensures.1

pub unwrap-line-requires : goal.unwrap-line-requires
unwrap-line-requires c =
    let says = line_said c.args.ceiling _ _ _ _ c.loop-here.invariant.ready_now (not-true _ c.loop-here-test.true) c.say.ensures in
    rw says.is

pub loop-here-smaller : goal.loop-here-smaller
loop-here-smaller c =
    let says = line_said c.args.ceiling _ _ _ _ c.loop-here.invariant.ready_now (not-true _ c.loop-here-test.true) c.say.ensures in
    fewer_lines _ _ _ _ _ says.goes c.onward-here-in-loop-here.ensures.0

pub loop-here-preserved : goal.loop-here-preserved
loop-here-preserved c =
    let says = line_said c.args.ceiling _ _ _ _ c.loop-here.invariant.ready_now (not-true _ c.loop-here-test.true) c.say.ensures in
    fills_line _ _ _ _ _ _ _ _ _ _ _ c.loop-here.invariant (this_said says c.unwrap-line.ensures) c.in-Some.ensures.value c.in-Some.ensures.buffer_after
    c.onward-here-in-loop-here.ensures.0 c.onward-here-in-loop-here.ensures.1

pub returns-after-loop-here : goal.returns-after-loop-here
returns-after-loop-here c =
    let full = full_over _ _ _ _ _ _ _ c.loop-here.invariant (not-false _ c.loop-here-test.false) in
    record { value = full.answer ∙ ap (filling _) c.onward-here.ensures.0; buffer_after = full.content ∙ ap (filled_buffer _) c.onward-here.ensures.0 }

pub returns-in-None : goal.returns-in-None
returns-in-None c =
    let says = line_said c.args.ceiling _ _ _ _ c.loop-here.invariant.ready_now (not-true _ c.loop-here-test.true) c.say.ensures in
    let full =
    full_line _ _ _ _ _ _ _ _ _ c.loop-here.invariant (this_said says c.unwrap-line.ensures) c.in-None.ensures.value c.in-None.ensures.buffer_after in
    record { value = full.answer ∙ ap (filling _) c.onward-here.ensures.0; buffer_after = full.content ∙ ap (filled_buffer _) c.onward-here.ensures.0 }
