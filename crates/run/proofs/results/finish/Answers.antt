-- Each line said leaves the end as it was.
use Rattle.std.proofs.Common.{ap, sym, ◌∙◌}
use Rattle.course.specs.Whole.{Course}
use Rattle.run.proofs.Ready.{line_said}
use Rattle.run.proofs.Fills.{fewer_lines, same_end, end_over}
use Rattle.run.proofs.results.finish.Goals as goal

pub loop-here-smaller : goal.loop-here-smaller
loop-here-smaller c =
    let says = line_said _ _ _ _ _ c.loop-here.invariant.ready_now c.loop-here-test.true c.say.ensures in
    fewer_lines _ _ _ _ _ says.goes c.onward-here-in-loop-here.ensures.0

pub loop-here-preserved : goal.loop-here-preserved
loop-here-preserved c =
    let says = line_said _ _ _ _ _ c.loop-here.invariant.ready_now c.loop-here-test.true c.say.ensures in
    record {
      ready_now = c.onward-here-in-loop-here.ensures.1;
      same = same_end _ _ _ _ _ says.goes c.onward-here-in-loop-here.ensures.0 ∙ c.loop-here.invariant.same;
    }

pub returns : goal.returns
returns c =
    sym (end_over _ _ _ c.loop-here-test.false) ∙ c.loop-here.invariant.same ∙ ap (λ (k : Course). k.end) c.onward-here.ensures.0
