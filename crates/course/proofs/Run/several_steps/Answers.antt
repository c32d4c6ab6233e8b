-- `Run::several_steps` meets its contract. The steps that are done are at least one and at most as many as were asked for.
use Rattle.std.proofs.Common.{arith}
use Rattle.course.proofs.Several.{done_fits}
use Rattle.course.proofs.Run.several_steps.Goals as goal

pub several_tally-tally-requires : goal.several_tally-tally-requires
several_tally-tally-requires c = (done_fits _ c.advance-advanced.ensures c.requires).0

pub overflow_add-result : goal.overflow_add-result
overflow_add-result c = let fits = done_fits _ c.advance-advanced.ensures c.requires in omega (arith, c.from.ensures)

pub overflow_sub-result : goal.overflow_sub-result
overflow_sub-result c = (done_fits _ c.advance-advanced.ensures c.requires).1
