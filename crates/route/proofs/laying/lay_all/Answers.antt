-- The main ring, from the start on.
use Rattle.positions.specs.Reading.{main_ring}
use Rattle.route.proofs.Steps.{laid_all}
use Rattle.route.proofs.laying.lay_all.Goals as goal

pub lay-requires : goal.lay-requires
unfolding main_ring
lay-requires c = c.requires

pub returns : goal.returns
returns c =
    let start = c.args in
    let both = laid_all start.values.now start.count start.route.now c.lay.ensures.value c.lay.ensures.route_after in
    record { value = both.0; route_after = both.1 }
