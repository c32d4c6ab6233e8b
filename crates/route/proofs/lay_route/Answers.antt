-- By what the survey tells: nothing is laid of positions out of range or where there is no room, else all of the route.
use lib.ListN.{length}
use Rattle.route.proofs.Fitting.{laid_wrong, laid_short, laid_fits, fits_layable}
use Rattle.route.proofs.lay_route.Goals as goal

pub lay_all-requires : goal.lay_all-requires
lay_all-requires c =
    fits_layable c.args.values c.args.count (length c.args.route.now) c.in-Some.ensures c.leg_count.ensures c.well_formed.0.1.0.1 c.if-leg_count-route.true

pub returns-then-leg_count-route : goal.returns-then-leg_count-route
returns-then-leg_count-route c =
    let all = laid_fits c.args.values c.args.count (length c.args.route.now) c.in-Some.ensures c.leg_count.ensures c.if-leg_count-route.true in
    record { value = rw all c.lay_all.ensures.value; route_after = rw all c.lay_all.ensures.route_after }

pub returns : goal.returns
returns c =
    let none = laid_short c.args.values c.args.count (length c.args.route.now) c.in-Some.ensures c.leg_count.ensures c.if-leg_count-route.false in
    record { value = rw none; route_after = rw none }

pub returns-in_default : goal.returns-in_default
returns-in_default c =
    let none = laid_wrong c.args.values c.args.count (length c.args.route.now) c.in_default.ensures in
    record { value = rw none; route_after = rw none }
