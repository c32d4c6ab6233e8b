-- A step along the route of the plan, which is laid first.
use mathlib.Core.Path.{◌∙◌}
use Rattle.ring.proofs.Routed.{moved_along, laid_there, laid_within, laid_long}
use Rattle.ring.proofs.State.step_sound.Goals as goal

pub slice_bounds-route-end : goal.slice_bounds-route-end
slice_bounds-route-end c = laid_within c.args.self c.requires _ _ c.lay_route-laid.ensures.value c.lay_route-laid.ensures.route_after

pub slice_bounds-moving-end : goal.slice_bounds-moving-end
slice_bounds-moving-end c = laid_long c.args.self c.requires _ _ c.lay_route-laid.ensures.value c.lay_route-laid.ensures.route_after

pub returns : goal.returns
returns c =
    c.moving.ensures ∙ moved_along _ c.requires _ (laid_there c.args.self c.requires _ _ c.lay_route-laid.ensures.value c.lay_route-laid.ensures.route_after)
