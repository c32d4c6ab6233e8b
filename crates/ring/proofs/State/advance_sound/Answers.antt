-- Several steps of a state that passes 13, along the route of its plan: in the loop what is left to do leads to what was asked.
use Rattle.std.proofs.Common.{◌+◌, ◌-◌, ◌<◌, ◌≤◌, arith, refl, sym, ◌∙◌}
use Rattle.std.proofs.Math.Nat.{sub-zero}
use Rattle.lists.proofs.Firsts.{all_of_firsts}
use Rattle.plan.proofs.Laws.{nodes_most}
use Rattle.ring.specs.Walk.{quiet}
use Rattle.ring.specs.Advance.{no_event}
use Rattle.ring.proofs.Laws.{sound_plan}
use Rattle.ring.proofs.Routed.{moved_along, same_route, laid_there, laid_within, laid_long}
use Rattle.ring.proofs.Advancing.{stepped_on, going_start, going_on_lem, going_done}
use Rattle.ring.proofs.State.advance_sound.Goals as goal

pub loop-done-init : goal.loop-done-init
unfolding quiet
loop-done-init c = rw sub-zero (going_start _ _ _ _ refl c.requires c.nodes-count.ensures (omega arith))

pub slice_bounds-route-end : goal.slice_bounds-route-end
slice_bounds-route-end c = laid_within c.args.self (sound_plan _ c.requires) _ _ c.lay_route-laid.ensures.value c.lay_route-laid.ensures.route_after

pub slice_bounds-moving-end : goal.slice_bounds-moving-end
slice_bounds-moving-end c = laid_long c.args.self (sound_plan _ c.requires) _ _ c.lay_route-laid.ensures.value c.lay_route-laid.ensures.route_after

pub returns-then-not-is_silent : goal.returns-then-not-is_silent
returns-then-not-is_silent c =
    let now = c.loop-done.invariant in
    let left : 0 < c.args.limit - c.loop-done.done = omega arith in
    let none : 0 ≤ 0 = omega arith in
    let route = laid_there c.args.self (sound_plan _ c.requires) _ _ c.lay_route-laid.ensures.value c.lay_route-laid.ensures.route_after ∙ same_route _ _ (sym now.plan) in
    let step = stepped_on _ c.moving-stepped.result (c.loop-done.done + 1) now.pass (c.moving-stepped.ensures ∙ moved_along _ (sound_plan _ now.pass) _ route) in
    let told = c.is_silent.ensures ∙ all_of_firsts no_event quiet c.moving-stepped.result.events c.nodes-count.result (omega (arith, c.nodes-count.ensures, nodes_most c.args.self.plan)) in
    going_done _ _ _ 0 _ (going_on_lem _ _ _ _ 0 _ _ _ now left step told (simp c.if-not-is_silent.true)) none

pub loop-done-preserved : goal.loop-done-preserved
loop-done-preserved c =
    let now = c.loop-done.invariant in
    let left : 0 < c.args.limit - c.loop-done.done = omega arith in
    let route = laid_there c.args.self (sound_plan _ c.requires) _ _ c.lay_route-laid.ensures.value c.lay_route-laid.ensures.route_after ∙ same_route _ _ (sym now.plan) in
    let step = stepped_on _ c.moving-stepped.result (c.loop-done.done + 1) now.pass (c.moving-stepped.ensures ∙ moved_along _ (sound_plan _ now.pass) _ route) in
    let told = c.is_silent.ensures ∙ all_of_firsts no_event quiet c.moving-stepped.result.events c.nodes-count.result (omega (arith, c.nodes-count.ensures, nodes_most c.args.self.plan)) in
    going_on_lem _ _ _ _ _ _ _ _ now left step told (simp c.if-not-is_silent.false (omega arith))
