-- The schedules of specs/Examples have the histories stated there, by computation.
use Prim.Native.Nat.{ℕ}
use mathlib.Core.Path.{◌≡◌, refl}
use Rattle.ring.proofs.Opened.{of_lists, of_words, of_cars, of_plan, of_usernode, of_zeronode, of_junction, of_ring}
use Rattle.onelock.specs.OneLock.{after_item, deed_if, deed_of, releases, deeds_in, deeds_of, time_of, done_after, noted, history_from, history}
use Rattle.onelock.specs.OneLock.{after_all, reached, junction_at}
use Rattle.onelock.specs.Shadows.{none_real, node_sends_real, main_sends_real, subring_sends_real, node_rewrites, junction_rewrites, rule_here, sentence_here}
use Rattle.onelock.specs.Shadows.{watch_node, watch_into, watch_out, watch_along, watched, ghosts_after, ghosts_reached}
use Rattle.onelock.specs.Examples.{ring_plan, ring_items, ring_history, multiring_plan, multiring_items, multiring_history}
use Rattle.onelock.specs.Examples.{nested_plan, shadow_items, real_items, meeting, of_node1, shadow_meeting, real_meeting}

-- the words of specs/Shadows
unfoldable of_shadows : ℕ
unfolding none_real node_sends_real main_sends_real subring_sends_real node_rewrites junction_rewrites rule_here sentence_here watch_node watch_into watch_out watch_along
    watched ghosts_after ghosts_reached
of_shadows = 0

-- under ring rules: a grant, a release, a grant to another node
pub two_grants_ring : history ring_plan ring_items 0 ≡ ring_history
unfolding ring_plan ring_items ring_history after_item deed_if deed_of releases deeds_in deeds_of time_of done_after noted history_from history of_lists of_words
    of_cars of_plan of_usernode of_zeronode of_junction of_ring
two_grants_ring = refl

-- under multiring rules: a grant, an ending by force, a grant to another node
pub two_grants_multiring : history multiring_plan multiring_items 0 ≡ multiring_history
unfolding multiring_plan multiring_items multiring_history after_item deed_if deed_of releases deeds_in deeds_of time_of done_after noted history_from history
    of_lists of_words of_cars of_plan of_usernode of_zeronode of_junction of_ring
two_grants_multiring = refl

-- an inner junction meets a shadow, and a real car
pub meets_a_shadow : meeting shadow_items ≡ shadow_meeting
unfolding nested_plan shadow_items meeting of_node1 shadow_meeting after_item after_all reached junction_at of_shadows of_lists of_words of_cars of_plan of_usernode
    of_zeronode of_junction of_ring
meets_a_shadow = refl

pub meets_a_real_car : meeting real_items ≡ real_meeting
unfolding nested_plan real_items meeting of_node1 real_meeting after_item after_all reached junction_at of_shadows of_lists of_words of_cars of_plan of_usernode
    of_zeronode of_junction of_ring
meets_a_real_car = refl
