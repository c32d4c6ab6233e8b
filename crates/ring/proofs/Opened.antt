-- The model's definitions, opened together crate by crate, for proofs by computation on them.
use Prim.Native.Nat.{ℕ}
use lib.Count.{count_trailing_zeros}
use Rattle.lists.specs.Loops.{every, some, total, iterate, in_order}
use Rattle.lists.specs.Refusal.{refused_if}
use Rattle.words.specs.Words.{has, with_lock, without_lock, least, all_below}
use Rattle.cars.specs.Cars.{multiring, release_needs_idle, is_node, names, notice_names, car_names, flag_after}
use Rattle.positions.specs.Ring.{nodes_in, junctions_in, users_only}
use Rattle.positions.specs.Reading.{counted, joined, position_at, wrong, behind_user, behind_junction, onward, positions, reading, main_ring}
use Rattle.plan.specs.Plan.{heads_in_range, positions_read, ring_of, junctions_allowed, in_range, node_count, junction_count}
use Rattle.acts.specs.Actions.{wish_number, release_number, later_number, needs_idle, node_number, busy_with, released, acted}
use Rattle.usernode.specs.Astray.{waits_reqp, waits_dov, unready, astray}
use Rattle.usernode.specs.Node.{had, is_idle, wants_train}
use Rattle.usernode.specs.Rules.{on_letting, on_gap, on_idle, on_reqp, on_failp, on_dov, rule}
use Rattle.usernode.specs.Sound.{activity_names, letting_allowed, node_sound}
use Rattle.usernode.specs.Node.{let_go}
use Rattle.turns.specs.Turn.{becomes, grant_car, apply, event_of, turn}
use Rattle.zeronode.specs.Rules.{empty_slot, on_token, on_head, zero_rule, keeps}
use Rattle.zeronode.specs.Sound.{place_names, zero_sound}
use Rattle.zeronode.specs.Turn.{shifted, head_off, sends, appended, arrives, zero_turn, count_left, overflows}
use Rattle.tours.specs.Rules.{within, outside, if_train, on_gotp, on_didv, in_tour}
use Rattle.junction.specs.Sound.{junction_sound}
use Rattle.junction.specs.Turn.{failing, junction_rule, shadow, joins, junction_apply, train_after, trained, junction_turn}
use Rattle.ring.specs.Actions.{action_number, acted_state, handed_back, acting}
use Rattle.ring.specs.Sound.{zero_passes, node_passes, junction_passes, sound}
use Rattle.ring.specs.State.{rest_node, rest_junction, start_of, small_plan, start_state, node_of}
use Rattle.ring.specs.Step.{next_state, step_number, refused, done, moving, stepping}
use Rattle.ring.specs.Walk.{quiet, node_here, junction_here, turn_here, on_node, wanted, enters, leaves, along, setting_out, walk}
use Rattle.ring.specs.Advance.{no_event, silent, one_more_note, advancing}

unfoldable pub of_lists : ℕ
unfolding every some total iterate in_order refused_if
of_lists = 0

unfoldable pub of_words : ℕ
unfolding has with_lock without_lock least all_below count_trailing_zeros
of_words = 0

unfoldable pub of_cars : ℕ
unfolding multiring release_needs_idle is_node names notice_names car_names flag_after
of_cars = 0

unfoldable pub of_plan : ℕ
unfolding nodes_in junctions_in users_only counted joined position_at wrong behind_user behind_junction onward positions reading main_ring heads_in_range positions_read ring_of junctions_allowed in_range node_count junction_count
of_plan = 0

unfoldable pub of_usernode : ℕ
unfolding wish_number release_number later_number needs_idle node_number busy_with released acted waits_reqp waits_dov unready astray had is_idle wants_train on_letting on_gap on_idle on_reqp on_failp on_dov rule activity_names letting_allowed node_sound becomes grant_car let_go apply event_of turn
of_usernode = 0

unfoldable pub of_zeronode : ℕ
unfolding empty_slot on_token on_head zero_rule keeps place_names zero_sound shifted head_off sends appended arrives zero_turn count_left overflows
of_zeronode = 0

unfoldable pub of_junction : ℕ
unfolding within outside if_train on_gotp on_didv in_tour failing junction_rule junction_sound shadow joins junction_apply train_after trained junction_turn
of_junction = 0

unfoldable pub of_ring : ℕ
unfolding action_number acted_state handed_back acting zero_passes node_passes junction_passes sound rest_node rest_junction start_of small_plan start_state node_of next_state step_number refused done moving stepping quiet node_here junction_here turn_here on_node wanted enters leaves along setting_out walk no_event silent one_more_note advancing
of_ring = 0
