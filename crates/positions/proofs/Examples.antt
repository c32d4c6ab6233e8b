-- Readings and shapes of some bytes, by computation: one for each sentence of the plan's form.
use Prim.Native.Nat.{ℕ}
use mathlib.Core.Path.{◌≡◌, refl}
use mathlib.Core.Bool.{true, false}
use mathlib.Core.List.{[], ◌∷◌}
use Rattle.positions.specs.Ring.{Ring, no_more, user_node, a_junction, nodes_in, junctions_in, users_only}
use Rattle.positions.specs.Reading.{Reading, reading, positions, onward, position_at, joined, counted, wrong, behind_user, behind_junction, main_ring}
use Rattle.positions.specs.Shape.{ends_at}

abbrev read : ℕ → Ring → Reading
read place ring = record { right = true; place = place; ring = ring }

-- a user node, a junction with 3 user nodes, and a byte behind them
pub one_byte_each : main_ring (0 ∷ 3 ∷ 0 ∷ []) 2 ≡ read 2 (user_node (a_junction (user_node (user_node (user_node no_more))) no_more))
unfolding main_ring reading positions onward position_at joined counted wrong behind_user behind_junction users_only
one_byte_each = refl

-- a junction with a user node and then a junction of its own, and a user node behind it
pub a_list_within : main_ring (5 ∷ 2 ∷ 0 ∷ 1 ∷ 0 ∷ []) 2 ≡ read 5 (a_junction (user_node (a_junction (user_node no_more) no_more)) (user_node no_more))
unfolding main_ring reading positions onward position_at joined counted wrong behind_user behind_junction users_only
a_list_within = refl

-- three levels, and a fourth in either form
pub three-levels : main_ring (5 ∷ 1 ∷ 5 ∷ 1 ∷ 5 ∷ 1 ∷ 0 ∷ []) 1 ≡ read 7 (a_junction (a_junction (a_junction (user_node no_more) no_more) no_more) no_more)
unfolding main_ring reading positions onward position_at joined counted wrong behind_user behind_junction users_only
three-levels = refl

pub third_level_users : main_ring (5 ∷ 1 ∷ 5 ∷ 1 ∷ 4 ∷ []) 1 ≡ read 5 (a_junction (a_junction (a_junction (users_only 4) no_more) no_more) no_more)
unfolding main_ring reading positions onward position_at joined counted wrong behind_user behind_junction users_only
third_level_users = refl

pub fourth_level_users : (main_ring (5 ∷ 1 ∷ 5 ∷ 1 ∷ 5 ∷ 1 ∷ 1 ∷ []) 1).right ≡ false
unfolding main_ring reading positions onward position_at joined counted wrong behind_user behind_junction users_only
fourth_level_users = refl

pub fourth_level_list : (main_ring (5 ∷ 1 ∷ 5 ∷ 1 ∷ 5 ∷ 1 ∷ 5 ∷ 1 ∷ 0 ∷ []) 1).right ≡ false
unfolding main_ring reading positions onward position_at joined counted wrong behind_user behind_junction users_only
fourth_level_list = refl

-- a count of 4, of 5 and of none; a value above 5; bytes that end too early
pub count_of_four : main_ring (5 ∷ 4 ∷ 0 ∷ 0 ∷ 0 ∷ 0 ∷ []) 1 ≡ read 6 (a_junction (users_only 4) no_more)
unfolding main_ring reading positions onward position_at joined counted wrong behind_user behind_junction users_only
count_of_four = refl

pub count_of_five : (main_ring (5 ∷ 5 ∷ 0 ∷ 0 ∷ 0 ∷ 0 ∷ 0 ∷ []) 1).right ≡ false
unfolding main_ring reading positions onward position_at joined counted wrong behind_user behind_junction users_only
count_of_five = refl

pub count_of_none : (main_ring (5 ∷ 0 ∷ []) 1).right ≡ false
unfolding main_ring reading positions onward position_at joined counted wrong behind_user behind_junction users_only
count_of_none = refl

pub value_six : (main_ring (6 ∷ []) 1).right ≡ false
unfolding main_ring reading positions onward position_at joined counted wrong behind_user behind_junction users_only
value_six = refl

pub list_too_short : (main_ring (5 ∷ 2 ∷ 0 ∷ []) 1).right ≡ false
unfolding main_ring reading positions onward position_at joined counted wrong behind_user behind_junction users_only
list_too_short = refl

-- the shape (3) looks at no count, no depth and no value
pub shape_of_none : ends_at false 1 (5 ∷ 0 ∷ []) ≡ true
unfolding ends_at
shape_of_none = refl

pub shape_of_six : ends_at false 1 (5 ∷ 6 ∷ 9 ∷ 9 ∷ 9 ∷ 9 ∷ 9 ∷ 9 ∷ []) ≡ true
unfolding ends_at
shape_of_six = refl

pub shape_of_four_levels : ends_at false 1 (5 ∷ 1 ∷ 5 ∷ 1 ∷ 5 ∷ 1 ∷ 5 ∷ 1 ∷ 0 ∷ []) ≡ true
unfolding ends_at
shape_of_four_levels = refl

-- a count of 5 is a count and opens no list; bytes that end too early, without their count, or too late
pub shape_of_five : ends_at false 1 (5 ∷ 5 ∷ 0 ∷ 0 ∷ 0 ∷ 0 ∷ 0 ∷ []) ≡ true
unfolding ends_at
shape_of_five = refl

pub shape_too_short : ends_at false 1 (5 ∷ 2 ∷ 0 ∷ []) ≡ false
unfolding ends_at
shape_too_short = refl

pub shape_without_count : ends_at false 1 (5 ∷ []) ≡ false
unfolding ends_at
shape_without_count = refl

pub shape_too_long : ends_at false 1 (5 ∷ 1 ∷ 0 ∷ 0 ∷ []) ≡ false
unfolding ends_at
shape_too_long = refl

-- what is counted: an outer junction, one within it, their user nodes and one behind them
pub counts : nodes_in (main_ring (5 ∷ 2 ∷ 0 ∷ 3 ∷ 0 ∷ []) 2).ring ≡ 5
unfolding main_ring reading positions onward position_at joined counted wrong behind_user behind_junction users_only nodes_in
counts = refl

pub counts_junctions : junctions_in (main_ring (5 ∷ 2 ∷ 0 ∷ 3 ∷ 0 ∷ []) 2).ring ≡ 2
unfolding main_ring reading positions onward position_at joined counted wrong behind_user behind_junction users_only junctions_in
counts_junctions = refl
