-- 01, "The plan and the things in it": rules and cars; of number 13 what is said of a car; the flag that goes with the cars sent.
use Rattle.std.specs.Prelude.{ℕ, Bool, true, false, ◌&&◌, ◌||◌, eqb, ltb, leb}
use Rattle.cars.specs.declared.Tag.{Tag}
use Rattle.cars.specs.declared.Car.{Car}
use Rattle.cars.specs.declared.Car.TheVariants.{Idle, Token, Null, Reqp, Failp, Dov, Gotp, Didv}

-- "rules (1 ring, 2 multiring)"; 02, item 4: "Rules 3 and 4 in the plan's first byte are rules 1 and 2 with one difference: a release doesn't need an
-- idle activity." So 1 and 3 are ring rules, 2 and 4 multiring rules; these two predicates ask the byte, and beside its range nothing else does.
-- Junctions, gotp, didv and letting go are under multiring rules.
unfoldable pub multiring : ℕ → Bool
multiring rules = eqb rules 2 || eqb rules 4

-- where a release needs an idle activity
unfoldable pub release_needs_idle : ℕ → Bool
release_needs_idle rules = eqb rules 1 || eqb rules 2

-- "User nodes are numbered 1 to U"
unfoldable pub is_node : ℕ → ℕ → Bool
is_node nodes node = leb 1 node && leb node nodes

-- neither the node nor the lock that is named is missing
unfoldable pub names : ℕ → ℕ → ℕ → ℕ → Bool
names nodes locks lock source = is_node nodes source && ltb lock locks

-- a gotp or didv: under multiring rules only
unfoldable pub notice_names : ℕ → ℕ → ℕ → Tag → Bool
notice_names rules nodes locks notice = multiring rules && names nodes locks notice.lock notice.source

-- 13: "a car naming a missing node or lock", "gotp or didv under ring rules"; token, idle and null carry nothing
unfoldable pub car_names : ℕ → ℕ → ℕ → Car → Bool
car_names rules nodes locks Idle = true
car_names rules nodes locks Token = true
car_names rules nodes locks Null = true
car_names rules nodes locks (Reqp tag) = names nodes locks tag.lock tag.source
car_names rules nodes locks (Failp tag) = names nodes locks tag.lock tag.source
car_names rules nodes locks (Dov tag) = names nodes locks tag.lock tag.source
car_names rules nodes locks (Gotp notice) = notice_names rules nodes locks notice
car_names rules nodes locks (Didv notice) = notice_names rules nodes locks notice

-- "The in-train flag is then set by sending token, cleared by sending idle, else kept."
-- The train flag of a junction on a subring goes likewise (crate junction).
unfoldable pub flag_after : Car → Bool → Bool
flag_after Idle flag = false
flag_after Token flag = true
flag_after Null flag = flag
flag_after (Reqp tag) flag = flag
flag_after (Failp tag) flag = flag
flag_after (Dov tag) flag = flag
flag_after (Gotp notice) flag = flag
flag_after (Didv notice) flag = flag
