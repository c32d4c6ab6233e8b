-- 13 of a car, by what it carries: what the test in the crate goes by, once the car's case is known.
use Rattle.std.specs.Prelude.{ℕ, Bool, true, ◌&&◌, ◌||◌, not, Option, Some, None}
use Rattle.cars.specs.Cars.{multiring, names}
use Rattle.cars.specs.declared.Carried.{Carried}

-- a car that carries nothing names nothing; a notice is under multiring rules only
abbrev pub names_carried : ℕ → ℕ → ℕ → Option Carried → Bool
names_carried rules nodes locks None = true
names_carried rules nodes locks (Some carried) = (not carried.notice || multiring rules) && names nodes locks carried.tag.lock carried.tag.source
