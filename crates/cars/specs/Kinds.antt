-- What the rules of 01 ask of a car: which of the cars it is and, of one that carries a lock and a source, what they are.
use Rattle.std.specs.Prelude.{Bool, true, false}
use Rattle.cars.specs.declared.Tag.{Tag}
use Rattle.cars.specs.declared.Car.{Car}
use Rattle.cars.specs.declared.Car.TheVariants.{Idle, Token, Null, Reqp, Failp, Dov, Gotp, Didv}

-- what is true of a car, said for each: idle, token, null; reqp, failp, dov; gotp, didv
abbrev pub by_car : Bool → Bool → Bool → (Tag → Bool) → (Tag → Bool) → (Tag → Bool) → (Tag → Bool) → (Tag → Bool) → Car → Bool
by_car idle token null reqp failp dov gotp didv Idle = idle
by_car idle token null reqp failp dov gotp didv Token = token
by_car idle token null reqp failp dov gotp didv Null = null
by_car idle token null reqp failp dov gotp didv (Reqp tag) = reqp tag
by_car idle token null reqp failp dov gotp didv (Failp tag) = failp tag
by_car idle token null reqp failp dov gotp didv (Dov tag) = dov tag
by_car idle token null reqp failp dov gotp didv (Gotp notice) = gotp notice
by_car idle token null reqp failp dov gotp didv (Didv notice) = didv notice

-- true of none
abbrev pub no_tag : Tag → Bool
no_tag tag = false

unfoldable pub is_idle_car : Car → Bool
is_idle_car = by_car true false false no_tag no_tag no_tag no_tag no_tag

unfoldable pub is_token_car : Car → Bool
is_token_car = by_car false true false no_tag no_tag no_tag no_tag no_tag

-- a reqp of whose lock and source this is true; the same for the other four
unfoldable pub reqp_that : (Tag → Bool) → Car → Bool
reqp_that asked = by_car false false false asked no_tag no_tag no_tag no_tag

unfoldable pub failp_that : (Tag → Bool) → Car → Bool
failp_that asked = by_car false false false no_tag asked no_tag no_tag no_tag

unfoldable pub dov_that : (Tag → Bool) → Car → Bool
dov_that asked = by_car false false false no_tag no_tag asked no_tag no_tag

unfoldable pub gotp_that : (Tag → Bool) → Car → Bool
gotp_that asked = by_car false false false no_tag no_tag no_tag asked no_tag

unfoldable pub didv_that : (Tag → Bool) → Car → Bool
didv_that asked = by_car false false false no_tag no_tag no_tag no_tag asked
