-- The shape of the train along a line, upstream to downstream: idle, then the train's cars, then the token, then idle. A phase says
-- where a place is: the train has passed it (after), is passing (inside), or is still to come (before).
use mathlib.Core.Path.{◌≡◌}
use mathlib.Core.Bool.{Bool, true, false, true≢false}
use Rattle.cars.specs.declared.Car.{Car}
use Rattle.cars.specs.declared.Car.TheVariants.{Idle, Token, Null, Reqp, Failp, Dov, Gotp, Didv}

-- where the train is, seen from a place
pub data Phase : Type 0 where
  before : Phase
  inside : Phase
  after : Phase

-- the train has come to a place: it is passing, or has passed
abbrev pub Come : Phase → Type 0
Come p = p ≡ before → ⊥

-- where the train is passing, it has come
pub come_inside : Come inside
come_inside e = true≢false (cc)

-- where it has passed, it has come
pub come_after : Come after
come_after e = true≢false (cc)

-- what kind of car is sent: the token, nothing (idle), or any other car
pub data Kind : Type 0 where
  token : Kind
  gap : Kind
  car : Kind

-- a car's kind
abbrev pub kind : Car → Kind
kind Idle = gap
kind Token = token
kind Null = car
kind (Reqp tag) = car
kind (Failp tag) = car
kind (Dov tag) = car
kind (Gotp notice) = car
kind (Didv notice) = car

-- a sender between two phases, and whether what it sends belongs to the train; a car before the train is a shadow, where those are allowed
pub data One (shadows : Bool) : Phase → Kind → Bool → Phase → Type 0 where
  passed : One shadows after gap false after
  last : One shadows after car true inside
  alone : One shadows after token true before
  more : One shadows inside car true inside
  head : One shadows inside token true before
  coming : One shadows before gap false before
  shade : shadows ≡ true → One shadows before car false before
