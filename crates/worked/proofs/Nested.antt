-- The runs in plans with junctions inside subrings hold of the definitions, by computation, as P1 to P12 do.
use Prim.Native.Nat.{ℕ}
use mathlib.Core.Path.{◌≡◌, refl}
use mathlib.Core.List.{map}
use Rattle.cars.specs.declared.Car.{Car}
use Rattle.worked.specs.Watch.{steps_on, leads_to, car_out}
use Rattle.worked.specs.Nested.{nested_plan, one_level, two_levels, three_levels, saved_plan, saved, nested_cases, CarCase, fails_real, shadow_plan, passes_shadow, fails_train, car_cases}
use Rattle.ring.proofs.Opened.{of_lists, of_words, of_cars, of_plan, of_usernode, of_zeronode, of_junction, of_ring}
use Rattle.worked.proofs.Worked.{of_watch, got, wanted}

-- the definitions of the runs, opened together
unfoldable of_nested : ℕ
unfolding steps_on leads_to car_out nested_plan one_level two_levels three_levels saved_plan saved nested_cases fails_real shadow_plan passes_shadow fails_train car_cases
of_nested = 0

-- what is seen of each run is what its case says
pub nested_worked : map got nested_cases ≡ map wanted nested_cases
unfolding of_lists of_words of_cars of_plan of_usernode of_zeronode of_junction of_ring of_watch of_nested
nested_worked = refl

-- the car that junction 2 sends where a run ends, and the car that the case has
abbrev sent : CarCase → Car
sent c = car_out c.plan c.moves 2

abbrev wanted_car : CarCase → Car
wanted_car c = c.car

-- a reqp whose lock is in the word becomes failp on a train, and goes on as it came on a shadow train
pub only_trains_failed : map sent car_cases ≡ map wanted_car car_cases
unfolding of_lists of_words of_cars of_plan of_usernode of_zeronode of_junction of_ring of_nested
only_trains_failed = refl
