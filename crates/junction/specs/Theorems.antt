-- What proofs/ proves over the definitions, as a sentence.
use Rattle.std.specs.Prelude.{ℕ, ◌≡◌, Bool, false, cond}
use Rattle.cars.specs.declared.Car.{Car}
use Rattle.tours.specs.Rules.{outside, in_tour}
use Rattle.junction.specs.declared.Junction.{Junction}
use Rattle.junction.specs.Turn.{junction_apply, junction_turn}

-- on the main ring a junction's turn is by 01's sentences alone, its word against every reqp, its train flag as they leave it: for every junction,
-- made-up ones too, and all cars
abbrev pub OnTheMainRing : Type 0
OnTheMainRing =
    (low high : ℕ) (wants : Bool) (arrival out : Car) (junction : Junction)
    → junction_turn false low high wants arrival out junction
    ≡ junction_apply arrival out junction
    (cond junction.tour (in_tour junction.train low high out) (outside junction.word wants arrival))
