-- 01, number 13, of one junction: "a car .. naming a missing node or lock, a word with a bit of a missing lock, .. gotp or
-- didv under ring rules".
use Rattle.std.specs.Prelude.{ℕ, Bool, ◌&&◌}
use Rattle.cars.specs.Cars.{car_names}
use Rattle.words.specs.Words.{all_below}
use Rattle.junction.specs.declared.Junction.{Junction}

unfoldable pub junction_sound : ℕ → ℕ → ℕ → Junction → Bool
junction_sound rules nodes locks junction =
    car_names rules nodes locks junction.main
    && car_names rules nodes locks junction.subring
    && all_below junction.word locks
