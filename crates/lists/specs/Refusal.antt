-- How refusals are ordered: the first test that holds gives the number.
use Rattle.std.specs.Prelude.{ℕ, Bool, cond}

-- refused with this number where the test holds, else what comes later
unfoldable pub refused_if : Bool → ℕ → ℕ → ℕ
refused_if test number later = cond test number later
