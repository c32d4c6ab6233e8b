-- What proofs/ proves over the definitions, as a sentence.
use Rattle.std.specs.Prelude.{ℕ, ◌≡◌}
use Rattle.cars.specs.declared.Car.{Car}
use Rattle.usernode.specs.declared.Node.{Node}
use Rattle.usernode.specs.Rules.{rule}
use Rattle.usernode.specs.Numbers.{rule_number, first_that_fits}

-- the rule that the car that arrives leads to is the first of 01's nine that fits
abbrev pub FirstThatFits : Type 0
FirstThatFits = (node : Node) (me : ℕ) (arrival : Car) → rule_number (rule node me arrival) ≡ first_that_fits node me arrival
