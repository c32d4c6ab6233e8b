-- What proofs/ proves over the definitions, as a sentence.
use Rattle.std.specs.Prelude.{◌≡◌}
use Rattle.cars.specs.declared.Car.{Car}
use Rattle.zeronode.specs.declared.ZeroNode.{ZeroNode}
use Rattle.zeronode.specs.Rules.{zero_rule}
use Rattle.zeronode.specs.Letters.{zero_letter, zero_letter_of}

-- the case that the queue's head leads to is the first of (a), (b), (c) that applies
abbrev pub FirstThatApplies : Type 0
FirstThatApplies = (node : ZeroNode) (arrival : Car) → zero_letter (zero_rule node arrival) ≡ zero_letter_of node arrival
