-- What proofs/ proves over the definitions, as sentences.
use Rattle.std.specs.Prelude.{ℕ, ◌≡◌, Bool}
use Rattle.cars.specs.declared.Car.{Car}
use Rattle.tours.specs.Rules.{outside, in_tour}
use Rattle.tours.specs.Sentences.{sentence_number, outside_sentence, tour_sentence}

-- outside a tour the car that arrives leads to the sentence that applies
abbrev pub SentenceOutside : Type 0
SentenceOutside = (word : ℕ) (wants : Bool) (arrival : Car) → sentence_number (outside word wants arrival) ≡ outside_sentence word wants arrival

-- in a tour the car from the subring does
abbrev pub SentenceInTour : Type 0
SentenceInTour =
    (train : Bool) (low high : ℕ) (out : Car) → sentence_number (in_tour train low high out) ≡ tour_sentence train low high out
