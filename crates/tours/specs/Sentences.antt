-- 01, "Junction outside a local tour" and "Junction in a local tour": their sentences, numbered in 01's order (01 gives them no numbers), and
-- which of them applies, by the words that say when. Rules.antt goes by the car instead; that the two agree is said in Theorems.antt.
use Rattle.std.specs.Prelude.{ℕ, Bool, cond, ◌&&◌}
use Rattle.words.specs.Words.{has}
use Rattle.cars.specs.declared.Tag.{Tag}
use Rattle.cars.specs.declared.Car.{Car}
use Rattle.cars.specs.Kinds.{is_idle_car, is_token_car, reqp_that, gotp_that, didv_that}
use Rattle.tours.specs.declared.JunctionRule.{JunctionRule}
use Rattle.tours.specs.declared.JunctionRule.TheVariants.{GoesOn, FailsReqp, Begins, Drops, TokenOut, CarOut, SetsBit, ClearsBit, Ends}
use Rattle.tours.specs.Rules.{within}

-- the number of a sentence
unfoldable pub sentence_number : JunctionRule → ℕ
-- "If a token arrives on the main side and some node of its subring wants a train .., the tour begins"
sentence_number Begins = 1
-- "Otherwise the arrival goes on along the main ring"
sentence_number GoesOn = 2
-- "except that a reqp whose lock is in the word becomes failp"
sentence_number (FailsReqp tag) = 3
-- "a token sets the train flag and goes to the main ring"
sentence_number TokenOut = 4
-- "With the flag set, every car goes to the main ring"
sentence_number CarOut = 5
-- "a gotp .. from a node of this subring sets .. the word's bit"
sentence_number (SetsBit lock) = 6
-- "a .. didv from a node of this subring .. clears the word's bit"
sentence_number (ClearsBit lock) = 7
-- "idle clears train flag and tour flag"
sentence_number Ends = 8
-- "With the flag clear, a car other than token is dropped and idle is sent."
sentence_number Drops = 9

-- "from a node of this subring"
unfoldable pub from_subring : ℕ → ℕ → Tag → Bool
from_subring low high notice = within low high notice.source

-- outside a tour: an exception comes before what it is excepted from
unfoldable pub outside_sentence : ℕ → Bool → Car → ℕ
outside_sentence word wants arrival =
    -- "a token arrives on the main side and some node of its subring wants a train"
    cond (is_token_car arrival && wants) 1
    -- "except that a reqp whose lock is in the word"
    (cond (reqp_that (λ tag. has word tag.lock) arrival) 3
    -- "Otherwise"
    2)

-- in a tour, by the car from the subring: what is said of one car comes before what is said of every car
unfoldable pub tour_sentence : Bool → ℕ → ℕ → Car → ℕ
tour_sentence train low high out =
    -- "a token"
    cond (is_token_car out) 4
    -- "With the flag set, .. a gotp .. from a node of this subring"
    (cond (train && gotp_that (from_subring low high) out) 6
    -- ".. a .. didv from a node of this subring"
    (cond (train && didv_that (from_subring low high) out) 7
    -- ".. idle"
    (cond (train && is_idle_car out) 8
    -- ".. every car"
    (cond train 5
    -- "With the flag clear, a car other than token"
    9))))
