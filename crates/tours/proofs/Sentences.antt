-- The car leads to the sentence of 01 that applies, outside a tour and in one. By the car, and then by the tests that are left.
use Prim.Native.Nat.{ℕ}
use mathlib.Core.Path.{◌≡◌, refl, sym}
use mathlib.Core.Bool.{Bool, true, false, cond}
use Rattle.words.specs.Words.{has}
use Rattle.cars.specs.declared.Tag.{Tag}
use Rattle.cars.specs.declared.Car.{Car}
use Rattle.cars.specs.declared.Car.TheVariants.{Idle, Token, Null, Reqp, Failp, Dov, Gotp, Didv}
use Rattle.cars.specs.Kinds.{is_idle_car, is_token_car, reqp_that, gotp_that, didv_that}
use Rattle.tours.specs.declared.JunctionRule.TheVariants.{GoesOn, FailsReqp, Begins, CarOut, SetsBit, ClearsBit}
use Rattle.tours.specs.Rules.{within, outside, if_train, on_gotp, on_didv, in_tour}
use Rattle.tours.specs.Sentences.{sentence_number, from_subring, outside_sentence, tour_sentence}
use Rattle.tours.specs.Theorems.{SentenceOutside, SentenceInTour}

token_sentence : (wants : Bool) → sentence_number (cond wants Begins GoesOn) ≡ cond wants 1 2
unfolding sentence_number
token_sentence true = refl
token_sentence false = refl

reqp_sentence : (in_word : Bool) (tag : Tag) → sentence_number (cond in_word (FailsReqp tag) GoesOn) ≡ cond in_word 3 2
unfolding sentence_number
reqp_sentence true tag = refl
reqp_sentence false tag = refl

pub sentence_outside : SentenceOutside
unfolding outside sentence_number outside_sentence is_token_car reqp_that
sentence_outside word wants Idle = refl
sentence_outside word wants Token = token_sentence wants
sentence_outside word wants Null = refl
sentence_outside word wants (Reqp tag) = reqp_sentence (has word tag.lock) tag
sentence_outside word wants (Failp tag) = refl
sentence_outside word wants (Dov tag) = refl
sentence_outside word wants (Gotp notice) = refl
sentence_outside word wants (Didv notice) = refl

gotp_sentence : (own : Bool) (lock : ℕ) → sentence_number (cond own (SetsBit lock) CarOut) ≡ cond own 6 5
unfolding sentence_number
gotp_sentence true lock = refl
gotp_sentence false lock = refl

didv_sentence : (own : Bool) (lock : ℕ) → sentence_number (cond own (ClearsBit lock) CarOut) ≡ cond own 7 5
unfolding sentence_number
didv_sentence true lock = refl
didv_sentence false lock = refl

-- with the flag clear
clear_sentence : (low high : ℕ) (out : Car) → sentence_number (in_tour false low high out) ≡ cond (is_token_car out) 4 9
unfolding in_tour if_train sentence_number is_token_car
clear_sentence low high Idle = refl
clear_sentence low high Token = refl
clear_sentence low high Null = refl
clear_sentence low high (Reqp tag) = refl
clear_sentence low high (Failp tag) = refl
clear_sentence low high (Dov tag) = refl
clear_sentence low high (Gotp notice) = refl
clear_sentence low high (Didv notice) = refl

pub sentence_in_tour : SentenceInTour
unfolding in_tour if_train on_gotp on_didv sentence_number tour_sentence from_subring is_token_car is_idle_car gotp_that didv_that
sentence_in_tour false low high out = clear_sentence low high out
sentence_in_tour true low high Idle = refl
sentence_in_tour true low high Token = refl
sentence_in_tour true low high Null = refl
sentence_in_tour true low high (Reqp tag) = refl
sentence_in_tour true low high (Failp tag) = refl
sentence_in_tour true low high (Dov tag) = refl
sentence_in_tour true low high (Gotp notice) = gotp_sentence (within low high notice.source) notice.lock
sentence_in_tour true low high (Didv notice) = didv_sentence (within low high notice.source) notice.lock

-- the same the other way round, for the promises of outside and in_tour
pub said_outside : (word : ℕ) (wants : Bool) (arrival : Car) → outside_sentence word wants arrival ≡ sentence_number (outside word wants arrival)
said_outside word wants arrival = sym (sentence_outside word wants arrival)

pub said_in_tour : (train : Bool) (low high : ℕ) (out : Car) → tour_sentence train low high out ≡ sentence_number (in_tour train low high out)
said_in_tour train low high out = sym (sentence_in_tour train low high out)
