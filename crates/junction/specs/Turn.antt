-- 01, "Junction outside a local tour" and "Junction in a local tour": which of their sentences applies to a junction
-- (Rules, of crate tours), and what each does. A junction that stands on another's subring is an inner one: it may meet the shadows of cars, and
-- its train flag tells them from the cars of a train. For an inner junction "the main ring" is the ring on which it stands.
use Rattle.std.specs.Prelude.{ℕ, Bool, true, false, cond, not, ◌&&◌}
use Rattle.words.specs.Words.{with_lock, without_lock}
use Rattle.cars.specs.Cars.{flag_after}
use Rattle.cars.specs.declared.Car.{Car}
use Rattle.cars.specs.declared.Car.TheVariants.{Idle, Token, Null, Reqp, Failp, Dov, Gotp, Didv}
use Rattle.tours.specs.declared.JunctionRule.{JunctionRule}
use Rattle.tours.specs.declared.JunctionRule.TheVariants.{GoesOn, FailsReqp, Begins, Drops, TokenOut, CarOut, SetsBit, ClearsBit, Ends}
use Rattle.tours.specs.Rules.{outside, in_tour}
use Rattle.tours.specs.Sentences.{outside_sentence, tour_sentence}
use Rattle.junction.specs.declared.Junction.{Junction}

-- the locks for which it fails a reqp: an inner junction fails none for a car that is on no train
unfoldable pub failing : Bool → Junction → ℕ
failing inner junction = cond (inner && not junction.train) 0 junction.word

-- by whether it is an inner junction, the subring's nodes, whether one of them wants a train, the arrival on the main side and the car out of the
-- subring
unfoldable pub junction_rule : Bool → ℕ → ℕ → Bool → Car → Car → Junction → JunctionRule
junction_rule inner low high wants arrival out junction =
    cond junction.tour (in_tour junction.train low high out) (outside (failing inner junction) wants arrival)

-- the number of the sentence that applies
unfoldable pub junction_sentence : Bool → ℕ → ℕ → Bool → Car → Car → Junction → ℕ
junction_sentence inner low high wants arrival out junction =
    cond junction.tour (tour_sentence junction.train low high out) (outside_sentence (failing inner junction) wants arrival)

-- "the arrival as it came goes to the subring as shadow, idle standing for a token"
unfoldable pub shadow : Car → Car
shadow Idle = Idle
shadow Token = Idle
shadow Null = Null
shadow (Reqp tag) = Reqp tag
shadow (Failp tag) = Failp tag
shadow (Dov tag) = Dov tag
shadow (Gotp notice) = Gotp notice
shadow (Didv notice) = Didv notice

-- the car to the main ring, the car to the subring, the train flag, the tour flag, the word
unfoldable pub joins : Car → Car → Bool → Bool → ℕ → Junction
joins main subring train tour word = record { main = main; subring = subring; train = train; tour = tour; word = word }

-- one sentence a line: the arrival on the main side, the car out of the subring, the junction before
unfoldable pub junction_apply : Car → Car → Junction → JunctionRule → Junction
junction_apply arrival out j GoesOn = joins arrival (shadow arrival) j.train j.tour j.word
junction_apply arrival out j (FailsReqp tag) = joins (Failp tag) arrival j.train j.tour j.word
junction_apply arrival out j Begins = joins Idle Token j.train true j.word
junction_apply arrival out j Drops = joins Idle arrival j.train j.tour j.word
junction_apply arrival out j TokenOut = joins Token arrival true j.tour j.word
junction_apply arrival out j CarOut = joins out arrival j.train j.tour j.word
junction_apply arrival out j (SetsBit lock) = joins out arrival j.train j.tour (with_lock j.word lock)
junction_apply arrival out j (ClearsBit lock) = joins out arrival j.train j.tour (without_lock j.word lock)
junction_apply arrival out j Ends = joins Idle arrival false false j.word

-- an inner junction's train flag: set by sending a token along the ring on which it stands, cleared by sending idle there, else kept; in a tour and
-- outside one. `old` is the flag before the turn, `new` the flag that the sentence leaves
unfoldable pub train_after : Bool → Car → Bool → Bool → Bool
train_after inner main old new = cond inner (flag_after main old) new

-- a junction with its train flag so
unfoldable pub trained : Bool → Bool → Junction → Junction
trained inner old j = joins j.main j.subring (train_after inner j.main old j.train) j.tour j.word

-- a junction's turn in a step
unfoldable pub junction_turn : Bool → ℕ → ℕ → Bool → Car → Car → Junction → Junction
junction_turn inner low high wants arrival out junction =
    trained inner junction.train (junction_apply arrival out junction (junction_rule inner low high wants arrival out junction))
