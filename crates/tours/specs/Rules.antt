-- 01, "Junction outside a local tour" and "Junction in a local tour": which of their sentences applies. What each does is in crate junction.
use Rattle.std.specs.Prelude.{ℕ, Bool, cond, ◌&&◌, ltb, leb}
use Rattle.words.specs.Words.{has}
use Rattle.cars.specs.declared.Tag.{Tag}
use Rattle.cars.specs.declared.Car.{Car}
use Rattle.cars.specs.declared.Car.TheVariants.{Idle, Token, Null, Reqp, Failp, Dov, Gotp, Didv}
use Rattle.tours.specs.declared.JunctionRule.{JunctionRule}
use Rattle.tours.specs.declared.JunctionRule.TheVariants.{GoesOn, FailsReqp, Begins, Drops, TokenOut, CarOut, SetsBit, ClearsBit, Ends}

-- "a node of this subring": the subring's nodes are numbered from low + 1 to high
unfoldable pub within : ℕ → ℕ → ℕ → Bool
within low high node = ltb low node && leb node high

-- Outside a tour. "If a token arrives on the main side and some node of its subring wants a train .. the tour begins";
-- "Otherwise the arrival goes on along the main ring, except that a reqp whose lock is in the word becomes failp".
unfoldable pub outside : ℕ → Bool → Car → JunctionRule
outside word wants Idle = GoesOn
outside word wants Token = cond wants Begins GoesOn
outside word wants Null = GoesOn
outside word wants (Reqp tag) = cond (has word tag.lock) (FailsReqp tag) GoesOn
outside word wants (Failp tag) = GoesOn
outside word wants (Dov tag) = GoesOn
outside word wants (Gotp notice) = GoesOn
outside word wants (Didv notice) = GoesOn

-- "With the flag set, ..", "With the flag clear, a car other than token is dropped"
unfoldable pub if_train : Bool → JunctionRule → JunctionRule
if_train train rule = cond train rule Drops

-- "a gotp or didv from a node of this subring sets or clears the word's bit"; "every car goes to the main ring"
unfoldable pub on_gotp : ℕ → ℕ → Tag → JunctionRule
on_gotp low high notice = cond (within low high notice.source) (SetsBit notice.lock) CarOut

unfoldable pub on_didv : ℕ → ℕ → Tag → JunctionRule
on_didv low high notice = cond (within low high notice.source) (ClearsBit notice.lock) CarOut

-- In a tour, by the car from the subring. "a token sets the train flag"; "idle clears train flag and tour flag"
unfoldable pub in_tour : Bool → ℕ → ℕ → Car → JunctionRule
in_tour train low high Idle = if_train train Ends
in_tour train low high Token = TokenOut
in_tour train low high Null = if_train train CarOut
in_tour train low high (Reqp tag) = if_train train CarOut
in_tour train low high (Failp tag) = if_train train CarOut
in_tour train low high (Dov tag) = if_train train CarOut
in_tour train low high (Gotp notice) = if_train train (on_gotp low high notice)
in_tour train low high (Didv notice) = if_train train (on_didv low high notice)
