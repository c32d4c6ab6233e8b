-- 01, "Zero node, with the car that arrives": the letter that each case has in 01, and (a), (b), (c) in 01's order, each by the words that
-- say when it applies. Rules.antt goes by the queue's head instead; that the two agree is a sentence of Theorems.antt.
use Rattle.std.specs.Prelude.{ℕ, Bool, cond, ◌&&◌, not, eqb, get_or}
use Rattle.cars.specs.declared.Car.{Car}
use Rattle.cars.specs.Kinds.{is_idle_car, is_token_car}
use Rattle.zeronode.specs.declared.ZeroNode.{ZeroNode}
use Rattle.zeronode.specs.declared.ZeroRule.{ZeroRule}
use Rattle.zeronode.specs.declared.ZeroRule.TheVariants.{SendsIdle, SendsToken, SendsHead}
use Rattle.zeronode.specs.Rules.{empty_slot}

-- the letter of a case, a, b or c, as a byte
unfoldable pub zero_letter : ZeroRule → ℕ
zero_letter SendsToken = 97
zero_letter (SendsHead head) = 98
zero_letter SendsIdle = 99

-- "Queue not empty"
unfoldable pub queued : ZeroNode → Bool
queued node = not (eqb node.count 0)

-- "Queue's head is the token"; "The queue's head is at place 0"
unfoldable pub head_is_token : ZeroNode → Bool
head_is_token node = queued node && is_token_car (get_or node.queue 0 empty_slot)

-- the first of the three that applies, in 01's order
unfoldable pub zero_letter_of : ZeroNode → Car → ℕ
zero_letter_of node arrival =
    -- (a) "Queue's head is the token and the arrival is idle"
    cond (head_is_token node && is_idle_car arrival) 97
    -- (b) "Queue not empty and head is not the token"
    (cond (queued node && not (head_is_token node)) 98
    -- (c) "Otherwise"
    99)
