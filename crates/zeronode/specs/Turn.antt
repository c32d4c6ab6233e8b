-- 01, "Zero node": what (a), (b), (c) and the appending do, and number 14.
use Rattle.std.specs.Prelude.{ℕ, ◌+◌, ◌-◌, Bool, cond, ◌&&◌, List, ◌∷◌, ◌++◌, ltb, leb, take, drop, set}
use Rattle.cars.specs.declared.Car.{Car}
use Rattle.cars.specs.declared.Car.TheVariants.{Idle, Token}
use Rattle.zeronode.specs.declared.ZeroNode.{ZeroNode}
use Rattle.zeronode.specs.declared.ZeroRule.{ZeroRule}
use Rattle.zeronode.specs.declared.ZeroRule.TheVariants.{SendsIdle, SendsToken, SendsHead}
use Rattle.zeronode.specs.Rules.{queue_places, empty_slot, zero_rule, keeps}

-- the head taken off: the cars behind it move up, "a place that the queue gives up becomes idle", and the places beyond the
-- count stay as they were
unfoldable pub shifted : List Car → ℕ → List Car
shifted queue count = take (count - 1) (drop 1 queue) ++ (empty_slot ∷ drop count queue)

-- this car is sent and the head taken off
unfoldable pub head_off : ZeroNode → Car → ZeroNode
head_off node car = record { car = car; queue = shifted node.queue node.count; count = node.count - 1 }

-- (c), (a), (b)
unfoldable pub sends : ZeroNode → ZeroRule → ZeroNode
sends node SendsIdle = record { car = Idle; queue = node.queue; count = node.count }
sends node SendsToken = head_off node Token
sends node (SendsHead head) = head_off node head

-- the arrival at the queue's end; a queue of 65 cars stays as it is (a step refuses that with 14)
unfoldable pub appended : ZeroNode → Car → ZeroNode
appended node arrival =
    cond (ltb node.count queue_places)
    (record { car = node.car; queue = set node.queue node.count arrival; count = node.count + 1 })
    node

-- "Then append the arrival, unless .."
unfoldable pub arrives : ZeroNode → Car → ZeroNode
arrives node arrival = cond (keeps arrival) (appended node arrival) node

-- the zero node's turn in a step; a count over 65 leaves it as it is (a step refuses that with 13)
unfoldable pub zero_turn : ZeroNode → Car → ZeroNode
zero_turn node arrival = cond (leb node.count queue_places) (arrives (sends node (zero_rule node arrival)) arrival) node

-- how many cars are left when the head has been sent
unfoldable pub count_left : ZeroNode → ZeroRule → ℕ
count_left node SendsIdle = node.count
count_left node SendsToken = node.count - 1
count_left node (SendsHead head) = node.count - 1

-- 14: "the queue would need a 66th place"
unfoldable pub overflows : ZeroNode → Car → Bool
overflows node arrival = keeps arrival && leb queue_places (count_left node (zero_rule node arrival))
