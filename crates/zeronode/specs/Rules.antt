-- 01, "Zero node, with the car that arrives": which of (a), (b), (c) applies, and which arrivals it appends.
use Rattle.std.specs.Prelude.{ℕ, Bool, true, false, cond, eqb, get_or, replicate}
use Rattle.cars.specs.declared.Car.{Car}
use Rattle.cars.specs.declared.Car.TheVariants.{Idle, Token, Null, Reqp, Failp, Dov, Gotp, Didv}
use Rattle.zeronode.specs.declared.ZeroNode.{ZeroNode}
use Rattle.zeronode.specs.declared.ZeroRule.{ZeroRule}
use Rattle.zeronode.specs.declared.ZeroRule.TheVariants.{SendsIdle, SendsToken, SendsHead}

-- "a queue of at most 65 cars"
abbrev pub queue_places : ℕ
queue_places = 65

-- a place that is not in use: "idle"
unfoldable pub empty_slot : Car
empty_slot = Idle

-- "At the start the zero node sends the token"; its queue is empty
abbrev pub zero_start : ZeroNode
zero_start = record { car = Token; queue = replicate queue_places empty_slot; count = 0 }

-- (a) "Queue's head is the token and the arrival is idle"; a token that has to wait: (c)
unfoldable pub on_token : Car → ZeroRule
on_token Idle = SendsToken
on_token Token = SendsIdle
on_token Null = SendsIdle
on_token (Reqp tag) = SendsIdle
on_token (Failp tag) = SendsIdle
on_token (Dov tag) = SendsIdle
on_token (Gotp notice) = SendsIdle
on_token (Didv notice) = SendsIdle

-- (b) "Queue not empty and head is not the token"
unfoldable pub on_head : Car → Car → ZeroRule
on_head Token arrival = on_token arrival
on_head Idle arrival = SendsHead Idle
on_head Null arrival = SendsHead Null
on_head (Reqp tag) arrival = SendsHead (Reqp tag)
on_head (Failp tag) arrival = SendsHead (Failp tag)
on_head (Dov tag) arrival = SendsHead (Dov tag)
on_head (Gotp notice) arrival = SendsHead (Gotp notice)
on_head (Didv notice) arrival = SendsHead (Didv notice)

-- "The queue's head is at place 0"; (c) "Otherwise send idle."
unfoldable pub zero_rule : ZeroNode → Car → ZeroRule
zero_rule node arrival = cond (eqb node.count 0) SendsIdle (on_head (get_or node.queue 0 empty_slot) arrival)

-- "Then append the arrival, unless it is idle, null, gotp or didv."
unfoldable pub keeps : Car → Bool
keeps Idle = false
keeps Token = true
keeps Null = false
keeps (Reqp tag) = true
keeps (Failp tag) = true
keeps (Dov tag) = true
keeps (Gotp notice) = false
keeps (Didv notice) = false
