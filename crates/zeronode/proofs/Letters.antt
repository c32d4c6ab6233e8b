-- The case that the queue's head leads to is the first of (a), (b), (c) that applies. By whether the queue is empty, its head, and the arrival.
use mathlib.Core.Path.{◌≡◌, refl, sym}
use mathlib.Core.Bool.{Bool, true, false, cond, ◌&&◌, not}
use lib.Dec.{eqb}
use lib.ListN.{get_or}
use Rattle.cars.specs.declared.Car.{Car}
use Rattle.cars.specs.declared.Car.TheVariants.{Idle, Token, Null, Reqp, Failp, Dov, Gotp, Didv}
use Rattle.cars.specs.Kinds.{is_idle_car, is_token_car}
use Rattle.zeronode.specs.declared.ZeroNode.{ZeroNode}
use Rattle.zeronode.specs.declared.ZeroRule.TheVariants.{SendsIdle}
use Rattle.zeronode.specs.Rules.{empty_slot, on_token, on_head, zero_rule}
use Rattle.zeronode.specs.Letters.{zero_letter, queued, head_is_token, zero_letter_of}
use Rattle.zeronode.specs.Theorems.{FirstThatApplies}

-- (a) or (c): the token is the head
token_applies : (arrival : Car) → zero_letter (on_token arrival) ≡ cond (is_idle_car arrival) 97 99
unfolding zero_letter on_token is_idle_car
token_applies Idle = refl
token_applies Token = refl
token_applies Null = refl
token_applies (Reqp tag) = refl
token_applies (Failp tag) = refl
token_applies (Dov tag) = refl
token_applies (Gotp notice) = refl
token_applies (Didv notice) = refl

-- (a), (b) or (c): the queue has a head
head_applies : (head arrival : Car)
    → zero_letter (on_head head arrival) ≡ cond (is_token_car head && is_idle_car arrival) 97 (cond (not (is_token_car head)) 98 99)
unfolding zero_letter on_head is_token_car
head_applies Idle arrival = refl
head_applies Token arrival = token_applies arrival
head_applies Null arrival = refl
head_applies (Reqp tag) arrival = refl
head_applies (Failp tag) arrival = refl
head_applies (Dov tag) arrival = refl
head_applies (Gotp notice) arrival = refl
head_applies (Didv notice) arrival = refl

queue_applies : (empty : Bool) (head arrival : Car)
    → zero_letter (cond empty SendsIdle (on_head head arrival))
    ≡ cond (not empty && is_token_car head && is_idle_car arrival) 97 (cond (not empty && not (not empty && is_token_car head)) 98 99)
unfolding zero_letter
queue_applies true head arrival = refl
queue_applies false head arrival = head_applies head arrival

pub first_that_applies : FirstThatApplies
unfolding zero_rule zero_letter_of head_is_token queued
first_that_applies node arrival = queue_applies (eqb node.count 0) (get_or node.queue 0 empty_slot) arrival

-- the same the other way round, for the promise of ZeroNode::rule
pub lettered : (node : ZeroNode) (arrival : Car) → zero_letter_of node arrival ≡ zero_letter (zero_rule node arrival)
lettered node arrival = sym (first_that_applies node arrival)
