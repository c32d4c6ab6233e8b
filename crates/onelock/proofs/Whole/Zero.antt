-- The zero node's turn on its queue as a list of cars, and the queue's two parts: what it still has to send on this train, and behind it, where the
-- token is back, the token and the cars collected for the next one.
use Prim.Native.Nat.{ℕ}
use mathlib.Core.Path.{◌≡◌, refl, sym, ap}
use mathlib.Core.Bool.{Bool, true, false, cond, true≢false}
use mathlib.Core.List.{List, [], ◌∷◌, ◌++◌}
use Rattle.cars.specs.declared.Car.{Car}
use Rattle.cars.specs.declared.Car.TheVariants.{Idle, Token, Null, Reqp, Failp, Dov, Gotp, Didv}
use Rattle.zeronode.specs.Rules.{keeps}
use Rattle.onelock.proofs.Train.Cells.{Cell, cell, at, Bare}
use Rattle.onelock.proofs.Train.CarMoves.{AllKept}
use Rattle.onelock.proofs.Line.Phases.{Phase, before, inside, after, token, gap, car, kind, One, passed, last, alone, more, head, coming, shade, Come}

-- the car that the zero node sends where the token is the head of its queue, by the arrival: the token goes out only where idle comes
abbrev pub waiting : Car → Car
waiting Idle = Token
waiting Token = Idle
waiting Null = Idle
waiting (Reqp tag) = Idle
waiting (Failp tag) = Idle
waiting (Dov tag) = Idle
waiting (Gotp notice) = Idle
waiting (Didv notice) = Idle

-- the car that the zero node sends
abbrev pub sent_by : List Car → Car → Car
sent_by [] y = Idle
sent_by (Token ∷ cs) y = waiting y
sent_by (Idle ∷ cs) y = Idle
sent_by (Null ∷ cs) y = Null
sent_by (Reqp tag ∷ cs) y = Reqp tag
sent_by (Failp tag ∷ cs) y = Failp tag
sent_by (Dov tag ∷ cs) y = Dov tag
sent_by (Gotp notice ∷ cs) y = Gotp notice
sent_by (Didv notice ∷ cs) y = Didv notice

-- what is left of a queue with the token as its head: the token waits unless idle comes
abbrev pub held_up : Car → List Car → List Car
held_up Idle cs = cs
held_up Token cs = Token ∷ cs
held_up Null cs = Token ∷ cs
held_up (Reqp tag) cs = Token ∷ cs
held_up (Failp tag) cs = Token ∷ cs
held_up (Dov tag) cs = Token ∷ cs
held_up (Gotp notice) cs = Token ∷ cs
held_up (Didv notice) cs = Token ∷ cs

-- what is left of the queue
abbrev pub left_by : List Car → Car → List Car
left_by [] y = []
left_by (Token ∷ cs) y = held_up y cs
left_by (Idle ∷ cs) y = cs
left_by (Null ∷ cs) y = cs
left_by (Reqp tag ∷ cs) y = cs
left_by (Failp tag ∷ cs) y = cs
left_by (Dov tag ∷ cs) y = cs
left_by (Gotp notice ∷ cs) y = cs
left_by (Didv notice ∷ cs) y = cs

-- the arrival, if the zero node keeps it
abbrev pub kept : Car → List Car
kept y = cond (keeps y) (y ∷ []) []

-- the queue after the zero node's turn
abbrev pub queue_after : List Car → Car → List Car
queue_after queue y = left_by queue y ++ kept y

-- each is a car that the zero node keeps, and not the token: a request
abbrev pub Requests : List Car → Type 0
Requests [] = Unit
Requests (c ∷ cs) = (kind c ≡ car) × (keeps c ≡ true) × Requests cs

-- the phase at the zero node, by what it still has to send
abbrev pub start_phase : List Car → Phase
start_phase [] = after
start_phase (c ∷ cs) = inside

-- the queue's rear part, by the phase at the line's end
pub data Ends : Phase → List Car → Type 0 where
  token_out : Ends before []
  token_in : {o : Phase} {collected : List Car} → Come o → Requests collected → Ends o (Token ∷ collected)

-- the train has come to the zero node
pub start_there : (tail : List Car) → Come (start_phase tail)
start_there [] e = true≢false (cc)
start_there (c ∷ tail) e = true≢false (cc)

-- where it has nothing to send, nothing is there
pub start_bare : (tail : List Car) → start_phase tail ≡ after → Bare (at 0 tail)
start_bare [] e = tt
start_bare (c ∷ tail) e = absurd (true≢false (cc))

-- requests are cars that the zero node keeps
pub requests_kept : (cs : List Car) → Requests cs → AllKept cs
requests_kept [] x = tt
requests_kept (c ∷ cs) x = (x.1, requests_kept cs x.2)

-- one more car that it keeps is one more request
pub requests_more : (cs : List Car) (c : Car) → kind c ≡ car → keeps c ≡ true → Requests cs → Requests (cs ++ (c ∷ []))
requests_more [] c k e x = (k, e, tt)
requests_more (d ∷ cs) c k e x = (x.0, x.1, requests_more cs c k e x.2)

-- the queue's rear part is empty where the token was out
pub ends_out : {o : Phase} {rest : List Car} → Ends o rest → o ≡ before → rest ≡ []
ends_out token_out e = refl
ends_out (token_in n x) e = absurd (n e)

-- the rear part with the token stays as it is where a car comes that is not kept
pub ends_in : {p o : Phase} {rest : List Car} → Come p → Ends o rest → o ≡ inside → Ends p rest
ends_in n token_out e = absurd (true≢false (cc))
ends_in n (token_in m x) e = token_in n x

-- and has one request more where a request comes
pub ends_more : {p o : Phase} {rest : List Car} (c : Car) → kind c ≡ car → keeps c ≡ true → Come p → Ends o rest → o ≡ inside → Ends p (rest ++ (c ∷ []))
ends_more c k e n token_out i = absurd (true≢false (cc))
ends_more c k e n (token_in {collected = cs} m x) i = token_in n (requests_more cs c k e x)

-- a rear part that is not empty begins with the token
pub ends_first : {o : Phase} {c : Car} {rest : List Car} → Ends o (c ∷ rest) → c ≡ Token
ends_first (token_in n x) = refl

-- where the token is back, the train is not still to come
pub ends_back : {o : Phase} {collected : List Car} → Ends o (Token ∷ collected) → Come o × Requests collected
ends_back (token_in n x) = (n, x)

-- the token goes out before what is still to be sent
pub token_sent : (tail : List Car) → One false (start_phase tail) token true before
token_sent [] = alone
token_sent (c ∷ tail) = head

-- a request goes out before what is still to be sent
pub request_sent : (tail : List Car) → One false (start_phase tail) car true inside
request_sent [] = last
request_sent (c ∷ tail) = more

-- one more car behind cars at one place
pub at_more : (p : ℕ) (cs : List Car) (c : Car) (R : List Cell) → at p (cs ++ (c ∷ [])) ++ R ≡ at p cs ++ (cell p c ∷ R)
at_more p [] c R = refl
at_more p (d ∷ cs) c R = ap (λ (t : List Cell). cell p d ∷ t) (at_more p cs c R)

-- where a car of the train is the first of the zero node's queue, it is sent, and the others are left
pub first_out : (c : Car) (cs : List Car) (y : Car) → kind c ≡ car → (sent_by (c ∷ cs) y ≡ c) × (left_by (c ∷ cs) y ≡ cs)
first_out Idle cs y e = (refl, refl)
first_out Token cs y e = absurd (true≢false (cc))
first_out Null cs y e = (refl, refl)
first_out (Reqp t) cs y e = (refl, refl)
first_out (Failp t) cs y e = (refl, refl)
first_out (Dov t) cs y e = (refl, refl)
first_out (Gotp t) cs y e = (refl, refl)
first_out (Didv t) cs y e = (refl, refl)

-- the phases at the line's end, where the token comes from there
pub came_token : {p o : Phase} {f : Bool} → One false p token f o → Come p × (o ≡ before)
came_token alone = (λ e. true≢false (cc), refl)
came_token head = (λ e. true≢false (cc), refl)

-- the phases at the line's end, where a car of the train comes
pub came_car : {p o : Phase} {f : Bool} → One false p car f o → Come p × (o ≡ inside)
came_car last = (λ e. true≢false (cc), refl)
came_car more = (λ e. true≢false (cc), refl)
came_car (shade s) = absurd (true≢false (sym s))

-- the phases at the line's end, where idle comes
pub came_gap : {p o : Phase} {f : Bool} → One false p gap f o → p ≡ o
came_gap passed = refl
came_gap coming = refl

-- the phase at the line's end, where idle comes behind the train
pub came_quiet : {p o : Phase} {f : Bool} → One false p gap f o → Come o → p ≡ after
came_quiet passed n = refl
came_quiet coming n = absurd (n refl)
