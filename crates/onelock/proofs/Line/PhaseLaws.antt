-- Laws of the train's shape: how the phases of a line before a step are those after it, sender by sender.
use mathlib.Core.Path.{◌≡◌, refl, sym}
use mathlib.Core.Bool.{Bool, true, false, true≢false}
use Rattle.onelock.proofs.Line.Phases.{Phase, before, inside, after, Kind, token, gap, car, One, passed, last, alone, more, head, coming, shade}
use Rattle.onelock.proofs.Line.Phases.{Come, come_after, come_inside}

-- the phase at a place after the step beside the one before it: the same, or the train has grown by the sender upstream of it
pub data Rel : Phase → Phase → Kind → Type 0 where
  same : {p : Phase} {k : Kind} → Rel p p k
  grown_car : Rel inside after car
  grown_token : Rel inside after token

-- what a user node sends for an arrival, by its flag before, and the flag after
pub data New : Kind → Bool → Kind → Bool → Type 0 where
  n_gap : {f : Bool} → New gap f gap false
  n_token : {f : Bool} → New token f token true
  n_car : {f : Bool} → New car f car f
  n_grow : New gap true car true

-- a sender after the step, and the phase behind it beside what that was
pub record Onward (w : Bool) (p' : Phase) (k : Kind) (f : Bool) (q : Phase) (ku : Kind) : Type 0 where
  pub phase : Phase
  pub one : One w p' k f phase
  pub rel : Rel phase q ku

-- a user node after the step, by the car that comes to it, what it sent before and what it sends
pub onward : {w fa fu fn : Bool} {p' p q o : Phase} {ka ku kn : Kind} → Rel p' p ka → One w p ka fa q → One w q ku fu o → New ka fu kn fn
    → Onward w p' kn fn q ku
onward same passed passed n_gap = record { phase = after; one = passed; rel = same }
onward same passed last n_gap = record { phase = after; one = passed; rel = same }
onward same passed last n_grow = record { phase = inside; one = last; rel = grown_car }
onward same passed alone n_gap = record { phase = after; one = passed; rel = same }
onward same passed alone n_grow = record { phase = inside; one = last; rel = grown_token }
onward same last more n_car = record { phase = inside; one = last; rel = same }
onward same last head n_car = record { phase = inside; one = last; rel = same }
onward same alone coming n_token = record { phase = before; one = alone; rel = same }
onward same alone (shade s) n_token = record { phase = before; one = alone; rel = same }
onward same more more n_car = record { phase = inside; one = more; rel = same }
onward same more head n_car = record { phase = inside; one = more; rel = same }
onward same head coming n_token = record { phase = before; one = head; rel = same }
onward same head (shade s) n_token = record { phase = before; one = head; rel = same }
onward same coming coming n_gap = record { phase = before; one = coming; rel = same }
onward same coming (shade s) n_gap = record { phase = before; one = coming; rel = same }
onward same (shade s) coming n_car = record { phase = before; one = shade s; rel = same }
onward same (shade s) (shade t) n_car = record { phase = before; one = shade s; rel = same }
onward grown_car last more n_car = record { phase = inside; one = more; rel = same }
onward grown_car last head n_car = record { phase = inside; one = more; rel = same }
onward grown_token alone coming n_token = record { phase = before; one = head; rel = same }
onward grown_token alone (shade s) n_token = record { phase = before; one = head; rel = same }

-- a sender that only hands on the car that comes stands between the same phases
pub carry : {w f : Bool} {p' p q : Phase} {k : Kind} → Rel p' p k → One w p k f q → One w p' k f q
carry same one = one
carry grown_car last = more
carry grown_token alone = head

-- where the place is not before the train, no shadow is needed
pub no_shadow : {w f : Bool} {p q : Phase} {k : Kind} → Come q → One w p k f q → One false p k f q
no_shadow n passed = passed
no_shadow n last = last
no_shadow n alone = absurd (n refl)
no_shadow n more = more
no_shadow n head = absurd (n refl)
no_shadow n coming = absurd (n refl)
no_shadow n (shade s) = absurd (n refl)

-- shadows may be allowed
pub allow : {f : Bool} {p q : Phase} {k : Kind} (w : Bool) → One false p k f q → One w p k f q
allow w passed = passed
allow w last = last
allow w alone = alone
allow w more = more
allow w head = head
allow w coming = coming
allow w (shade s) = absurd (true≢false (sym s))

-- a car is no gap
pub car_real : {k : Kind} → k ≡ car → k ≡ gap → ⊥
car_real e z = true≢false (cc)

-- the token is no gap
pub token_real : {k : Kind} → k ≡ token → k ≡ gap → ⊥
token_real e z = true≢false (cc)

-- before the train, flags are clear and the train is still to come downstream too
pub record Off (flag : Bool) (q : Phase) : Type 0 where
  pub clear : flag ≡ false
  pub phase : q ≡ before

-- so it is at every sender before the train
pub off : {w f : Bool} {p q : Phase} {k : Kind} → One w p k f q → p ≡ before → Off f q
off passed e = absurd (come_after e)
off last e = absurd (come_after e)
off alone e = absurd (come_after e)
off more e = absurd (come_inside e)
off head e = absurd (come_inside e)
off coming e = record { clear = refl; phase = refl }
off (shade s) e = record { clear = refl; phase = refl }

-- what is before the train after the step was before it
pub rel_before : {p' p : Phase} {ka : Kind} → Rel p' p ka → p' ≡ before → p ≡ before
rel_before same b = b
rel_before grown_car b = cc
rel_before grown_token b = cc
