-- What each number stands for, and that each leg's place is within bounds.
use Prim.Native.Nat.{ℕ, ◌+◌, ◌-◌, ◌<◌}
use mathlib.Core.Path.{◌≡◌, refl}
use mathlib.Core.Bool.{Bool, true, false, cond}
use native.Mathlib.Omega.{arith}
use borrow.Author.Tests.{lt-ltb, le-ltb, ltb-true, ltb-false}
use lib.Dec.{ltb}
use Rattle.std.specs.Prelude.{Option, Some, None}
use Rattle.route.specs.declared.Leg.{Leg}
use Rattle.route.specs.declared.Leg.TheVariants.{At, Into, Out}
use Rattle.route.specs.Route.{into_number, out_number, leg_of}

pub leg_node : (place : ℕ) → place < 64 → leg_of place ≡ Some (At place)
unfolding leg_of
leg_node place h = simp (lt-ltb place 64 h)

pub leg_into : (place : ℕ) → place < 144 → leg_of (into_number place) ≡ Some (Into place)
unfolding leg_of into_number
leg_into place h =
    let e : 64 + place - 64 ≡ place = omega arith in
    simp (le-ltb (64 + place) 64 (omega arith), lt-ltb (64 + place) 208 (omega arith), e)

pub leg_out : (inner : Bool) (place : ℕ) → place < 144 → leg_of (out_number inner place) ≡ Some (Out inner place)
unfolding leg_of out_number
leg_out true place h =
    let e : 352 + place - 352 ≡ place = omega arith in
    simp (le-ltb (352 + place) 64 (omega arith), le-ltb (352 + place) 208 (omega arith), le-ltb (352 + place) 352 (omega arith), lt-ltb (352 + place) 496 (omega arith), e)
leg_out false place h =
    let e : 208 + place - 208 ≡ place = omega arith in
    simp (le-ltb (208 + place) 64 (omega arith), le-ltb (208 + place) 208 (omega arith), lt-ltb (208 + place) 352 (omega arith), e)

-- a leg with its place within bounds: 64 user nodes, 144 junctions
pub data There : Option Leg → Type 0 where
  nowhere : There None
  at_node_lem : (place : ℕ) → place < 64 → There (Some (At place))
  into : (place : ℕ) → place < 144 → There (Some (Into place))
  out : (inner : Bool) (place : ℕ) → place < 144 → There (Some (Out inner place))

pub leg_there : (number : ℕ) → There (leg_of number)
unfolding leg_of
leg_there number = first (ltb number 64) (ltb number 208) (ltb number 352) (ltb number 496) refl refl refl refl
  where
    first : (a b c d : Bool) → ltb number 64 ≡ a → ltb number 208 ≡ b → ltb number 352 ≡ c → ltb number 496 ≡ d
        → There (cond a (Some (At number)) (cond b (Some (Into (number - 64))) (cond c (Some (Out false (number - 208))) (cond d (Some (Out true (number - 352))) None))))
    first true b c d ea eb ec ed = at_node_lem number (ltb-true number 64 ea)
    first false true c d ea eb ec ed =
        let l = ltb-true number 208 eb in
        into (number - 64) (omega (arith, l, ltb-false number 64 ea))
    first false false true d ea eb ec ed =
        let l = ltb-true number 352 ec in
        out false (number - 208) (omega (arith, l, ltb-false number 208 eb))
    first false false false true ea eb ec ed =
        let l = ltb-true number 496 ed in
        out true (number - 352) (omega (arith, l, ltb-false number 352 ec))
    first false false false false ea eb ec ed = nowhere

-- the same by the leg that a number is told to stand for
at_place : {place : ℕ} → There (Some (At place)) → place < 64
at_place (at_node_lem place h) = h

into_place : {place : ℕ} → There (Some (Into place)) → place < 144
into_place (into place h) = h

out_place : {inner : Bool} {place : ℕ} → There (Some (Out inner place)) → place < 144
out_place (out inner place h) = h

pub node_bound : (number place : ℕ) → leg_of number ≡ Some (At place) → place < 64
node_bound number place e = at_place (rw e at (leg_there number))

pub into_bound : (number place : ℕ) → leg_of number ≡ Some (Into place) → place < 144
into_bound number place e = into_place (rw e at (leg_there number))

pub out_bound : (number : ℕ) (inner : Bool) (place : ℕ) → leg_of number ≡ Some (Out inner place) → place < 144
out_bound number inner place e = out_place (rw e at (leg_there number))
