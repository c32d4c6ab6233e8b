-- Small laws of tests and of numbers that several crates use.
use Prim.Native.Nat.{ℕ, ◌≤◌, ◌<◌}
use mathlib.Core.Path.{◌≡◌, refl, sym, subst}
use mathlib.Core.Bool.{Bool, true, false, cond, ◌&&◌, ◌||◌, true≢false}
use mathlib.Core.Logic.{◌⊎◌, inl, inr}
use lib.Dec.{eqb, leb}
use borrow.Author.Tests.{leb-true, leb-false, eqb-true, eqb-false}

-- what holds of a test's value, whichever it is, holds of the test
pub by_value : (P : Bool → Type 0) (test : Bool) → (test ≡ true → P true) → (test ≡ false → P false) → P test
by_value P true holds fails = holds refl
by_value P false holds fails = fails refl

-- what holds of both values of a choice, each under its test, holds of the choice
pub by_test : {A : Type 0} (P : A → Type 0) (test : Bool) {x y : A} → (test ≡ true → P x) → (test ≡ false → P y) → P (cond test x y)
by_test P true holds fails = holds refl
by_test P false holds fails = fails refl

-- what holds of one number, and of another where it is not the first, holds of the other
pub by_number : (P : ℕ → Type 0) (this other : ℕ) → P this → ((other ≡ this → ⊥) → P other) → P other
by_number P this other here there =
    by_value (λ b. P other) (eqb other this) (λ e. subst P (sym (eqb-true other this e)) here) (λ e. there (eqb-false other this e))

-- a number is at most another, or above it
pub at_most_or_above : (i h : ℕ) → (i ≤ h) ⊎ (h < i)
at_most_or_above i h = by_value (λ b. (i ≤ h) ⊎ (h < i)) (leb i h) (λ e. inl (leb-true i h e)) (λ e. inr (leb-false i h e))

-- two tests that hold, hold together
pub and_both : {a b : Bool} → a ≡ true → b ≡ true → (a && b) ≡ true
and_both {a = true} p q = q
and_both {a = false} p q = p

-- where neither of two tests holds, the first does not
pub or_left : (a b : Bool) → (a || b) ≡ false → a ≡ false
or_left true b e = e
or_left false b e = refl

-- where neither of two tests holds, the second does not
pub or_right : (a b : Bool) → (a || b) ≡ false → b ≡ false
or_right true b e = absurd (true≢false e)
or_right false b e = e

-- where one of two tests holds and not the second, the first does
pub or_first : (a b : Bool) → (a || b) ≡ true → b ≡ false → a ≡ true
or_first true b e n = refl
or_first false b e n = cc

-- where one of two tests holds and not the first, the second does
pub or_second : (a b : Bool) → (a || b) ≡ true → a ≡ false → b ≡ true
or_second true b e n = absurd (true≢false n)
or_second false b e n = e

-- where the first of two tests holds, one of them does
pub or_by_first : (a b : Bool) → a ≡ true → (a || b) ≡ true
or_by_first true b e = refl
or_by_first false b e = cc

-- where the second of two tests holds, one of them does
pub or_by_second : (a b : Bool) → b ≡ true → (a || b) ≡ true
or_by_second true b e = refl
or_by_second false b e = e
