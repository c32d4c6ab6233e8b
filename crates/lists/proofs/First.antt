-- Laws of `first_not`: which place it is, what holds of the places up to it, and the loop that finds it.
use Prim.Native.Nat.{ℕ, zero, suc, ◌+◌, ◌≤◌, ◌<◌}
use mathlib.Core.Path.{◌≡◌, refl, sym, ap, ◌∙◌}
use mathlib.Core.Bool.{Bool, true, false, cond, not, ◌&&◌, true≢false}
use mathlib.Core.Logic.{⊎_elim}
use native.Mathlib.Nat.{eq-or-lt_of_le}
use native.Mathlib.Omega.{arith}
use lib.Dec.{ltb}
use borrow.Author.Tests.{lt-ltb, le-ltb}
use Rattle.lists.specs.Loops.{every, first_not}
use Rattle.lists.proofs.Laws.{every-at, every_each, every-not}

-- one place more, by what holds of those before it and of itself
first_all : (f : ℕ → Bool) (n : ℕ) → every f n ≡ true → f n ≡ true → first_not f (suc n) ≡ suc n
unfolding first_not
first_all f n e h = rw (e, h)

first_here : (f : ℕ → Bool) (n : ℕ) → every f n ≡ true → f n ≡ false → first_not f (suc n) ≡ n
unfolding first_not
first_here f n e h = rw (e, h)

first_before : (f : ℕ → Bool) (n : ℕ) → every f n ≡ false → first_not f (suc n) ≡ first_not f n
unfolding first_not
first_before f n e = rw e

-- a place of which it does not hold, or n, where it holds of each before it, is the first
pub first_is : (f : ℕ → Bool) (n k : ℕ) → k ≤ n → ((j : ℕ) → j < k → f j ≡ true) → (k < n → f k ≡ false) → first_not f n ≡ k
unfolding first_not
first_is f zero k h holds fails = omega arith
first_is f (suc n) k h holds fails =
    ⊎_elim
    (λ e. first_all f n (every_each f n (λ j l. holds j (omega arith))) (holds n (omega arith)) ∙ sym e)
    (λ l. ⊎_elim
    (λ e. first_here f n (every_each f n (λ j l'. holds j (omega arith))) (ap f (sym e) ∙ fails (omega arith)) ∙ sym e)
    (λ l'. first_before f n (every-not f n k l' (fails (omega arith))) ∙ first_is f n k (omega arith) holds (λ l''. fails (omega arith)))
    (eq-or-lt_of_le (omega arith)))
    (eq-or-lt_of_le h)

-- where it holds of each, it is n
pub first_none : (f : ℕ → Bool) (n : ℕ) → every f n ≡ true → first_not f n ≡ n
first_none f n e = first_is f n n (omega arith) (λ j l. every-at f n j e l) (λ l. absurd (omega arith))

-- where it does not, it is a place below n of which it does not hold, and it holds of each before it
pub record FirstAt (f : ℕ → Bool) (n k : ℕ) : Type 0 where
  pub below : k < n
  pub fails : f k ≡ false
  pub before : every f k ≡ true

pub first-at : (f : ℕ → Bool) (n : ℕ) → every f n ≡ false → FirstAt f n (first_not f n)
unfolding every first_not
first-at f zero e = absurd (true≢false e)
first-at f (suc n) e = go (every f n) (f n) refl refl e (λ t. first-at f n t)
  where
    go : (all here : Bool) → every f n ≡ all → f n ≡ here → (all && here) ≡ false → (all ≡ false → FirstAt f n (first_not f n))
        → FirstAt f (suc n) (cond all (cond here (suc n) n) (first_not f n))
    go true true a h t on = absurd (true≢false t)
    go true false a h t on = record { below = omega arith; fails = h; before = a }
    go false here a h t on = let x = on refl in record { below = omega (arith, x.below); fails = x.fails; before = x.before }

-- so it is below n exactly where it does not hold of each
pub first_below : (f : ℕ → Bool) (n : ℕ) → ltb (first_not f n) n ≡ not (every f n)
first_below f n = go (every f n) refl
  where
    go : (all : Bool) → every f n ≡ all → ltb (first_not f n) n ≡ not all
    go true e = le-ltb (first_not f n) n (omega (arith, first_none f n e))
    go false e = lt-ltb _ _ (first-at f n e).below

-- a loop over the places in order, after i of them: `first` is n, or the place that was found and ends the loop
pub record Looked (f : ℕ → Bool) (n i first : ℕ) : Type 0 where
  pub within : first ≤ n
  pub right : (k : ℕ) → k < i → k < first → f k ≡ true
  pub wrong : first < n → f first ≡ false

pub looked_none : (f : ℕ → Bool) (n : ℕ) → Looked f n 0 n
looked_none f n = record { within = omega arith; right = λ k l m. absurd (omega arith); wrong = λ l. absurd (omega arith) }

pub looked_right : (f : ℕ → Bool) (n i first : ℕ) → Looked f n i first → f i ≡ true → Looked f n (i + 1) first
looked_right f n i first looked e =
    record {
      within = looked.within;
      right = λ k l m. ⊎_elim (λ same. ap f same ∙ e) (λ below. looked.right k below m) (eq-or-lt_of_le (omega arith));
      wrong = looked.wrong;
    }

pub looked_wrong : (f : ℕ → Bool) (n i first : ℕ) → Looked f n i first → i < first → f i ≡ false → Looked f n (i + 1) i
looked_wrong f n i first looked before e =
    record { within = omega (arith, looked.within); right = λ k l m. looked.right k m (omega arith); wrong = λ l. e }

pub looked_done : (f : ℕ → Bool) (n i first : ℕ) → Looked f n i first → first ≤ i → first_not f n ≡ first
looked_done f n i first looked done = first_is f n first looked.within (λ k l. looked.right k (omega arith) l) looked.wrong
