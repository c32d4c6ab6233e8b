-- What is said of all places below a number: the definitions by which a loop is read.
use Rattle.std.specs.Prelude.{ℕ, zero, suc, ◌+◌, Bool, true, false, cond, ◌&&◌, ◌||◌}

-- it holds of each place below n
unfoldable pub every : (ℕ → Bool) → ℕ → Bool
every f zero = true
every f (suc n) = every f n && f n

-- it holds of some place below n
unfoldable pub some : (ℕ → Bool) → ℕ → Bool
some f zero = false
some f (suc n) = some f n || f n

-- the first place below n of which it does not hold: it holds of each before that; n where it holds of each below n
unfoldable pub first_not : (ℕ → Bool) → ℕ → ℕ
first_not f zero = zero
first_not f (suc n) = cond (every f n) (cond (f n) (suc n) n) (first_not f n)

-- the sum over the places below n
unfoldable pub total : (ℕ → ℕ) → ℕ → ℕ
total f zero = 0
total f (suc n) = total f n + f n

-- done n times
unfoldable pub iterate : {A : Type 0} → (A → A) → ℕ → A → A
iterate f zero a = a
iterate f (suc n) a = f (iterate f n a)

-- done at each place below n, in order
unfoldable pub in_order : {A : Type 0} → (ℕ → A → A) → ℕ → A → A
in_order f zero a = a
in_order f (suc n) a = f n (in_order f n a)
