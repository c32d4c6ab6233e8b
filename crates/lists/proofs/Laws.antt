-- Laws of the definitions in specs/Loops: none, one place more, what holds of each place, and where two of them are the same.
use Prim.Native.Nat.{ℕ, zero, suc, ◌+◌, ◌*◌, ◌≤◌, ◌<◌}
use mathlib.Core.Path.{◌≡◌, refl, ◌∙◌, ap, ap₂, sym}
use mathlib.Core.Bool.{Bool, true, false, ◌&&◌, ◌||◌, or-true, true≢false}
use native.Mathlib.Numerals.{add-one}
use mathlib.Core.Logic.{◌⊎◌, inl, inr, ⊎_elim}
use native.Mathlib.Nat.{not-suc-le-zero, eq-or-lt_of_le, mul-suc, mul-add}
use native.Mathlib.Omega.{arith}
use Rattle.lists.specs.Loops.{every, some, total, iterate, in_order}

-- both sides of a conjunction
pub and_left : (a b : Bool) → (a && b) ≡ true → a ≡ true
and_left true b e = refl
and_left false b e = e

pub and_right : (a b : Bool) → (a && b) ≡ true → b ≡ true
and_right true b e = e
and_right false b e = cc

pub every_none : (f : ℕ → Bool) → every f 0 ≡ true
unfolding every
every_none f = refl

pub every_more : (f : ℕ → Bool) (n : ℕ) → every f (n + 1) ≡ (every f n && f n)
unfolding every
every_more f n = rw add-one

pub some_none : (f : ℕ → Bool) → some f 0 ≡ false
unfolding some
some_none f = refl

pub some_more : (f : ℕ → Bool) (n : ℕ) → some f (n + 1) ≡ (some f n || f n)
unfolding some
some_more f n = rw add-one

pub total_none : (f : ℕ → ℕ) → total f 0 ≡ 0
unfolding total
total_none f = refl

pub total-more : (f : ℕ → ℕ) (n : ℕ) → total f (n + 1) ≡ total f n + f n
unfolding total
total-more f n = rw add-one

pub iterate_none : {A : Type 0} (f : A → A) (a : A) → iterate f 0 a ≡ a
unfolding iterate
iterate_none f a = refl

pub iterate-more : {A : Type 0} (f : A → A) (n : ℕ) (a : A) → iterate f (n + 1) a ≡ f (iterate f n a)
unfolding iterate
iterate-more f n a = rw add-one

pub in_order_none : {A : Type 0} (f : ℕ → A → A) (a : A) → in_order f 0 a ≡ a
unfolding in_order
in_order_none f a = refl

pub in_order-more : {A : Type 0} (f : ℕ → A → A) (n : ℕ) (a : A) → in_order f (n + 1) a ≡ f n (in_order f n a)
unfolding in_order
in_order-more f n a = rw add-one

-- what is done so many times, its first time first
pub iterate-first : {A : Type 0} (f : A → A) (n : ℕ) (a : A) → iterate f (suc n) a ≡ iterate f n (f a)
unfolding iterate
iterate-first f zero a = refl
iterate-first f (suc n) a = ap f (iterate-first f n a)

-- two things that do the same, done so many times, or at each place in order
pub iterate_same : {A : Type 0} (f g : A → A) → ((a : A) → f a ≡ g a) → (n : ℕ) (a : A) → iterate f n a ≡ iterate g n a
unfolding iterate
iterate_same f g e zero a = refl
iterate_same f g e (suc n) a = ap f (iterate_same f g e n a) ∙ e (iterate g n a)

pub in_order_same : {A : Type 0} (f g : ℕ → A → A) → ((k : ℕ) (a : A) → f k a ≡ g k a) → (n : ℕ) (a : A) → in_order f n a ≡ in_order g n a
unfolding in_order
in_order_same f g e zero a = refl
in_order_same f g e (suc n) a = ap (f n) (in_order_same f g e n a) ∙ e n (in_order g n a)

-- two tests that agree at each place below n
pub some_same : (f g : ℕ → Bool) (n : ℕ) → ((k : ℕ) → k < n → f k ≡ g k) → some f n ≡ some g n
unfolding some
some_same f g zero e = refl
some_same f g (suc n) e = ap₂ (λ (a b : Bool). a || b) (some_same f g n (λ k l. e k (omega arith))) (e n (omega arith))

pub every_same : (f g : ℕ → Bool) (n : ℕ) → ((k : ℕ) → k < n → f k ≡ g k) → every f n ≡ every g n
unfolding every
every_same f g zero e = refl
every_same f g (suc n) e = ap₂ (λ (a b : Bool). a && b) (every_same f g n (λ k l. e k (omega arith))) (e n (omega arith))

-- two sums with the same terms
pub total_same : (f g : ℕ → ℕ) (n : ℕ) → ((k : ℕ) → k < n → f k ≡ g k) → total f n ≡ total g n
unfolding total
total_same f g zero e = refl
total_same f g (suc n) e = ap₂ (λ (a b : ℕ). a + b) (total_same f g n (λ k l. e k (omega arith))) (e n (omega arith))

-- a place below n + 1 is below n, or n itself
last_or_below : {k n : ℕ} → k < suc n → (k < n) ⊎ (k ≡ n)
last_or_below h = ⊎_elim (λ e. inr e) (λ l. inl l) (eq-or-lt_of_le (omega arith))

-- what holds of each place holds of one
pub every-at : (f : ℕ → Bool) (n k : ℕ) → every f n ≡ true → k < n → f k ≡ true
unfolding every
every-at f zero k e h = absurd (not-suc-le-zero h)
every-at f (suc n) k e h =
    ⊎_elim (λ l. every-at f n k (and_left (every f n) (f n) e) l) (λ q. ap f q ∙ and_right (every f n) (f n) e) (last_or_below h)

-- what holds of each place below n is said by the test of all
pub every_each : (f : ℕ → Bool) (n : ℕ) → ((k : ℕ) → k < n → f k ≡ true) → every f n ≡ true
unfolding every
every_each f zero h = refl
every_each f (suc n) h = ap (λ (b : Bool). b && f n) (every_each f n (λ k l. h k (omega arith))) ∙ h n (omega arith)

-- one place of which it does not hold is enough
pub every-not : (f : ℕ → Bool) (n k : ℕ) → k < n → f k ≡ false → every f n ≡ false
every-not f n k h e = go (every f n) refl
  where
    go : (b : Bool) → every f n ≡ b → b ≡ false
    go true p = cc (every-at f n k p h)
    go false p = refl

-- one place of which it holds is enough
pub some_at : (f : ℕ → Bool) (n k : ℕ) → k < n → f k ≡ true → some f n ≡ true
unfolding some
some_at f zero k h e = absurd (not-suc-le-zero h)
some_at f (suc n) k h e =
    ⊎_elim (λ l. ap (λ (b : Bool). b || f n) (some_at f n k l e)) (λ q. ap (λ (b : Bool). some f n || b) (ap f (sym q) ∙ e) ∙ or-true (some f n)) (last_or_below h)

-- where it holds of some place, there is one
pub record Found (f : ℕ → Bool) (n : ℕ) : Type 0 where
  pub place : ℕ
  pub below : place < n
  pub holds : f place ≡ true

pub some_found : (f : ℕ → Bool) (n : ℕ) → some f n ≡ true → Found f n
unfolding some
some_found f zero e = absurd (true≢false (sym e))
some_found f (suc n) e = go (some f n) refl (λ t. some_found f n t)
  where
    go : (b : Bool) → some f n ≡ b → (b ≡ true → Found f n) → Found f (suc n)
    go true p on = let x = on refl in record { place = x.place; below = omega (arith, x.below); holds = x.holds }
    go false p on = record { place = n; below = omega arith; holds = rw p at e }

-- a sum of n terms, none of them over b
pub total_at_most : (f : ℕ → ℕ) (b n : ℕ) → ((k : ℕ) → k < n → f k ≤ b) → total f n ≤ b * n
unfolding total
total_at_most f b zero h = omega arith
total_at_most f b (suc n) h = omega (arith, mul-suc b n, total_at_most f b n (λ k l. h k (omega arith)), h n (omega arith))

-- a sum of terms, none of them over m times that of another sum
pub total-at_most-times : (f g : ℕ → ℕ) (m n : ℕ) → ((k : ℕ) → k < n → f k ≤ m * g k) → total f n ≤ m * total g n
unfolding total
total-at_most-times f g m zero h = omega arith
total-at_most-times f g m (suc n) h = omega (arith, mul-add m (total g n) (g n), total-at_most-times f g m n (λ k l. h k (omega arith)), h n (omega arith))

-- the sum over more places is no smaller
pub total_monotone : (f : ℕ → ℕ) (m n : ℕ) → m ≤ n → total f m ≤ total f n
unfolding total
total_monotone f m zero h = let e : m ≡ 0 = omega arith in rw e (omega arith)
total_monotone f m (suc n) h =
    ⊎_elim (λ e. rw e (omega arith)) (λ l. omega (arith, total_monotone f m n (omega arith))) (eq-or-lt_of_le h)

-- a term of a sum, with those before it, is in the sum
pub total-within : (f : ℕ → ℕ) (n k : ℕ) → k < n → total f k + f k ≤ total f n
total-within f n k below = omega (arith, total-more f k, total_monotone f (k + 1) n (omega arith))
