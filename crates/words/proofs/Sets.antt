-- A word as a set of lock numbers, for proofs about words: what each operation does to `has`, bounds, equality by members, and the least member.
use Prim.Native.Nat.{ℕ, zero, suc, ◌/◌, ◌%◌, ◌^◌, ◌≤◌, ◌<◌}
use mathlib.Core.Path.{◌≡◌, refl, sym, ap, ap₂, ◌∙◌}
use mathlib.Core.Bool.{Bool, true, false, cond, not, ◌&&◌, ◌||◌, true≢false}
use native.Mathlib.Nat.{pow-suc, pow-succ', div-div-eq-div-mul, div-one, mul-mod_left, mul-div_cancel, div-lt_iff_lt-mul, lt_of_le_of_lt, lt_of_not-le}
use native.Mathlib.Omega.{arith}
use lib.Arith.{lt-one}
use lib.Bits.{bit_and, bit_or, bit_xor, or_shr, xor_shr, and_shr, or_mod, xor_mod, and_mod, or_lt, xor_lt, and_le_l}
use lib.Count.{count_trailing_zeros, under}
use lib.Dec.{eqb, ltb, lit<, eqb-zero-suc, eqb-suc-zero, eqb-suc-suc}
use lib.Pow.{pow-lt}
use borrow.Author.Tests.{lt-ltb, le-ltb, eqb-true, eqb-false}
use Rattle.words.specs.Words.{has, with_lock, without_lock, least}
use Rattle.words.specs.Theorems.{SameLocksSameWord, SetAddsOne, ClearTakesOne, TheLeastIsInIt, NoneBelowTheLeast}
use Rattle.words.proofs.Bits.{has_above}

-- what holds of both values of a choice holds of the choice
by_test : (P : ℕ → Type 0) (test : Bool) {x y : ℕ} → (test ≡ true → P x) → (test ≡ false → P y) → P (cond test x y)
by_test P true f g = f refl
by_test P false f g = g refl

-- no lock is in the empty word
pub has_none : (lock : ℕ) → has 0 lock ≡ false
has_none lock = has_above 0 0 lock (lit< tt) (omega arith)

-- a word below 2 ^ locks has only locks below `locks`
pub has_in : (locks word lock : ℕ) → word < 2 ^ locks → has word lock ≡ true → lock < locks
has_in locks word lock fits e = lt_of_not-le (λ above. true≢false (sym e ∙ has_above locks word lock fits above))

-- lock n + 1 of a word is lock n of its half
has_suc : (word lock : ℕ) → has word (suc lock) ≡ has (word / 2) lock
unfolding has
has_suc word lock = rw (pow-succ', ← div-div-eq-div-mul)

-- half of a word of n + 1 digits has n digits
half_fits : (n word : ℕ) → word < 2 ^ suc n → word / 2 < 2 ^ n
half_fits n word fits = (div-lt_iff_lt-mul (lit< tt)).1 (rw pow-suc at fits)

-- the digit at a lock is 1 where the lock is in the word, and else 0
digit_at : (word lock : ℕ) → word / 2 ^ lock % 2 ≡ cond (has word lock) 1 0
unfolding has
digit_at word lock = by_test (λ d. word / 2 ^ lock % 2 ≡ d) (has word lock) (eqb-true _ 1) (λ e. omega (arith, eqb-false (word / 2 ^ lock % 2) 1 e))

-- the same of the lowest digit
low_digit : (word : ℕ) → word % 2 ≡ cond (has word 0) 1 0
low_digit word = rw div-one at (digit_at word 0)

-- 2 ^ lock has that one lock
has_power : (lock other : ℕ) → has (2 ^ lock) other ≡ eqb other lock
unfolding has
has_power zero zero = refl
has_power zero (suc other) = has_suc 1 other ∙ has_none other ∙ sym (eqb-suc-zero other)
has_power (suc lock) zero = rw (div-one, pow-suc, mul-mod_left, eqb-zero-suc lock)
has_power (suc lock) (suc other) =
    has_suc (2 ^ suc lock) other ∙ rw (pow-suc, mul-div_cancel _ {n = 2} (lit< tt), eqb-suc-suc) (has_power lock other)

-- an operation that works digit by digit, on 0 and 1 as `on` does on false and true, works on each lock as `on` does
module _ (op : ℕ → ℕ → ℕ) (on : Bool → Bool → Bool)
    (shr : (a b k : ℕ) → op a b / 2 ^ k ≡ op (a / 2 ^ k) (b / 2 ^ k)) (low : (a b k : ℕ) → op a b % 2 ^ k ≡ op (a % 2 ^ k) (b % 2 ^ k))
    (at-11 : eqb (op 1 1) 1 ≡ on true true) (at-10 : eqb (op 1 0) 1 ≡ on true false)
    (at-01 : eqb (op 0 1) 1 ≡ on false true) (at-00 : eqb (op 0 0) 1 ≡ on false false) where
  on_digits : (x y : Bool) → eqb (op (cond x 1 0) (cond y 1 0)) 1 ≡ on x y
  on_digits true true = at-11
  on_digits true false = at-10
  on_digits false true = at-01
  on_digits false false = at-00

  has_op : (a b lock : ℕ) → has (op a b) lock ≡ on (has a lock) (has b lock)
  unfolding has
  has_op a b lock =
      ap (λ (d : ℕ). eqb (d % 2) 1) (shr a b lock)
      ∙ ap (λ (d : ℕ). eqb d 1) (low _ _ 1 ∙ ap₂ op (digit_at a lock) (digit_at b lock))
      ∙ on_digits (has a lock) (has b lock)

-- what is in one of two words is in their union
pub has_or : (a b lock : ℕ) → has (bit_or a b) lock ≡ (has a lock || has b lock)
has_or = has_op bit_or ◌||◌ or_shr or_mod refl refl refl refl

-- setting a lock adds it and changes no other
pub has_with : SetAddsOne
unfolding with_lock
has_with word lock other h =
    rw (lt-ltb lock 64 h, ← has_power lock other) (has_or word (2 ^ lock) other)

-- clearing a lock removes it and changes no other
pub has-without : ClearTakesOne
unfolding without_lock
has-without word lock other h =
    rw (lt-ltb lock 64 h, ← has_power lock other)
    (has_op (λ a b. bit_xor a (bit_and a b)) (λ x y. x && not y)
    (λ a b k. xor_shr a (bit_and a b) k ∙ ap (bit_xor (a / 2 ^ k)) (and_shr a b k))
    (λ a b k. xor_mod a (bit_and a b) k ∙ ap (bit_xor (a % 2 ^ k)) (and_mod a b k))
    refl refl refl refl word (2 ^ lock) other)

-- setting a lock above 63 changes no word
pub with_beyond : (word lock : ℕ) → 64 ≤ lock → with_lock word lock ≡ word
unfolding with_lock
with_beyond word lock h = rw (le-ltb lock 64 h)

-- clearing a lock above 63 changes no word
pub without-beyond : (word lock : ℕ) → 64 ≤ lock → without_lock word lock ≡ word
unfolding without_lock
without-beyond word lock h = rw (le-ltb lock 64 h)

-- setting a lock below `locks` keeps a word below 2 ^ locks
pub with_within : (locks word lock : ℕ) → lock < locks → word < 2 ^ locks → with_lock word lock < 2 ^ locks
unfolding with_lock
with_within locks word lock l h = by_test (λ w. w < 2 ^ locks) (ltb lock 64) (λ e. or_lt locks word (2 ^ lock) h (pow-lt l)) (λ e. h)

-- clearing any lock keeps a word below 2 ^ locks
pub without-within : (locks word lock : ℕ) → word < 2 ^ locks → without_lock word lock < 2 ^ locks
unfolding without_lock
without-within locks word lock h =
    by_test (λ w. w < 2 ^ locks) (ltb lock 64) (λ e. xor_lt locks word _ h (lt_of_le_of_lt (and_le_l word (2 ^ lock)) h)) (λ e. h)

-- two words of n digits with the same locks are equal
same_in : (n a b : ℕ) → a < 2 ^ n → b < 2 ^ n → ((k : ℕ) → k < n → has a k ≡ has b k) → a ≡ b
same_in zero a b p q same = lt-one p ∙ sym (lt-one q)
same_in (suc n) a b p q same =
    let rest : (k : ℕ) → k < n → has (a / 2) k ≡ has (b / 2) k = λ k h. sym (has_suc a k) ∙ same (suc k) (omega arith) ∙ has_suc b k in
    let halves : a / 2 ≡ b / 2 = same_in n (a / 2) (b / 2) (half_fits n a p) (half_fits n b q) rest in
    let lows : a % 2 ≡ b % 2 = rw (low_digit a, low_digit b, same 0 (omega arith)) in
    omega arith

-- two words with the same locks are equal
pub same_members : SameLocksSameWord
same_members = same_in 64

-- the least of n + 1 digits is 0 where lock 0 is in the word, and else one more than the least of the half
least-cases : (n word : ℕ) (P : ℕ → Type 0) → (has word 0 ≡ true → P 0) → (has word 0 ≡ false → P (suc (count_trailing_zeros n (word / 2))))
    → P (count_trailing_zeros (suc n) word)
unfolding count_trailing_zeros
least-cases n word P here above = rw (low_digit word) (by_test (λ d. P (under d (count_trailing_zeros n (word / 2)))) (has word 0) here above)

-- the least lock of a word of n digits that is not empty is in it
member_in : (n word : ℕ) → word < 2 ^ n → (word ≡ 0 → ⊥) → has word (count_trailing_zeros n word) ≡ true
member_in zero word h some = absurd (some (lt-one h))
member_in (suc n) word h some =
    least-cases n word (λ t. has word t ≡ true) (λ e. e)
    (λ e. has_suc word _ ∙ member_in n (word / 2) (half_fits n word h) (λ none. some (omega (arith, rw e at (low_digit word)))))

-- the least lock of a word that is not empty is in it
pub least_member : TheLeastIsInIt
unfolding least
least_member = member_in 64

-- no lock below the least of n digits is in the word
least_in : (n word lock : ℕ) → lock < count_trailing_zeros n word → has word lock ≡ false
unfolding count_trailing_zeros
least_in zero word lock = λ h. absurd (omega arith)
least_in (suc n) word zero = least-cases n word (λ t. 0 < t → has word 0 ≡ false) (λ e h. absurd (omega arith)) (λ e h. e)
least_in (suc n) word (suc lock) =
    least-cases n word (λ t. suc lock < t → has word (suc lock) ≡ false) (λ e h. absurd (omega arith))
    (λ e h. has_suc word lock ∙ least_in n (word / 2) lock (omega arith))

-- no lock below the least is in the word
pub least-least : NoneBelowTheLeast
unfolding least
least-least = least_in 64
