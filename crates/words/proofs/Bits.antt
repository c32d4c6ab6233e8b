-- Facts on single bits that the proofs of this crate's functions cite.
use Prim.Native.Nat.{ℕ, ◌*◌, ◌%◌, ◌^◌, ◌≤◌, ◌<◌}
use mathlib.Core.Path.{◌≡◌, ◌∙◌}
use mathlib.Core.Bool.{true, false}
use native.Mathlib.Nat.{one-mul, div-eq_of_lt, lt_of_lt_of_le}
use native.Mathlib.Omega.{arith}
use lib.Pow.{shl_exact, pow_mono}
use lib.Dec.{lit<}
use borrow.Author.Tests.{lt-ltb}
use Rattle.words.specs.Words.{has, all_below}

-- the one that is shifted to a bit of the word is that power of two
pub one_shifted : (k : ℕ) → k < 64 → (1 * 2 ^ k) % 2 ^ 64 ≡ 2 ^ k
one_shifted k h = shl_exact 1 k 64 (lit< tt) (omega arith) ∙ one-mul (2 ^ k)

-- a word below 2 ^ locks has no lock from `locks` on
pub has_above : (locks word lock : ℕ) → word < 2 ^ locks → locks ≤ lock → has word lock ≡ false
unfolding has
has_above locks word lock fits above = rw (div-eq_of_lt {m = 2 ^ lock} (lt_of_lt_of_le fits (pow_mono above)))

-- a lock above 63 is in no word
pub has_beyond : (word lock : ℕ) → word < 2 ^ 64 → 64 ≤ lock → has word lock ≡ false
has_beyond word lock = has_above 64 word lock

-- every lock of a word is below a number above 63
pub all_beyond : (word locks : ℕ) → word < 2 ^ 64 → 64 ≤ locks → all_below word locks ≡ true
unfolding all_below
all_beyond word locks fits above = lt-ltb word (2 ^ locks) (lt_of_lt_of_le fits (pow_mono above))
