-- 01: "A set of locks is one 64-bit word, lock 0 the lowest bit." Test, set and clear one bit, and the least member.
use Rattle.std.specs.Prelude.{ℕ, ◌/◌, ◌%◌, ◌^◌, Bool, cond, eqb, ltb}
use Rattle.std.specs.Int.Bits.{bit_and, bit_or, bit_xor}
use Rattle.std.specs.Int.Count.{count_trailing_zeros}

-- the lock is in the word: its bit is 1
unfoldable pub has : ℕ → ℕ → Bool
has word lock = eqb (word / 2 ^ lock % 2) 1

-- the word with the lock's bit set; a lock above 63 changes no word
unfoldable pub with_lock : ℕ → ℕ → ℕ
with_lock word lock = cond (ltb lock 64) (bit_or word (2 ^ lock)) word

-- the word with the lock's bit cleared; a lock above 63 changes no word
unfoldable pub without_lock : ℕ → ℕ → ℕ
without_lock word lock = cond (ltb lock 64) (bit_xor word (bit_and word (2 ^ lock))) word

-- the lowest number in the word, by its trailing zeros; 64 for the empty word
unfoldable pub least : ℕ → ℕ
least word = count_trailing_zeros 64 word

-- no bit at or above this number is set (13: "a word with a bit of a missing lock")
unfoldable pub all_below : ℕ → ℕ → Bool
all_below word locks = ltb word (2 ^ locks)
