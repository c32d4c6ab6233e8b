-- What proofs/ proves over the definitions, as sentences: a word is the set of the locks that it has.
use Rattle.std.specs.Prelude.{ℕ, ◌^◌, ◌<◌, ◌≡◌, true, false, not, ◌&&◌, ◌||◌, eqb}
use Rattle.words.specs.Words.{has, with_lock, without_lock, least}

-- "A set of locks is one 64-bit word": two words with the same locks are the same word
abbrev pub SameLocksSameWord : Type 0
SameLocksSameWord = (a b : ℕ) → a < 2 ^ 64 → b < 2 ^ 64 → ((lock : ℕ) → lock < 64 → has a lock ≡ has b lock) → a ≡ b

-- to set a lock adds it, to clear it takes it away, and no other lock changes
abbrev pub SetAddsOne : Type 0
SetAddsOne = (word lock other : ℕ) → lock < 64 → has (with_lock word lock) other ≡ (has word other || eqb other lock)

abbrev pub ClearTakesOne : Type 0
ClearTakesOne = (word lock other : ℕ) → lock < 64 → has (without_lock word lock) other ≡ (has word other && not (eqb other lock))

-- "the letting-go lock with the lowest number goes first": the least of a word that is not empty is in it, and no lock below it is
abbrev pub TheLeastIsInIt : Type 0
TheLeastIsInIt = (word : ℕ) → word < 2 ^ 64 → (word ≡ 0 → ⊥) → has word (least word) ≡ true

abbrev pub NoneBelowTheLeast : Type 0
NoneBelowTheLeast = (word lock : ℕ) → lock < least word → has word lock ≡ false
