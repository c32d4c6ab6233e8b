-- 01, "The run and its lines": "Each line: steps done, letter, two numbers, single spaces, newline; numbers are decimal without
-- leading zeros"; and number 16. 02, item 13: an H line has four numbers, and a sheet has rows of numbers without a letter.
use Rattle.std.specs.Prelude.{ℕ, zero, suc, ◌+◌, ◌/◌, ◌%◌, cond, List, [], ◌∷◌, ◌++◌, ltb, leb, length, drop, Option, Some, None, Result, Ok, Err}
use Rattle.lines.specs.declared.TooShort.{TooShort}

-- the character of a digit
unfoldable pub digit : ℕ → ℕ
digit d = 48 + d

-- at most so many digits, the last digit last
unfoldable pub digits : ℕ → ℕ → List ℕ
digits zero n = []
digits (suc k) n = cond (ltb n 10) (digit n ∷ []) (digits k (n / 10) ++ (digit (n % 10) ∷ []))

-- "decimal without leading zeros": a number of 64 bits has at most 20 digits
unfoldable pub decimal : ℕ → List ℕ
decimal n = digits 20 n

-- "single spaces": numbers in order, each behind a space
unfoldable pub spaced : List ℕ → List ℕ
spaced [] = []
spaced (number ∷ rest) = 32 ∷ (decimal number ++ spaced rest)

-- "steps done, letter, two numbers, single spaces, newline"; "the line writer takes any byte as the letter". 02, item 13: "Each H line must
-- end with two more numbers": a line has any numbers, in order
unfoldable pub line : ℕ → ℕ → List ℕ → List ℕ
line steps letter numbers = decimal steps ++ (32 ∷ letter ∷ []) ++ spaced numbers ++ (10 ∷ [])

-- a row of a sheet: numbers in order, single spaces, newline
unfoldable pub row : ℕ → List ℕ → List ℕ
row first numbers = decimal first ++ spaced numbers ++ (10 ∷ [])

-- what stands behind the first number: of a line a space and the letter, of a row nothing
abbrev pub behind : Option ℕ → List ℕ
behind (Some letter) = 32 ∷ letter ∷ []
behind None = []

-- a line, or a row where there is no letter
abbrev pub text : ℕ → Option ℕ → List ℕ → List ℕ
text first (Some letter) numbers = line first letter numbers
text first None numbers = row first numbers

-- "A written line stands at the buffer's start, .. and no other byte changes"; 16 leaves the buffer as it was
unfoldable pub buffer_after : List ℕ → List ℕ → List ℕ
buffer_after buffer written =
    cond (leb (length written) (length buffer)) (written ++ drop (length written) buffer) buffer

-- an answer's number in 01, 0 where the line was written, and the length that it tells
unfoldable pub written_number : Result ℕ TooShort → ℕ
written_number (Ok n) = 0
written_number (Err e) = 16

unfoldable pub written_length : Result ℕ TooShort → ℕ
written_length (Ok n) = n
written_length (Err e) = 0

-- what an answer tells
pub record Told : Type 0 where
  pub number : ℕ
  pub length : ℕ

unfoldable pub written_told : Result ℕ TooShort → Told
written_told w = record { number = written_number w; length = written_length w }

-- "the answer is its length"; 16 "buffer shorter than the line"
unfoldable pub writing : List ℕ → List ℕ → Told
writing buffer written =
    cond (leb (length written) (length buffer)) (record { number = 0; length = length written }) (record { number = 16; length = 0 })
