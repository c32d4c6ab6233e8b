-- Laws of the definitions in specs/Line: decimal numbers, a line's length, and a line as a run of stores.
use Rattle.std.specs.Prelude.{Option, Some, None}
use Prim.Native.Nat.{ℕ, zero, suc, ◌+◌, ◌-◌, ◌*◌, ◌/◌, ◌%◌, ◌^◌, ◌≤◌, ◌<◌}
use mathlib.Core.Path.{◌≡◌, refl, sym, ap, ◌∙◌}
use mathlib.Core.Bool.{Bool, true, false, cond}
use mathlib.Core.Logic.{◌⊎◌, inl, inr, ⊎_elim}
use mathlib.Core.List.{List, [], ◌∷◌, ◌++◌, append-nil, append_assoc}
use native.Mathlib.Nat.{pow-suc, pow-le-pow_right, add-zero, zero-add, lt_of_lt_of_le}
use native.Mathlib.Omega.{arith}
use borrow.Author.Tests.{lt-ltb, le-ltb, ltb-true, ltb-false}
use lib.Dec.{ltb, leb, lit≤, lit<}
use lib.ListN.{length, get_or, set, take, drop, length-append, take-append-drop}
use lib.Seq.{sets, sets-eq, take-suc, take_all}
use Rattle.lines.specs.Line.{digit, digits, decimal, spaced, line, row, behind, text}

-- ---- how many digits are enough

tenth_below : (k n : ℕ) → n < 10 ^ suc k → n / 10 < 10 ^ k
tenth_below k n h = let b : n < 10 ^ k * 10 = rw pow-suc at h in omega arith

-- a number that so many digits can write is written the same with one more allowed
digits_same : (k n : ℕ) → n < 10 ^ suc k → digits (suc (suc k)) n ≡ digits (suc k) n
unfolding digits
digits_same zero n h = simp (lt-ltb n 10 h)
digits_same (suc k) n h =
    ap (λ (l : List ℕ). cond (ltb n 10) (digit n ∷ []) (l ++ (digit (n % 10) ∷ []))) (digits_same k (n / 10) (tenth_below (suc k) n h))

-- and with any number more
pub digits_enough : (k more n : ℕ) → n < 10 ^ suc k → digits (more + suc k) n ≡ digits (suc k) n
digits_enough k zero n h = rw zero-add
digits_enough k (suc more) n h =
    let w : n < 10 ^ suc (more + k) = lt_of_lt_of_le h (pow-le-pow_right (lit< tt) (omega arith)) in
    let e : suc more + suc k ≡ suc (suc (more + k)) = omega arith in
    let f : suc (more + k) ≡ more + suc k = omega arith in
    rw (e, digits_same (more + k) n w, f) (digits_enough k more n h)

-- 20 digits are enough for a number of 64 bits
pub decimal_enough : (more n : ℕ) → n < 2 ^ 64 → digits (more + 20) n ≡ decimal n
unfolding decimal
decimal_enough more n h = digits_enough 19 more n (omega arith)

-- ---- one digit, and one digit more

digits_one : (k n : ℕ) → n < 10 → digits (suc k) n ≡ digit n ∷ []
unfolding digits
digits_one k n h = simp (lt-ltb n 10 h)

pub decimal_one : {n : ℕ} → n < 10 → decimal n ≡ digit n ∷ []
unfolding decimal
decimal_one {n} h = digits_one 19 n h

digits_more : (k n : ℕ) → 10 ≤ n → digits (suc k) n ≡ digits k (n / 10) ++ (digit (n % 10) ∷ [])
unfolding digits
digits_more k n h = simp (le-ltb n 10 h)

pub decimal-more : {n : ℕ} → n < 2 ^ 64 → 10 ≤ n → decimal n ≡ decimal (n / 10) ++ (digit (n % 10) ∷ [])
unfolding decimal
decimal-more {n} h ten = rw (digits_same 18 (n / 10) (omega arith)) (digits_more 19 n ten)

below_ten : (n : ℕ) (b : Bool) → ltb n 10 ≡ b → (n < 10) ⊎ (10 ≤ n)
below_ten n true e = inl (ltb-true n 10 e)
below_ten n false e = inr (ltb-false n 10 e)

-- so what holds of one digit, and of one digit more, holds of every number of 64 bits and its digits
module _ (P : ℕ → List ℕ → Type 0) (one : (n : ℕ) → n < 10 → P n (digit n ∷ []))
    (more : (n : ℕ) (ds : List ℕ) → 10 ≤ n → P (n / 10) ds → P n (ds ++ (digit (n % 10) ∷ []))) where
  digits-every : (k n : ℕ) → n < 10 ^ suc k → P n (digits (suc k) n)
  digits-every zero n h = rw (digits_one zero n h) (one n h)
  digits-every (suc k) n h =
      ⊎_elim
      (λ (l : n < 10). rw (digits_one (suc k) n l) (one n l))
      (λ (g : 10 ≤ n). rw (digits_more (suc k) n g) (more n (digits (suc k) (n / 10)) g (digits-every k (n / 10) (tenth_below (suc k) n h))))
      (below_ten n (ltb n 10) refl)

  pub decimal-every : (n : ℕ) → n < 2 ^ 64 → P n (decimal n)
  unfolding decimal
  decimal-every n h = digits-every 19 n (omega arith)

-- ---- what the digits tell

-- the number that digits are read as, after a number a
abbrev pub read : ℕ → List ℕ → ℕ
read a [] = a
read a (c ∷ cs) = read (a * 10 + (c - 48)) cs

read_append : (a : ℕ) (s t : List ℕ) → read a (s ++ t) ≡ read (read a s) t
read_append a [] t = refl
read_append a (c ∷ s) t = read_append (a * 10 + (c - 48)) s t

-- a number's digits are read as the number
pub decimal_read : (n : ℕ) → n < 2 ^ 64 → read 0 (decimal n) ≡ n
unfolding digit
decimal_read = decimal-every (λ n ds. read 0 ds ≡ n)
    (λ (n : ℕ) (h : n < 10). omega arith)
    (λ (n : ℕ) (ds : List ℕ) (h : 10 ≤ n) (e : read 0 ds ≡ n / 10). rw (read_append 0 ds (digit (n % 10) ∷ []), e) (omega arith))

-- two numbers are written differently
pub decimal_apart : {n m : ℕ} → n < 2 ^ 64 → m < 2 ^ 64 → decimal n ≡ decimal m → n ≡ m
decimal_apart {n} {m} h k e = sym (decimal_read n h) ∙ ap (read 0) e ∙ decimal_read m k

-- "without leading zeros": 0 is written 0, and no other number begins with a 0
pub decimal_zero : decimal 0 ≡ 48 ∷ []
unfolding digit
decimal_zero = decimal_one (lit< tt)

first-digit : (n : ℕ) → n < 2 ^ 64 → 0 < n → 48 < get_or (decimal n) 0 48
unfolding digit
first-digit = decimal-every (λ n ds. 0 < n → 48 < get_or ds 0 48)
    (λ (n : ℕ) (h : n < 10) (p : 0 < n). omega arith)
    (λ (n : ℕ) (ds : List ℕ) (h : 10 ≤ n) (e : 0 < n / 10 → 48 < get_or ds 0 48) (p : 0 < n). front ds (48 + n % 10) (e (omega arith)))
  where
    front : (ds : List ℕ) (c : ℕ) → 48 < get_or ds 0 48 → 48 < get_or (ds ++ (c ∷ [])) 0 48
    front [] c h = omega arith
    front (d ∷ ds) c h = h

pub no_leading_zero : {n : ℕ} (rest : List ℕ) → n < 2 ^ 64 → 0 < n → decimal n ≡ 48 ∷ rest → ⊥
no_leading_zero {n} rest h p e = let f : 48 < get_or (48 ∷ rest) 0 48 = rw e at (first-digit n h p) in omega arith

-- ---- lengths

one_or_more : (b : Bool) (k : ℕ) (ds : List ℕ) (c d : ℕ) → length ds ≤ k
    → (0 < length (cond b (c ∷ []) (ds ++ (d ∷ [])))) × (length (cond b (c ∷ []) (ds ++ (d ∷ []))) ≤ suc k)
one_or_more true k ds c d h = omega arith
one_or_more false k ds c d h = omega (arith, length-append ds (d ∷ []))

digits-length : (k n : ℕ) → length (digits k n) ≤ k
unfolding digits
digits-length zero n = lit≤ tt
digits-length (suc k) n = (one_or_more (ltb n 10) k (digits k (n / 10)) (digit n) (digit (n % 10)) (digits-length k (n / 10))).1

digits-some : (k n : ℕ) → 0 < length (digits (suc k) n)
unfolding digits
digits-some k n = (one_or_more (ltb n 10) k (digits k (n / 10)) (digit n) (digit (n % 10)) (digits-length k (n / 10))).0

-- a number has a digit, and at most 20
pub decimal-some : (n : ℕ) → 0 < length (decimal n)
unfolding decimal
decimal-some n = digits-some 19 n

pub decimal-length_most : (n : ℕ) → length (decimal n) ≤ 20
unfolding decimal
decimal-length_most n = digits-length 20 n

pub decimal-length_one : {n : ℕ} → n < 10 → length (decimal n) ≡ 1
decimal-length_one h = ap length (decimal_one h)

pub decimal-length-more : {n : ℕ} → n < 2 ^ 64 → 10 ≤ n → length (decimal n) ≡ length (decimal (n / 10)) + 1
decimal-length-more h ten = simp length-append at (ap length (decimal-more h ten))

-- ---- numbers in order, each behind a space

spaced-append : (a b : List ℕ) → spaced (a ++ b) ≡ spaced a ++ spaced b
unfolding spaced
spaced-append [] b = refl
spaced-append (n ∷ a) b =
    ap (λ (l : List ℕ). 32 ∷ (decimal n ++ l)) (spaced-append a b) ∙ ap (λ (l : List ℕ). 32 ∷ l) (sym (append_assoc (decimal n) (spaced a) (spaced b)))

-- one number more
pub spaced-more : (numbers : List ℕ) (i : ℕ) → i < length numbers
    → spaced (take (i + 1) numbers) ≡ spaced (take i numbers) ++ (32 ∷ decimal (get_or numbers i 0))
unfolding spaced
spaced-more numbers i h =
    let e : i + 1 ≡ suc i = omega arith in
    ap (λ (n : ℕ). spaced (take n numbers)) e ∙ ap spaced (take-suc numbers i 0 h) ∙ spaced-append (take i numbers) (get_or numbers i 0 ∷ [])
    ∙ ap (λ (l : List ℕ). spaced (take i numbers) ++ (32 ∷ l)) (append-nil (decimal (get_or numbers i 0)))

pub spaced-length-more : (numbers : List ℕ) (i : ℕ) → i < length numbers
    → length (spaced (take (i + 1) numbers)) ≡ length (spaced (take i numbers)) + length (decimal (get_or numbers i 0)) + 1
spaced-length-more numbers i h =
    ap length (spaced-more numbers i h) ∙ length-append (spaced (take i numbers)) (32 ∷ decimal (get_or numbers i 0)) ∙ omega arith

-- those up to a place are a part of all
pub spaced_part : (numbers : List ℕ) (i : ℕ) → length (spaced (take i numbers)) ≤ length (spaced numbers)
spaced_part numbers i =
    let whole : length (spaced numbers) ≡ length (spaced (take i numbers)) + length (spaced (drop i numbers)) =
    ap (λ (l : List ℕ). length (spaced l)) (sym (take-append-drop i numbers)) ∙ ap length (spaced-append (take i numbers) (drop i numbers))
    ∙ length-append (spaced (take i numbers)) (spaced (drop i numbers)) in
    omega (arith, whole)

-- and at the end they are all
pub spaced_all : (numbers : List ℕ) (i : ℕ) → length numbers ≤ i → spaced (take i numbers) ≡ spaced numbers
spaced_all numbers i h = ap spaced (take_all i numbers h)

-- a line's length: its steps, a space, the letter, its numbers, the newline
pub line-length : (steps letter : ℕ) (numbers : List ℕ) → length (line steps letter numbers) ≡ length (decimal steps) + 3 + length (spaced numbers)
unfolding line
line-length steps letter numbers = simp length-append (omega arith)

pub row-length : (first : ℕ) (numbers : List ℕ) → length (row first numbers) ≡ length (decimal first) + 1 + length (spaced numbers)
unfolding row
row-length first numbers = simp length-append (omega arith)

-- a line and a row by their parts, and the parts' lengths
text_parts : (first : ℕ) (letter : Option ℕ) (numbers : List ℕ) → text first letter numbers ≡ decimal first ++ behind letter ++ spaced numbers ++ (10 ∷ [])
unfolding line row
text_parts first (Some letter) numbers = refl
text_parts first None numbers = simp append-nil

pub text-length : (first : ℕ) (letter : Option ℕ) (numbers : List ℕ)
    → length (text first letter numbers) ≡ length (decimal first) + length (behind letter) + 1 + length (spaced numbers)
text-length first letter numbers = simp (text_parts first letter numbers, length-append) (omega arith)

pub behind-length_most : (letter : Option ℕ) → length (behind letter) ≤ 2
behind-length_most (Some letter) = lit≤ tt
behind-length_most None = lit≤ tt

-- whether there is room, as it was asked by the widths of the first number and the letter, is whether the whole text fits
pub room_told : (first : ℕ) (letter : Option ℕ) (numbers : List ℕ) (room : ℕ) {wide letter_wide : ℕ} {answer : Bool} → wide ≡ length (decimal first)
    → letter_wide ≡ length (behind letter) → answer ≡ leb (wide + letter_wide + 1 + length (spaced numbers)) room → leb (length (text first letter numbers)) room ≡ answer
room_told first letter numbers room w l a = rw (text-length first letter numbers, ← w, ← l) (sym a)

-- each number has at most 20 digits and a space
spaced-length_most : (numbers : List ℕ) → length (spaced numbers) ≤ 21 * length numbers
unfolding spaced
spaced-length_most [] = lit≤ tt
spaced-length_most (n ∷ rest) =
    omega (arith, length-append (decimal n) (spaced rest), decimal-length_most n, spaced-length_most rest)

-- a buffer of 107 bytes has room for every line of at most four numbers
pub line-length_most : (steps letter : ℕ) (numbers : List ℕ) → length numbers ≤ 4 → length (line steps letter numbers) ≤ 107
line-length_most steps letter numbers h = omega (arith, line-length steps letter numbers, decimal-length_most steps, spaced-length_most numbers)

-- and one of 105 bytes for every row of at most five, its first among them
pub row-length_most : (first : ℕ) (numbers : List ℕ) → length numbers ≤ 4 → length (row first numbers) ≤ 105
row-length_most first numbers h = omega (arith, row-length first numbers, decimal-length_most first, spaced-length_most numbers)

-- ---- a line as a run of stores

-- a run of stores in two parts
sets-append : (s t l : List ℕ) (i : ℕ) → sets l i (s ++ t) ≡ sets (sets l i s) (i + length s) t
sets-append [] t l i = rw add-zero
sets-append (a ∷ s) t l i =
    let e : i + suc (length s) ≡ suc i + length s = omega arith in
    rw e (sets-append s t (set l i a) (suc i))

-- a run of stores from the start is the run and what was behind it
pub sets_front : (s l : List ℕ) → length s ≤ length l → sets l 0 s ≡ s ++ drop (length s) l
sets_front s l h = simp zero-add at (sets-eq s l 0 (simp zero-add h))

-- bytes put at a place: the buffer after, and the place behind them
abbrev pub Put : List ℕ → ℕ → List ℕ → List ℕ → ℕ → Type 0
Put before at bytes after end = (end ≡ at + length bytes) × (after ≡ sets before at bytes)

-- bytes and then more bytes
put_on : (before : List ℕ) (at : ℕ) (bytes more : List ℕ) {after last : List ℕ} {mid end : ℕ}
    → Put before at bytes after mid → Put after mid more last end → Put before at (bytes ++ more) last end
put_on before at bytes more p q =
    (omega (arith, length-append bytes more), q.1 ∙ rw (sets-append bytes more before at, p.0, p.1))

-- a number's last digit is all of it, or is put behind the rest
module _ (before : List ℕ) (at n c : ℕ) (e : c ≡ digit (n % 10)) where
  pub put_one : {after : List ℕ} {end : ℕ} → n < 10 → Put before at (c ∷ []) after end → Put before at (decimal n) after end
  put_one h p = let d : n % 10 ≡ n = omega arith in rw (decimal_one h, ← d, ← e) p

  pub put-more : {after last : List ℕ} {mid end : ℕ} → n < 2 ^ 64 → 10 ≤ n
      → Put before at (decimal (n / 10)) after mid → Put after mid (c ∷ []) last end → Put before at (decimal n) last end
  put-more h ten p q = rw (decimal-more h ten, ← e) (put_on before at (decimal (n / 10)) (c ∷ []) p q)

-- numbers in order: none yet, and one more
pub put_none : (before : List ℕ) (at : ℕ) (numbers : List ℕ) → Put before at (spaced (take 0 numbers)) before at
unfolding spaced
put_none before at numbers = (omega arith, refl)

pub put_another : (before : List ℕ) (at : ℕ) (numbers : List ℕ) (i : ℕ) {after spaced-after last : List ℕ} {end mid end_after : ℕ} → i < length numbers
    → Put before at (spaced (take i numbers)) after end → Put after end (32 ∷ []) spaced-after mid
    → Put spaced-after mid (decimal (get_or numbers i 0)) last end_after → Put before at (spaced (take (i + 1) numbers)) last end_after
put_another before at numbers i {after = after} {end = end} h p q r =
    rw (spaced-more numbers i h)
    (put_on before at (spaced (take i numbers)) (32 ∷ decimal (get_or numbers i 0)) p (put_on after end (32 ∷ []) (decimal (get_or numbers i 0)) q r))

-- the parts of a line or a row, put one behind the other from the buffer's start, stand before what was behind them
pub put-text : (before : List ℕ) (first : ℕ) (letter : Option ℕ) (numbers : List ℕ) {b₁ b₂ b₃ after : List ℕ} {e₁ e₂ e₃ end : ℕ}
    → Put before 0 (decimal first) b₁ e₁ → Put b₁ e₁ (behind letter) b₂ e₂ → Put b₂ e₂ (spaced numbers) b₃ e₃ → Put b₃ e₃ (10 ∷ []) after end
    → length (text first letter numbers) ≤ length before
    → (end ≡ length (text first letter numbers)) × (after ≡ text first letter numbers ++ drop (length (text first letter numbers)) before)
put-text before first letter numbers p₁ p₂ p₃ p₄ room =
    let d : List ℕ = decimal first in
    let b : List ℕ = behind letter in
    let l = put_on before 0 d b p₁ p₂ in
    let n = put_on before 0 (d ++ b) (spaced numbers) l p₃ in
    let p = rw (← text_parts first letter numbers) at (put_on before 0 (d ++ b ++ spaced numbers) (10 ∷ []) n p₄) in
    (omega arith, p.1 ∙ sets_front (text first letter numbers) before room)
