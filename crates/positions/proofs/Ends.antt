-- Positions in range end where their shape (3) does.
use Prim.Native.Nat.{ℕ, suc, ◌+◌, ◌≤◌, ◌<◌}
use mathlib.Core.Path.{◌≡◌, refl, sym, ap, ap₂, ◌∙◌}
use mathlib.Core.Bool.{true, false, true≢false}
use mathlib.Core.List.{List, [], ◌∷◌}
use native.Mathlib.Nat.{zero-add}
use native.Mathlib.Omega.{arith}
use lib.Dec.{eqb}
use lib.ListN.{length, get_or, drop}
use borrow.Author.Tests.{ne_eqb, eq-eqb}
use Rattle.positions.specs.Ring.{Ring}
use Rattle.positions.specs.Shape.{ends_at}
use Rattle.positions.proofs.Ending.{drop-first}
use Rattle.positions.proofs.InRange.{Reads, reads_none, reads_user, reads_users, reads_list}

-- a position that is one byte, with so many positions behind it
pub ends_byte : (values : List ℕ) (place count more : ℕ) → place < length values → eqb (get_or values place 0) 5 ≡ false
    → ends_at false (suc count + more) (drop place values) ≡ ends_at false (count + more) (drop (place + 1) values)
unfolding ends_at
ends_byte values place count more there other =
    let one : suc count + more ≡ suc (count + more) = omega arith in
    ap (λ n. ends_at false n (drop place values)) one
    ∙ ap (ends_at false (suc (count + more))) (drop-first values place there)
    ∙ ap (λ b. ends_at b (count + more) (drop (place + 1) values)) other

-- a byte of 5, with so many positions behind its list
pub ends_five : (values : List ℕ) (place count more : ℕ) → place < length values → get_or values place 0 ≡ 5
    → ends_at false (suc count + more) (drop place values) ≡ ends_at true (count + more) (drop (place + 1) values)
unfolding ends_at
ends_five values place count more there five =
    let one : suc count + more ≡ suc (count + more) = omega arith in
    ap (λ n. ends_at false n (drop place values)) one
    ∙ ap (ends_at false (suc (count + more))) (drop-first values place there)
    ∙ ap (λ b. ends_at b (count + more) (drop (place + 1) values)) (eq-eqb _ 5 five)

-- and the count behind it
pub ends_many : (values : List ℕ) (place coming many : ℕ) → place + 1 < length values → get_or values (place + 1) 0 ≡ many
    → ends_at true coming (drop (place + 1) values) ≡ ends_at false (many + coming) (drop (place + 2) values)
unfolding ends_at
ends_many values place coming many there same =
    let two : place + 1 + 1 ≡ place + 2 = omega arith in
    let turned : coming + many ≡ many + coming = omega arith in
    ap (ends_at true coming) (drop-first values (place + 1) there)
    ∙ ap (λ n. ends_at false (coming + n) (drop (place + 1 + 1) values)) same
    ∙ ap₂ (λ n p. ends_at false n (drop p values)) turned two

pub zero_other : (byte : ℕ) → byte ≡ 0 → eqb byte 5 ≡ false
zero_other byte none = ne_eqb byte 5 (λ five. omega (arith, none, five))

pub small_other : (byte value : ℕ) → byte ≡ value → value ≤ 4 → eqb byte 5 ≡ false
small_other byte value same small = ne_eqb byte 5 (λ five. omega (arith, same, small, five))

-- so many positions in range, with so many behind them, end exactly where those behind them do
pub reads_shape : {values : List ℕ} {depth count place behind : ℕ} {ring : Ring} (more : ℕ) → Reads values depth count place behind ring
    → ends_at false (count + more) (drop place values) ≡ ends_at false more (drop behind values)
reads_shape {values} more (reads_none {place = place}) = ap (λ n. ends_at false n (drop place values)) (zero-add more)
reads_shape {values} more (reads_user {count = count} {place = place} there none rest) =
    ends_byte values place count more there (zero_other (get_or values place 0) none) ∙ reads_shape more rest
reads_shape {values} more (reads_users {count = count} {place = place} {value = value} there same some small rest) =
    ends_byte values place count more there (small_other (get_or values place 0) value same small) ∙ reads_shape more rest
reads_shape {values} more (reads_list {count = count} {place = place} {many = many} there five same least most within rest) =
    ends_five values place count more (omega (arith, there)) five
    ∙ ends_many values place (count + more) many there same
    ∙ reads_shape (count + more) within
    ∙ reads_shape more rest

-- nothing to come ends exactly where no byte is left
pub none_ends : (bytes : List ℕ) → ends_at false 0 bytes ≡ true → length bytes ≡ 0
unfolding ends_at
none_ends [] e = refl
none_ends (byte ∷ bytes) e = absurd (true≢false (sym e))

pub ends_none : (bytes : List ℕ) → length bytes ≡ 0 → ends_at false 0 bytes ≡ true
unfolding ends_at
ends_none [] e = refl
ends_none (byte ∷ bytes) e = absurd (omega (arith, e))
