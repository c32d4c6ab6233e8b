-- Numbers stored one behind the other.
use Prim.Native.Nat.{ℕ, suc, ◌+◌, ◌≤◌}
use mathlib.Core.Path.{◌≡◌, refl}
use mathlib.Core.List.{List, [], ◌∷◌, ◌++◌}
use native.Mathlib.Nat.{add-zero, zero-add}
use native.Mathlib.Omega.{arith}
use lib.ListN.{length, set, take, drop}
use lib.Seq.{sets, sets-eq, take_at}

-- a run of stores in two parts
pub sets-append : (s t l : List ℕ) (i : ℕ) → sets l i (s ++ t) ≡ sets (sets l i s) (i + length s) t
sets-append [] t l i = rw add-zero
sets-append (a ∷ s) t l i =
    let e : i + suc (length s) ≡ suc i + length s = omega arith in
    rw e (sets-append s t (set l i a) (suc i))

-- numbers that were stored from the start on are found there
pub taken_back : (row numbers : List ℕ) → length numbers ≤ length row → take (length numbers) (sets row 0 numbers) ≡ numbers
taken_back row numbers h =
    let e : sets row 0 numbers ≡ numbers ++ drop (length numbers) row = simp zero-add at (sets-eq numbers row 0 (simp zero-add h)) in
    rw e (take_at numbers (drop (length numbers) row) (length numbers) refl)
