-- The library's test of each of a list's first places, by the definition in specs/Loops.
use Prim.Native.Nat.{ℕ, zero, suc, ◌≤◌}
use mathlib.Core.Path.{◌≡◌, refl, ap}
use mathlib.Core.Bool.{Bool, ◌&&◌}
use mathlib.Core.List.{List}
use native.Mathlib.Numerals.{add-one}
use native.Mathlib.Omega.{arith}
use lib.ListN.{length, take, get_or}
use Rattle.std.specs.List.{list_all}
use Rattle.std.proofs.lemmas.List.Folds.{list_all_more}
use Rattle.lists.specs.Loops.{every}

-- `all` of the first n items is the test of each of the first n places, whatever a place beyond the end has
pub all_of_firsts : {A : Type 0} (p : A → Bool) (d : A) (l : List A) (n : ℕ) → n ≤ length l → list_all p (take n l) ≡ every (λ place. p (get_or l place d)) n
unfolding every
all_of_firsts p d l zero h = refl
all_of_firsts p d l (suc n) h =
    rw (← add-one, list_all_more p l n d (omega arith)) (ap (λ b. b && p (get_or l n d)) (all_of_firsts p d l n (omega arith)))
