-- The library's tests and sum over the numbers of a range, by the definitions in specs/Loops.
use Prim.Native.Nat.{ℕ, zero, suc, ◌+◌, ◌<◌}
use mathlib.Core.Path.{◌≡◌, refl, ap, ◌∙◌}
use mathlib.Core.Bool.{Bool, true, false, ◌&&◌, ◌||◌}
use mathlib.Core.List.{List, [], ◌∷◌, ◌++◌, map}
use native.Mathlib.Omega.{arith}
use Rattle.std.proofs.Common.{Option}
use Rattle.std.proofs.iter.Yields.{nat_range_steps}
use denote.Param.Members.{Mut}
use Rattle.std.specs.Option.{MatchOption}
use Rattle.std.specs.Fn.{Called}
use Rattle.std.specs.Bool.{⊤}
use Rattle.std.specs.Iterator.{YieldsThen, Drains}
use Rattle.std.specs.Iterator.Runs.{EachRunFrom}
use Rattle.std.specs.Iterator.Adapters.{map_source, map_callee}
use Rattle.std.specs.declared.iter.Map.{Map}
use Rattle.std.specs.declared.ops.Range.{Range}
use Rattle.std.proofs.lemmas.Iterator.{YieldsList, YieldsList-from_range, YieldsList-from_map, maps}
use Rattle.std.proofs.lemmas.Iterator.Consumers.{YieldsList-at, sum_by_from_yields_List, fits_by_from_yields_list}
use Rattle.std.proofs.lemmas.Iterator.Search.{all_from_yields_List, any_from_yields_List}
use Rattle.std.specs.List.{FoldsTo, range_with_len, list_all, list_any, sum_by, fold}
use Rattle.std.proofs.Math.Bool.{and-true, or-false}
use Rattle.std.proofs.lemmas.List.Folds.{list_all-append, list_any-append}
use Rattle.std.proofs.lemmas.List.Sums.{sum_by_push}
use Rattle.lists.specs.Loops.{every, some, total}

-- one number more, at the end
range_more : (a n last : ℕ) → a + n ≡ last → range_with_len a (suc n) ≡ range_with_len a n ++ (last ∷ [])
range_more a zero last e = let here : a ≡ last = omega arith in ap (λ k. k ∷ []) here
range_more a (suc n) last e = ap (λ rest. a ∷ rest) (range_more (a + 1) n last (omega arith))

numbers_more : (n : ℕ) → range_with_len 0 (suc n) ≡ range_with_len 0 n ++ (n ∷ [])
numbers_more n = range_more 0 n n (omega arith)

-- `all` of the numbers below n is the test of each place
pub all_of_range : (f : ℕ → Bool) (n : ℕ) → list_all f (range_with_len 0 n) ≡ every f n
unfolding every
all_of_range f zero = refl
all_of_range f (suc n) =
    ap (list_all f) (numbers_more n) ∙ list_all-append f (range_with_len 0 n) (n ∷ [])
    ∙ (λ i. all_of_range f n i && and-true (f n) i)

-- what `all` of a range from 0 answers, by its clause `ran`, where the closure is the test and keeps nothing
pub every_from_all : {F : Type 0} {g : Mut F (ℕ × Unit {0}) Bool} {s : Range ℕ} (test : ℕ → Bool) (n : ℕ) (u : Range ℕ) (f : F) (answer : Bool)
    → (xs : List ℕ) × (o : Option ℕ) × (j : F) × YieldsThen nat_range_steps s xs o u × FoldsTo (λ p x q. Called g p (x, tt) true q) f xs j
    × MatchOption o (answer ≡ true) (λ x. (answer ≡ false) × ((h : F) × Called g j (x, tt) false h))
    → s ≡ record { start = 0; end = n } → ((x : ℕ) (b : Bool) (q : F) → Called g f (x, tt) b q → (q ≡ f) × (b ≡ test x)) → answer ≡ every test n
every_from_all test n u f answer ran from is =
    all_from_yields_List test u f answer ran (YieldsList-from_range 0 n n from (omega arith)) is ∙ all_of_range test n

-- `any` of them that of some place
pub any_of_range : (f : ℕ → Bool) (n : ℕ) → list_any f (range_with_len 0 n) ≡ some f n
unfolding some
any_of_range f zero = refl
any_of_range f (suc n) =
    ap (list_any f) (numbers_more n) ∙ list_any-append f (range_with_len 0 n) (n ∷ [])
    ∙ (λ i. any_of_range f n i || or-false (f n) i)

-- and what `any` answers
pub some_from_any : {F : Type 0} {g : Mut F (ℕ × Unit {0}) Bool} {s : Range ℕ} (test : ℕ → Bool) (n : ℕ) (u : Range ℕ) (f : F) (answer : Bool)
    → (xs : List ℕ) × (o : Option ℕ) × (j : F) × YieldsThen nat_range_steps s xs o u × FoldsTo (λ p x q. Called g p (x, tt) false q) f xs j
    × MatchOption o (answer ≡ false) (λ x. (answer ≡ true) × ((h : F) × Called g j (x, tt) true h))
    → s ≡ record { start = 0; end = n } → ((x : ℕ) (b : Bool) (q : F) → Called g f (x, tt) b q → (q ≡ f) × (b ≡ test x)) → answer ≡ some test n
some_from_any test n u f answer ran from is =
    any_from_yields_List test u f answer ran (YieldsList-from_range 0 n n from (omega arith)) is ∙ any_of_range test n

-- and a sum over them the sum over the places
pub sum_of_range : (f : ℕ → ℕ) (n : ℕ) → sum_by f (range_with_len 0 n) ≡ total f n
unfolding total
sum_of_range f zero = refl
sum_of_range f (suc n) = ap (sum_by f) (numbers_more n) ∙ sum_by_push f (range_with_len 0 n) n ∙ ap (λ k. k + f n) (sum_of_range f n)

-- what `sum` of a range from 0 under `map` asks, and what it answers by its clause `ran`, where the closure is the function and keeps nothing
module _ {F : Type 0} {g : Mut F (ℕ × Unit {0}) ℕ} (s : Map (Range ℕ) F) (f : ℕ → ℕ) (n : ℕ) {callee : F} (from : map_source s ≡ record { start = 0; end = n })
    (called : map_callee s ≡ callee) where
  mapped : ((x : ℕ) (r : ℕ) (q : F) → Called g callee (x, tt) r q → (q ≡ callee) × (r ≡ f x)) → YieldsList (maps nat_range_steps g) (λ r. r) s (map f (range_with_len 0 n))
  mapped is = YieldsList-from_map g f (YieldsList-at from (YieldsList-from_range 0 n n refl (omega arith))) called is

  pub total_fits : (top : ℕ) → total f n < top → ((x : ℕ) (r : ℕ) (q : F) → Called g callee (x, tt) r q → (q ≡ callee) × (r ≡ f x))
      → EachRunFrom (maps nat_range_steps g) s (λ p. fold (λ a x. a + x) 0 p.items < top)
  total_fits top below is = fits_by_from_yields_list f (range_with_len 0 n) s top (mapped is) (rw (sum_of_range f n) below)

  pub total_from_sum : (answer : ℕ) → (xs : List ℕ) × (⊤ → Drains (maps nat_range_steps g) s xs) × (answer ≡ fold (λ a x. a + x) 0 xs)
      → ((x : ℕ) (r : ℕ) (q : F) → Called g callee (x, tt) r q → (q ≡ callee) × (r ≡ f x)) → answer ≡ total f n
  total_from_sum answer ran is = sum_by_from_yields_List f (range_with_len 0 n) s answer ran (mapped is) ∙ sum_of_range f n
