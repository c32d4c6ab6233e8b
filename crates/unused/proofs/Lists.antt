-- Laws of lists: two lists with the same first places, and a place put in between.
use Prim.Native.Nat.{ℕ, zero, suc, ◌+◌, ◌≤◌, ◌<◌}
use mathlib.Core.Path.{◌≡◌, refl, ◌∙◌, sym, ap, ap₂}
use mathlib.Core.Bool.{Bool, true, false}
use mathlib.Core.List.{List, [], ◌∷◌, ◌++◌}
use native.Mathlib.Numerals.{add-one}
use native.Mathlib.Omega.{arith}
use lib.Dec.{ltb}
use lib.ListN.{length, get_or, take, drop, set}
use lib.Seq.{get_or-take, take-suc-set, take-set-lt, take_all}
use borrow.Author.Tests.{ltb-true, ltb-false}

module _ {A : Type 0} where
  -- lists whose first n places are the same have the same at each of them
  pub same_at : (d : A) (n : ℕ) (l m : List A) → take n l ≡ take n m → (i : ℕ) → i < n → get_or l i d ≡ get_or m i d
  same_at d n l m e i below = sym (get_or-take n l i d below) ∙ ap (λ (x : List A). get_or x i d) e ∙ get_or-take n m i d below

  -- and so if one of them is written to
  pub same_set : (n : ℕ) (l m : List A) (i : ℕ) (x : A) → i < n → take n l ≡ take n m → take n (set l i x) ≡ take n (set m i x)
  same_set n l m i x below e = take-set-lt n l i x below ∙ ap (λ (y : List A). set y i x) e ∙ sym (take-set-lt n m i x below)

  -- or the next one, where both lists have as many places
  pub same_next : (n : ℕ) (l m : List A) (x : A) → length l ≡ length m → take n l ≡ take n m → take (n + 1) (set l n x) ≡ take (n + 1) (set m n x)
  same_next n l m x long e = rw add-one (go (ltb n (length l)) refl)
    where
      go : (b : Bool) → ltb n (length l) ≡ b → take (suc n) (set l n x) ≡ take (suc n) (set m n x)
      go true t =
          let room : n < length l = ltb-true _ _ t in
          take-suc-set l n x room ∙ ap (λ (y : List A). y ++ (x ∷ [])) e ∙ sym (take-suc-set m n x (omega arith))
      go false t =
          let full : length l ≤ n = ltb-false _ _ t in
          let same : l ≡ m = sym (take_all n l full) ∙ e ∙ take_all n m (omega arith) in
          ap (λ (y : List A). take (suc n) (set y n x)) same

  -- a place put in behind the first k
  abbrev pub put_in : ℕ → A → List A → List A
  put_in k x l = take k l ++ (x ∷ drop k l)

  -- the list is one longer
  pub put-length : (k : ℕ) (x : A) (l : List A) → length (put_in k x l) ≡ suc (length l)
  put-length zero x l = refl
  put-length (suc k) x [] = refl
  put-length (suc k) x (y ∷ l) = ap suc (put-length k x l)

  -- what is behind stays, a place further
  pub put_behind : (k p : ℕ) (x : A) (l : List A) → k ≤ p → drop (suc p) (put_in k x l) ≡ drop p l
  put_behind zero p x l h = refl
  put_behind (suc k) p x [] h = refl
  put_behind (suc k) zero x (y ∷ l) h = absurd (omega arith)
  put_behind (suc k) (suc p) x (y ∷ l) h = put_behind k p x l (omega arith)

  -- and the place is there; a list that does not reach so far has its default
  pub put_there : (k : ℕ) (x : A) (l : List A) → get_or (put_in k x l) k x ≡ x
  put_there zero x l = refl
  put_there (suc k) x [] = refl
  put_there (suc k) x (y ∷ l) = put_there k x l

  -- lists with the same first k places, and as many in all, have the same first k again
  pub put_same : (k : ℕ) (x : A) (l m : List A) → take k l ≡ take k m → length l ≡ length m → take k (put_in k x l) ≡ take k (put_in k x m)
  put_same zero x l m e long = refl
  put_same (suc k) x [] [] e long = refl
  put_same (suc k) x [] (z ∷ m) e long = absurd (omega arith)
  put_same (suc k) x (y ∷ l) [] e long = absurd (omega arith)
  put_same (suc k) x (y ∷ l) (z ∷ m) e long =
      let first : y ≡ z = cc in
      let rest : take k l ≡ take k m = cc in
      ap₂ (λ (a : A) (r : List A). a ∷ r) first (put_same k x l m rest (omega arith))
