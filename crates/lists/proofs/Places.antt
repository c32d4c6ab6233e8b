-- What holds at a place of a list, a place beyond its end having the default: after a store, and in a list of defaults.
use Prim.Native.Nat.{ℕ, zero, suc, ◌<◌}
use mathlib.Core.List.{List, [], ◌∷◌, ◌++◌}
use native.Mathlib.Omega.{arith}
use lib.ListN.{get_or, take, drop, set, replicate}

module _ {A : Type 0} (P : A → Type 0) (d : A) where
  -- what holds of a store and of a place before it holds of the place after it
  pub place_set : (l : List A) (i : ℕ) (x : A) (k : ℕ) → P x → P (get_or l k d) → P (get_or (set l i x) k d)
  place_set [] i x k p h = h
  place_set (y ∷ l) zero x zero p h = p
  place_set (y ∷ l) zero x (suc k) p h = h
  place_set (y ∷ l) (suc i) x zero p h = h
  place_set (y ∷ l) (suc i) x (suc k) p h = place_set l i x k p h

  -- what holds of a store and of the default holds of the store's place, whatever it was
  pub place_stored : (l : List A) (i : ℕ) (x : A) → P x → P d → P (get_or (set l i x) i d)
  place_stored [] i x p e = e
  place_stored (y ∷ l) zero x p e = p
  place_stored (y ∷ l) (suc i) x p e = place_stored l i x p e

  -- what holds of a place among the first n holds of it still where the default is put behind these
  pub place_parted : (l : List A) (n k : ℕ) → k < n → P d → P (get_or l k d) → P (get_or (take n l ++ (d ∷ drop n l)) k d)
  place_parted l zero k below e h = absurd (omega arith)
  place_parted [] (suc n) zero below e h = e
  place_parted [] (suc n) (suc k) below e h = e
  place_parted (y ∷ l) (suc n) zero below e h = h
  place_parted (y ∷ l) (suc n) (suc k) below e h = place_parted l n k (omega arith) e h

  -- what holds of the default holds of each place of a list of defaults
  pub place_default : (n k : ℕ) → P d → P (get_or (replicate n d) k d)
  place_default zero k e = e
  place_default (suc n) zero e = e
  place_default (suc n) (suc k) e = place_default n k e
