-- Counting many steps at once: a count made larger so many times is a capped sum, and the counts of all locks made larger so many
-- times are each made larger so many times.
use Prim.Native.Nat.{ℕ, zero, suc, ◌+◌, ◌-◌, ◌^◌, ◌≤◌, ◌<◌, min}
use mathlib.Core.Path.{◌≡◌, refl, ◌∙◌, sym, ap}
use mathlib.Core.Bool.{Bool, true, false, cond}
use mathlib.Core.List.{List, [], ◌∷◌}
use native.Mathlib.Omega.{arith}
use lib.Dec.{ltb}
use lib.ListN.{get_or, set}
use lib.Seq.{set-get_or}
use borrow.Author.Tests.{ltb-true, ltb-false}
use Rattle.lists.specs.Loops.{iterate, in_order}
use Rattle.tally.specs.Tally.{more}

-- one more of a capped count
pub one_more : (m : ℕ) → more (min m (2 ^ 64 - 1)) ≡ min (m + 1) (2 ^ 64 - 1)
unfolding more
one_more m = go (ltb (min m (2 ^ 64 - 1)) (2 ^ 64 - 1)) refl
  where
    go : (b : Bool) → ltb (min m (2 ^ 64 - 1)) (2 ^ 64 - 1) ≡ b → cond b (min m (2 ^ 64 - 1) + 1) (min m (2 ^ 64 - 1)) ≡ min (m + 1) (2 ^ 64 - 1)
    go true t = let below : min m (2 ^ 64 - 1) < 2 ^ 64 - 1 = ltb-true _ _ t in omega arith
    go false t = let top : 2 ^ 64 - 1 ≤ min m (2 ^ 64 - 1) = ltb-false _ _ t in omega arith

-- and of any count of 64 bits
pub more_is : (count : ℕ) → count < 2 ^ 64 → more count ≡ min (count + 1) (2 ^ 64 - 1)
more_is count fits = let same : count ≡ min count (2 ^ 64 - 1) = omega arith in ap more same ∙ one_more count

-- one more, so many times
pub more-times : (n c : ℕ) → c ≤ 2 ^ 64 - 1 → iterate more n c ≡ min (c + n) (2 ^ 64 - 1)
unfolding iterate
more-times zero c h = omega arith
more-times (suc n) c h = ap more (more-times n c h) ∙ one_more (c + n) ∙ ap (λ (m : ℕ). min m (2 ^ 64 - 1)) (omega arith)

-- the count at a place changed
abbrev pub changed : (ℕ → ℕ) → ℕ → List ℕ → List ℕ
changed f place counts = set counts place (f (get_or counts place 0))

-- changed twice
changed_twice : (f g : ℕ → ℕ) (place : ℕ) (counts : List ℕ) → changed f place (changed g place counts) ≡ changed (λ c. f (g c)) place counts
changed_twice f g place [] = refl
changed_twice f g zero (c ∷ counts) = refl
changed_twice f g (suc place) (c ∷ counts) = ap (λ (l : List ℕ). c ∷ l) (changed_twice f g place counts)

-- changed at two places: in either order
changed_apart : (f g : ℕ → ℕ) (place before : ℕ) (counts : List ℕ) → before < place
    → changed f place (changed g before counts) ≡ changed g before (changed f place counts)
changed_apart f g place before [] below = refl
changed_apart f g zero before (c ∷ counts) below = absurd (omega arith)
changed_apart f g (suc place) zero (c ∷ counts) below = refl
changed_apart f g (suc place) (suc before) (c ∷ counts) below = ap (λ (l : List ℕ). c ∷ l) (changed_apart f g place before counts (omega arith))

-- the places that are chosen
module _ (chosen : ℕ → Bool) where
  -- the count at a place changed, if the place is chosen
  abbrev pub at_place : (ℕ → ℕ) → ℕ → List ℕ → List ℕ
  at_place f place counts = cond (chosen place) (changed f place counts) counts

  -- with no change
  none : (n : ℕ) (counts : List ℕ) → in_order (at_place (λ c. c)) n counts ≡ counts
  unfolding in_order
  none zero counts = refl
  none (suc n) counts = go (chosen n) (in_order (at_place (λ c. c)) n counts) ∙ none n counts
    where
      go : (b : Bool) (l : List ℕ) → cond b (changed (λ c. c) n l) l ≡ l
      go true l = set-get_or l n 0
      go false l = refl

  -- a place and one before it, in either order
  apart : (f g : ℕ → ℕ) (place before : ℕ) (counts : List ℕ) → before < place
      → at_place f place (at_place g before counts) ≡ at_place g before (at_place f place counts)
  apart f g place before counts below = go (chosen place) (chosen before)
    where
      go : (a b : Bool) → cond a (changed f place (cond b (changed g before counts) counts)) (cond b (changed g before counts) counts)
          ≡ cond b (changed g before (cond a (changed f place counts) counts)) (cond a (changed f place counts) counts)
      go true true = changed_apart f g place before counts below
      go true false = refl
      go false b = refl

  -- a place and all before it
  after : (f g : ℕ → ℕ) (n place : ℕ) (counts : List ℕ) → n ≤ place
      → at_place f place (in_order (at_place g) n counts) ≡ in_order (at_place g) n (at_place f place counts)
  unfolding in_order
  after f g zero place counts h = refl
  after f g (suc n) place counts h =
      apart f g place n (in_order (at_place g) n counts) h ∙ ap (at_place g n) (after f g n place counts (omega arith))

  -- all places twice
  twice : (f g : ℕ → ℕ) (n : ℕ) (counts : List ℕ) → in_order (at_place f) n (in_order (at_place g) n counts) ≡ in_order (at_place (λ c. f (g c))) n counts
  unfolding in_order
  twice f g zero counts = refl
  twice f g (suc n) counts =
      ap (at_place f n) (sym (after g f n n (in_order (at_place g) n counts) (omega arith)))
      ∙ go (chosen n) (in_order (at_place f) n (in_order (at_place g) n counts))
      ∙ ap (at_place (λ c. f (g c)) n) (twice f g n counts)
    where
      go : (b : Bool) (l : List ℕ) → cond b (changed f n (cond b (changed g n l) l)) (cond b (changed g n l) l) ≡ cond b (changed (λ c. f (g c)) n l) l
      go true l = changed_twice f g n l
      go false l = refl

  -- all places so many times: each place so many times
  pub all_times : (f : ℕ → ℕ) (n k : ℕ) (counts : List ℕ) → iterate (in_order (at_place f) n) k counts ≡ in_order (at_place (iterate f k)) n counts
  unfolding iterate
  all_times f n zero counts = sym (none n counts)
  all_times f n (suc k) counts = ap (in_order (at_place f) n) (all_times f n k counts) ∙ twice f (iterate f k) n counts
