-- Two places exchanged: what is said of all places below n, and their sum, stay as they are.
use Prim.Native.Nat.{ℕ, zero, suc, ◌+◌, ◌<◌}
use mathlib.Core.Path.{◌≡◌, refl, sym, ap, ◌∙◌}
use mathlib.Core.Bool.{Bool, true, false, cond}
use mathlib.Core.Logic.{⊎_elim}
use native.Mathlib.Nat.{eq-or-lt_of_le}
use native.Mathlib.Omega.{arith}
use lib.Dec.{eqb}
use borrow.Author.Tests.{eq-eqb, ne_eqb, eqb-true, eqb-false}
use Rattle.lists.specs.Loops.{every, total}
use Rattle.lists.proofs.Laws.{total_same, every-at, every_each}
use Rattle.lists.proofs.Tests.{by_value, by_number}

-- ---- a sum without one of its terms

-- 0 in place of the term at i
abbrev pub without : (ℕ → ℕ) → ℕ → ℕ → ℕ
without f i k = cond (eqb k i) 0 (f k)

without_here : (f : ℕ → ℕ) (i : ℕ) → without f i i ≡ 0
without_here f i = simp (eq-eqb i i refl)

without_other : (f : ℕ → ℕ) (i k : ℕ) → (k ≡ i → ⊥) → without f i k ≡ f k
without_other f i k other = simp (ne_eqb k i other)

-- the term and the sum without it
pub total-without : (f : ℕ → ℕ) (n i : ℕ) → i < n → total f n ≡ total (without f i) n + f i
unfolding total
total-without f zero i below = absurd (omega arith)
total-without f (suc n) i below =
    ⊎_elim
    (λ (e : i ≡ n). omega (
      arith,
      total_same f (without f i) n (λ k l. sym (without_other f i k (λ q. omega (arith, e)))),
      ap (without f i) (sym e) ∙ without_here f i,
      ap f e,
    ))
    (λ (l : i < n). omega (arith, total-without f n i l, without_other f i n (λ q. omega arith)))
    (eq-or-lt_of_le (omega arith))

-- ---- the exchange: f has at i what g has at j and the other way round, and the same elsewhere

module _ {A : Type 0} (f g : ℕ → A) (n i j : ℕ) where
  pub record Exchanged : Type 0 where
    pub i_below : i < n
    pub j_below : j < n
    pub there : f i ≡ g j
    pub back : f j ≡ g i
    pub others : (k : ℕ) → k < n → (k ≡ i → ⊥) → (k ≡ j → ⊥) → f k ≡ g k

-- where both places are one, nothing is exchanged
exchanged_same : {A : Type 0} (f g : ℕ → A) (n i j : ℕ) → Exchanged f g n i j → i ≡ j → (k : ℕ) → k < n → f k ≡ g k
exchanged_same f g n i j x e k below =
    by_number (λ k. k < n → f k ≡ g k) i k (λ l. x.there ∙ ap g (sym e)) (λ other l. x.others k l other (λ q. other (q ∙ sym e))) below

-- without both places the two sums have the same terms
without_both : (f g : ℕ → ℕ) (n i j : ℕ) → Exchanged f g n i j → (k : ℕ) → k < n → without (without f i) j k ≡ without (without g i) j k
without_both f g n i j x k below =
    by_value (λ b. cond b 0 (without f i k) ≡ cond b 0 (without g i k)) (eqb k j) (λ e. refl)
    (λ not-j. by_value (λ b. cond b 0 (f k) ≡ cond b 0 (g k)) (eqb k i) (λ e. refl)
    (λ not-i. x.others k below (eqb-false k i not-i) (eqb-false k j not-j)))

pub total_exchanged : (f g : ℕ → ℕ) (n i j : ℕ) → Exchanged f g n i j → total f n ≡ total g n
total_exchanged f g n i j x =
    by_value (λ b. total f n ≡ total g n) (eqb j i)
    (λ e. total_same f g n (exchanged_same f g n i j x (sym (eqb-true j i e))))
    (λ e. let apart = eqb-false j i e in
    omega (
      arith,
      total-without f n i x.i_below,
      total-without (without f i) n j x.j_below,
      without_other f i j apart,
      total-without g n i x.i_below,
      total-without (without g i) n j x.j_below,
      without_other g i j apart,
      total_same (without (without f i) j) (without (without g i) j) n (without_both f g n i j x),
      x.there,
      x.back,
    ))

-- ---- what holds of each place

-- the exchange the other way round
pub exchanged_back : {A : Type 0} (f g : ℕ → A) (n i j : ℕ) → Exchanged f g n i j → Exchanged g f n i j
exchanged_back f g n i j x =
    record {
      i_below = x.i_below;
      j_below = x.j_below;
      there = sym x.back;
      back = sym x.there;
      others = λ k below p q. sym (x.others k below p q);
    }

-- what holds of each place holds of each after the exchange
pub each_exchanged : (f g : ℕ → Bool) (n i j : ℕ) → Exchanged f g n i j → every f n ≡ true → every g n ≡ true
each_exchanged f g n i j x e =
    every_each g n
    (λ k below. by_number (λ k. g k ≡ true) i k (sym x.back ∙ every-at f n j e x.j_below)
    (λ not-i. by_number (λ k. (k ≡ i → ⊥) → k < n → g k ≡ true) j k (λ p l. sym x.there ∙ every-at f n i e x.i_below)
    (λ not-j p l. sym (x.others k l p not-j) ∙ every-at f n k e l) not-i below))

-- two tests each of which holds where the other does
pub both_ways : (a b : Bool) → (a ≡ true → b ≡ true) → (b ≡ true → a ≡ true) → a ≡ b
both_ways true true p q = refl
both_ways true false p q = sym (p refl)
both_ways false true p q = q refl
both_ways false false p q = refl

pub every_exchanged : (f g : ℕ → Bool) (n i j : ℕ) → Exchanged f g n i j → every f n ≡ every g n
every_exchanged f g n i j x =
    both_ways (every f n) (every g n) (each_exchanged f g n i j x) (each_exchanged g f n i j (exchanged_back f g n i j x))
