-- A plan's body without a byte of 5: 3 asks for its length, as before, and 4 asks what it asked; the places for values are more, and the others zeros.
use Prim.Native.Nat.{ℕ, zero, suc, ◌+◌, ◌≤◌, ◌<◌}
use mathlib.Core.Path.{◌≡◌, refl, sym, ap, ◌∙◌}
use mathlib.Core.Bool.{Bool, true, false, cond, not, ◌&&◌, ◌||◌, true≢false}
use mathlib.Core.List.{List, [], ◌∷◌, ◌++◌}
use native.Mathlib.Omega.{arith}
use lib.Dec.{eqb, ltb, eqb-zero-suc, eqb-suc-zero, eqb-suc-suc}
use lib.ListN.{length, get_or, take, drop, replicate, length-append, length-drop, length-replicate, get_or-append, get_or-eq_default}
use lib.Seq.{get_or-take, get_or-drop, length-take-le, take-take}
use borrow.Author.Tests.{ltb-true, ltb-false, eqb-true, eqb-false, not-true, eq-eqb, ne_eqb}
use Rattle.lists.specs.Loops.{every}
use Rattle.lists.specs.Refusal.{refused_if}
use Rattle.lists.proofs.Laws.{every-at, every_each, every_same}
use Rattle.lists.proofs.Tests.{by_value}
use Rattle.positions.specs.Shape.{ends_at}
use Rattle.plan.specs.Plan.{heads_in_range, in_range}
use Rattle.plan.proofs.Laws.{heads-in_range}
use Rattle.nightfile.specs.File.{byte_at, plan_length_wrong, plan_values, plan_of}
use Rattle.onelevel.specs.Before.{value_at, without_five, value_in_range, place_in_range, in_range_before, no_five, length_wrong_before, plan_before, plan_part_before}
use Rattle.onelevel.specs.Theorems.{PlanAsBefore}
use Rattle.onelevel.proofs.Range.{range_as_before}

-- ---- 3

-- bytes without a 5 end exactly where there are as many as positions
ends_length : (count : ℕ) (bytes : List ℕ) → ((place : ℕ) → place < length bytes → get_or bytes place 0 ≡ 5 → ⊥) → ends_at false count bytes ≡ eqb (length bytes) count
unfolding ends_at
ends_length zero [] other = refl
ends_length (suc count) [] other = sym (eqb-zero-suc count)
ends_length zero (byte ∷ bytes) other = sym (eqb-suc-zero (length bytes))
ends_length (suc count) (byte ∷ bytes) other =
    ap (λ (b : Bool). ends_at b count bytes) (ne_eqb byte 5 (other 0 (omega arith)))
    ∙ ends_length count bytes (λ place l. other (suc place) (omega (arith, l)))
    ∙ sym (eqb-suc-suc (length bytes) count)

module _ (body : List ℕ) (other : no_five body ≡ true) where
  -- the bytes of the positions, and how many are to be there
  abbrev bytes : List ℕ
  bytes = drop 3 body

  abbrev count : ℕ
  count = byte_at body 2

  byte_other : (place : ℕ) → place < length bytes → get_or bytes place 0 ≡ 5 → ⊥
  unfolding no_five byte_at
  byte_other place l five =
      eqb-false (get_or body (3 + place) 0) 5 (not-true _ (every-at (λ k. not (eqb (get_or body (3 + k) 0) 5)) (length bytes) place other l))
      (sym (get_or-drop 3 body place 0) ∙ five)

  same_length : 3 ≤ length body → eqb (length bytes) count ≡ eqb (length body) (3 + count)
  same_length long =
      let left = length-drop 3 body in
      by_value (λ t. t ≡ eqb (length body) (3 + count)) (eqb (length bytes) count)
      (λ e. let same = eqb-true (length bytes) count e in sym (eq-eqb (length body) (3 + count) (omega (arith, left, same, long))))
      (λ e. sym (ne_eqb (length body) (3 + count) (λ all. eqb-false (length bytes) count e (omega (arith, left, all)))))

  length_as_before : plan_length_wrong body ≡ length_wrong_before body
  unfolding plan_length_wrong length_wrong_before
  length_as_before =
      by_value (λ t. (t || not (ends_at false count bytes)) ≡ (t || not (eqb (length body) (3 + count)))) (ltb (length body) 3) (λ short. refl)
      (λ long. ap not (ends_length count bytes byte_other ∙ same_length (ltb-false _ _ long)))

  -- ---- 4

  -- the bytes with as many zeros behind them as there are places, and the first so many of these
  abbrev padded : ℕ → List ℕ
  padded places = bytes ++ replicate places 0

  padded_long : (places : ℕ) → length (take places (padded places)) ≡ places
  padded_long places =
      let all = length-append bytes (replicate places 0) in
      let zeros = length-replicate {A = ℕ} places 0 in length-take-le places (padded places) (omega (arith, all, zeros))

  -- a place of these has the byte, where there is one
  padded_at : (places place : ℕ) → place < places → place < length bytes → get_or (take places (padded places)) place 0 ≡ get_or bytes place 0
  padded_at places place there l = get_or-take places (padded places) place 0 there ∙ get_or-append bytes (replicate places 0) 0 place l

  -- where the length is right there is one for each position
  module _ (right : length bytes ≡ count) where
    body_without_five : without_five (plan_of body) ≡ true
    unfolding without_five value_at plan_of plan_values
    body_without_five =
        every_each _ count (λ place l. ap not (ne_eqb _ 5 (value_other place l)))
      where
        values : List ℕ
        values = take 352 (padded 352)

        value_other : (place : ℕ) → place < count → get_or values place 0 ≡ 5 → ⊥
        value_other place l five =
            by_value (λ t. ⊥) (ltb place 352)
            (λ e. byte_other place (omega (arith, right, l)) (sym (padded_at 352 place (ltb-true _ _ e) (omega (arith, right, l))) ∙ five))
            (λ e. let long = padded_long 352 in
            let beyond : length values ≤ place = omega (arith, long, ltb-false place 352 e) in
            let none = get_or-eq_default values 0 beyond in omega (arith, none, five))

    -- the first 16 places are those of before
    places_same : heads_in_range (plan_of body) ≡ true → every (place_in_range (plan_of body)) count ≡ every (place_in_range (plan_before body)) count
    unfolding place_in_range value_at plan_of plan_values plan_before
    places_same heads =
        let most : count ≤ 16 = (heads-in_range (plan_of body) heads).5 in
        every_same _ _ count (λ place l.
        let l₁ : place < length bytes = omega (arith, right, l) in
        ap (value_in_range (byte_at body 0))
        (padded_at 352 place (omega (arith, l, most)) l₁ ∙ sym (padded_at 16 place (omega (arith, l, most)) l₁)))

    plans_same : in_range_before (plan_of body) ≡ in_range_before (plan_before body)
    unfolding in_range_before heads_in_range plan_of plan_before
    plans_same =
        by_value (λ t. (t && every (place_in_range (plan_of body)) count) ≡ (t && every (place_in_range (plan_before body)) count)) (heads_in_range (plan_of body))
        places_same (λ e. refl)

    body_range : in_range (plan_of body) ≡ in_range_before (plan_before body)
    unfolding plan_of plan_values
    body_range =
        let long = padded_long 352 in
        range_as_before (plan_of body) (omega (arith, long)) body_without_five ∙ plans_same

  -- the length is right where it was
  right_length : length_wrong_before body ≡ false → length bytes ≡ count
  unfolding length_wrong_before
  right_length e = go (ltb (length body) 3) (eqb (length body) (3 + count)) refl refl e
    where
      go : (short same : Bool) → ltb (length body) 3 ≡ short → eqb (length body) (3 + count) ≡ same → (short || not same) ≡ false → length bytes ≡ count
      go true same s t e = absurd (true≢false e)
      go false true s t e = let left = length-drop 3 body in let all = eqb-true (length body) (3 + count) t in omega (arith, left, all)
      go false false s t e = absurd (true≢false e)

  -- 3 where the length is wrong, 4 where the plan is out of range
  abbrev numbered : Bool → Bool → ℕ
  numbered wrong range = cond wrong 3 (cond (not range) 4 0)

  pub body_as_before : refused_if (plan_length_wrong body) 3 (refused_if (not (in_range (plan_of body))) 4 0) ≡ plan_part_before body
  unfolding refused_if plan_part_before
  body_as_before =
      ap (λ (t : Bool). numbered t (in_range (plan_of body))) length_as_before
      ∙ by_value (λ t. numbered t (in_range (plan_of body)) ≡ numbered t (in_range_before (plan_before body))) (length_wrong_before body)
      (λ e. refl) (λ e. ap (numbered false) (body_range (right_length e)))

-- ---- the plan

-- the first places of a list with zeros behind it are the same however many zeros there are, if they reach so far
zeros_alike : (n m k : ℕ) → n ≤ m → n ≤ k → take {A = ℕ} n (replicate m 0) ≡ take n (replicate k 0)
zeros_alike zero m k first second = refl
zeros_alike (suc n) zero k first second = absurd (omega (arith, first))
zeros_alike (suc n) (suc m) zero first second = absurd (omega (arith, second))
zeros_alike (suc n) (suc m) (suc k) first second = ap (λ (l : List ℕ). 0 ∷ l) (zeros_alike n m k (omega (arith, first)) (omega (arith, second)))

padded_alike : (n m k : ℕ) (bytes : List ℕ) → n ≤ m → n ≤ k → take n (bytes ++ replicate m 0) ≡ take n (bytes ++ replicate k 0)
padded_alike n m k [] first second = zeros_alike n m k first second
padded_alike zero m k (byte ∷ bytes) first second = refl
padded_alike (suc n) m k (byte ∷ bytes) first second =
    ap (λ (l : List ℕ). byte ∷ l) (padded_alike n m k bytes (omega (arith, first)) (omega (arith, second)))

-- so the first 16 values are those of before
pub plan_as_before : PlanAsBefore
unfolding plan_of plan_values plan_before
plan_as_before body =
    ap (λ (values : List ℕ). record { rules = byte_at body 0; locks = byte_at body 1; positions = byte_at body 2; values = values })
    (take-take 16 352 (drop 3 body ++ replicate 352 0) (omega arith) ∙ padded_alike 16 352 16 (drop 3 body) (omega arith) (omega arith))
