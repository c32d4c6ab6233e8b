-- A file with another number of the rules in its byte 11, the two numbers alike: the same is told of it, and where it is accepted it has the same
-- schedule and the same plan but for that number.
use Prim.Native.Nat.{ℕ, zero, suc, ◌+◌, ◌*◌, ◌<◌}
use mathlib.Core.Path.{◌≡◌, refl, ◌∙◌, sym, ap, ap₂, subst}
use mathlib.Core.Bool.{Bool, true, false, cond, not, ◌&&◌, ◌||◌}
use mathlib.Core.List.{List, [], ◌∷◌}
use native.Mathlib.Omega.{arith}
use lib.Dec.{eqb, ltb}
use lib.ListN.{length, take, drop, set, length-set, length-take}
use lib.Seq.{get_or-set_other, get_or-take, get_or-drop, drop-set-add, drop-set-lt}
use Rattle.lists.specs.Refusal.{refused_if}
use Rattle.nightfile.specs.File.{byte_at, two_at, length_wrong, entry_at, entry_length, schedule_start, contents_right, plan_body, schedule_body, plan_length_wrong, plan_values, plan_of, schedule_number, bodies_number, file_number, Told, number_and_place, file_told, if_accepted, schedule_part}
use Rattle.nightfile.proofs.Laws.{accepted, plan_shown}
use Rattle.nightlock.specs.NightLock.{plan_in}
use Rattle.books.specs.Alike.{Alike, under_plan}
use Rattle.books.specs.Calm.{with_rules}
use Rattle.books.proofs.Under.{range_under}

-- a plan body is cut out of what stands behind the contents, here with another first byte: it has the same number
cut_number : (k m : ℕ) (behind schedule : List ℕ) → Alike k (byte_at behind 0)
    → bodies_number (take (suc m) (set behind 0 k)) schedule ≡ bodies_number (take (suc m) behind) schedule
unfolding bodies_number plan_length_wrong plan_of plan_values byte_at
cut_number k m [] schedule a = refl
cut_number k m (first ∷ behind) schedule a =
    let body = first ∷ take m behind in
    λ i. refused_if (plan_length_wrong body) 3 (refused_if (not (range_under k (plan_of body) a i)) 4 (schedule_number schedule))

-- and the same plan but for the rules
cut_plan : (k n : ℕ) (behind : List ℕ) → 0 < length (take n behind) → plan_of (take n (set behind 0 k)) ≡ under_plan k (plan_of (take n behind))
unfolding plan_of plan_values byte_at
cut_plan k zero behind some = absurd (omega arith)
cut_plan k (suc n) [] some = absurd (omega arith)
cut_plan k (suc n) (first ∷ behind) some = refl

-- what is told of a file, by the tests of 1 and 2 and the length of its plan body
abbrev told_by : List ℕ → Bool → Bool → ℕ → Told
told_by file wrong right plan =
    number_and_place (refused_if wrong 1 (refused_if (not right) 2 (bodies_number (take plan (drop 11 file)) (drop (11 + plan) file)))) (drop (11 + plan) file)

-- what is cut out of a file behind the contents begins with the file's byte 11
cut_first : (n : ℕ) (file : List ℕ) → 0 < n → byte_at (take n (drop 11 file)) 0 ≡ byte_at file 11
unfolding byte_at
cut_first n file some = get_or-take n (drop 11 file) 0 0 some ∙ get_or-drop 11 file 0 0

-- the plan body of an accepted file is not empty
module _ (file : List ℕ) (e : file_number file ≡ 0) where
  plan_there : 0 < length (plan_body file)
  plan_there = omega (arith, (accepted file e).plan_least)

  entry_there : 0 < entry_length file 1
  unfolding plan_body
  entry_there = omega (arith, plan_there, length-take (entry_length file 1) (drop 11 file))

  -- its first byte is the file's byte 11
  pub rules_in : (plan_in file).rules ≡ byte_at file 11
  unfolding plan_in plan_of plan_body
  rules_in = ap (λ (body : List ℕ). byte_at body 0) (plan_shown file e) ∙ cut_first (entry_length file 1) file entry_there

-- the rules in the plan body of any file are its byte 11, or 0 where that body is empty
pub rules_or_0 : (P : ℕ → Type 0) (file : List ℕ) → P 0 → P (byte_at file 11) → P (plan_of (plan_body file)).rules
unfolding plan_of plan_body byte_at
rules_or_0 P file none there = cut (entry_length file 1)
  where
    cut : (n : ℕ) → P (byte_at (take n (drop 11 file)) 0)
    cut zero = none
    cut (suc n) = subst P (sym (cut_first (suc n) file (omega arith))) there

module _ (k : ℕ) (file : List ℕ) where
  -- the file with that byte changed
  abbrev other : List ℕ
  other = with_rules k file

  -- the bytes before it
  byte_same : (at : ℕ) → at < 11 → byte_at other at ≡ byte_at file at
  unfolding with_rules byte_at
  byte_same at below = get_or-set_other file 11 at k 0 (λ e. omega (arith, e))

  two_same : (at : ℕ) → at < 10 → two_at other at ≡ two_at file at
  unfolding two_at
  two_same at below = ap₂ (λ (low high : ℕ). low + 256 * high) (byte_same at (omega arith)) (byte_same (at + 1) (omega arith))

  long_same : length other ≡ length file
  unfolding with_rules
  long_same = length-set file 11 k

  -- the length of the plan body, and the tests of 1 and 2
  plan_long_same : entry_length other 1 ≡ entry_length file 1
  unfolding entry_length
  plan_long_same = two_same 4 (omega arith)

  length_same : length_wrong other ≡ length_wrong file
  unfolding length_wrong
  length_same = ap (λ (n : ℕ). ltb n 11 || ltb 65535 n) long_same

  contents_same : contents_right other ≡ contents_right file
  unfolding contents_right entry_at entry_length schedule_start
  contents_same =
      λ i. eqb (byte_same 0 (omega arith) i) 2
      && (eqb (byte_same 1 (omega arith) i) 1 && eqb (two_same 2 (omega arith) i) 11)
      && (eqb (byte_same 6 (omega arith) i) 2 && eqb (two_same 7 (omega arith) i) (11 + plan_long_same i))
      && eqb (11 + plan_long_same i + two_same 9 (omega arith) i) (long_same i)

  -- what stands behind the contents, and the schedule behind a plan body that is not empty
  behind_same : drop 11 other ≡ set (drop 11 file) 0 k
  unfolding with_rules
  behind_same = drop-set-add 11 file 0 k

  rest_same : (plan : ℕ) → 0 < plan → drop (11 + plan) other ≡ drop (11 + plan) file
  unfolding with_rules
  rest_same plan some = drop-set-lt (11 + plan) file 11 k (omega arith)

  module _ (a : Alike k (byte_at file 11)) where
    -- by those tests the same is told; with an empty plan body it is 3, whatever the schedule
    told_by_lem : (wrong right : Bool) (plan : ℕ) → told_by other wrong right plan ≡ told_by file wrong right plan
    unfolding number_and_place refused_if bodies_number plan_length_wrong byte_at
    told_by_lem true right zero = refl
    told_by_lem false false zero = refl
    told_by_lem false true zero = refl
    told_by_lem wrong right (suc m) =
        let first : Alike k (byte_at (drop 11 file) 0) = subst (Alike k) (sym (get_or-drop 11 file 0 0)) a in
        let rest = rest_same (suc m) (omega arith) in
        let number = ap₂ (λ (behind schedule : List ℕ). bodies_number (take (suc m) behind) schedule) behind_same rest
        ∙ cut_number k m (drop 11 file) (drop (11 + suc m) file) first in
        ap₂ (λ (n : ℕ) (schedule : List ℕ). number_and_place (refused_if wrong 1 (refused_if (not right) 2 n)) schedule) number rest

    pub told_same : file_told other ≡ file_told file
    unfolding file_told file_number plan_body schedule_body schedule_start
    told_same =
        (λ i. told_by other (length_same i) (contents_same i) (plan_long_same i)) ∙ told_by_lem (length_wrong file) (contents_right file) (entry_length file 1)

    -- so the file keeps its number
    pub number_same : file_number other ≡ file_number file
    unfolding file_told number_and_place
    number_same = ap (λ (told : Told). told.number) told_same

  -- where both are accepted, the plan is the same but for the rules, and the schedule is the same
  module _ (e : file_number file ≡ 0) (o : file_number other ≡ 0) where
    pub plan_same : plan_in other ≡ under_plan k (plan_in file)
    unfolding plan_in plan_body
    plan_same =
        ap plan_of (plan_shown other o)
        ∙ ap₂ (λ (n : ℕ) (behind : List ℕ). plan_of (take n behind)) plan_long_same behind_same
        ∙ cut_plan k (entry_length file 1) (drop 11 file) (plan_there file e)
        ∙ ap (λ (body : List ℕ). under_plan k (plan_of body)) (sym (plan_shown file e))

    pub schedule_same : schedule_part other ≡ schedule_part file
    unfolding schedule_part if_accepted schedule_body schedule_start
    schedule_same =
        ap₂ (λ (number : ℕ) (schedule : List ℕ). cond (eqb number 0) schedule []) (o ∙ sym e)
        (ap (λ (n : ℕ). drop (11 + n) other) plan_long_same ∙ rest_same (entry_length file 1) (entry_there file e))
