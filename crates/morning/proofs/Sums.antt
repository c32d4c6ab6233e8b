-- The report's three sums are numbers of schedules; and of every text whatever each schedule that begins is counted once.
use Prim.Native.Nat.{ℕ, ◌+◌, ◌^◌, ◌<◌}
use mathlib.Core.Path.{◌≡◌, refl, ap, ap₂, ◌∙◌}
use mathlib.Core.Bool.{cond}
use mathlib.Core.List.{List, [], ◌∷◌}
use native.Mathlib.Omega.{arith}
use lib.Dec.{eqb}
use lib.ListN.{length, get_or}
use Rattle.verdict.specs.declared.Verdict.{Verdict}
use Rattle.verdict.specs.declared.Verdict.TheVariants.{Incomplete, Refused, RefusedActions, Cut, LocksLost, TakesFailed, Good}
use Rattle.verdict.specs.Verdicts.{verdict_number, is_bad, is_looked_at, verdict_of}
use Rattle.morning.specs.Theorems.{Schedule, number_of, count_of, night_after}
use Rattle.morning.specs.Counts.{together, bad_of, looked_at_of, all_of, with_verdict, TheSumsAreTheSchedules, NoScheduleIsLost}
use Rattle.morning.specs.AnyText.{schedules_in, night_of}
use Rattle.morning.proofs.AnyText.{as_many_as_begin, schedules_few, every-text-is-counted, every_schedule-is-counted}

-- ---- sums that 64 bits hold

together_is : (one other : ℕ) → one + other < 2 ^ 64 → together one other ≡ one + other
unfolding together
together_is one other few = omega (arith, few)

unfoldable bad_sum : List ℕ → ℕ
bad_sum counts = get_or counts 0 0 + get_or counts 1 0 + (get_or counts 2 0 + get_or counts 3 0)

unfoldable looked_at_sum : List ℕ → ℕ
looked_at_sum counts = get_or counts 4 0 + get_or counts 5 0

unfoldable sum : List ℕ → ℕ
sum counts = bad_sum counts + looked_at_sum counts + get_or counts 6 0

bad_is : (counts : List ℕ) → bad_sum counts < 2 ^ 64 → bad_of counts ≡ bad_sum counts
unfolding bad_of bad_sum
bad_is counts few =
    let a = get_or counts 0 0 in
    let b = get_or counts 1 0 in
    let c = get_or counts 2 0 in
    let d = get_or counts 3 0 in
    ap₂ together (together_is a b (omega (arith, few))) (together_is c d (omega (arith, few))) ∙ together_is (a + b) (c + d) few

looked_at_is : (counts : List ℕ) → looked_at_sum counts < 2 ^ 64 → looked_at_of counts ≡ looked_at_sum counts
unfolding looked_at_of looked_at_sum
looked_at_is counts few = together_is (get_or counts 4 0) (get_or counts 5 0) few

all_is : (counts : List ℕ) → sum counts < 2 ^ 64 → all_of counts ≡ sum counts
unfolding all_of sum
all_is counts few =
    let bad = bad_sum counts in
    let looked_at = looked_at_sum counts in
    let good = get_or counts 6 0 in
    ap (λ (n : ℕ). together n good)
    (ap₂ together (bad_is counts (omega (arith, few))) (looked_at_is counts (omega (arith, few))) ∙ together_is bad looked_at (omega (arith, few)))
    ∙ together_is (bad + looked_at) good few

-- ---- one verdict

-- 1 where a verdict has a number
abbrev at : Verdict → ℕ → ℕ
at verdict number = cond (eqb (verdict_number verdict) number) 1 0

bad_one : (verdict : Verdict) → at verdict 0 + at verdict 1 + (at verdict 2 + at verdict 3) ≡ cond (is_bad (verdict_number verdict)) 1 0
unfolding verdict_number is_bad
bad_one Incomplete = refl
bad_one Refused = refl
bad_one RefusedActions = refl
bad_one Cut = refl
bad_one LocksLost = refl
bad_one TakesFailed = refl
bad_one Good = refl

looked_at_one : (verdict : Verdict) → at verdict 4 + at verdict 5 ≡ cond (is_looked_at (verdict_number verdict)) 1 0
unfolding verdict_number is_bad is_looked_at
looked_at_one Incomplete = refl
looked_at_one Refused = refl
looked_at_one RefusedActions = refl
looked_at_one Cut = refl
looked_at_one LocksLost = refl
looked_at_one TakesFailed = refl
looked_at_one Good = refl

-- it has one of the seven
one_of_all : (verdict : Verdict) → at verdict 0 + at verdict 1 + (at verdict 2 + at verdict 3) + (at verdict 4 + at verdict 5) + at verdict 6 ≡ 1
unfolding verdict_number
one_of_all Incomplete = refl
one_of_all Refused = refl
one_of_all RefusedActions = refl
one_of_all Cut = refl
one_of_all LocksLost = refl
one_of_all TakesFailed = refl
one_of_all Good = refl

-- ---- the schedules

bad_schedules : (schedules : List Schedule)
    → count_of 0 schedules + count_of 1 schedules + (count_of 2 schedules + count_of 3 schedules) ≡ with_verdict is_bad schedules
unfolding count_of with_verdict number_of
bad_schedules [] = refl
bad_schedules (schedule ∷ rest) = omega (arith, bad_one (verdict_of schedule.text).verdict, bad_schedules rest)

looked_at_schedules : (schedules : List Schedule) → count_of 4 schedules + count_of 5 schedules ≡ with_verdict is_looked_at schedules
unfolding count_of with_verdict number_of
looked_at_schedules [] = refl
looked_at_schedules (schedule ∷ rest) = omega (arith, looked_at_one (verdict_of schedule.text).verdict, looked_at_schedules rest)

all_schedules : (schedules : List Schedule)
    → count_of 0 schedules + count_of 1 schedules + (count_of 2 schedules + count_of 3 schedules) + (count_of 4 schedules + count_of 5 schedules)
    + count_of 6 schedules ≡ length schedules
unfolding count_of number_of
all_schedules [] = refl
all_schedules (schedule ∷ rest) = omega (arith, one_of_all (verdict_of schedule.text).verdict, all_schedules rest)

-- the three sums of counts by verdict
record Sums (counts : List ℕ) (schedules : List Schedule) : Type 0 where
  bad : bad_of counts ≡ with_verdict is_bad schedules
  looked_at : looked_at_of counts ≡ with_verdict is_looked_at schedules
  all : all_of counts ≡ length schedules

summed : (counts : List ℕ) (schedules : List Schedule) → ((number : ℕ) → number < 7 → get_or counts number 0 ≡ count_of number schedules)
    → length schedules < 2 ^ 64 → Sums counts schedules
unfolding bad_sum looked_at_sum sum
summed counts schedules counted few =
    let c0 = counted 0 (omega arith) in
    let c1 = counted 1 (omega arith) in
    let c2 = counted 2 (omega arith) in
    let c3 = counted 3 (omega arith) in
    let c4 = counted 4 (omega arith) in
    let c5 = counted 5 (omega arith) in
    let c6 = counted 6 (omega arith) in
    let in_all = all_schedules schedules in
    record {
      bad = bad_is counts (omega (arith, c0, c1, c2, c3, in_all, few)) ∙ omega (arith, c0, c1, c2, c3, bad_schedules schedules);
      looked_at = looked_at_is counts (omega (arith, c4, c5, in_all, few)) ∙ omega (arith, c4, c5, looked_at_schedules schedules);
      all = all_is counts (omega (arith, c0, c1, c2, c3, c4, c5, c6, in_all, few)) ∙ omega (arith, c0, c1, c2, c3, c4, c5, c6, in_all);
    }

pub the_sums_are_the_schedules : TheSumsAreTheSchedules
the_sums_are_the_schedules rows names schedules right few =
    let so = summed (night_after rows names schedules).counts schedules (every_schedule-is-counted rows names schedules right few).counts few in
    record { bad = so.bad; looked_at = so.looked_at; all = so.all }

pub no_schedule_is_lost : NoScheduleIsLost
no_schedule_is_lost rows names text few =
    let counted = (every-text-is-counted rows names text few).counts in
    (summed (night_of rows names text).counts (schedules_in text) counted (omega (arith, few, schedules_few text))).all ∙ as_many_as_begin text
