-- With whatever room, every schedule of any text is counted by its verdict, and those that are not good are listed or counted as not listed.
use Prim.Native.Nat.{ℕ, ◌+◌, ◌-◌, ◌^◌, ◌≤◌, ◌<◌}
use mathlib.Core.Path.{◌≡◌, refl, sym, ap, subst, ◌∙◌}
use mathlib.Core.Bool.{Bool, true, false, cond, not}
use mathlib.Core.List.{List, [], ◌∷◌}
use native.Mathlib.Omega.{arith}
use lib.Dec.{eqb, ltb}
use lib.ListN.{length, get_or, set, length-set, get_or-replicate}
use lib.Seq.{get_or-set_same, get_or-set_other}
use borrow.Author.Tests.{eqb-true, eqb-false}
use Rattle.lists.proofs.Laws.{and_left}
use Rattle.lists.proofs.Tests.{by_value, by_test}
use Rattle.gather.specs.Gathering.{more}
use Rattle.gather.proofs.Lines.{one_more}
use Rattle.verdict.specs.declared.Judged.{Judged}
use Rattle.verdict.specs.Verdicts.{verdict_number, judged, verdict_of}
use Rattle.morning.specs.declared.Night.{Night}
use Rattle.morning.specs.declared.Entry.{Entry}
use Rattle.morning.specs.Reading.{start_night, counted_at, is_listed, closed_as, closed_by, closing, end_night}
use Rattle.morning.specs.Theorems.{Schedule, number_of, is_good, count_of, not_good, TheEndKeepsWhatWasRead}
use Rattle.morning.specs.AnyText.{schedules_in, TextCounted}
use Rattle.morning.proofs.Laws.{verdict_low, good_number_lem}
use Rattle.morning.proofs.Told.{Book, whole, closed, closings, at_start, all_told}

-- what holds of each of the three ends of a schedule, holds of its end
closed_cases : (P : Night → Type 0) (j : Judged) (room : ℕ) (night : Night)
    → (is_listed (verdict_number j.verdict) night.hand.fits night.listed room ≡ true
    → P (closed_as night.used (night.listed + 1) night.unlisted (counted_at night.counts (verdict_number j.verdict)) night))
    → (ltb (verdict_number j.verdict) 6 ≡ true
    → P (closed_as night.hand.start night.listed (more night.unlisted) (counted_at night.counts (verdict_number j.verdict)) night))
    → (ltb (verdict_number j.verdict) 6 ≡ false
    → P (closed_as night.hand.start night.listed night.unlisted (counted_at night.counts (verdict_number j.verdict)) night))
    → P (closed_by j room night)
unfolding closed_by
closed_cases P j room night listed unlisted good =
    by_test P (is_listed (verdict_number j.verdict) night.hand.fits night.listed room) listed
    (λ e. by_test P (ltb (verdict_number j.verdict) 6) unlisted good)

pub the_end_keeps_what_was_read : TheEndKeepsWhatWasRead
unfolding end_night closing closed_as
the_end_keeps_what_was_read room night =
    by_test (λ (after : Night). after.hand.watch ≡ night.hand.watch) night.begun
    (λ e. closed_cases (λ (after : Night). after.hand.watch ≡ night.hand.watch) (judged night.hand.watch) room night (λ e. refl) (λ e. refl) (λ e. refl))
    (λ e. refl)

-- ---- the counts

closed_counts : (room name-room : ℕ) (book : Book) (schedule : Schedule)
    → (closed room name-room book schedule).night.counts ≡ counted_at book.night.counts (number_of schedule)
unfolding closed_as number_of
closed_counts room name-room book schedule =
    closed_cases
    (λ (night : Night). night.counts ≡ counted_at book.night.counts (verdict_number (verdict_of schedule.text).verdict))
    (verdict_of schedule.text)
    room
    (whole name-room book schedule)
    (λ e. refl)
    (λ e. refl)
    (λ e. refl)

counted-more : (counts : List ℕ) (this number : ℕ) → this < length counts → get_or counts number 0 < 2 ^ 64 - 1
    → get_or (counted_at counts this) number 0 ≡ get_or counts number 0 + cond (eqb this number) 1 0
unfolding counted_at
counted-more counts this number h small =
    by_value
    (λ b. get_or (set counts this (more (get_or counts this 0))) number 0 ≡ get_or counts number 0 + cond b 1 0)
    (eqb this number)
    (λ e. let same : this ≡ number = eqb-true this number e in
    subst (λ (n : ℕ). get_or (set counts this (more (get_or counts this 0))) n 0 ≡ get_or counts n 0 + 1) same
    (get_or-set_same counts this (more (get_or counts this 0)) 0 h ∙ one_more (get_or counts this 0) (subst (λ (n : ℕ). get_or counts n 0 < 2 ^ 64 - 1) (sym same) small)))
    (λ e. get_or-set_other counts this number (more (get_or counts this 0)) 0 (λ q. eqb-false this number e (sym q)) ∙ omega arith)

counted_long : (counts : List ℕ) (this : ℕ) → length (counted_at counts this) ≡ length counts
unfolding counted_at
counted_long counts this = length-set counts this (more (get_or counts this 0))

-- one or none
pub one_at_most : (b : Bool) → cond b 1 0 ≤ 1
one_at_most true = omega arith
one_at_most false = omega arith

number_low : (schedule : Schedule) → number_of schedule < 7
unfolding number_of
number_low schedule = verdict_low (verdict_of schedule.text).verdict

counts_all : (room name-room number : ℕ) (book : Book) (schedules : List Schedule) → length book.night.counts ≡ 7
    → get_or book.night.counts number 0 + length schedules < 2 ^ 64
    → get_or (closings room name-room book schedules).night.counts number 0 ≡ get_or book.night.counts number 0 + count_of number schedules
unfolding closings count_of
counts_all room name-room number book [] seven few = omega arith
counts_all room name-room number book (schedule ∷ rest) seven few =
    let counts = book.night.counts in
    let this = number_of schedule in
    let after = closed room name-room book schedule in
    let same : after.night.counts ≡ counted_at counts this = closed_counts room name-room book schedule in
    let one : get_or after.night.counts number 0 ≡ get_or counts number 0 + cond (eqb this number) 1 0 =
    ap (λ (l : List ℕ). get_or l number 0) same ∙ counted-more counts this number (omega (arith, seven, number_low schedule)) (omega (arith, few)) in
    let long : length after.night.counts ≡ 7 = ap length same ∙ counted_long counts this ∙ seven in
    let on = counts_all room name-room number after rest long (omega (arith, few, one, one_at_most (eqb this number))) in
    omega (arith, one, on)

-- ---- listed, and not listed

-- one more of them where the schedule is not good
record OneMore (before after : Night) (bad : Bool) : Type 0 where
  total : after.listed + after.unlisted ≡ before.listed + before.unlisted + cond bad 1 0
  most : after.unlisted ≤ before.unlisted + 1

closed_more : (room name-room : ℕ) (book : Book) (schedule : Schedule) → book.night.unlisted < 2 ^ 64 - 1
    → OneMore book.night (closed room name-room book schedule).night (ltb (number_of schedule) 6)
unfolding closed_as number_of is_listed
closed_more room name-room book schedule few =
    closed_cases
    (λ (night : Night). OneMore book.night night (ltb (verdict_number (verdict_of schedule.text).verdict) 6))
    (verdict_of schedule.text)
    room
    (whole name-room book schedule)
    (λ e. let bad = and_left (ltb (verdict_number (verdict_of schedule.text).verdict) 6) _ e in record { total = rw bad (omega arith); most = omega arith })
    (λ e. let up = one_more book.night.unlisted few in record { total = rw e (omega (arith, up)); most = omega (arith, up) })
    (λ e. record { total = rw e (omega arith); most = omega arith })

total_all : (room name-room : ℕ) (book : Book) (schedules : List Schedule) → book.night.unlisted + length schedules < 2 ^ 64
    → (closings room name-room book schedules).night.listed + (closings room name-room book schedules).night.unlisted
    ≡ book.night.listed + book.night.unlisted + length (not_good schedules)
unfolding closings not_good number_of
total_all room name-room book [] few = omega arith
total_all room name-room book (schedule ∷ rest) few =
    let one = closed_more room name-room book schedule (omega (arith, few)) in
    let on = total_all room name-room (closed room name-room book schedule) rest (omega (arith, few, one.most)) in
    let same : ◌≡◌ {A = ℕ} (cond (ltb (number_of schedule) 6) 1 0) (cond (not (is_good (verdict_of schedule.text).verdict)) 1 0) =
    ap (λ (bad : Bool). cond bad 1 0) (good_number_lem (verdict_of schedule.text).verdict) in
    let long = bad_long (is_good (verdict_of schedule.text).verdict) in
    omega (arith, one.total, on, long, same)
  where
    bad_long : (good : Bool) → length (cond good (not_good rest) (schedule ∷ not_good rest)) ≡ cond (not good) 1 0 + length (not_good rest)
    bad_long true = omega arith
    bad_long false = omega arith

-- of any text with so many schedules
pub text-counted : (rows : List Entry) (names text : List ℕ) → length (schedules_in text) < 2 ^ 64 → TextCounted rows names text
unfolding start_night
text-counted rows names text few =
    let told = all_told rows names text in
    let none = at_start rows names in
    let schedules : List Schedule = schedules_in text in
    record {
      counts = λ number h.
          let at_start_lem = get_or-replicate {A = ℕ} 7 number 0 0 h in
          let counted = counts_all (length rows) (length names) number none schedules refl (omega (arith, few, at_start_lem)) in
          ap (λ (book : Book). get_or book.night.counts number 0) told ∙ omega (arith, counted, at_start_lem);
      all = ap (λ (book : Book). book.night.listed + book.night.unlisted) told
          ∙ total_all (length rows) (length names) none schedules (omega (arith, few)) ∙ omega arith;
    }
