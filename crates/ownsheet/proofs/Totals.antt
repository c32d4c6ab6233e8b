-- The totals of a run are plain sums: no sum over its locks comes near its top, and the places behind its locks have nothing.
use Prim.Native.Nat.{ℕ, zero, suc, ◌^◌, ◌≤◌, ◌<◌, min}
use mathlib.Core.Path.{◌≡◌, refl, ◌∙◌, ap}
use mathlib.Core.List.{List}
use mathlib.Core.Logic.{⊎_elim}
use native.Mathlib.Omega.{arith}
use lib.ListN.{length, get_or, get_or-eq_default}
use Rattle.lists.specs.Loops.{total, in_order}
use Rattle.lists.proofs.Laws.{total_monotone}
use Rattle.lists.proofs.Tests.{at_most_or_above}
use Rattle.tally.specs.Tally.{add_up, sum_of}
use Rattle.tally.proofs.Small.{together}
use Rattle.course.specs.Standing.{locks_of}
use Rattle.run.specs.Outcomes.{outcome_of, file_course, file_outcome}
use Rattle.run.proofs.Caps.{no_count_is_capped}
use Rattle.ownsheet.specs.Theorems.{TheTotalsAreTheSums}
use Rattle.ownsheet.proofs.Ends.{shaped_end, within_end}

-- a sum that stays below the top is the plain sum
plain : (counts : List ℕ) (n : ℕ) → together counts n < 2 ^ 64 → in_order (add_up counts) n 0 ≡ together counts n
unfolding in_order add_up total
plain counts zero small = refl
plain counts (suc n) small =
    let before : in_order (add_up counts) n 0 ≡ together counts n = plain counts n (omega arith) in
    omega (arith, before)

-- places behind a list's end add nothing
behind : (counts : List ℕ) (n : ℕ) → length counts ≡ 64 → together counts (min n 64) ≡ together counts n
unfolding total
behind counts zero long = let none : min 0 64 ≡ 0 = omega arith in ap (together counts) none
behind counts (suc n) long =
    ⊎_elim
    (λ few. let all : min (suc n) 64 ≡ suc n = omega arith in ap (together counts) all)
    (λ above.
    let same : min (suc n) 64 ≡ min n 64 = omega arith in
    let none : get_or counts n 0 ≡ 0 = get_or-eq_default counts 0 (omega arith) in
    let before : together counts (min n 64) ≡ together counts n = behind counts n long in
    ap (together counts) same ∙ omega (arith, before, none))
    (at_most_or_above (suc n) 64)

sum-plain : (counts : List ℕ) (locks : ℕ) → length counts ≡ 64 → together counts 64 < 2 ^ 64 → sum_of counts locks ≡ together counts locks
unfolding sum_of
sum-plain counts locks long small =
    let fewer : together counts (min locks 64) ≤ together counts 64 = total_monotone (λ lock. get_or counts lock 0) (min locks 64) 64 (omega arith) in
    plain counts (min locks 64) (omega (arith, fewer)) ∙ behind counts locks long

pub the_totals_are_the_sums : TheTotalsAreTheSums
unfolding file_outcome outcome_of
the_totals_are_the_sums ceiling file bytes =
    let end = (file_course ceiling file).end in
    let s = shaped_end ceiling file in
    let w = within_end ceiling file in
    let few = (no_count_is_capped ceiling file bytes).steps in
    record {
      grants = sum-plain end.reached.tally.grants (locks_of end) s.grants_places (omega (arith, few, w.both));
      failed = sum-plain end.reached.tally.failed (locks_of end) s.failed_places (omega (arith, few, w.both));
    }
