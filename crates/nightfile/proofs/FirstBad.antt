-- The first bad item: beside 6 the file tells its place, beside any other number none.
use Prim.Native.Nat.{ℕ, ◌+◌, ◌*◌, ◌/◌, ◌≤◌, ◌<◌}
use mathlib.Core.Path.{◌≡◌, refl, sym, ap, ◌∙◌}
use mathlib.Core.Bool.{Bool, true, false, cond, not}
use mathlib.Core.List.{List, []}
use native.Mathlib.Omega.{arith}
use lib.Dec.{leb}
use lib.ListN.{length, get_or}
use borrow.Author.Tests.{leb-true, leb-false, ne_eqb}
use denote.Param.Members.{Mut, Called}
use Rattle.std.specs.Borrow.{Bor}
use Rattle.std.specs.Prelude.{Option, Some, None, IsTrue, IfSome, MatchOption, slice_index_or}
use Rattle.std.specs.Option.{IsSomeAnd, option_map}
use Rattle.std.specs.List.{IsSubsliceAt}
use Rattle.std.specs.Iterator.Runs.{Run, SomeRun, EveryRun, IsChunksExactRun, AllItemsGive, IsFirstToGive}
use Rattle.lists.specs.Refusal.{refused_if}
use Rattle.lists.proofs.Laws.{every-at, every_each, every-not}
use Rattle.lists.proofs.First.{first_is, first-at}
use Rattle.nightfile.specs.File.{byte_at, item_kind_right, item_kinds_right, first_bad_item, length_wrong, contents_right, plan_body, schedule_body, plan_length_wrong, plan_of, bytes_left_over, schedule_number, bodies_number, file_number, number_and_place, file_told, file_place}
use Rattle.nightfile.specs.Theorems.{IsFirstBad, OneIsFirst, SixTellsTheFirstBad, OnlySixTellsAPlace}
use Rattle.plan.specs.Plan.{in_range}
use Rattle.nightfile.proofs.Laws.{passed_over}

-- the first of the whole items of which a test of their first byte holds, from the run of the chunks that were looked at
module _ {S F : Type 0} {steps : S → Option (Bor (List ℕ)) → S → Type 0} (schedule : List ℕ) (p : Run steps) (chunks : IsChunksExactRun p 3 schedule)
    (g : Mut F (Bor (List ℕ) × Unit {0}) Bool) (f : F)
    (asks : (item : Bor (List ℕ)) (bad : Bool) (q : F) → Called g f (item, tt) bad q → (q ≡ f) × (leb (get_or item.now 0 0) 3 ≡ not bad)) where
  -- an item is three bytes of the schedule
  kind_of : (k : ℕ) (bad : Bool) → IsSomeAnd (p.at k) (λ item. Called g f (item, tt) bad f) → item_kind_right schedule k ≡ not bad
  unfolding item_kind_right byte_at
  kind_of k bad asked = go (p.at k) (chunks.2 k) asked
    where
      go : (found : Option (Bor (List ℕ)))
          → IfSome found (λ x. (length x.now ≡ 3) × (k * 3 + 3 ≤ length schedule) × IsSubsliceAt 3 schedule (k * 3) x.now)
          → IsSomeAnd found (λ item. Called g f (item, tt) bad f) → leb (get_or schedule (3 * k) 0) 3 ≡ not bad
      go None chunk asked = elim asked [ ]
      go (Some item) chunk asked =
          let place : k * 3 + 0 ≡ 3 * k = omega arith in
          ap (λ (byte : ℕ). leb byte 3) (ap (λ (at : ℕ). get_or schedule at 0) (sym place) ∙ sym (chunk.2.2 0 0 (omega arith))) ∙ (asks item bad f asked).1

  -- an item of the run is there
  asked_at : (k : ℕ) → k < p.len → IfSome (p.at k) (λ item. Called g f (item, tt) false f) → IsSomeAnd (p.at k) (λ item. Called g f (item, tt) false f)
  asked_at k there asked = go (p.at k) (λ d. p.reads k d there) asked
    where
      go : (found : Option (Bor (List ℕ))) → ((d : Bor (List ℕ)) → option_map (λ y. y) found ≡ Some (slice_index_or p.items k d))
          → IfSome found (λ item. Called g f (item, tt) false f) → IsSomeAnd found (λ item. Called g f (item, tt) false f)
      go None reads asked = let none = reads (record { ref_ptr = (0, 0); now = [] }) in absurd (cc)
      go (Some item) reads asked = asked

  found_first : (found : Option ℕ)
      → MatchOption found (IsTrue p.whole × AllItemsGive p g f false) (λ i. (p.len ≡ i + 1) × IsFirstToGive p g f true false i)
      → found ≡ cond (item_kinds_right schedule) None (Some (first_bad_item schedule))
  unfolding item_kinds_right first_bad_item
  found_first None (whole, none) =
      let all : p.len ≡ length schedule / 3 = chunks.1 whole in
      let right = every_each (item_kind_right schedule) (length schedule / 3) (λ k below. kind_of k false (asked_at k (omega arith) (none (λ a r q h. (asks a.0 r q h).0) k))) in
      rw right
  found_first (Some i) (end, first) =
      let hit = first (λ a r q h. (asks a.0 r q h).0) in
      let there : i < length schedule / 3 = omega (arith, chunks.0) in
      let bad = kind_of i true hit.0 in
      let before : (j : ℕ) → j < i → item_kind_right schedule j ≡ true = λ j earlier. kind_of j false (hit.1 j earlier) in
      rw (every-not (item_kind_right schedule) (length schedule / 3) i there bad)
      (ap (λ (n : ℕ). Some n) (sym (first_is (item_kind_right schedule) (length schedule / 3) i (omega arith) before (λ below. bad))))

-- what `position` finds among the items of a schedule, by such a test
pub first_found : (schedule : List ℕ) {S F : Type 0} {steps : S → Option (Bor (List ℕ)) → S → Type 0} (size : S → ℕ) (rest : S → List ℕ) (all : S)
    → EveryRun steps (λ p. 0 < size p.from → IsChunksExactRun p (size p.from) (rest p.from)) → size all ≡ 3 → rest all ≡ schedule
    → (g : Mut F (Bor (List ℕ) × Unit {0}) Bool) (f : F)
    → ((item : Bor (List ℕ)) (bad : Bool) (q : F) → Called g f (item, tt) bad q → (q ≡ f) × (leb (get_or item.now 0 0) 3 ≡ not bad)) → (found : Option ℕ)
    → SomeRun steps all (λ p. MatchOption found (IsTrue p.whole × AllItemsGive p g f false) (λ i. (p.len ≡ i + 1) × IsFirstToGive p g f true false i))
    → found ≡ cond (item_kinds_right schedule) None (Some (first_bad_item schedule))
first_found schedule size rest all every three whole g f asks found (p, from, so) =
    let size_three : size p.from ≡ 3 = ap size from ∙ three in
    let rest_whole : rest p.from ≡ schedule = ap rest from ∙ whole in
    found_first schedule p (rw (size_three, rest_whole) at (every p p.seen (omega (arith, size_three)))) g f asks found so

-- where some item is bad, the definition's place is that of the first
pub first_bad : (schedule : List ℕ) → item_kinds_right schedule ≡ false → IsFirstBad schedule (first_bad_item schedule)
unfolding item_kinds_right item_kind_right first_bad_item
first_bad schedule e =
    let found = first-at (item_kind_right schedule) (length schedule / 3) e in
    record {
      there = found.below;
      bad = leb-false _ _ found.fails;
      before = λ earlier l. leb-true _ _ (every-at (item_kind_right schedule) _ earlier found.before l);
    }

-- 6 is given where some item is bad
refused_with : (test : Bool) (number : ℕ) → 0 < number → refused_if (not test) number 0 ≡ number → test ≡ false
unfolding refused_if
refused_with true number h e = absurd (omega arith)
refused_with false number h e = refl

some_bad : (file : List ℕ) → file_number file ≡ 6 → item_kinds_right (schedule_body file) ≡ false
unfolding file_number bodies_number schedule_number
some_bad file e =
    let long = passed_over (length_wrong file) 1 _ 6 (λ same. omega arith) e in
    let contents = passed_over (not (contents_right file)) 2 _ 6 (λ same. omega arith) long.1 in
    let plan = passed_over (plan_length_wrong (plan_body file)) 3 _ 6 (λ same. omega arith) contents.1 in
    let range = passed_over (not (in_range (plan_of (plan_body file)))) 4 _ 6 (λ same. omega arith) plan.1 in
    let left = passed_over (bytes_left_over (schedule_body file)) 5 _ 6 (λ same. omega arith) range.1 in
    refused_with (item_kinds_right (schedule_body file)) 6 (omega arith) left.1

pub six_tells_the_first_bad : SixTellsTheFirstBad
unfolding file_place file_told number_and_place
six_tells_the_first_bad file e = rw e (first_bad (schedule_body file) (some_bad file e))

pub only_six_tells_a_place : OnlySixTellsAPlace
unfolding file_place file_told number_and_place
only_six_tells_a_place file other = simp (ne_eqb _ _ other)

-- neither of two first bad items is before the other
not_after : (schedule : List ℕ) (one other : ℕ) → IsFirstBad schedule one → IsFirstBad schedule other → one ≤ other
not_after schedule one other first second = go (leb one other) refl
  where
    go : (so : Bool) → leb one other ≡ so → one ≤ other
    go true e = leb-true _ _ e
    go false e = let right = first.before other (leb-false _ _ e) in absurd (omega (arith, right, second.bad))

pub one_is_first : OneIsFirst
one_is_first schedule one other first second =
    omega (arith, not_after schedule one other first second, not_after schedule other one second first)
