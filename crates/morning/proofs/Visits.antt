-- The report's order: going from the first listed schedule to the next, each is met once, worst first, and of one verdict in the order of the text.
use Prim.Native.Nat.{ℕ, zero, suc, ◌+◌, ◌≤◌, ◌<◌}
use mathlib.Core.Path.{◌≡◌, refl, sym, ap, ◌∙◌}
use mathlib.Core.Bool.{Bool, true, false, cond, not, ◌&&◌}
use mathlib.Core.Logic.{⊎_elim}
use mathlib.Core.List.{List, [], ◌∷◌, ◌++◌}
use native.Mathlib.Nat.{eq-or-lt_of_le}
use native.Mathlib.Omega.{arith}
use lib.Dec.{eqb, leb}
use lib.ListN.{length, length-append}
use borrow.Author.Tests.{ne_eqb, eqb-true, lt-ltb, le-leb, lt-leb, leb-true, not-true, not-false}
use Rattle.std.specs.Prelude.{Option, Some}
use Rattle.lists.specs.Loops.{every}
use Rattle.lists.proofs.Laws.{and_left, every-at}
use Rattle.lists.proofs.Tests.{by_value}
use Rattle.lists.proofs.First.{FirstAt, first-at, first_none}
use Rattle.morning.specs.declared.Cursor.{Cursor}
use Rattle.morning.specs.declared.Entry.{Entry}
use Rattle.morning.specs.Order.{entry_at, places_in, is_with, has_verdict, next_place, seek, first_entry, next_entry, entries_of, entries_from, report_order, visited}
use Rattle.morning.specs.Theorems.{WorstFirst}
use Rattle.morning.proofs.Places.{passed, seek_here, seek_on, seek_none}

-- ---- the entries of one verdict, from a place on

abbrev at_place : ℕ → ℕ → Cursor
at_place verdict place = record { verdict = verdict; place = place }

-- one entry, or none
abbrev kept : Bool → Cursor → List Cursor
kept test entry = cond test (entry ∷ []) []

unfoldable later : List Entry → ℕ → ℕ → ℕ → List Cursor
later rows verdict from zero = []
later rows verdict from (suc places) = later rows verdict from places ++ kept (leb from places && has_verdict rows verdict places) (at_place verdict places)

-- from the first place on, all of them
later_all : (rows : List Entry) (verdict places : ℕ) → later rows verdict 0 places ≡ entries_of rows verdict places
unfolding later entries_of
later_all rows verdict zero = refl
later_all rows verdict (suc places) =
    ap (λ (l : List Cursor). l ++ kept (leb 0 places && has_verdict rows verdict places) (at_place verdict places)) (later_all rows verdict places)
    ∙ ap (λ (b : Bool). entries_of rows verdict places ++ kept (b && has_verdict rows verdict places) (at_place verdict places)) (le-leb 0 places (omega arith))

-- where each place is passed there is none
later_none : (rows : List Entry) (verdict from places : ℕ) → ((k : ℕ) → k < places → passed rows verdict from k ≡ true) → later rows verdict from places ≡ []
unfolding later
later_none rows verdict from zero all = refl
later_none rows verdict from (suc places) all =
    ap (λ (l : List Cursor). l ++ kept (leb from places && has_verdict rows verdict places) (at_place verdict places))
    (later_none rows verdict from places (λ k l. all k (omega arith)))
    ∙ ap (λ (b : Bool). [] ++ kept b (at_place verdict places)) (not-true (leb from places && has_verdict rows verdict places) (all places (omega arith)))

-- a place before the one to begin at is passed
passed_before : (rows : List Entry) (verdict from place : ℕ) → place < from → passed rows verdict from place ≡ true
passed_before rows verdict from place l = ap (λ (b : Bool). not (b && has_verdict rows verdict place)) (lt-leb from place l)

-- the first that is not passed, and those behind it
later_first : (rows : List Entry) (verdict from places first : ℕ) → first < places → passed rows verdict from first ≡ false
    → ((k : ℕ) → k < first → passed rows verdict from k ≡ true)
    → later rows verdict from places ≡ at_place verdict first ∷ later rows verdict (first + 1) places
unfolding later
later_first rows verdict from zero first h here before = absurd (omega arith)
later_first rows verdict from (suc places) first h here before =
    ⊎_elim last (λ l. inside l (later_first rows verdict from places first l here before)) (eq-or-lt_of_le (omega arith))
  where
    not_passed : (leb from first && has_verdict rows verdict first) ≡ true
    not_passed = not-false (leb from first && has_verdict rows verdict first) here

    last : first ≡ places
        → later rows verdict from places ++ kept (leb from places && has_verdict rows verdict places) (at_place verdict places)
        ≡ at_place verdict first ∷ (later rows verdict (first + 1) places ++ kept (leb (first + 1) places && has_verdict rows verdict places) (at_place verdict places))
    last e =
        let none = later_none rows verdict from places (λ k l. before k (omega (arith, e))) in
        let none-later = later_none rows verdict (first + 1) places (λ k l. passed_before rows verdict (first + 1) k (omega (arith, e))) in
        let hit = ap (λ (n : ℕ). leb from n && has_verdict rows verdict n) (sym e) ∙ not_passed in
        let missed = lt-leb (first + 1) places (omega (arith, e)) in
        ap (λ (l : List Cursor). l ++ kept (leb from places && has_verdict rows verdict places) (at_place verdict places)) none
        ∙ ap (λ (b : Bool). kept b (at_place verdict places)) hit ∙ ap (λ (n : ℕ). at_place verdict n ∷ []) (sym e)
        ∙ sym (ap (λ (l : List Cursor). at_place verdict first ∷ (l ++ kept (leb (first + 1) places && has_verdict rows verdict places) (at_place verdict places))) none-later
        ∙ ap (λ (b : Bool). at_place verdict first ∷ kept (b && has_verdict rows verdict places) (at_place verdict places)) missed)

    inside : first < places → later rows verdict from places ≡ at_place verdict first ∷ later rows verdict (first + 1) places
        → later rows verdict from places ++ kept (leb from places && has_verdict rows verdict places) (at_place verdict places)
        ≡ at_place verdict first ∷ (later rows verdict (first + 1) places ++ kept (leb (first + 1) places && has_verdict rows verdict places) (at_place verdict places))
    inside l on =
        let from_First = leb-true from first (and_left (leb from first) (has_verdict rows verdict first) not_passed) in
        let same : leb from places ≡ leb (first + 1) places =
        le-leb from places (omega (arith, l, from_First)) ∙ sym (le-leb (first + 1) places (omega (arith, l))) in
        ap (λ (entries : List Cursor). entries ++ kept (leb from places && has_verdict rows verdict places) (at_place verdict places)) on
        ∙ ap (λ (b : Bool). at_place verdict first ∷ (later rows verdict (first + 1) places ++ kept (b && has_verdict rows verdict places) (at_place verdict places))) same

-- ---- what is left to meet: of one verdict from a place on, then of so many better ones

unfoldable left : List Entry → ℕ → ℕ → ℕ → ℕ → List Cursor
left rows places zero verdict from = []
left rows places (suc better) verdict from = later rows verdict from places ++ entries_from rows places better (verdict + 1)

left_all : (rows : List Entry) (places better verdict : ℕ) → left rows places better verdict 0 ≡ entries_from rows places better verdict
unfolding left entries_from
left_all rows places zero verdict = refl
left_all rows places (suc better) verdict =
    ap (λ (l : List Cursor). l ++ entries_from rows places better (verdict + 1)) (later_all rows verdict places)

-- from each place on, all that is left is met, if so many may be met
abbrev Met : List Entry → ℕ → ℕ → Type 0
Met rows listed most =
    (better verdict from : ℕ) → verdict + better ≡ 6 → length (left rows (places_in rows listed) better verdict from) < most
    → visited rows listed (seek rows (places_in rows listed) verdict from) most ≡ left rows (places_in rows listed) better verdict from

-- the next place where each is passed, and where not
next_none : (rows : List Entry) (places verdict from : ℕ) → every (passed rows verdict from) places ≡ true → next_place rows places verdict from ≡ places
unfolding next_place
next_none rows places verdict from e = first_none (passed rows verdict from) places e

next_at : (rows : List Entry) (places verdict from : ℕ) → every (passed rows verdict from) places ≡ false
    → FirstAt (passed rows verdict from) places (next_place rows places verdict from)
unfolding next_place
next_at rows places verdict from e = first-at (passed rows verdict from) places e

met_none : (rows : List Entry) (listed most better verdict from : ℕ) → verdict + suc better ≡ 6 → every (passed rows verdict from) (places_in rows listed) ≡ true
    → (length (left rows (places_in rows listed) better (verdict + 1) 0) < suc most
    → visited rows listed (seek rows (places_in rows listed) (verdict + 1) 0) (suc most) ≡ left rows (places_in rows listed) better (verdict + 1) 0)
    → length (left rows (places_in rows listed) (suc better) verdict from) < suc most
    → visited rows listed (seek rows (places_in rows listed) verdict from) (suc most) ≡ left rows (places_in rows listed) (suc better) verdict from
unfolding left
met_none rows listed most better verdict from e all on few =
    let places = places_in rows listed in
    let same : later rows verdict from places ++ entries_from rows places better (verdict + 1) ≡ left rows places better (verdict + 1) 0 =
    ap (λ (l : List Cursor). l ++ entries_from rows places better (verdict + 1))
    (later_none rows verdict from places (λ k l. every-at (passed rows verdict from) places k all l))
    ∙ sym (left_all rows places better (verdict + 1)) in
    let next = seek_on rows places verdict from (omega arith) (omega (arith, next_none rows places verdict from all)) in
    ap (λ (cursor : Option Cursor). visited rows listed cursor (suc most)) next ∙ on (omega (arith, few, ap length same)) ∙ sym same

met_here : (rows : List Entry) (listed most better verdict from : ℕ) → verdict + suc better ≡ 6 → every (passed rows verdict from) (places_in rows listed) ≡ false
    → Met rows listed most → length (left rows (places_in rows listed) (suc better) verdict from) < suc most
    → visited rows listed (seek rows (places_in rows listed) verdict from) (suc most) ≡ left rows (places_in rows listed) (suc better) verdict from
unfolding left visited next_entry
met_here rows listed most better verdict from e found on few =
    let places = places_in rows listed in
    let at = next_at rows places verdict from found in
    let first = next_place rows places verdict from in
    let split : left rows places (suc better) verdict from ≡ at_place verdict first ∷ left rows places (suc better) verdict (first + 1) =
    ap (λ (l : List Cursor). l ++ entries_from rows places better (verdict + 1))
    (later_first rows verdict from places first at.below at.fails (λ k l. every-at (passed rows verdict from) first k at.before l)) in
    let long : length (left rows places (suc better) verdict from) ≡ suc (length (left rows places (suc better) verdict (first + 1))) = ap length split in
    let head : visited rows listed (Some (at_place verdict first)) (suc most)
    ≡ at_place verdict first ∷ visited rows listed (seek rows places verdict (first + 1)) most =
    rw (lt-ltb first places at.below) in
    ap (λ (cursor : Option Cursor). visited rows listed cursor (suc most)) (seek_here rows places verdict from (omega arith) at.below) ∙ head
    ∙ ap (λ (l : List Cursor). at_place verdict first ∷ l) (on (suc better) verdict (first + 1) e (omega (arith, few, long))) ∙ sym split

met_more : (rows : List Entry) (listed most : ℕ) → Met rows listed most → Met rows listed (suc most)
unfolding left visited
met_more rows listed most on zero verdict from e few =
    ap (λ (cursor : Option Cursor). visited rows listed cursor (suc most)) (seek_none rows (places_in rows listed) verdict from (omega arith))
met_more rows listed most on (suc better) verdict from e few =
    by_value
    (λ b. visited rows listed (seek rows (places_in rows listed) verdict from) (suc most) ≡ left rows (places_in rows listed) (suc better) verdict from)
    (every (passed rows verdict from) (places_in rows listed))
    (λ all. met_none rows listed most better verdict from e all (λ f. met_more rows listed most on better (verdict + 1) 0 (omega arith) f) few)
    (λ found. met_here rows listed most better verdict from e found on few)

met_all : (rows : List Entry) (listed most : ℕ) → Met rows listed most
met_all rows listed zero better verdict from e few = absurd (omega arith)
met_all rows listed (suc most) better verdict from e few = met_more rows listed most (met_all rows listed most) better verdict from e few

-- ---- no place is met twice: there are at most as many entries as places

-- how many of some verdicts the row at a place has
unfoldable hits : List Entry → ℕ → ℕ → ℕ → ℕ
hits rows place zero verdict = 0
hits rows place (suc more) verdict = cond (has_verdict rows verdict place) 1 0 + hits rows place more (verdict + 1)

hits_none : (rows : List Entry) (place more verdict : ℕ) → (entry_at rows place).verdict < verdict → hits rows place more verdict ≡ 0
unfolding hits has_verdict is_with
hits_none rows place zero verdict l = refl
hits_none rows place (suc more) verdict l =
    let other : eqb ((entry_at rows place).verdict) verdict ≡ false = ne_eqb ((entry_at rows place).verdict) verdict (λ e. omega (arith, e, l)) in
    rw other (omega (arith, hits_none rows place more (verdict + 1) (omega arith)))

hits_one : (rows : List Entry) (place more verdict : ℕ) → hits rows place more verdict ≤ 1
unfolding hits has_verdict is_with
hits_one rows place zero verdict = omega arith
hits_one rows place (suc more) verdict =
    by_value
    (λ b. cond b 1 0 + hits rows place more (verdict + 1) ≤ 1)
    (eqb ((entry_at rows place).verdict) verdict)
    (λ e. omega (arith, hits_none rows place more (verdict + 1) (omega (arith, eqb-true ((entry_at rows place).verdict) verdict e))))
    (λ e. omega (arith, hits_one rows place more (verdict + 1)))

entries_of-more : (rows : List Entry) (verdict places : ℕ)
    → length (entries_of rows verdict (suc places)) ≡ length (entries_of rows verdict places) + cond (has_verdict rows verdict places) 1 0
unfolding entries_of
entries_of-more rows verdict places =
    length-append (entries_of rows verdict places) (kept (has_verdict rows verdict places) (at_place verdict places))
    ∙ by_value
    (λ b. length (entries_of rows verdict places) + length (kept b (at_place verdict places)) ≡ length (entries_of rows verdict places) + cond b 1 0)
    (has_verdict rows verdict places)
    (λ e. refl)
    (λ e. refl)

entries_more : (rows : List Entry) (places more verdict : ℕ)
    → length (entries_from rows (suc places) more verdict) ≡ length (entries_from rows places more verdict) + hits rows places more verdict
unfolding entries_from hits
entries_more rows places zero verdict = refl
entries_more rows places (suc more) verdict =
    let one = length-append (entries_of rows verdict (suc places)) (entries_from rows (suc places) more (verdict + 1)) in
    let two = length-append (entries_of rows verdict places) (entries_from rows places more (verdict + 1)) in
    omega (arith, one, two, entries_of-more rows verdict places, entries_more rows places more (verdict + 1))

entries_nowhere : (rows : List Entry) (more verdict : ℕ) → entries_from rows zero more verdict ≡ []
unfolding entries_from entries_of
entries_nowhere rows zero verdict = refl
entries_nowhere rows (suc more) verdict = entries_nowhere rows more (verdict + 1)

entries_few : (rows : List Entry) (places more verdict : ℕ) → length (entries_from rows places more verdict) ≤ places
entries_few rows zero more verdict = omega (arith, ap length (entries_nowhere rows more verdict))
entries_few rows (suc places) more verdict =
    omega (arith, entries_more rows places more verdict, hits_one rows places more verdict, entries_few rows places more verdict)

places_few : (rows : List Entry) (listed : ℕ) → places_in rows listed ≤ listed
unfolding places_in
places_few rows listed = omega arith

pub worst-first : WorstFirst
unfolding first_entry report_order
worst-first rows listed most h =
    let places = places_in rows listed in
    let all = left_all rows places 6 0 in
    met_all rows listed most 6 0 0 refl (omega (arith, ap length all, entries_few rows places 6 0, places_few rows listed, h)) ∙ all
