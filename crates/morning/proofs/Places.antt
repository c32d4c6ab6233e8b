-- The next place of a verdict, as the library finds it.
use Prim.Native.Nat.{ℕ, zero, suc, ◌+◌, ◌-◌, ◌≤◌, ◌<◌}
use mathlib.Core.Path.{◌≡◌, refl, sym, ap, ap₂, subst, ◌∙◌}
use mathlib.Core.Bool.{Bool, true, false, cond, not, ◌&&◌}
use mathlib.Core.Logic.{⊎_elim}
use mathlib.Core.List.{List}
use native.Mathlib.Omega.{arith}
use lib.Dec.{ltb, leb}
use lib.ListN.{length, get_or, take, drop, length-take, length-drop}
use lib.Seq.{get_or-take, get_or-drop, take-take}
use borrow.Author.Tests.{le-leb, lt-leb, lt-ltb, le-ltb, ltb-true, ltb-false}
use Rattle.lists.proofs.Tests.{by_value, at_most_or_above}
use Rattle.std.specs.Prelude.{Option, Some, None, option_map}
use Rattle.std.proofs.lemmas.Option.{cond_some}
use Rattle.std.specs.List.{position_or_len}
use Rattle.std.proofs.lemmas.List.{drop-take}
use Rattle.std.proofs.lemmas.List.Sums.{fails_before_first, passes_at_first, prefix_len-le-length}
use Rattle.lists.proofs.First.{first_is}
use Rattle.morning.specs.declared.Cursor.{Cursor}
use Rattle.morning.specs.declared.Entry.{Entry}
use Rattle.morning.specs.Order.{no_entry, entry_at, is_with, has_verdict, next_place, seeking, seek}

-- a place is passed: it stands before the one to begin at, or its row has another verdict
abbrev pub passed : List Entry → ℕ → ℕ → ℕ → Bool
passed rows verdict from place = not (leb from place && has_verdict rows verdict place)

-- the rows from a place on
abbrev pub rows_from : List Entry → ℕ → ℕ → List Entry
rows_from rows places from = take (places - from) (drop from rows)

module _ (rows : List Entry) (places verdict from : ℕ) (begun : from ≤ places) (within : places ≤ length rows) where
  abbrev first : ℕ
  first = position_or_len (is_with verdict) (rows_from rows places from)

  long : length (rows_from rows places from) ≡ places - from
  long = length-take (places - from) (drop from rows) ∙ omega (arith, length-drop from rows)

  first_within : first ≤ places - from
  first_within = subst (λ (n : ℕ). first ≤ n) long (prefix_len-le-length (λ entry. not (is_with verdict entry)) (rows_from rows places from))

  -- a place from the one to begin at on, by its row there
  passed_behind : (k : ℕ) → from + k < places → passed rows verdict from (from + k) ≡ not (is_with verdict (get_or (rows_from rows places from) k no_entry))
  unfolding entry_at has_verdict
  passed_behind k h =
      ap (λ (b : Bool). not (b && is_with verdict (get_or rows (from + k) no_entry))) (le-leb from (from + k) (omega arith))
      ∙ ap (λ (entry : Entry). not (is_with verdict entry))
      (sym (get_or-take (places - from) (drop from rows) k no_entry (omega arith) ∙ get_or-drop from rows k no_entry))

  passed_at : (j : ℕ) → j < from + first → passed rows verdict from j ≡ true
  passed_at j h =
      ⊎_elim
      (λ (behind : from ≤ j).
      let e : from + (j - from) ≡ j = omega arith in
      subst (λ (n : ℕ). passed rows verdict from n ≡ true) e
      (passed_behind (j - from) (omega (arith, first_within)) ∙ ap not (fails_before_first (is_with verdict) (rows_from rows places from) (j - from) no_entry (omega arith))))
      (λ (before : j < from). ap (λ (b : Bool). not (b && has_verdict rows verdict j)) (lt-leb from j before))
      (at_most_or_above from j)

  not_passed : from + first < places → passed rows verdict from (from + first) ≡ false
  not_passed h = passed_behind first h ∙ ap not (passes_at_first (is_with verdict) (rows_from rows places from) no_entry (omega (arith, long)))

  pub next_is : next_place rows places verdict from ≡ from + first
  unfolding next_place
  next_is = first_is (passed rows verdict from) places (from + first) (omega (arith, first_within, begun)) passed_at not_passed

  -- what the library finds behind the place to begin at
  pub next_found : {found : Option ℕ} → found ≡ cond (ltb first (length (rows_from rows places from))) (Some first) None
      → option_map (λ (k : ℕ). from + k) found ≡ cond (ltb (next_place rows places verdict from) places) (Some (next_place rows places verdict from)) None
  next_found e =
      ap (option_map (λ (k : ℕ). from + k)) e
      ∙ by_value
      (λ b. option_map (λ (k : ℕ). from + k) (cond b (Some first) None) ≡ cond (ltb (from + first) places) (Some (from + first)) None)
      (ltb first (length (rows_from rows places from)))
      (λ t. ap (λ (b : Bool). cond b (Some (from + first)) None)
      (sym (lt-ltb (from + first) places (omega (arith, ltb-true first (length (rows_from rows places from)) t, long)))))
      (λ t. ap (λ (b : Bool). cond b (Some (from + first)) None)
      (sym (le-ltb (from + first) places (omega (arith, ltb-false first (length (rows_from rows places from)) t, long, begun)))))
      ∙ ap (λ (n : ℕ). cond (ltb n places) (Some n) None) (sym next_is)

-- ---- from one verdict to the next better one

seek-some : (rows : List Entry) (places verdict from : ℕ) → verdict < 6
    → seek rows places verdict from
    ≡ cond (ltb (next_place rows places verdict from) places) (Some (record { verdict = verdict; place = next_place rows places verdict from }))
    (seek rows places (verdict + 1) 0)
unfolding seek seeking
seek-some rows places verdict from h =
    let e : 6 - verdict ≡ suc (6 - (verdict + 1)) = omega arith in
    ap (λ (n : ℕ). seeking rows places n verdict from) e

-- one is found
pub seek_here : (rows : List Entry) (places verdict from : ℕ) → verdict < 6 → next_place rows places verdict from < places
    → seek rows places verdict from ≡ Some (record { verdict = verdict; place = next_place rows places verdict from })
seek_here rows places verdict from h found = rw (seek-some rows places verdict from h, lt-ltb _ _ found)

-- none is found, and the next better verdict is sought
pub seek_on : (rows : List Entry) (places verdict from : ℕ) → verdict < 6 → places ≤ next_place rows places verdict from
    → seek rows places verdict from ≡ seek rows places (verdict + 1) 0
seek_on rows places verdict from h none = rw (seek-some rows places verdict from h, le-ltb _ _ none)

-- no verdict is left
pub seek_none : (rows : List Entry) (places verdict from : ℕ) → 6 ≤ verdict → seek rows places verdict from ≡ None
unfolding seek seeking
seek_none rows places verdict from h =
    let e : 6 - verdict ≡ zero = omega arith in
    ap (λ (n : ℕ). seeking rows places n verdict from) e

-- the first two, by what is found for the next place
pub seek_found : (rows : List Entry) (places verdict from : ℕ) {next : Option ℕ} {place : ℕ} → verdict < 6
    → next ≡ cond (ltb (next_place rows places verdict from) places) (Some (next_place rows places verdict from)) None → next ≡ Some place
    → Some (record { verdict = verdict; place = place }) ≡ seek rows places verdict from
seek_found rows places verdict from {place = place} h e f =
    let both = cond_some (ltb (next_place rows places verdict from) places) (next_place rows places verdict from) place (sym e ∙ f) in
    ap (λ (p : ℕ). Some (record { verdict = verdict; place = p })) (sym both.1)
    ∙ sym (ap (λ (b : Bool). cond b (Some (record { verdict = verdict; place = next_place rows places verdict from })) (seek rows places (verdict + 1) 0)) both.0)
    ∙ sym (seek-some rows places verdict from h)

pub seek_missed : (rows : List Entry) (places verdict from : ℕ) {next : Option ℕ} {first : ℕ} → verdict < 6
    → next ≡ cond (ltb (next_place rows places verdict from) places) (Some (next_place rows places verdict from)) None → next ≡ None → first ≡ 0
    → seek rows places (verdict + 1) first ≡ seek rows places verdict from
seek_missed rows places verdict from h e f zeroth =
    ap (seek rows places (verdict + 1)) zeroth
    ∙ by_value
    (λ b. cond b (Some (next_place rows places verdict from)) None ≡ None
    → seek rows places (verdict + 1) 0 ≡ cond b (Some (record { verdict = verdict; place = next_place rows places verdict from })) (seek rows places (verdict + 1) 0))
    (ltb (next_place rows places verdict from) places)
    (λ t g. cc)
    (λ t g. refl)
    (sym e ∙ f)
    ∙ sym (seek-some rows places verdict from h)

-- ---- rows that are cut behind their places

cut_from : (rows : List Entry) (places from : ℕ) → from ≤ places → rows_from (take places rows) places from ≡ rows_from rows places from
cut_from rows places from h =
    let e : from + (places - from) ≡ places = omega arith in
    ap (take (places - from)) (ap (λ (n : ℕ). drop from (take n rows)) (sym e) ∙ drop-take from (places - from) rows)
    ∙ take-take (places - from) (places - from) (drop from rows) (omega arith)

next_cut : (rows : List Entry) (places verdict from : ℕ) → from ≤ places → places ≤ length rows
    → next_place (take places rows) places verdict from ≡ next_place rows places verdict from
next_cut rows places verdict from begun within =
    next_is (take places rows) places verdict from begun (omega (arith, length-take places rows, within))
    ∙ ap (λ (l : List Entry). from + position_or_len (is_with verdict) l) (cut_from rows places from begun)
    ∙ sym (next_is rows places verdict from begun within)

seeking_cut : (rows : List Entry) (places better verdict from : ℕ) → from ≤ places → places ≤ length rows
    → seeking (take places rows) places better verdict from ≡ seeking rows places better verdict from
unfolding seeking
seeking_cut rows places zero verdict from begun within = refl
seeking_cut rows places (suc better) verdict from begun within =
    ap₂ (λ (n : ℕ) (later : Option Cursor). cond (ltb n places) (Some (record { verdict = verdict; place = n })) later)
    (next_cut rows places verdict from begun within)
    (seeking_cut rows places better (verdict + 1) 0 (omega arith) within)

-- what is sought in the cut rows is what is sought
pub seek_cut : (rows : List Entry) (places verdict from : ℕ) {cut : List Entry} → cut ≡ take places rows → from ≤ places → places ≤ length rows
    → seek cut (length cut) verdict from ≡ seek rows places verdict from
unfolding seek
seek_cut rows places verdict from e begun within =
    let long : length (take places rows) ≡ places = omega (arith, length-take places rows, within) in
    ap (λ (l : List Entry). seeking l (length l) (6 - verdict) verdict from) e
    ∙ ap (λ (n : ℕ). seeking (take places rows) n (6 - verdict) verdict from) long
    ∙ seeking_cut rows places (6 - verdict) verdict from begun within
