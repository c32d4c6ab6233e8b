-- Where there is room for all rows and names, all schedules that are not good are listed, in order, each with its row and its name.
use Prim.Native.Nat.{ℕ, zero, suc, ◌+◌, ◌≤◌, ◌<◌}
use mathlib.Core.Path.{◌≡◌, refl, sym, ap, subst, ◌∙◌}
use mathlib.Core.Bool.{Bool, true, false, cond, not}
use mathlib.Core.List.{List, [], ◌∷◌, ◌++◌, map}
use native.Mathlib.Omega.{arith}
use lib.Dec.{ltb}
use lib.ListN.{length, get_or, set, take, drop, length-append, length-map}
use lib.Seq.{sets, sets-eq, length-sets, length-take-le, take-take, take-add, take_at, drop_at, get_or-take, get_or-set_same, take-set-le}
use borrow.Author.Tests.{lt-ltb}
use Rattle.lists.proofs.Tests.{by_value}
use Rattle.verdict.specs.declared.Judged.{Judged}
use Rattle.verdict.specs.Verdicts.{verdict_number, verdict_of}
use Rattle.morning.specs.declared.Night.{Night}
use Rattle.morning.specs.declared.Entry.{Entry}
use Rattle.morning.specs.Reading.{start_night, shown, counted_at, has_room, is_listed, closed_as, closed_by, row_put, rows_closed_by}
use Rattle.morning.specs.Order.{no_entry, entry_at}
use Rattle.morning.specs.Theorems.{Schedule, no_schedule, number_of, night_text, is_good, not_good, longest_name, name_bytes, RowOf, rows_after, names_after, AllAreListed}
use Rattle.morning.specs.AnyText.{schedules_in, rows_of, names_of, EveryTextIsListed}
use Rattle.morning.proofs.Laws.{row_long, good_number_lem}
use Rattle.morning.proofs.Told.{Book, name_end, name_fits, spelled, whole, closed, closings, at_start, all_told}
use Rattle.morning.proofs.AnyText.{a_night_is_cut_into_its_schedules}

-- ---- a name that has room

one_used : (used name-room : ℕ) → used < name-room → cond (ltb used name-room) (used + 1) used ≡ suc used
one_used used name-room h = rw (lt-ltb used name-room h) (omega arith)

name_end_lem : (name-room used : ℕ) (name : List ℕ) → used + length name ≤ name-room → name_end name-room used name ≡ used + length name
unfolding name_end
name_end_lem name-room used [] h = omega arith
name_end_lem name-room used (byte ∷ name) h =
    let next = one_used used name-room (omega arith) in
    ap (λ (n : ℕ). name_end name-room n name) next ∙ name_end_lem name-room (suc used) name (omega arith) ∙ omega arith

name_fits_lem : (name-room used : ℕ) (fits : Bool) (name : List ℕ) → used + length name ≤ name-room → name_fits name-room used fits name ≡ fits
unfolding name_fits
name_fits_lem name-room used fits [] h = refl
name_fits_lem name-room used fits (byte ∷ name) h =
    let next = one_used used name-room (omega arith) in
    ap (λ (b : Bool). name_fits name-room (cond (ltb used name-room) (used + 1) used) (cond b fits false) name) (lt-ltb used name-room (omega arith))
    ∙ ap (λ (n : ℕ). name_fits name-room n fits name) next ∙ name_fits_lem name-room (suc used) fits name (omega arith)

name_spelled : (name-room used : ℕ) (names name : List ℕ) → used + length name ≤ name-room
    → spelled name-room names used name ≡ sets names used (map shown name)
unfolding spelled
name_spelled name-room used names [] h = refl
name_spelled name-room used names (byte ∷ name) h =
    ap (λ (n : ℕ). spelled name-room (set names used (shown byte)) n name) (one_used used name-room (omega arith))
    ∙ name_spelled name-room (suc used) (set names used (shown byte)) name (omega arith)

-- the names up to its end: those before it, and it as it is shown
record Spelled (used : ℕ) (names name after : List ℕ) : Type 0 where
  long : length after ≡ length names
  here : take (used + length name) after ≡ take used names ++ map shown name

spelled_here : (name-room used : ℕ) (names name : List ℕ) → length names ≡ name-room → used + length name ≤ name-room
    → Spelled used names name (spelled name-room names used name)
spelled_here name-room used names name n h =
    let same = name_spelled name-room used names name h in
    let shown_long : length (map shown name) ≡ length name = length-map name shown in
    let before : length (take used names) ≡ used = length-take-le used names (omega arith) in
    let front : length (take used names ++ map shown name) ≡ used + length name =
    length-append (take used names) (map shown name) ∙ omega (arith, before, shown_long) in
    record {
      long = ap length same ∙ length-sets names used (map shown name);
      here = ap (take (used + length name)) (same ∙ sets-eq (map shown name) names used (omega (arith, h, n, shown_long)))
          ∙ take_at (take used names ++ map shown name) (drop (used + length (map shown name)) names) (used + length name) front;
    }

-- so the names before it stay
spelled_before : (used : ℕ) (names name after : List ℕ) → used + length name ≤ length names → Spelled used names name after
    → take used after ≡ take used names
spelled_before used names name after h so =
    sym (take-take used (used + length name) after (omega arith)) ∙ ap (take used) so.here
    ∙ take_at (take used names) (map shown name) used (length-take-le used names (omega arith))

-- and where the names up to its end are those, it can be read
spelled_read : (used : ℕ) (names name after final : List ℕ) → used + length name ≤ length names → length final ≡ length names
    → Spelled used names name after → take (used + length name) final ≡ take (used + length name) after
    → take (length name) (drop used final) ≡ map shown name
spelled_read used names name after final h long so kept =
    let before : length (take used names) ≡ used = length-take-le used names (omega arith) in
    let front : length (take used final) ≡ used = length-take-le used final (omega (arith, h, long)) in
    sym (drop_at (take used final) (take (length name) (drop used final)) used front)
    ∙ ap (drop used) (sym (take-add used (length name) final) ∙ kept ∙ so.here) ∙ drop_at (take used names) (map shown name) used before

-- ---- a row

-- the row that is put is the one that is found there
row_found : (j : Judged) (night : Night) (rows : List Entry) → night.listed < length rows
    → entry_at (row_put j night rows) night.listed ≡ record { verdict = verdict_number j.verdict; noted = j.noted; start = night.hand.start; end = night.used }
unfolding entry_at row_put
row_found j night rows h = get_or-set_same rows night.listed _ no_entry h

-- rows that are the same up to a place have the same entries before it
entry_same : (rows final : List Entry) (n k : ℕ) → take n final ≡ take n rows → k < n → entry_at final k ≡ entry_at rows k
unfolding entry_at
entry_same rows final n k same below =
    sym (get_or-take n final k no_entry below) ∙ ap (λ (l : List Entry). get_or l k no_entry) same ∙ get_or-take n rows k no_entry below

-- a row that is put leaves those before it
row_before : (j : Judged) (night : Night) (rows : List Entry) → take night.listed (row_put j night rows) ≡ take night.listed rows
unfolding row_put
row_before j night rows = take-set-le night.listed rows night.listed _ (omega arith)

-- ---- one schedule's end, with room

-- a good one: only its name is put, behind the names, and is forgotten
abbrev after_good : ℕ → Book → Schedule → Book
after_good name-room book schedule =
    record {
      night = closed_as book.night.used book.night.listed book.night.unlisted (counted_at book.night.counts (number_of schedule)) (whole name-room book schedule);
      rows = book.rows;
      names = spelled name-room book.names book.night.used schedule.name;
    }

closed_good : (room name-room : ℕ) (book : Book) (schedule : Schedule) → ltb (number_of schedule) 6 ≡ false
    → closed room name-room book schedule ≡ after_good name-room book schedule
unfolding number_of closed_by rows_closed_by is_listed
closed_good room name-room book schedule e = rw e

-- any other: its row and its name are put
abbrev after_listed : ℕ → Book → Schedule → Book
after_listed name-room book schedule =
    record {
      night = closed_as (name_end name-room book.night.used schedule.name) (book.night.listed + 1) book.night.unlisted (counted_at book.night.counts (number_of schedule)) (whole name-room book schedule);
      rows = row_put (verdict_of schedule.text) (whole name-room book schedule) book.rows;
      names = spelled name-room book.names book.night.used schedule.name;
    }

closed_listed : (room name-room : ℕ) (book : Book) (schedule : Schedule) → ltb (number_of schedule) 6 ≡ true
    → name_fits name-room book.night.used true schedule.name ≡ true → book.night.listed < room → length book.rows ≡ room
    → closed room name-room book schedule ≡ after_listed name-room book schedule
unfolding number_of closed_by rows_closed_by is_listed has_room
closed_listed room name-room book schedule e fits h long = rw (long, e, fits, lt-ltb book.night.listed room h)

-- ---- all of them

-- what the schedules' ends have done to a book, by those of them that are not good
record Filled (book : Book) (bad : List Schedule) (final : Book) : Type 0 where
  listed : final.night.listed ≡ book.night.listed + length bad
  unlisted : final.night.unlisted ≡ book.night.unlisted
  rows_long : length final.rows ≡ length book.rows
  rows_kept_lem : take book.night.listed final.rows ≡ take book.night.listed book.rows
  names_long : length final.names ≡ length book.names
  names_kept : take book.night.used final.names ≡ take book.night.used book.names
  row : (k : ℕ) → k < length bad → RowOf final.rows final.names (book.night.listed + k) (get_or bad k no_schedule)

filled_good : (name-room : ℕ) (book : Book) (schedule : Schedule) (bad : List Schedule) (final : Book) → length book.names ≡ name-room
    → book.night.used + length schedule.name ≤ name-room → Filled (after_good name-room book schedule) bad final → Filled book bad final
unfolding closed_as
filled_good name-room book schedule bad final n fits on =
    let so = spelled_here name-room book.night.used book.names schedule.name n fits in
    record {
      listed = on.listed;
      unlisted = on.unlisted;
      rows_long = on.rows_long;
      rows_kept_lem = on.rows_kept_lem;
      names_long = on.names_long ∙ so.long;
      names_kept = on.names_kept ∙ spelled_before book.night.used book.names schedule.name _ (omega (arith, n, fits)) so;
      row = on.row;
    }

-- the row and the name of one that is listed
row_of : (name-room : ℕ) (book : Book) (schedule : Schedule) (bad : List Schedule) (final : Book) → length book.names ≡ name-room
    → book.night.used + length schedule.name ≤ name-room → book.night.listed < length book.rows
    → Filled (after_listed name-room book schedule) bad final → RowOf final.rows final.names book.night.listed schedule
unfolding closed_as number_of
row_of name-room book schedule bad final n fits h on =
    let used = book.night.used in
    let name = schedule.name in
    let listed = book.night.listed in
    let so = spelled_here name-room used book.names name n fits in
    let end : name_end name-room used name ≡ used + length name = name_end_lem name-room used name fits in
    let kept = subst (λ (k : ℕ). take k final.names ≡ take k (spelled name-room book.names used name)) end on.names_kept in
    let found =
    entry_same (row_put (verdict_of schedule.text) (whole name-room book schedule) book.rows) final.rows (listed + 1) listed on.rows_kept_lem (omega arith)
    ∙ row_found (verdict_of schedule.text) (whole name-room book schedule) book.rows h in
    let start : (entry_at final.rows listed).start ≡ used = ap (λ (entry : Entry). entry.start) found in
    let finish : (entry_at final.rows listed).end ≡ used + length name = ap (λ (entry : Entry). entry.end) found ∙ end in
    record {
      verdict = ap (λ (entry : Entry). entry.verdict) found;
      count = ap (λ (entry : Entry). entry.noted.count) found;
      steps = ap (λ (entry : Entry). entry.noted.steps) found;
      first = ap (λ (entry : Entry). entry.noted.first) found;
      second = ap (λ (entry : Entry). entry.noted.second) found;
      long = finish ∙ ap (λ (k : ℕ). k + length name) (sym start);
      inside = omega (arith, finish, fits, n, on.names_long, so.long);
      name = ap (λ (k : ℕ). take (length name) (drop k final.names)) start
          ∙ spelled_read used book.names name _ final.names (omega (arith, n, fits)) (on.names_long ∙ so.long) so kept;
    }

filled_listed : (name-room : ℕ) (book : Book) (schedule : Schedule) (bad : List Schedule) (final : Book) → length book.names ≡ name-room
    → book.night.used + length schedule.name ≤ name-room → book.night.listed < length book.rows
    → Filled (after_listed name-room book schedule) bad final → Filled book (schedule ∷ bad) final
unfolding closed_as
filled_listed name-room book schedule bad final n fits h on =
    let used = book.night.used in
    let name = schedule.name in
    let listed = book.night.listed in
    let so = spelled_here name-room used book.names name n fits in
    let end : name_end name-room used name ≡ used + length name = name_end_lem name-room used name fits in
    record {
      listed = on.listed ∙ omega arith;
      unlisted = on.unlisted;
      rows_long = on.rows_long ∙ row_long (verdict_of schedule.text) (whole name-room book schedule) book.rows;
      rows_kept_lem = sym (take-take listed (listed + 1) final.rows (omega arith)) ∙ ap (take listed) on.rows_kept_lem
          ∙ take-take listed (listed + 1) _ (omega arith)
          ∙ row_before (verdict_of schedule.text) (whole name-room book schedule) book.rows;
      names_long = on.names_long ∙ so.long;
      names_kept = sym (take-take used (name_end name-room used name) final.names (omega (arith, end))) ∙ ap (take used) on.names_kept
          ∙ take-take used (name_end name-room used name) _ (omega (arith, end))
          ∙ spelled_before used book.names name _ (omega (arith, n, fits)) so;
      row = go;
    }
  where
    go : (k : ℕ) → k < length (schedule ∷ bad) → RowOf final.rows final.names (book.night.listed + k) (get_or (schedule ∷ bad) k no_schedule)
    go zero l =
        let e : book.night.listed ≡ book.night.listed + zero = omega arith in
        subst (λ (place : ℕ). RowOf final.rows final.names place schedule) e (row_of name-room book schedule bad final n fits h on)
    go (suc k) l =
        let e : book.night.listed + 1 + k ≡ book.night.listed + suc k = omega arith in
        subst (λ (place : ℕ). RowOf final.rows final.names place (get_or bad k no_schedule)) e (on.row k (omega (arith, l)))

filled : (room name-room : ℕ) (book : Book) (schedules : List Schedule) → length book.rows ≡ room → length book.names ≡ name-room
    → book.night.listed + length (not_good schedules) ≤ room → book.night.used + name_bytes (not_good schedules) + longest_name schedules ≤ name-room
    → Filled book (not_good schedules) (closings room name-room book schedules)
unfolding not_good name_bytes longest_name closings closed_as number_of
filled room name-room book [] r n rows-room names-room =
    record {
      listed = omega arith;
      unlisted = refl;
      rows_long = refl;
      rows_kept_lem = refl;
      names_long = refl;
      names_kept = refl;
      row = λ k l. absurd (omega arith);
    }
filled room name-room book (schedule ∷ rest) r n rows-room names-room =
    let used = book.night.used in
    let name = schedule.name in
    let fits : used + length name ≤ name-room = omega (arith, names-room) in
    let so = spelled_here name-room used book.names name n fits in
    let end : name_end name-room used name ≡ used + length name = name_end_lem name-room used name fits in
    let good = after_good name-room book schedule in
    let listed = after_listed name-room book schedule in
    let long = row_long (verdict_of schedule.text) (whole name-room book schedule) book.rows in
    by_value
    (λ b. book.night.listed + length (cond b (not_good rest) (schedule ∷ not_good rest)) ≤ room
    → book.night.used + name_bytes (cond b (not_good rest) (schedule ∷ not_good rest)) + longest_name (schedule ∷ rest) ≤ name-room
    → Filled book (cond b (not_good rest) (schedule ∷ not_good rest)) (closings room name-room (closed room name-room book schedule) rest))
    (is_good (verdict_of schedule.text).verdict)
    (λ e few short. subst (λ (b : Book). Filled book (not_good rest) (closings room name-room b rest))
    (sym (closed_good room name-room book schedule (good_number_lem (verdict_of schedule.text).verdict ∙ ap not e)))
    (filled_good name-room book schedule (not_good rest) (closings room name-room good rest) n fits
    (filled room name-room good rest r (so.long ∙ n) few (omega (arith, short)))))
    (λ e few short. subst (λ (b : Book). Filled book (schedule ∷ not_good rest) (closings room name-room b rest))
    (sym (closed_listed room name-room book schedule (good_number_lem (verdict_of schedule.text).verdict ∙ ap not e) (name_fits_lem name-room used true name fits) (omega (arith, few)) r))
    (filled_listed name-room book schedule (not_good rest) (closings room name-room listed rest) n fits (omega (arith, few, r))
    (filled room name-room listed rest (long ∙ r) (so.long ∙ n) (omega (arith, few)) (omega (arith, short, end)))))
    rows-room
    names-room

pub every-text-is_listed : EveryTextIsListed
unfolding start_night
every-text-is_listed rows names text rows-room names-room =
    let told = all_told rows names text in
    let schedules = schedules_in text in
    let all = filled (length rows) (length names) (at_start rows names) schedules refl refl (omega (arith, rows-room)) (omega (arith, names-room)) in
    record {
      listed = ap (λ (book : Book). book.night.listed) told ∙ all.listed ∙ omega arith;
      unlisted = ap (λ (book : Book). book.night.unlisted) told ∙ all.unlisted;
      row = λ k l.
          let e : 0 + k ≡ k = omega arith in
          subst (λ (place : ℕ). RowOf (rows_of rows names text) (names_of rows names text) place (get_or (not_good schedules) k no_schedule)) e
          (subst (λ (book : Book). RowOf book.rows book.names (0 + k) (get_or (not_good schedules) k no_schedule)) (sym told) (all.row k l));
    }

pub all_are_listed : AllAreListed
all_are_listed rows names schedules right rows-room names-room =
    let cut = a_night_is_cut_into_its_schedules schedules right in
    let all = every-text-is_listed rows names (night_text schedules)
    (subst (λ (them : List Schedule). length (not_good them) ≤ length rows) (sym cut) rows-room)
    (subst (λ (them : List Schedule). name_bytes (not_good them) + longest_name them ≤ length names) (sym cut) names-room) in
    record {
      listed = all.listed ∙ ap (λ (them : List Schedule). length (not_good them)) cut;
      unlisted = all.unlisted;
      row = subst
          (λ (them : List Schedule). (k : ℕ) → k < length (not_good them)
          → RowOf (rows_after rows names schedules) (names_after rows names schedules) k (get_or (not_good them) k no_schedule))
          cut all.row;
    }
