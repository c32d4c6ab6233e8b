-- Laws of the rows and of the tests: the numbers of verdicts, and that no row and no byte of a name is added or lost.
use Prim.Native.Nat.{ℕ, ◌<◌}
use mathlib.Core.Path.{◌≡◌, refl}
use mathlib.Core.Bool.{Bool, true, false, not}
use mathlib.Core.List.{List}
use native.Mathlib.Omega.{arith}
use lib.Dec.{eqb, ltb}
use lib.ListN.{length, length-set}
use Rattle.lists.proofs.Tests.{by_test}
use Rattle.verdict.specs.declared.Verdict.{Verdict}
use Rattle.verdict.specs.declared.Verdict.TheVariants.{Incomplete, Refused, RefusedActions, Cut, LocksLost, TakesFailed, Good}
use Rattle.verdict.specs.declared.Judged.{Judged}
use Rattle.verdict.specs.Verdicts.{verdict_number, judged}
use Rattle.morning.specs.declared.Place.{Place}
use Rattle.morning.specs.declared.Place.TheVariants.{LineStart, InLine, InName}
use Rattle.morning.specs.declared.Night.{Night}
use Rattle.morning.specs.declared.Entry.{Entry}
use Rattle.morning.specs.Reading.{shown, is_listed, row_put, rows_closed_by, rows_closing, rows_on_line_start, rows_after_byte_in, rows_after_byte, names_after_name, names_after_byte_in, names_after_byte}
use Rattle.morning.specs.Theorems.{is_good}

pub verdict_low : (verdict : Verdict) → verdict_number verdict < 7
unfolding verdict_number
verdict_low Incomplete = omega arith
verdict_low Refused = omega arith
verdict_low RefusedActions = omega arith
verdict_low Cut = omega arith
verdict_low LocksLost = omega arith
verdict_low TakesFailed = omega arith
verdict_low Good = omega arith

-- those below 6 are not good
pub good_number_lem : (verdict : Verdict) → ltb (verdict_number verdict) 6 ≡ not (is_good verdict)
unfolding verdict_number is_good
good_number_lem Incomplete = refl
good_number_lem Refused = refl
good_number_lem RefusedActions = refl
good_number_lem Cut = refl
good_number_lem LocksLost = refl
good_number_lem TakesFailed = refl
good_number_lem Good = refl

-- ---- no row is added and none is lost

pub row_long : (j : Judged) (night : Night) (rows : List Entry) → length (row_put j night rows) ≡ length rows
unfolding row_put
row_long j night rows = length-set rows night.listed _

closed_long : (j : Judged) (night : Night) (rows : List Entry) → length (rows_closed_by j night rows) ≡ length rows
unfolding rows_closed_by
closed_long j night rows =
    by_test (λ (l : List Entry). length l ≡ length rows) (is_listed (verdict_number j.verdict) night.hand.fits night.listed (length rows))
    (λ e. row_long j night rows) (λ e. refl)

closing_long : (begun : Bool) (night : Night) (rows : List Entry) → length (rows_closing begun night rows) ≡ length rows
unfolding rows_closing
closing_long true night rows = closed_long (judged night.hand.watch) night rows
closing_long false night rows = refl

start_long : (night : Night) (byte : ℕ) (rows : List Entry) → length (rows_on_line_start night byte rows) ≡ length rows
unfolding rows_on_line_start
start_long night byte rows = by_test (λ (l : List Entry). length l ≡ length rows) (eqb byte 62) (λ e. closing_long night.begun night rows) (λ e. refl)

place_long : (place : Place) (night : Night) (byte : ℕ) (rows : List Entry) → length (rows_after_byte_in place night byte rows) ≡ length rows
unfolding rows_after_byte_in
place_long LineStart night byte rows = start_long night byte rows
place_long InLine night byte rows = refl
place_long InName night byte rows = refl

pub byte_long : (night : Night) (byte : ℕ) (rows : List Entry) → length (rows_after_byte night byte rows) ≡ length rows
unfolding rows_after_byte
byte_long night byte rows = place_long night.place night byte rows

-- ---- no byte of the names is added and none is lost

name_long : (night : Night) (byte : ℕ) (names : List ℕ) → length (names_after_name night byte names) ≡ length names
unfolding names_after_name
name_long night byte names =
    by_test (λ (l : List ℕ). length l ≡ length names) (eqb byte 10) (λ e. refl) (λ e. length-set names night.used (shown byte))

place-names_long : (place : Place) (night : Night) (byte : ℕ) (names : List ℕ) → length (names_after_byte_in place night byte names) ≡ length names
unfolding names_after_byte_in
place-names_long LineStart night byte names = refl
place-names_long InLine night byte names = refl
place-names_long InName night byte names = name_long night byte names

pub byte_names_long : (night : Night) (byte : ℕ) (names : List ℕ) → length (names_after_byte night byte names) ≡ length names
unfolding names_after_byte
byte_names_long night byte names = place-names_long night.place night byte names
