-- No row is added and none is lost.
use Prim.Native.Nat.{ℕ, ◌+◌, ◌*◌}
use mathlib.Core.Path.{◌≡◌, refl}
use mathlib.Core.Bool.{Bool, true, false, cond, ◌&&◌}
use mathlib.Core.List.{List}
use lib.Dec.{ltb}
use lib.ListN.{length, length-set}
use Rattle.std.specs.Prelude.{Option, Some, None}
use Rattle.linereader.specs.declared.LineKind.{LineKind}
use Rattle.linereader.specs.declared.LineKind.TheVariants.{Deed, Lock, Last, Refusal}
use Rattle.linereader.specs.declared.Part.{Part}
use Rattle.linereader.specs.declared.Part.TheVariants.{Steps, Letter, Space, Numbers, Whole, Wrong}
use Rattle.linereader.specs.declared.Scan.{Scan}
use Rattle.linereader.specs.Reading.{kind_of, scan_byte}
use Rattle.gather.specs.declared.Gather.{Gather}
use Rattle.gather.specs.Gathering.{put, first_of, is_next_lock, lock_rows, last_rows, rows_after_line, rows_after_part, is_fine, rows_after_byte}

pub put_long : (run place number : ℕ) (rows : List ℕ) → length (put run place number rows) ≡ length rows
unfolding put
put_long run place number rows = length-set rows (run * 194 + place) number

choice_long : (test : Bool) (one rows : List ℕ) → length one ≡ length rows → length (cond test one rows) ≡ length rows
choice_long true one rows e = e
choice_long false one rows e = refl

pub lock_long : (numbers : List ℕ) (run lock : ℕ) (rows : List ℕ) → length (lock_rows numbers run lock rows) ≡ length rows
unfolding lock_rows
lock_long numbers run lock rows = choice_long (ltb run 401 && ltb lock 64) _ rows (simp put_long)

last_long : (steps run locks : ℕ) (rows : List ℕ) → length (last_rows steps run locks rows) ≡ length rows
unfolding last_rows
last_long steps run locks rows = choice_long (ltb run 401) _ rows (simp put_long)

line_long : (kind : Option LineKind) (scan : Scan) (state : Gather) (rows : List ℕ) → length (rows_after_line kind scan state rows) ≡ length rows
unfolding rows_after_line
line_long None scan state rows = refl
line_long (Some Deed) scan state rows = refl
line_long (Some Lock) scan state rows =
    choice_long (is_next_lock (first_of scan) state.locks) _ rows (lock_long scan.numbers state.runs state.locks rows)
line_long (Some Last) scan state rows = last_long scan.steps state.runs state.locks rows
line_long (Some Refusal) scan state rows = refl

part_long : (part : Part) (scan : Scan) (state : Gather) (rows : List ℕ) → length (rows_after_part part scan state rows) ≡ length rows
unfolding rows_after_part
part_long Steps scan state rows = refl
part_long Letter scan state rows = refl
part_long Space scan state rows = refl
part_long Numbers scan state rows = refl
part_long Whole scan state rows = line_long (kind_of scan.letter) scan state rows
part_long Wrong scan state rows = refl

pub byte_long : (state : Gather) (byte : ℕ) (rows : List ℕ) → length (rows_after_byte state byte rows) ≡ length rows
unfolding rows_after_byte
byte_long state byte rows =
    choice_long (is_fine state.fault) _ rows (part_long (scan_byte state.scan byte).part (scan_byte state.scan byte) state rows)
