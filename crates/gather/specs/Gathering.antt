-- For 02, item 13: the lines of any number of runs, one after the other, as the night program writes them, gathered byte by byte into the rows of
-- numbers that a sheet is made of (sums, `Sheet`). A run is lines of actions and events, then its H lines from lock 0 up, then its E or C line; a
-- refused run is one Q line. Text that is no run is told by what is wrong in it and by the number of its line.
use Rattle.std.specs.Prelude.{ℕ, ◌+◌, ◌-◌, ◌*◌, ◌^◌, Bool, true, false, cond, not, ◌&&◌, List, [], ◌∷◌, Option, Some, None, eqb, ltb, get_or, set, take}
use Rattle.linereader.specs.declared.LineKind.{LineKind}
use Rattle.linereader.specs.declared.LineKind.TheVariants.{Deed, Lock, Last, Refusal}
use Rattle.linereader.specs.declared.Part.{Part}
use Rattle.linereader.specs.declared.Part.TheVariants.{Steps, Letter, Space, Numbers, Whole, Wrong}
use Rattle.linereader.specs.declared.Scan.{Scan}
use Rattle.linereader.specs.Reading.{kind_of, start_scan, scan_byte}
use Rattle.sums.specs.Sheet.{run_width, steps_place, locks_place, busy_place, grants_place, failed_place, lock_places}
use Rattle.gather.specs.declared.Fault.{Fault}
use Rattle.gather.specs.declared.Fault.TheVariants.{NoLine, DeedBehindLock, LockOutOfOrder, RefusalInside, NoNewline, NoLastLine}
use Rattle.gather.specs.declared.Gather.{Gather}

-- one row more than a sheet takes, so that 24 shows; the rows of later runs are not kept
abbrev pub rows_kept : ℕ
rows_kept = 401

-- at the start of the text
unfoldable pub start_gather : Gather
start_gather = record { scan = start_scan; lines = 0; inside = false; locks = 0; runs = 0; refused = 0; fault = None }

-- one more; a count of 64 bits that is at its top stays there
unfoldable pub more : ℕ → ℕ
more count = cond (ltb count (2 ^ 64 - 1)) (count + 1) count

-- ---- how the gathering stands after a line

-- where the reading of the line stands, and the first fault; the rest as it was
abbrev pub reading_at : Scan → Option Fault → Gather → Gather
reading_at scan fault state =
    record {
      scan = scan;
      lines = state.lines;
      inside = state.inside;
      locks = state.locks;
      runs = state.runs;
      refused = state.refused;
      fault = fault;
    }

-- the text is no run: the rest stays as it stands before this line
unfoldable pub faulty : Fault → Gather → Gather
faulty fault state = reading_at start_scan (Some fault) state

-- one line more: whether a run has begun, its H lines so far, the whole runs, the refused ones
abbrev pub line_read : Bool → ℕ → ℕ → ℕ → Gather → Gather
line_read inside locks runs refused state =
    record {
      scan = start_scan;
      lines = more state.lines;
      inside = inside;
      locks = locks;
      runs = runs;
      refused = refused;
      fault = state.fault;
    }

-- a line of an action or an event
unfoldable pub deed_read : Gather → Gather
deed_read state = line_read true state.locks state.runs state.refused state

-- an H line
unfoldable pub lock_read : Gather → Gather
lock_read state = line_read true (more state.locks) state.runs state.refused state

-- an E or C line: the run is whole
unfoldable pub one_run_more : ℕ → ℕ
one_run_more runs = cond (ltb runs rows_kept) (runs + 1) runs

unfoldable pub last_read : Gather → Gather
last_read state = line_read false 0 (one_run_more state.runs) state.refused state

-- a Q line: the run was refused, and is left out
unfoldable pub refusal_read : Gather → Gather
refusal_read state = line_read state.inside state.locks state.runs (more state.refused) state

-- the first of a line's numbers: an H line's lock
unfoldable pub first_of : Scan → ℕ
first_of scan = get_or scan.numbers 0 0

-- H lines come in the order of the locks, from lock 0 up; the top of 64 bits is no lock's number
unfoldable pub is_next_lock : ℕ → ℕ → Bool
is_next_lock lock locks = eqb lock locks && ltb lock (2 ^ 64 - 1)

-- an action or an event stands before the H lines, a Q line alone
unfoldable pub after_line : Option LineKind → Scan → Gather → Gather
after_line None scan state = faulty NoLine state
after_line (Some Deed) scan state = cond (eqb state.locks 0) (deed_read state) (faulty DeedBehindLock state)
after_line (Some Lock) scan state = cond (is_next_lock (first_of scan) state.locks) (lock_read state) (faulty LockOutOfOrder state)
after_line (Some Last) scan state = last_read state
after_line (Some Refusal) scan state = cond state.inside (faulty RefusalInside state) (refusal_read state)

-- inside a line
unfoldable pub inside_line : Scan → Gather → Gather
inside_line scan state = reading_at scan state.fault state

-- by what is read of the line, one byte more included
unfoldable pub after_part : Part → Scan → Gather → Gather
after_part Steps scan state = inside_line scan state
after_part Letter scan state = inside_line scan state
after_part Space scan state = inside_line scan state
after_part Numbers scan state = inside_line scan state
after_part Whole scan state = after_line (kind_of scan.letter) scan state
after_part Wrong scan state = faulty NoLine state

-- ---- the rows after a line

-- a number put at a place of a run's row
unfoldable pub put : ℕ → ℕ → ℕ → List ℕ → List ℕ
put run place number rows = set rows (run * run_width + place) number

-- a lock's busy steps, grants and N events; a lock above 63 has no place (25)
unfoldable pub lock_rows : List ℕ → ℕ → ℕ → List ℕ → List ℕ
lock_rows numbers run lock rows =
    cond (ltb run rows_kept && ltb lock lock_places)
    (put run (failed_place + lock) (get_or numbers 3 0) (put run (grants_place + lock) (get_or numbers 2 0) (put run (busy_place + lock) (get_or numbers 1 0) rows)))
    rows

-- a run's steps are those of its E or C line, its locks are as many as its H lines
unfoldable pub last_rows : ℕ → ℕ → ℕ → List ℕ → List ℕ
last_rows steps run locks rows = cond (ltb run rows_kept) (put run locks_place locks (put run steps_place steps rows)) rows

unfoldable pub rows_after_line : Option LineKind → Scan → Gather → List ℕ → List ℕ
rows_after_line None scan state rows = rows
rows_after_line (Some Deed) scan state rows = rows
rows_after_line (Some Lock) scan state rows =
    cond (is_next_lock (first_of scan) state.locks) (lock_rows scan.numbers state.runs state.locks rows) rows
rows_after_line (Some Last) scan state rows = last_rows scan.steps state.runs state.locks rows
rows_after_line (Some Refusal) scan state rows = rows

unfoldable pub rows_after_part : Part → Scan → Gather → List ℕ → List ℕ
rows_after_part Steps scan state rows = rows
rows_after_part Letter scan state rows = rows
rows_after_part Space scan state rows = rows
rows_after_part Numbers scan state rows = rows
rows_after_part Whole scan state rows = rows_after_line (kind_of scan.letter) scan state rows
rows_after_part Wrong scan state rows = rows

-- ---- one byte more

unfoldable pub is_fine : Option Fault → Bool
is_fine None = true
is_fine (Some fault) = false

-- behind the first fault nothing is read
unfoldable pub after_byte : Gather → ℕ → Gather
after_byte state byte =
    cond (is_fine state.fault) (after_part (scan_byte state.scan byte).part (scan_byte state.scan byte) state) state

unfoldable pub rows_after_byte : Gather → ℕ → List ℕ → List ℕ
rows_after_byte state byte rows =
    cond (is_fine state.fault) (rows_after_part (scan_byte state.scan byte).part (scan_byte state.scan byte) state rows) rows

-- all bytes of a piece of text, in order
unfoldable pub after_all : Gather → List ℕ → Gather
after_all state [] = state
after_all state (byte ∷ rest) = after_all (after_byte state byte) rest

unfoldable pub rows_after_all : Gather → List ℕ → List ℕ → List ℕ
rows_after_all state [] rows = rows
rows_after_all state (byte ∷ rest) rows = rows_after_all (after_byte state byte) rest (rows_after_byte state byte rows)

-- ---- at the end of the text

-- whether the reading is at the start of a line
unfoldable pub is_steps : Part → Bool
is_steps Steps = true
is_steps Letter = false
is_steps Space = false
is_steps Numbers = false
is_steps Whole = false
is_steps Wrong = false

unfoldable pub at_line_start : Part → Bool → Bool
at_line_start part begun = is_steps part && not begun

-- a text that ends inside a line, or inside a run
unfoldable pub end_fault : Bool → Bool → Option Fault
end_fault start inside = cond start (cond inside (Some NoLastLine) None) (Some NoNewline)

unfoldable pub fault_of : Gather → Option Fault
fault_of state =
    cond (is_fine state.fault) (end_fault (at_line_start state.scan.part state.scan.begun) state.inside) state.fault

-- the line that the reading is at, by its number from 1
unfoldable pub line_number : Gather → ℕ
line_number state = more state.lines

-- the rows of the whole runs
unfoldable pub whole_rows : Gather → List ℕ → List ℕ
whole_rows state rows = take (cond (ltb state.runs rows_kept) state.runs rows_kept * run_width) rows
