-- The numbers of a run as the monthly sheet takes them, and the lines that a run ends with: the H lines and the E or C line.
use Rattle.std.specs.Prelude.{ℕ, zero, suc, ◌+◌, Bool, true, ◌&&◌, List, [], ◌∷◌, ◌++◌, get_or}
use Rattle.lists.specs.Loops.{total}
use Rattle.nightfile.specs.File.{plan_part, plan_of}
use Rattle.tally.specs.Tally.{sum_of}
use Rattle.wording.specs.declared.Line.{Line}
use Rattle.wording.specs.Wording.{text, lock_says, last_says}
use Rattle.linereader.specs.Reading.{is_deed as is_deed_letter}
use Rattle.course.specs.declared.Reached.{Reached}
use Rattle.course.specs.declared.Run.{Run}
use Rattle.course.specs.Standing.{locks_of}
use Rattle.course.specs.Wording.{is_cut}
use Rattle.course.specs.Whole.{Said}
use Rattle.run.specs.Outcomes.{file_course}
use Rattle.sums.specs.Sheet.{steps_place, locks_place, busy_place, grants_place, failed_place, number_at}

-- ---- the numbers

-- a run's row: its steps, its number of locks, then its busy steps, its grants and its N events, each with 64 places
unfoldable pub row_of : Run → List ℕ
row_of run =
    run.reached.steps ∷ locks_of run ∷ (run.reached.tally.busy ++ (run.reached.tally.grants ++ run.reached.tally.failed))

-- the row of a file's run under a ceiling
unfoldable pub run_numbers : ℕ → List ℕ → List ℕ
run_numbers ceiling file = row_of (file_course ceiling file).end

-- the rows of the runs of several files, one behind the other
unfoldable pub rows_of : ℕ → List (List ℕ) → List ℕ
rows_of ceiling [] = []
rows_of ceiling (file ∷ files) = run_numbers ceiling file ++ rows_of ceiling files

-- the ceiling of the night program
abbrev pub night_ceiling : ℕ
night_ceiling = 1000000

-- the locks of a file's plan
unfoldable pub locks_in : List ℕ → ℕ
locks_in file = (plan_of (plan_part file)).locks

-- ---- the lines of the end

-- of so many locks, ascending from one on: the lock, its busy steps, its grants, its N events
unfoldable pub lock_lines : Reached → ℕ → ℕ → List Line
lock_lines reached lock zero = []
lock_lines reached lock (suc n) =
    lock_says reached.steps lock (get_or reached.tally.busy lock 0) (get_or reached.tally.grants lock 0) (get_or reached.tally.failed lock 0)
    ∷ lock_lines reached (lock + 1) n

-- one H line a lock, then the last line
unfoldable pub last_lines : Run → List Line
last_lines run =
    lock_lines run.reached 0 (locks_of run)
    ++ (last_says run.reached.steps (is_cut run.phase) (sum_of run.reached.tally.grants (locks_of run)) (sum_of run.reached.tally.failed (locks_of run)) ∷ [])

-- the same lines, read off a row of numbers: the last line has the plain sums over the row's locks
unfoldable pub lock_row_lines : List ℕ → ℕ → ℕ → List Line
lock_row_lines numbers lock zero = []
lock_row_lines numbers lock (suc n) =
    lock_says (number_at numbers steps_place 0) lock (number_at numbers (busy_place + lock) 0) (number_at numbers (grants_place + lock) 0) (number_at numbers (failed_place + lock) 0)
    ∷ lock_row_lines numbers (lock + 1) n

unfoldable pub row_lines : Bool → List ℕ → List Line
row_lines cut numbers =
    lock_row_lines numbers 0 (number_at numbers locks_place 0)
    ++ (last_says (number_at numbers steps_place 0) cut
    (total (λ lock. number_at numbers (grants_place + lock) 0) (number_at numbers locks_place 0))
    (total (λ lock. number_at numbers (failed_place + lock) 0) (number_at numbers locks_place 0)) ∷ [])

-- ---- the lines before them

-- a line of an action or of an event: its letter is one of T R F X G N L B D
unfoldable pub is_deed : Line → Bool
is_deed line = is_deed_letter line.letter

-- all of them are
unfoldable pub all_deeds : List Line → Bool
all_deeds [] = true
all_deeds (line ∷ rest) = is_deed line && all_deeds rest

-- lines alone, without the runs before and after each
unfoldable pub lines_of : List Said → List Line
lines_of [] = []
lines_of (said ∷ rest) = said.line ∷ lines_of rest

-- lines as they are written, one after the other
unfoldable pub text_of : List Line → List ℕ
text_of [] = []
text_of (line ∷ rest) = text line ++ text_of rest
