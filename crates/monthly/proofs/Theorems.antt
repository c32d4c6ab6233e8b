-- The sheet of the lines of night files: what is gathered of them is what is read of their runs' rows.
use Prim.Native.Nat.{ℕ, zero, suc, ◌+◌, ◌*◌, ◌/◌, ◌≤◌, ◌<◌, min}
use mathlib.Core.Path.{◌≡◌, ◌∙◌, sym, ap}
use mathlib.Core.List.{List, [], ◌∷◌}
use mathlib.Core.Logic.{⊎_elim}
use native.Mathlib.Nat.{mul-div_cancel}
use native.Mathlib.Omega.{arith}
use lib.Dec.{eqb, ltb}
use lib.ListN.{length, get_or, take}
use lib.Seq.{get_or-take, length-take-le}
use borrow.Author.Tests.{lt-ltb, ltb-false, eqb-true}
use Rattle.lists.specs.Refusal.{refused_if}
use Rattle.lists.proofs.Tests.{by_test, at_most_or_above}
use Rattle.sums.specs.Sheet.{Told, number_at, run_count, too_many_runs, sheet_number, empty_sheet, making}
use Rattle.sums.specs.Theorems.{SameRun}
use Rattle.sums.proofs.Theorems.{nothing_else_is_read}
use Rattle.gather.specs.declared.Gather.{Gather}
use Rattle.gather.specs.Gathering.{start_gather, after_all, rows_after_all, fault_of, whole_rows}
use Rattle.gather.specs.Texts.{RunLines, no_run, pieces_text, runs_in, RowOf}
use Rattle.gather.proofs.Gathered.{runs_are_gathered}
use Rattle.course.specs.declared.Run.{Run}
use Rattle.course.specs.Standing.{locks_of}
use Rattle.run.specs.Outcomes.{file_course}
use Rattle.ownsheet.specs.Numbers.{night_ceiling, run_numbers, rows_of}
use Rattle.ownsheet.specs.Theorems.{AllAccepted}
use Rattle.ownsheet.proofs.Rows.{Placed, row_placed, rows_long, row_at}
use Rattle.ownsheet.proofs.Fits.{runs_fit_their_sheet}
use Rattle.nightfile.specs.File.{file_number}
use Rattle.monthly.specs.Monthly.{month_text, accepted_of}
use Rattle.monthly.specs.Theorems.{TheSheetOfNightFiles, NightFilesFitTheirSheet}
use Rattle.monthly.proofs.Runs.{Says}
use Rattle.monthly.proofs.Month.{month_of}

-- ---- one run

-- a number of a run that is among the first rows
taken_at : (rows : List ℕ) (c run place : ℕ) → run < c → place < 194 → number_at (take (c * 194) rows) place run ≡ number_at rows place run
unfolding number_at
taken_at rows c run place below inside = get_or-take (c * 194) rows (run * 194 + place) 0 (omega (arith, below, inside))

-- the row that is gathered of a file's lines, and the row of its numbers
same_run : (after : List ℕ) (c run : ℕ) (files : List (List ℕ)) (lines : RunLines) → run < c → run < length files → RowOf after run lines
    → Says (get_or files run []) lines → SameRun (take (c * 194) after) run (rows_of night_ceiling files) run
same_run after c run files lines below within row said =
    record {
      steps = taken_at after c run 0 below (omega arith) ∙ row.steps ∙ said.steps ∙ sym (row_at night_ceiling files run 0 within (omega arith) ∙ p.steps);
      locks = many ∙ sym (row_at night_ceiling files run 1 within (omega arith) ∙ p.locks);
      busy = λ lock l few.
          let mine : lock < locks_of end = omega (arith, l, many) in
          taken_at after c run (2 + lock) below (omega (arith, few)) ∙ row.busy lock (omega (arith, mine, few, said.locks))
          ∙ ap (λ (ns : List ℕ). get_or ns 1 0) (said.numbers lock mine) ∙ sym (row_at night_ceiling files run (2 + lock) within (omega (arith, few)) ∙ p.busy lock few);
      grants = λ lock l few.
          let mine : lock < locks_of end = omega (arith, l, many) in
          taken_at after c run (66 + lock) below (omega (arith, few)) ∙ row.grants lock (omega (arith, mine, few, said.locks))
          ∙ ap (λ (ns : List ℕ). get_or ns 2 0) (said.numbers lock mine) ∙ sym (row_at night_ceiling files run (66 + lock) within (omega (arith, few)) ∙ p.grants lock few);
      failed = λ lock l few.
          let mine : lock < locks_of end = omega (arith, l, many) in
          taken_at after c run (130 + lock) below (omega (arith, few)) ∙ row.failed lock (omega (arith, mine, few, said.locks))
          ∙ ap (λ (ns : List ℕ). get_or ns 3 0) (said.numbers lock mine) ∙ sym (row_at night_ceiling files run (130 + lock) within (omega (arith, few)) ∙ p.failed lock few);
    }
  where
    end : Run
    end = (file_course night_ceiling (get_or files run [])).end

    p : Placed (run_numbers night_ceiling (get_or files run [])) end
    p = row_placed night_ceiling (get_or files run [])

    many : number_at (take (c * 194) after) 1 run ≡ locks_of end
    many = taken_at after c run 1 below (omega arith) ∙ row.locks ∙ said.locks

-- ---- all runs

-- more than 400 runs are told 24, with the empty sheet
too_many : (numbers : List ℕ) → 400 * 194 < length numbers → making numbers ≡ record { number = 24; sheet = empty_sheet }
unfolding making sheet_number refused_if too_many_runs
too_many numbers e = rw (lt-ltb (400 * 194) (length numbers) e)

-- as many rows as runs are whole
whole : (state : Gather) (rows : List ℕ) (c : ℕ) → state.runs ≡ c → c ≤ 401 → whole_rows state rows ≡ take (c * 194) rows
unfolding whole_rows
whole state rows c e few =
    ap (λ (n : ℕ). take (n * 194) rows)
    (by_test (λ (n : ℕ). n ≡ c) (ltb state.runs 401) (λ z. e) (λ z. omega (arith, ltb-false state.runs 401 z, e, few)))

rows_taken : (rows : List ℕ) (c : ℕ) → length (take (c * 194) rows) ≡ c * 194 → run_count (take (c * 194) rows) ≡ c
unfolding run_count
rows_taken rows c e = ap (λ (n : ℕ). n / 194) e ∙ mul-div_cancel c (omega arith)

sheet_same : (after : List ℕ) (c : ℕ) (files : List (List ℕ)) (lines : List RunLines) → length after ≡ 401 * 194 → c ≡ min (length files) 401
    → ((k : ℕ) → k < c → RowOf after k (get_or lines k no_run)) → ((k : ℕ) → k < length files → Says (get_or files k []) (get_or lines k no_run))
    → making (take (c * 194) after) ≡ making (rows_of night_ceiling files)
sheet_same after c files lines long e rows said =
    let taken : length (take (c * 194) after) ≡ c * 194 = length-take-le (c * 194) after (omega (arith, long, e)) in
    let all = rows_long night_ceiling files in
    ⊎_elim
    (λ few.
    let same : length (take (c * 194) after) ≡ length (rows_of night_ceiling files) = omega (arith, taken, all, e, few) in
    nothing_else_is_read (take (c * 194) after) (rows_of night_ceiling files) same
    (λ run below.
    let inside : run < c = omega (arith, below, rows_taken after c taken) in
    let within : run < length files = omega (arith, inside, e) in
    same_run after c run files (get_or lines run no_run) inside within (rows run inside) (said run within)))
    (λ many.
    too_many (take (c * 194) after) (omega (arith, taken, e, many)) ∙ sym (too_many (rows_of night_ceiling files) (omega (arith, all, many))))
    (at_most_or_above (length files) 400)

pub the_sheet_of_night_files : TheSheetOfNightFiles
the_sheet_of_night_files files rows long =
    let m = month_of files in
    let g = runs_are_gathered m.pieces rows m.right long in
    let state = after_all start_gather (pieces_text m.pieces) in
    let after = rows_after_all start_gather (pieces_text m.pieces) rows in
    let c = min (length (runs_in m.pieces)) 401 in
    record {
      fine = ap (λ (t : List ℕ). fault_of (after_all start_gather t)) m.text ∙ g.fine;
      refused = λ small. ap (λ (t : List ℕ). (after_all start_gather t).refused) m.text ∙ g.refused (omega (arith, small, m.refused)) ∙ m.refused;
      sheet = ap (λ (t : List ℕ). making (whole_rows (after_all start_gather t) (rows_after_all start_gather t rows))) m.text
          ∙ ap making (whole state after c g.runs (omega arith))
          ∙ sheet_same after c (accepted_of files) (runs_in m.pieces) (g.long ∙ long) (omega (arith, m.runs)) g.row m.each;
    }

-- ---- the number that is told

-- the accepted files are accepted
one_more : (file : List ℕ) (files : List (List ℕ)) → file_number file ≡ 0 → AllAccepted files → AllAccepted (file ∷ files)
one_more file files e others zero below = e
one_more file files e others (suc k) below = others k (omega (arith, below))

all_accepted : (files : List (List ℕ)) → AllAccepted (accepted_of files)
unfolding accepted_of
all_accepted [] = λ k below. absurd (omega (arith, below))
all_accepted (file ∷ files) =
    by_test AllAccepted (eqb (file_number file) 0) (λ e. one_more file (accepted_of files) (eqb-true (file_number file) 0 e) (all_accepted files))
    (λ e. all_accepted files)

number_told : (one other : List ℕ) → making one ≡ making other → sheet_number one ≡ sheet_number other
unfolding making
number_told one other e = ap (λ (t : Told). t.number) e

pub night_files_fit_their_sheet : NightFilesFitTheirSheet
night_files_fit_their_sheet files rows long =
    let same = number_told (whole_rows (after_all start_gather (month_text files)) (rows_after_all start_gather (month_text files) rows)) (rows_of night_ceiling (accepted_of files))
    (the_sheet_of_night_files files rows long).sheet in
    let answered = runs_fit_their_sheet (accepted_of files) (all_accepted files) in
    record { never_26 = λ e. answered.never_26 (sym same ∙ e); fit = λ few alike. same ∙ answered.fit few alike }
