-- A text of runs is gathered into their rows: over the lines of a run's actions and events, over its H lines, its last line, and over the pieces.
use Prim.Native.Nat.{ℕ, zero, suc, ◌+◌, ◌*◌, ◌^◌, ◌≤◌, ◌<◌, min}
use mathlib.Core.Path.{◌≡◌, refl, sym, ap, ap₂, subst, ◌∙◌}
use mathlib.Core.Bool.{Bool, false, cond}
use mathlib.Core.List.{List, ◌∷◌, ◌++◌}
use native.Mathlib.Omega.{arith}
use lib.Dec.{ltb, lit≤}
use lib.ListN.{length, get_or}
use borrow.Author.Tests.{lt-ltb, ltb-true, ltb-false}
use Rattle.lists.proofs.Tests.{by_test}
use Rattle.std.specs.Prelude.{None}
use Rattle.linereader.specs.declared.Scan.{Scan}
use Rattle.linereader.specs.Reading.{start_scan}
use Rattle.sums.specs.Sheet.{number_at}
use Rattle.gather.specs.declared.Gather.{Gather}
use Rattle.gather.specs.Gathering.{start_gather, more, deed_read, lock_read, one_run_more, last_read, refusal_read, lock_rows, last_rows, is_fine, is_steps, at_line_start, end_fault, fault_of, after_all, rows_after_all}
use Rattle.gather.specs.Texts.{TextLine, no_line, line_text, lines_text, Deeds, LocksFrom, RunLines, no_run, IsRun, Piece, ran, left_out, Pieces, piece_text, pieces_text, runs_in, refused_in, RowOf}
use Rattle.gather.specs.Theorems.{RunsAreGathered}
use Rattle.gather.proofs.Laws.{lock_long}
use Rattle.gather.proofs.Pieces.{pieces, rows_long}
use Rattle.gather.proofs.Lines.{Does, AtLine, one_more, deed_line, lock-line, last_line, refusal-line}
use Rattle.gather.proofs.Rows.{LockAt, lock_here, lock_kept, Settled, low, settled_more, lock_stays, last_kept, LastAt, last_here}

-- ---- two texts, one after the other

-- what holds after both holds after the text of both
split : (P : Gather → List ℕ → Type 0) (g : Gather) (text rest rows : List ℕ)
    → P (after_all (after_all g text) rest) (rows_after_all (after_all g text) rest (rows_after_all g text rows)) → P (after_all g (text ++ rest)) (rows_after_all g (text ++ rest) rows)
split P g text rest rows p =
    let both = pieces g text rest rows in
    subst (λ (h : Gather). P h (rows_after_all g (text ++ rest) rows)) (sym both.stands)
    (subst (P (after_all (after_all g text) rest)) (sym both.gathered) p)

-- what holds after what a text does holds after the text
carry : (P : Gather → List ℕ → Type 0) (g : Gather) (text rows : List ℕ) {after : Gather} {rows-after : List ℕ → List ℕ} → Does g text after rows-after
    → P after (rows-after rows) → P (after_all g text) (rows_after_all g text rows)
carry P g text rows {after = after} does p =
    subst (λ (h : Gather). P h (rows_after_all g text rows)) (sym does.stands) (subst (P after) (sym (does.gathered rows)) p)

-- the same with a text behind it
carry_on : (P : Gather → List ℕ → Type 0) (g : Gather) (text rest rows : List ℕ) {after : Gather} {rows-after : List ℕ → List ℕ} → Does g text after rows-after
    → P (after_all after rest) (rows_after_all after rest (rows-after rows)) → P (after_all g (text ++ rest)) (rows_after_all g (text ++ rest) rows)
carry_on P g text rest rows does p =
    split P g text rest rows (carry (λ (h : Gather) (rs : List ℕ). P (after_all h rest) (rows_after_all h rest rs)) g text rows does p)

-- ---- a run

-- at the start of a line, with so many H lines of the run at hand, runs and refused ones
record Stood (locks runs refused : ℕ) (g : Gather) : Type 0 where
  at : AtLine g
  had : g.locks ≡ locks
  ran_before : g.runs ≡ runs
  refused_before : g.refused ≡ refused

record DeedsDone (runs refused : ℕ) (rows : List ℕ) (h : Gather) (after : List ℕ) : Type 0 where
  stood : Stood 0 runs refused h
  same : after ≡ rows

deeds_done : {r q : ℕ} {deeds : List TextLine} (g : Gather) (rows : List ℕ) → Deeds deeds → Stood 0 r q g
    → DeedsDone r q rows (after_all g (lines_text deeds)) (rows_after_all g (lines_text deeds) rows)
unfolding lines_text after_all rows_after_all deed_read
deeds_done g rows Deeds.none s = record { stood = s; same = refl }
deeds_done {r} {q} g rows (Deeds.one_more {l = l} {rest = rest} k ds) s =
    carry_on (DeedsDone r q rows) g (line_text l) (lines_text rest) rows (deed_line l g s.at k s.had)
    (deeds_done (deed_read g) rows ds
    (record { at = record { start = refl; fine = s.at.fine }; had = s.had; ran_before = s.ran_before; refused_before = s.refused_before }))

record LocksDone (had runs refused : ℕ) (locks : List TextLine) (rows : List ℕ) (h : Gather) (after : List ℕ) : Type 0 where
  stood : Stood (had + length locks) runs refused h
  kept : (j : ℕ) → Settled runs had j → get_or after j 0 ≡ get_or rows j 0
  own : runs < 401 → (k : ℕ) → k < length locks → had + k < 64 → LockAt after runs (had + k) (get_or locks k no_line).numbers

-- one H line in front of the others
lock_first : (had r q : ℕ) (l : TextLine) (rest : List TextLine) (rows : List ℕ) {between : List ℕ} (h : Gather) (after : List ℕ) → length rows ≡ 401 * 194
    → between ≡ lock_rows l.numbers r had rows → LocksDone (had + 1) r q rest between h after → LocksDone had r q (l ∷ rest) rows h after
lock_first had r q l rest rows {between} h after long e next =
    record {
      stood = subst (λ (n : ℕ). Stood n r q h) (omega arith) next.stood;
      kept = λ j settled. next.kept j (settled_more settled) ∙ ap (λ (rs : List ℕ). get_or rs j 0) e ∙ lock_kept l.numbers r had rows j settled;
      own = own_all;
    }
  where
    own_all : r < 401 → (k : ℕ) → k < length (l ∷ rest) → had + k < 64 → LockAt after r (had + k) (get_or (l ∷ rest) k no_line).numbers
    own_all a zero below b =
        let same : had ≡ had + 0 = omega arith in
        let here : LockAt between r had l.numbers =
        subst (λ (rs : List ℕ). LockAt rs r had l.numbers) (sym e) (lock_here l.numbers r had rows a (omega (arith, b)) long) in
        subst (λ (n : ℕ). LockAt after r n l.numbers) same (lock_stays between after r had l.numbers next.kept here)
    own_all a (suc k) below b =
        let same : had + 1 + k ≡ had + suc k = omega arith in
        subst (λ (n : ℕ). LockAt after r n (get_or rest k no_line).numbers) same (next.own a k (omega (arith, below)) (omega (arith, b)))

locks_done : {had r q : ℕ} {locks : List TextLine} (g : Gather) (rows : List ℕ) → length rows ≡ 401 * 194 → LocksFrom had locks → Stood had r q g
    → LocksDone had r q locks rows (after_all g (lines_text locks)) (rows_after_all g (lines_text locks) rows)
unfolding lines_text after_all rows_after_all lock_read
locks_done {had} {r} {q} g rows long LocksFrom.none s =
    let same : had ≡ had + 0 = omega arith in
    record {
      stood = subst (λ (n : ℕ). Stood n r q g) same s;
      kept = λ j settled. refl;
      own = λ a k below b. absurd (omega (arith, below));
    }
locks_done {had} {r} {q} g rows long (LocksFrom.one_more {l = l} {rest = rest} k e small ls) s =
    let between : List ℕ = lock_rows l.numbers g.runs g.locks rows in
    carry_on (LocksDone had r q (l ∷ rest) rows) g (line_text l) (lines_text rest) rows
    (lock-line l g s.at k (e ∙ sym s.had) (omega (arith, small, s.had)))
    (lock_first had r q l rest rows (after_all (lock_read g) (lines_text rest)) (rows_after_all (lock_read g) (lines_text rest) between) long
    (ap₂ (λ (run lock : ℕ). lock_rows l.numbers run lock rows) s.ran_before s.had)
    (locks_done (lock_read g) between (lock_long l.numbers g.runs g.locks rows ∙ long) ls
    (record {
      at = record { start = refl; fine = s.at.fine };
      had = ap more s.had ∙ one_more had small;
      ran_before = s.ran_before;
      refused_before = s.refused_before;
    })))

record RunDone (runs refused : ℕ) (run : RunLines) (rows : List ℕ) (h : Gather) (after : List ℕ) : Type 0 where
  stood : Stood 0 (one_run_more runs) refused h
  out : h.inside ≡ false
  kept : (j : ℕ) → j < runs * 194 → get_or after j 0 ≡ get_or rows j 0
  row : runs < 401 → RowOf after runs run

-- the run's row, its last line behind its H lines
row-whole : (r q : ℕ) (run : RunLines) (rows : List ℕ) (h : Gather) (after : List ℕ) → length after ≡ 401 * 194 → LocksDone 0 r q run.locks rows h after
    → r < 401 → RowOf (last_rows run.last.steps r (length run.locks) after) r run
unfolding number_at
row-whole r q run rows h after long done a =
    record {
      steps = told.steps_there;
      locks = told.locks_there;
      busy = λ lock below. last_kept steps r many after (r * 194 + (2 + lock)) (λ e. omega (arith, e)) (λ e. omega (arith, e)) ∙ (at lock below).busy;
      grants = λ lock below. last_kept steps r many after (r * 194 + (66 + lock)) (λ e. omega (arith, e)) (λ e. omega (arith, e)) ∙ (at lock below).grants;
      failed = λ lock below. last_kept steps r many after (r * 194 + (130 + lock)) (λ e. omega (arith, e)) (λ e. omega (arith, e)) ∙ (at lock below).failed;
    }
  where
    steps : ℕ
    steps = run.last.steps

    many : ℕ
    many = length run.locks

    told : LastAt (last_rows steps r many after) r steps many
    told = last_here steps r many after a long

    at : (lock : ℕ) → lock < min many 64 → LockAt after r lock (get_or run.locks lock no_line).numbers
    at lock below =
        let same : 0 + lock ≡ lock = omega arith in
        subst (λ (n : ℕ). LockAt after r n (get_or run.locks lock no_line).numbers) same (done.own a lock (omega (arith, below)) (omega (arith, below)))

run-done : {r q : ℕ} (g : Gather) (run : RunLines) (rows : List ℕ) → length rows ≡ 401 * 194 → IsRun run → Stood 0 r q g
    → RunDone r q run rows (after_all g (piece_text (ran run))) (rows_after_all g (piece_text (ran run)) rows)
unfolding piece_text last_read
run-done {r} {q} g run rows long is s =
    let deeds : List ℕ = lines_text run.deeds in
    let locks : List ℕ = lines_text run.locks in
    let last : List ℕ = line_text run.last in
    let steps : ℕ = run.last.steps in
    let many : ℕ = length run.locks in
    let one = deeds_done g rows is.deeds_right s in
    let g₁ : Gather = after_all g deeds in
    let rows₁ : List ℕ = rows_after_all g deeds rows in
    let long₁ : length rows₁ ≡ 401 * 194 = rows_long g deeds rows ∙ long in
    let two = locks_done g₁ rows₁ long₁ is.locks_right one.stood in
    let g₂ : Gather = after_all g₁ locks in
    let rows₂ : List ℕ = rows_after_all g₁ locks rows₁ in
    let long₂ : length rows₂ ≡ 401 * 194 = rows_long g₁ locks rows₁ ∙ long₁ in
    let had : g₂.locks ≡ many = two.stood.had ∙ omega arith in
    let same : last_rows steps g₂.runs g₂.locks rows₂ ≡ last_rows steps r many rows₂ =
    ap₂ (λ (n m : ℕ). last_rows steps n m rows₂) two.stood.ran_before had in
    let done : RunDone r q run rows (last_read g₂) (last_rows steps r many rows₂) =
    record {
      stood = record {
        at = record { start = refl; fine = two.stood.at.fine };
        had = refl;
        ran_before = ap one_run_more two.stood.ran_before;
        refused_before = two.stood.refused_before;
      };
      out = refl;
      kept = λ j below. last_kept steps r many rows₂ j (λ e. omega (arith, below, e)) (λ e. omega (arith, below, e))
          ∙ two.kept j (low (omega (arith, below))) ∙ ap (λ (rs : List ℕ). get_or rs j 0) one.same;
      row = row-whole r q run rows₁ g₂ rows₂ long₂ two;
    } in
    split (RunDone r q run rows) g deeds (locks ++ last) rows
    (split (RunDone r q run rows) g₁ locks last rows₁
    (carry (RunDone r q run rows) g₂ last rows₂ (last_line run.last g₂ two.stood.at is.last_right)
    (subst (RunDone r q run rows (last_read g₂)) (sym same) done)))

-- ---- the pieces

record PiecesDone (runs refused : ℕ) (ps : List Piece) (rows : List ℕ) (h : Gather) (after : List ℕ) : Type 0 where
  at : AtLine h
  out : h.inside ≡ false
  ran_all : h.runs ≡ min (runs + length (runs_in ps)) 401
  refused_all : refused + refused_in ps < 2 ^ 64 → h.refused ≡ refused + refused_in ps
  kept : (j : ℕ) → j < runs * 194 → get_or after j 0 ≡ get_or rows j 0
  row : (k : ℕ) → k < length (runs_in ps) → runs + k < 401 → RowOf after (runs + k) (get_or (runs_in ps) k no_run)

-- a row is left where its places are
row_stays : (rows after : List ℕ) (r : ℕ) (run : RunLines) → ((j : ℕ) → j < (r + 1) * 194 → get_or after j 0 ≡ get_or rows j 0) → RowOf rows r run → RowOf after r run
unfolding number_at
row_stays rows after r run kept told =
    record {
      steps = kept (r * 194 + 0) (omega arith) ∙ told.steps;
      locks = kept (r * 194 + 1) (omega arith) ∙ told.locks;
      busy = λ lock below. kept (r * 194 + (2 + lock)) (omega (arith, below)) ∙ told.busy lock below;
      grants = λ lock below. kept (r * 194 + (66 + lock)) (omega (arith, below)) ∙ told.grants lock below;
      failed = λ lock below. kept (r * 194 + (130 + lock)) (omega (arith, below)) ∙ told.failed lock below;
    }

-- the runs that are counted
counted : (r : ℕ) → r < 401 → one_run_more r ≡ r + 1
unfolding one_run_more
counted r a = rw (lt-ltb r 401 a)

counted-min : (r : ℕ) → r ≤ 401 → one_run_more r ≡ min (r + 1) 401
unfolding one_run_more
counted-min r a = by_test (λ (n : ℕ). n ≡ min (r + 1) 401) (ltb r 401) (λ e. omega (arith, ltb-true r 401 e)) (λ e. omega (arith, ltb-false r 401 e, a))

-- one run in front of the others
run-first : (r q : ℕ) (run : RunLines) (rest : List Piece) (rows between : List ℕ) (g h : Gather) (after : List ℕ) → r ≤ 401
    → RunDone r q run rows g between → PiecesDone (one_run_more r) q rest between h after → PiecesDone r q (ran run ∷ rest) rows h after
unfolding runs_in refused_in
run-first r q run rest rows between g h after few one next =
    record {
      at = next.at;
      out = next.out;
      ran_all = next.ran_all ∙ omega (arith, counted-min r few);
      refused_all = next.refused_all;
      kept = λ j below. next.kept j (omega (arith, below, counted-min r few, few)) ∙ one.kept j below;
      row = row_all;
    }
  where
    row_all : (k : ℕ) → k < length (run ∷ runs_in rest) → r + k < 401 → RowOf after (r + k) (get_or (run ∷ runs_in rest) k no_run)
    row_all zero below a =
        let same : r ≡ r + 0 = omega arith in
        subst (λ (n : ℕ). RowOf after n run) same
        (row_stays between after r run (λ j l. next.kept j (omega (arith, l, counted r (omega (arith, a))))) (one.row (omega (arith, a))))
    row_all (suc k) below a =
        let same : one_run_more r + k ≡ r + suc k = omega (arith, counted r (omega (arith, a))) in
        subst (λ (n : ℕ). RowOf after n (get_or (runs_in rest) k no_run)) same
        (next.row k (omega (arith, below)) (omega (arith, a, counted r (omega (arith, a)))))

-- a refused one
refused-first : (r q : ℕ) (l : TextLine) (rest : List Piece) (rows : List ℕ) (h : Gather) (after : List ℕ) → PiecesDone r (more q) rest rows h after
    → PiecesDone r q (left_out l ∷ rest) rows h after
unfolding runs_in refused_in
refused-first r q l rest rows h after next =
    record {
      at = next.at;
      out = next.out;
      ran_all = next.ran_all;
      refused_all = λ small.
          let e : more q ≡ q + 1 = one_more q (omega (arith, small)) in
          next.refused_all (omega (arith, small, e)) ∙ omega (arith, e);
      kept = next.kept;
      row = next.row;
    }

pieces_done : {r q : ℕ} {ps : List Piece} (g : Gather) (rows : List ℕ) → length rows ≡ 401 * 194 → r ≤ 401 → Pieces ps → Stood 0 r q g → g.inside ≡ false
    → PiecesDone r q ps rows (after_all g (pieces_text ps)) (rows_after_all g (pieces_text ps) rows)
unfolding pieces_text piece_text after_all rows_after_all runs_in refused_in refusal_read
pieces_done {r} {q} g rows long few Pieces.none s out =
    record {
      at = s.at;
      out = out;
      ran_all = s.ran_before ∙ omega (arith, few);
      refused_all = λ small. s.refused_before ∙ omega arith;
      kept = λ j below. refl;
      row = λ k below a. absurd (omega (arith, below));
    }
pieces_done {r} {q} g rows long few (Pieces.one_run {run = run} {rest = rest} is ps) s out =
    let text : List ℕ = piece_text (ran run) in
    let one = run-done g run rows long is s in
    let between : List ℕ = rows_after_all g text rows in
    split (PiecesDone r q (ran run ∷ rest) rows) g text (pieces_text rest) rows
    (run-first r q run rest rows between (after_all g text) (after_all (after_all g text) (pieces_text rest)) (rows_after_all (after_all g text) (pieces_text rest) between) few one
    (pieces_done {r = one_run_more r} {q = q} (after_all g text) between (rows_long g text rows ∙ long) (omega (arith, counted-min r few)) ps one.stood one.out))
pieces_done {r} {q} g rows long few (Pieces.one_refused {l = l} {rest = rest} k ps) s out =
    carry_on (PiecesDone r q (left_out l ∷ rest) rows) g (line_text l) (pieces_text rest) rows (refusal-line l g s.at k out)
    (refused-first r q l rest rows (after_all (refusal_read g) (pieces_text rest)) (rows_after_all (refusal_read g) (pieces_text rest) rows)
    (pieces_done {r = r} {q = more q} (refusal_read g) rows long few ps
    (record { at = record { start = refl; fine = s.at.fine }; had = s.had; ran_before = s.ran_before; refused_before = ap more s.refused_before })
    out))

-- ---- from the start of a text

-- at the start of a line, outside a run, the text may end
fine_end : (g : Gather) → AtLine g → g.inside ≡ false → fault_of g ≡ None
unfolding fault_of start_scan at_line_start is_steps end_fault
fine_end g at out =
    ap (λ (b : Bool). cond b (end_fault (at_line_start g.scan.part g.scan.begun) g.inside) g.fault) at.fine
    ∙ ap₂ (λ (s : Scan) (b : Bool). end_fault (at_line_start s.part s.begun) b) at.start out

pub runs_are_gathered : RunsAreGathered
unfolding start_gather is_fine
runs_are_gathered ps rows right long =
    let done = pieces_done start_gather rows long (lit≤ tt) right
    (record { at = record { start = refl; fine = refl }; had = refl; ran_before = refl; refused_before = refl }) refl in
    record {
      fine = fine_end (after_all start_gather (pieces_text ps)) done.at done.out;
      runs = done.ran_all ∙ omega arith;
      refused = λ small. done.refused_all (omega (arith, small)) ∙ omega arith;
      long = rows_long start_gather (pieces_text ps) rows;
      row = λ k below.
          let same : 0 + k ≡ k = omega arith in
          subst (λ (n : ℕ). RowOf (rows_after_all start_gather (pieces_text ps) rows) n (get_or (runs_in ps) k no_run)) same
          (done.row k (omega (arith, below)) (omega (arith, below)));
    }
