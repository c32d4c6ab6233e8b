-- The verdict on a schedule, of whole texts: a whole run's is that of its worst line, any other text is incomplete, and a good one has no bad line;
-- and the order of the verdicts by number.
use Prim.Native.Nat.{ℕ, ◌+◌, ◌-◌, ◌^◌, ◌≤◌, ◌<◌, min}
use mathlib.Core.Path.{◌≡◌, refl, sym, ap, subst, ◌∙◌}
use mathlib.Core.Bool.{Bool, true, cond, ◌&&◌, ◌||◌, true≢false}
use mathlib.Core.List.{List, [], ◌∷◌, ◌++◌, append_assoc, append-nil}
use native.Mathlib.Omega.{arith}
use lib.Dec.{eqb, ltb, leb}
use lib.ListN.{length, get_or}
use borrow.Author.Tests.{eq-eqb, le-leb, lt-ltb, le-ltb, eqb-true, leb-true, ltb-true, ltb-false}
use Rattle.lists.proofs.Laws.{and_left, and_right}
use Rattle.lists.proofs.Tests.{by_test, by_value, and_both, or_second, or_by_first, or_by_second}
use Rattle.std.specs.Prelude.{Option, Some, None}
use Rattle.gather.specs.declared.Fault.{Fault}
use Rattle.gather.specs.declared.Gather.{Gather}
use Rattle.gather.specs.Gathering.{start_gather, is_fine, at_line_start, end_fault, fault_of, after_all}
use Rattle.gather.specs.Texts.{TextLine, line_text, lines_text, Deeds, LocksFrom, RunLines, Piece, ran, left_out, Pieces, piece_text, pieces_text, runs_in, refused_in}
use Rattle.gather.proofs.NothingElse.{nothing_else_is_fine}
use Rattle.verdict.specs.declared.Verdict.{Verdict}
use Rattle.verdict.specs.declared.Verdict.TheVariants.{Incomplete, Refused, RefusedActions, Cut, LocksLost, TakesFailed, Good}
use Rattle.verdict.specs.declared.Noted.{Noted}
use Rattle.verdict.specs.declared.Watch.{Watch}
use Rattle.verdict.specs.declared.Judged.{Judged}
use Rattle.verdict.specs.Verdicts.{verdict_number, no_notes, start_watch, watch_all, is_a_run, is_a_refusal, is_whole, by_notes, without, worst, judged, verdict_of}
use Rattle.verdict.specs.Lines.{count_of, notes_of, lines_in, worst_line, LocksFit, of_a_run, of_a_refusal}
use Rattle.verdict.specs.Theorems.{TheWorstLineDecides, AllElseIsIncomplete, WholeRunsAreNot, GoodHasNoBadLine, TheFirstLetterDecides, ALineMoreIsNeverBetter, EachHasItsNumber}
use Rattle.verdict.proofs.Watching.{same_gather, noted_lines, watched_by, AreLines, lines_watched}
use Rattle.verdict.proofs.Counting.{notes_of_lem, run_locks, in_all, gathered, one_piece}

-- ---- the lines of a piece

lines_append : (one other : List TextLine) → lines_text (one ++ other) ≡ lines_text one ++ lines_text other
unfolding lines_text
lines_append [] other = refl
lines_append (l ∷ one) other = ap (λ (t : List ℕ). line_text l ++ t) (lines_append one other) ∙ sym (append_assoc (line_text l) (lines_text one) (lines_text other))

-- their text is its text
lines-text : (piece : Piece) → lines_text (lines_in piece) ≡ piece_text piece
unfolding lines_text lines_in piece_text
lines-text (ran run) =
    lines_append run.deeds (run.locks ++ (run.last ∷ []))
    ∙ ap (λ (t : List ℕ). lines_text run.deeds ++ t)
    (lines_append run.locks (run.last ∷ []) ∙ ap (λ (t : List ℕ). lines_text run.locks ++ t) (append-nil (line_text run.last)))
lines-text (left_out l) = append-nil (line_text l)

-- and they are lines of the night program
deeds_are : {deeds : List TextLine} (rest : List TextLine) → Deeds deeds → AreLines rest → AreLines (deeds ++ rest)
deeds_are rest Deeds.none are = are
deeds_are rest (Deeds.one_more k deeds) are = AreLines.one_more k.is_line (deeds_are rest deeds are)

locks_are : {from : ℕ} {locks : List TextLine} (rest : List TextLine) → LocksFrom from locks → AreLines rest → AreLines (locks ++ rest)
locks_are rest LocksFrom.none are = are
locks_are rest (LocksFrom.one_more k e small locks) are = AreLines.one_more k.is_line (locks_are rest locks are)

lines_are : {piece : Piece} → Pieces (piece ∷ []) → AreLines (lines_in piece)
unfolding lines_in
lines_are (Pieces.one_run {run = run} is no_more) =
    deeds_are (run.locks ++ (run.last ∷ [])) is.deeds_right
    (locks_are (run.last ∷ []) is.locks_right (AreLines.one_more is.last_right.is_line AreLines.none))
lines_are (Pieces.one_refused k no_more) = AreLines.one_more k.is_line AreLines.none

-- ---- the text of one piece

one_text : (piece : Piece) → pieces_text (piece ∷ []) ≡ piece_text piece
unfolding pieces_text
one_text piece = append-nil (piece_text piece)

-- a text that ends well had no fault
fine_on_the_way : (g : Gather) → fault_of g ≡ None → is_fine g.fault ≡ true
unfolding fault_of is_fine
fine_on_the_way g e =
    by_value (λ (b : Bool). is_fine g.fault ≡ true) (is_fine g.fault)
    (λ t. t)
    (λ t. ap is_fine (ap (λ (b : Bool). cond b (end_fault (at_line_start g.scan.part g.scan.begun) g.inside) g.fault) (sym t) ∙ e))

-- what gather says of it
piece_fine : {piece : Piece} → Pieces (piece ∷ []) → fault_of (after_all start_gather (piece_text piece)) ≡ None
piece_fine {piece} right = ap (λ (t : List ℕ). fault_of (after_all start_gather t)) (sym (one_text piece)) ∙ (gathered right).fine

run-counted : {run : RunLines} → Pieces (ran run ∷ []) → (after_all start_gather (piece_text (ran run))).runs ≡ 1
unfolding runs_in
run-counted {run} right =
    ap (λ (t : List ℕ). (after_all start_gather t).runs) (sym (one_text (ran run))) ∙ (gathered right).runs

run-not-refused : {run : RunLines} → Pieces (ran run ∷ []) → (after_all start_gather (piece_text (ran run))).refused ≡ 0
unfolding refused_in
run-not-refused {run} right =
    ap (λ (t : List ℕ). (after_all start_gather t).refused) (sym (one_text (ran run))) ∙ (gathered right).refused (omega arith)

refusal_no_run : {l : TextLine} → Pieces (left_out l ∷ []) → (after_all start_gather (piece_text (left_out l))).runs ≡ 0
unfolding runs_in
refusal_no_run {l} right =
    ap (λ (t : List ℕ). (after_all start_gather t).runs) (sym (one_text (left_out l))) ∙ (gathered right).runs

refusal_counted : {l : TextLine} → Pieces (left_out l ∷ []) → (after_all start_gather (piece_text (left_out l))).refused ≡ 1
unfolding refused_in
refusal_counted {l} right =
    ap (λ (t : List ℕ). (after_all start_gather t).refused) (sym (one_text (left_out l))) ∙ (gathered right).refused (omega arith)

-- what is watched of it
abbrev watched_piece : Piece → Watch
watched_piece piece = watched_by (λ letter. noted_lines letter (lines_in piece)) (after_all start_gather (piece_text piece)) start_watch

piece_watched : {piece : Piece} → Pieces (piece ∷ []) → watch_all start_watch (piece_text piece) ≡ watched_piece piece
unfolding start_watch start_gather is_fine
piece_watched {piece} right =
    subst (λ (text : List ℕ). watch_all start_watch text ≡ watched_by (λ letter. noted_lines letter (lines_in piece)) (after_all start_gather text) start_watch) (lines-text piece)
    (lines_watched start_watch (lines_are right) (record { start = refl; fine = refl })
    (ap (λ (t : List ℕ). is_fine (after_all start_gather t).fault) (lines-text piece) ∙ fine_on_the_way (after_all start_gather (piece_text piece)) (piece_fine right)))

-- its H lines
locks_counted : {run : RunLines} → Pieces (ran run ∷ []) → (noted_lines 72 (lines_in (ran run)) no_notes).count ≡ min (length run.locks) (2 ^ 64 - 1)
unfolding notes_of
locks_counted {run} (Pieces.one_run is no_more) =
    ap (λ (n : Noted). n.count) (notes_of_lem 72 (lines_in (ran run))) ∙ ap (λ (n : ℕ). min n (2 ^ 64 - 1)) (run_locks run is)

-- ---- it is whole

a_run : (runs refused locks : ℕ) → runs ≡ 1 → refused ≡ 0 → 1 ≤ locks → locks ≤ 64 → is_a_run runs refused locks ≡ true
unfolding is_a_run
a_run runs refused locks one none some most =
    and_both (eq-eqb runs 1 one) (and_both (eq-eqb refused 0 none) (and_both (le-leb 1 locks some) (le-leb locks 64 most)))

a_refusal : (runs refused : ℕ) → runs ≡ 0 → refused ≡ 1 → is_a_refusal runs refused ≡ true
unfolding is_a_refusal
a_refusal runs refused none one = and_both (eq-eqb runs 0 none) (eq-eqb refused 1 one)

whole : {piece : Piece} → Pieces (piece ∷ []) → LocksFit piece → is_whole (watched_piece piece) ≡ true
unfolding is_whole start_watch is_fine
whole right (of_a_run {run = run} some most) =
    let g : Gather = after_all start_gather (piece_text (ran run)) in
    let locks : ℕ = (noted_lines 72 (lines_in (ran run)) no_notes).count in
    let many : locks ≡ min (length run.locks) (2 ^ 64 - 1) = locks_counted right in
    and_both (ap is_fine (piece_fine right))
    (or_by_first (is_a_run g.runs g.refused locks) (is_a_refusal g.runs g.refused)
    (a_run g.runs g.refused locks (run-counted right) (run-not-refused right) (omega (arith, many, some)) (omega (arith, many, most))))
whole right (of_a_refusal {l = l}) =
    let g : Gather = after_all start_gather (piece_text (left_out l)) in
    and_both (ap is_fine (piece_fine right))
    (or_by_second (is_a_run g.runs g.refused (noted_lines 72 (lines_in (left_out l)) no_notes).count) (is_a_refusal g.runs g.refused)
    (a_refusal g.runs g.refused (refusal_no_run right) (refusal_counted right)))

pub the_worst_line_decides : TheWorstLineDecides
unfolding verdict_of judged start_watch worst_line
the_worst_line_decides piece right fit =
    let notes : ℕ → Noted = λ letter. noted_lines letter (lines_in piece) no_notes in
    ap judged (piece_watched right)
    ∙ ap (λ (b : Bool). cond b (worst (notes 81) (notes 88) (notes 67) (notes 76) (notes 78)) (without Incomplete)) (whole right fit)
    ∙ ap (λ (n : ℕ → Noted). worst (n 81) (n 88) (n 67) (n 76) (n 78)) (λ i letter. notes_of_lem letter (lines_in piece) i)

-- ---- every other text is incomplete

-- a verdict other than this one, of a worst line: each of them is
by_notes_other : (this verdict : Verdict) (notes : Noted) (later : Judged) → (verdict ≡ this → ⊥) → (later.verdict ≡ this → ⊥)
    → (by_notes verdict notes later).verdict ≡ this → ⊥
unfolding by_notes
by_notes_other this verdict notes later here there =
    by_test (λ (j : Judged). j.verdict ≡ this → ⊥) (ltb 0 notes.count) (λ e. here) (λ e. there)

worst_is-not : (refusal actions cut lost failed : Noted) → (worst refusal actions cut lost failed).verdict ≡ Incomplete → ⊥
unfolding worst without verdict_number
worst_is-not refusal actions cut lost failed =
    by_notes_other Incomplete Refused refusal _ (λ (e : Refused ≡ Incomplete). cc)
    (by_notes_other Incomplete RefusedActions actions _ (λ (e : RefusedActions ≡ Incomplete). cc)
    (by_notes_other Incomplete Cut cut _ (λ (e : Cut ≡ Incomplete). cc)
    (by_notes_other Incomplete LocksLost lost _ (λ (e : LocksLost ≡ Incomplete). cc)
    (by_notes_other Incomplete TakesFailed failed _ (λ (e : TakesFailed ≡ Incomplete). cc) (λ (e : Good ≡ Incomplete). cc)))))

pub whole_runs_are-not : WholeRunsAreNot
unfolding worst_line
whole_runs_are-not piece right fit e =
    let lines : List TextLine = lines_in piece in
    worst_is-not (notes_of 81 lines) (notes_of 88 lines) (notes_of 67 lines) (notes_of 76 lines) (notes_of 78 lines)
    (ap (λ (j : Judged). j.verdict) (sym (the_worst_line_decides piece right fit)) ∙ e)

-- where the verdict is another, the text was whole
was_whole : (w : Watch) → ((judged w).verdict ≡ Incomplete → ⊥) → is_whole w ≡ true
unfolding judged without
was_whole w other =
    by_value
    (λ (b : Bool). ((cond b (worst w.refusal w.actions w.cut w.lost w.failed) (without Incomplete)).verdict ≡ Incomplete → ⊥) → b ≡ true)
    (is_whole w) (λ e n. refl) (λ e n. absurd (n refl)) other

only_fine : (fault : Option Fault) → is_fine fault ≡ true → fault ≡ None
unfolding is_fine
only_fine None e = refl
only_fine (Some fault) e = absurd (true≢false (sym e))

-- one run, or one refused one, is one in all
one_in_all : (runs refused locks : ℕ) → (is_a_run runs refused locks || is_a_refusal runs refused) ≡ true → runs + refused ≡ 1
unfolding is_a_run is_a_refusal
one_in_all runs refused locks e =
    by_value (λ (b : Bool). runs + refused ≡ 1) (is_a_run runs refused locks)
    (λ t.
    let others : Bool = leb 1 locks && leb locks 64 in
    let ran_once : runs ≡ 1 = eqb-true runs 1 (and_left (eqb runs 1) (eqb refused 0 && others) t) in
    let none : refused ≡ 0 = eqb-true refused 0 (and_left (eqb refused 0) others (and_right (eqb runs 1) (eqb refused 0 && others) t)) in
    omega (arith, ran_once, none))
    (λ t.
    let refusal : is_a_refusal runs refused ≡ true = or_second (is_a_run runs refused locks) (is_a_refusal runs refused) e t in
    let none : runs ≡ 0 = eqb-true runs 0 (and_left (eqb runs 0) (eqb refused 1) refusal) in
    let once : refused ≡ 1 = eqb-true refused 1 (and_right (eqb runs 0) (eqb refused 1) refusal) in
    omega (arith, none, once))

-- a run that is whole has 1 to 64 H lines
record Fits (locks : ℕ) : Type 0 where
  some : 1 ≤ locks
  most : locks ≤ 64

fits : (runs refused locks : ℕ) → runs ≡ 1 → (is_a_run runs refused locks || is_a_refusal runs refused) ≡ true → Fits locks
unfolding is_a_run is_a_refusal
fits runs refused locks one e =
    by_value (λ (b : Bool). Fits locks) (is_a_run runs refused locks)
    (λ t.
    let others : Bool = leb 1 locks && leb locks 64 in
    let both : others ≡ true = and_right (eqb refused 0) others (and_right (eqb runs 1) (eqb refused 0 && others) t) in
    record { some = leb-true 1 locks (and_left (leb 1 locks) (leb locks 64) both); most = leb-true locks 64 (and_right (leb 1 locks) (leb locks 64) both) })
    (λ t.
    let refusal : is_a_refusal runs refused ≡ true = or_second (is_a_run runs refused locks) (is_a_refusal runs refused) e t in
    let none : runs ≡ 0 = eqb-true runs 0 (and_left (eqb runs 0) (eqb refused 1) refusal) in
    absurd (omega (arith, one, none)))

locks_fit : (piece : Piece) → Pieces (piece ∷ []) → is_whole (watched_piece piece) ≡ true → LocksFit piece
unfolding is_whole start_watch
locks_fit (ran run) right e =
    let g : Gather = after_all start_gather (piece_text (ran run)) in
    let locks : ℕ = (noted_lines 72 (lines_in (ran run)) no_notes).count in
    let many : locks ≡ min (length run.locks) (2 ^ 64 - 1) = locks_counted right in
    let fit = fits g.runs g.refused locks (run-counted right)
    (and_right (is_fine (fault_of g)) (is_a_run g.runs g.refused locks || is_a_refusal g.runs g.refused) e) in
    of_a_run {run = run} (omega (arith, many, fit.some)) (omega (arith, many, fit.most))
locks_fit (left_out l) right e = of_a_refusal

pub all_else_is_incomplete : AllElseIsIncomplete
unfolding verdict_of is_whole start_watch
all_else_is_incomplete text other =
    let w : Watch = watch_all start_watch text in
    let g : Gather = after_all start_gather text in
    let stands : w.gather ≡ g = same_gather text start_watch in
    let test : is_whole w ≡ true = was_whole w other in
    let counts : Bool = is_a_run w.gather.runs w.gather.refused w.locks.count || is_a_refusal w.gather.runs w.gather.refused in
    let fine : fault_of g ≡ None = ap fault_of (sym stands) ∙ only_fine (fault_of w.gather) (and_left (is_fine (fault_of w.gather)) counts test) in
    let found = nothing_else_is_fine text fine in
    let all : in_all (after_all start_gather (pieces_text found.pieces)) ≡ 1 =
    ap (λ (t : List ℕ). in_all (after_all start_gather t)) (sym found.same) ∙ ap in_all (sym stands)
    ∙ one_in_all w.gather.runs w.gather.refused w.locks.count (and_right (is_fine (fault_of w.gather)) counts test) in
    let one = one_piece found.pieces found.right all in
    let right : Pieces (one.piece ∷ []) = subst Pieces one.same found.right in
    let same : text ≡ piece_text one.piece = found.same ∙ ap pieces_text one.same ∙ one_text one.piece in
    record {
      piece = one.piece;
      right = right;
      fit = locks_fit one.piece right (ap is_whole (sym (piece_watched right)) ∙ ap (λ (t : List ℕ). is_whole (watch_all start_watch t)) (sym same) ∙ test);
      same = same;
    }

-- ---- a good one

-- no line was noted, and the later verdict is good
record NotNoted (notes : Noted) (later : Judged) : Type 0 where
  none : notes.count ≡ 0
  next : later.verdict ≡ Good

not_noted : (verdict : Verdict) (notes : Noted) (later : Judged) → (verdict ≡ Good → ⊥) → (by_notes verdict notes later).verdict ≡ Good → NotNoted notes later
unfolding by_notes
not_noted verdict notes later bad =
    by_test (λ (j : Judged). j.verdict ≡ Good → NotNoted notes later) (ltb 0 notes.count)
    (λ e good. absurd (bad good))
    (λ e good. record { none = omega (arith, ltb-false 0 notes.count e); next = good })

-- a count of none is of none, though it is kept below 2 ^ 64
no_line : (letter : ℕ) (lines : List TextLine) → (notes_of letter lines).count ≡ 0 → count_of letter lines ≡ 0
unfolding notes_of
no_line letter lines e = omega (arith, e)

pub good_has_no_bad_line : GoodHasNoBadLine
unfolding worst_line worst verdict_number
good_has_no_bad_line text good =
    let one = all_else_is_incomplete text (λ (e : (verdict_of text).verdict ≡ Incomplete). cc) in
    let lines : List TextLine = lines_in one.piece in
    let told : (worst_line lines).verdict ≡ Good =
    ap (λ (j : Judged). j.verdict) (sym (the_worst_line_decides one.piece one.right one.fit) ∙ ap verdict_of (sym one.same)) ∙ good in
    let refusal = not_noted Refused (notes_of 81 lines) _ (λ (e : Refused ≡ Good). cc) told in
    let actions = not_noted RefusedActions (notes_of 88 lines) _ (λ (e : RefusedActions ≡ Good). cc) refusal.next in
    let cut = not_noted Cut (notes_of 67 lines) _ (λ (e : Cut ≡ Good). cc) actions.next in
    let lost = not_noted LocksLost (notes_of 76 lines) _ (λ (e : LocksLost ≡ Good). cc) cut.next in
    let failed = not_noted TakesFailed (notes_of 78 lines) _ (λ (e : TakesFailed ≡ Good). cc) lost.next in
    record {
      one = one;
      no_refusal = no_line 81 lines refusal.none;
      no_action = no_line 88 lines actions.none;
      no_cut = no_line 67 lines cut.none;
      no_lost = no_line 76 lines lost.none;
      no_failed = no_line 78 lines failed.none;
    }

-- ---- the order

some-noted : (verdict : Verdict) (letter : ℕ) (lines : List TextLine) (later : Judged) → 0 < count_of letter lines
    → by_notes verdict (notes_of letter lines) later ≡ record { verdict = verdict; noted = notes_of letter lines }
unfolding by_notes notes_of
some-noted verdict letter lines later some =
    ap (λ (b : Bool). cond b (record { verdict = verdict; noted = notes_of letter lines }) later) (lt-ltb 0 (min (count_of letter lines) (2 ^ 64 - 1)) (omega (arith, some)))

none_noted : (verdict : Verdict) (letter : ℕ) (lines : List TextLine) (later : Judged) → count_of letter lines ≡ 0
    → by_notes verdict (notes_of letter lines) later ≡ later
unfolding by_notes notes_of
none_noted verdict letter lines later none =
    ap (λ (b : Bool). cond b (record { verdict = verdict; noted = notes_of letter lines }) later) (le-ltb 0 (min (count_of letter lines) (2 ^ 64 - 1)) (omega (arith, none)))

pub the_first_letter_decides : TheFirstLetterDecides
unfolding worst_line worst without
the_first_letter_decides lines =
    record {
      refused = some-noted Refused 81 lines _;
      actions = λ q x. none_noted Refused 81 lines _ q ∙ some-noted RefusedActions 88 lines _ x;
      cut = λ q x c. none_noted Refused 81 lines _ q ∙ none_noted RefusedActions 88 lines _ x ∙ some-noted Cut 67 lines _ c;
      lost = λ q x c l.
          none_noted Refused 81 lines _ q ∙ none_noted RefusedActions 88 lines _ x ∙ none_noted Cut 67 lines _ c ∙ some-noted LocksLost 76 lines _ l;
      failed = λ q x c l n.
          none_noted Refused 81 lines _ q ∙ none_noted RefusedActions 88 lines _ x ∙ none_noted Cut 67 lines _ c ∙ none_noted LocksLost 76 lines _ l
          ∙ some-noted TakesFailed 78 lines _ n;
      good = λ q x c l n.
          none_noted Refused 81 lines _ q ∙ none_noted RefusedActions 88 lines _ x ∙ none_noted Cut 67 lines _ c ∙ none_noted LocksLost 76 lines _ l
          ∙ none_noted TakesFailed 78 lines _ n;
    }

-- ---- the numbers

-- the verdict is no better than the one before, and that one is no worse than a number
record NoBetter (number : ℕ) (now before : Judged) : Type 0 where
  order : verdict_number now.verdict ≤ verdict_number before.verdict
  least : number ≤ verdict_number before.verdict

-- a letter that some line bears is borne with one line more
still_borne : (letter : ℕ) (l : TextLine) (lines : List TextLine) → 0 < (notes_of letter lines).count → 0 < (notes_of letter (l ∷ lines)).count
unfolding notes_of count_of
still_borne letter l lines some = omega (arith, some)

-- where the later verdict is no better than it was, and was no worse than this one, so it is with this one before it
one_before : {now before : Judged} (letter number : ℕ) (verdict : Verdict) (l : TextLine) (lines : List TextLine) → number ≤ verdict_number verdict
    → NoBetter (verdict_number verdict) now before
    → NoBetter number (by_notes verdict (notes_of letter (l ∷ lines)) now) (by_notes verdict (notes_of letter lines) before)
unfolding by_notes
one_before {now} {before} letter number verdict l lines low later =
    let notes : Noted = notes_of letter (l ∷ lines) in
    let were : Noted = notes_of letter lines in
    by_test (λ (j : Judged). NoBetter number j (cond (ltb 0 were.count) (record { verdict = verdict; noted = were }) before)) (ltb 0 notes.count)
    (λ e. by_test (λ (j : Judged). NoBetter number (record { verdict = verdict; noted = notes }) j) (ltb 0 were.count)
    (λ t. record { order = omega arith; least = low })
    (λ t. record { order = later.least; least = omega (arith, low, later.least) }))
    (λ e. by_test (λ (j : Judged). NoBetter number now j) (ltb 0 were.count)
    (λ t. absurd (omega (arith, still_borne letter l lines (ltb-true 0 were.count t), ltb-false 0 notes.count e)))
    (λ t. record { order = later.order; least = omega (arith, low, later.least) }))

pub a_line_more_is_never_better : ALineMoreIsNeverBetter
unfolding worst_line worst without verdict_number
a_line_more_is_never_better l lines =
    let good : NoBetter 5 (without Good) (without Good) = record { order = omega arith; least = omega arith } in
    let failed = one_before 78 4 TakesFailed l lines (omega arith) good in
    let lost = one_before 76 3 LocksLost l lines (omega arith) failed in
    let cut = one_before 67 2 Cut l lines (omega arith) lost in
    let actions = one_before 88 1 RefusedActions l lines (omega arith) cut in
    (one_before 81 0 Refused l lines (omega arith) actions).order

-- by its number a verdict is found again
verdict_at : ℕ → Verdict
verdict_at number = get_or (Incomplete ∷ Refused ∷ RefusedActions ∷ Cut ∷ LocksLost ∷ TakesFailed ∷ Good ∷ []) number Good

found_again : (verdict : Verdict) → verdict_at (verdict_number verdict) ≡ verdict
unfolding verdict_at verdict_number
found_again Incomplete = refl
found_again Refused = refl
found_again RefusedActions = refl
found_again Cut = refl
found_again LocksLost = refl
found_again TakesFailed = refl
found_again Good = refl

pub each_has_its_number : EachHasItsNumber
each_has_its_number one other e = sym (found_again one) ∙ ap verdict_at e ∙ found_again other
