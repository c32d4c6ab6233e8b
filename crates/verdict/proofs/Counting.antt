-- The notes of lines, counted: as many as bear the letter, and the first of them; a run has one H line for each of its locks. And that runs and refused
-- ones are counted up only, so that a text with one of them in all is the text of one piece.
use Prim.Native.Nat.{ℕ, ◌+◌, ◌-◌, ◌*◌, ◌^◌, ◌≤◌, min}
use mathlib.Core.Path.{◌≡◌, refl, sym, ap, ap₂, ◌∙◌}
use mathlib.Core.Bool.{Bool, true, false, cond}
use mathlib.Core.List.{List, [], ◌∷◌, ◌++◌, append_assoc}
use native.Mathlib.Omega.{arith}
use lib.Dec.{eqb, ltb, lit≤}
use lib.ListN.{length, get_or, replicate, length-replicate}
use borrow.Author.Tests.{ne_eqb, ltb-true, ltb-false}
use Rattle.lists.proofs.Tests.{by_test, by_value}
use Rattle.std.specs.Prelude.{Option, Some, None}
use Rattle.linereader.specs.declared.LineKind.{LineKind}
use Rattle.linereader.specs.declared.LineKind.TheVariants.{Deed, Lock, Last, Refusal}
use Rattle.linereader.specs.declared.Part.{Part}
use Rattle.linereader.specs.declared.Part.TheVariants.{Steps, Letter, Space, Numbers, Whole, Wrong}
use Rattle.linereader.specs.declared.Scan.{Scan}
use Rattle.linereader.specs.Reading.{kind_of, is_deed, scan_byte}
use Rattle.gather.specs.declared.Gather.{Gather}
use Rattle.gather.specs.Gathering.{start_gather, more, faulty, deed_read, lock_read, one_run_more, last_read, refusal_read, first_of, is_next_lock, after_line, inside_line, after_part, is_fine, after_byte, after_all}
use Rattle.gather.specs.Texts.{TextLine, OfKind, Deeds, LocksFrom, RunLines, IsRun, Piece, ran, left_out, Pieces, piece_text, pieces_text, runs_in, refused_in}
use Rattle.gather.specs.Theorems.{GatheredFrom}
use Rattle.gather.proofs.Pieces.{pieces}
use Rattle.gather.proofs.Gathered.{runs_are_gathered}
use Rattle.verdict.specs.declared.Noted.{Noted}
use Rattle.verdict.specs.Verdicts.{no_notes, one_more_note}
use Rattle.verdict.specs.Lines.{count_of, first_of as first_with, notes_of, lines_in}
use Rattle.verdict.proofs.Watching.{as_first, noted_line, noted_lines}

-- ---- the notes of a letter

more_most : (n : ℕ) → n ≤ 2 ^ 64 - 1 → more n ≡ min (n + 1) (2 ^ 64 - 1)
unfolding more
more_most n most =
    by_test (λ (m : ℕ). m ≡ min (n + 1) (2 ^ 64 - 1)) (ltb n (2 ^ 64 - 1))
    (λ e. omega (arith, ltb-true n (2 ^ 64 - 1) e))
    (λ e. omega (arith, ltb-false n (2 ^ 64 - 1) e, most))

-- notes with another count
abbrev counted : ℕ → Noted → Noted
counted n notes = record { count = n; steps = notes.steps; first = notes.first; second = notes.second }

-- behind the first line only the count changes
notes_more : (letter : ℕ) (lines : List TextLine) (notes : Noted) → 1 ≤ notes.count → notes.count ≤ 2 ^ 64 - 1
    → noted_lines letter lines notes ≡ counted (min (notes.count + count_of letter lines) (2 ^ 64 - 1)) notes
unfolding noted_lines noted_line count_of one_more_note
notes_more letter [] notes some most =
    let same : notes.count ≡ min (notes.count + 0) (2 ^ 64 - 1) = omega (arith, most) in
    ap (λ (n : ℕ). counted n notes) same
notes_more letter (l ∷ rest) notes some most =
    go (notes_more letter rest notes some most)
    (notes_more letter rest (one_more_note notes) (omega (arith, more_most notes.count most)) (omega (arith, more_most notes.count most)))
  where
    n : ℕ
    n = notes.count

    others : ℕ
    others = count_of letter rest

    go : noted_lines letter rest notes ≡ counted (min (n + others) (2 ^ 64 - 1)) notes
        → noted_lines letter rest (one_more_note notes) ≡ counted (min (more n + others) (2 ^ 64 - 1)) notes
        → noted_lines letter rest (cond (eqb l.letter letter) (cond (eqb n 0) (as_first l) (one_more_note notes)) notes)
        ≡ counted (min (n + (cond (eqb l.letter letter) 1 0 + others)) (2 ^ 64 - 1)) notes
    go same-on more-on =
        let here : min (more n + others) (2 ^ 64 - 1) ≡ min (n + (1 + others)) (2 ^ 64 - 1) = omega (arith, more_most n most) in
        let not_here : min (n + others) (2 ^ 64 - 1) ≡ min (n + (0 + others)) (2 ^ 64 - 1) = omega arith in
        by_value
        (λ (b : Bool). noted_lines letter rest (cond b (cond (eqb n 0) (as_first l) (one_more_note notes)) notes) ≡ counted (min (n + (cond b 1 0 + others)) (2 ^ 64 - 1)) notes)
        (eqb l.letter letter)
        (λ e. ap (λ (b : Bool). noted_lines letter rest (cond b (as_first l) (one_more_note notes))) (ne_eqb n 0 (λ z. omega (arith, some, z)))
        ∙ more-on ∙ ap (λ (m : ℕ). counted m notes) here)
        (λ e. same-on ∙ ap (λ (m : ℕ). counted m notes) not_here)

-- from none on: the lines with the letter, and the first of them
pub notes_of_lem : (letter : ℕ) (lines : List TextLine) → noted_lines letter lines no_notes ≡ notes_of letter lines
unfolding noted_lines noted_line no_notes one_more_note notes_of count_of first_with
notes_of_lem letter [] = refl
notes_of_lem letter (l ∷ rest) =
    let others : ℕ = count_of letter rest in
    let after : Bool → TextLine = λ b. cond b l (first_with letter rest) in
    let none : min others (2 ^ 64 - 1) ≡ min (0 + others) (2 ^ 64 - 1) = omega arith in
    by_value
    (λ (b : Bool). noted_lines letter rest (cond b (as_first l) no_notes)
    ≡ record {
      count = min (cond b 1 0 + others) (2 ^ 64 - 1);
      steps = (after b).steps;
      first = get_or (after b).numbers 0 0;
      second = get_or (after b).numbers 1 0;
    })
    (eqb l.letter letter)
    (λ e. notes_more letter rest (as_first l) (lit≤ tt) (lit≤ tt))
    (λ e. notes_of_lem letter rest ∙ ap (λ (n : ℕ). counted n (notes_of letter rest)) none)

-- ---- H lines

abbrev is_lock : Option LineKind → Bool
is_lock None = false
is_lock (Some Deed) = false
is_lock (Some Lock) = true
is_lock (Some Last) = false
is_lock (Some Refusal) = false

lock_letter : (letter : ℕ) → eqb letter 72 ≡ is_lock (kind_of letter)
unfolding kind_of
lock_letter letter = go (eqb letter 72) (eqb letter 69) (eqb letter 67) (eqb letter 81) (is_deed letter)
  where
    go : (a b c d e : Bool) → a ≡ is_lock (cond a (Some Lock) (cond b (Some Last) (cond c (Some Last) (cond d (Some Refusal) (cond e (Some Deed) None)))))
    go true b c d e = refl
    go false true c d e = refl
    go false false true d e = refl
    go false false false true e = refl
    go false false false false true = refl
    go false false false false false = refl

of_kind_lock : {kind : LineKind} {l : TextLine} → OfKind kind l → eqb l.letter 72 ≡ is_lock (Some kind)
of_kind_lock {l = l} k = lock_letter l.letter ∙ ap is_lock k.of_kind

count_append : (letter : ℕ) (one other : List TextLine) → count_of letter (one ++ other) ≡ count_of letter one + count_of letter other
unfolding count_of
count_append letter [] other = omega arith
count_append letter (l ∷ rest) other = omega (arith, count_append letter rest other)

deeds_none : {deeds : List TextLine} → Deeds deeds → count_of 72 deeds ≡ 0
unfolding count_of
deeds_none Deeds.none = refl
deeds_none (Deeds.one_more k rest) = ap₂ (λ (b : Bool) (n : ℕ). cond b 1 0 + n) (of_kind_lock k) (deeds_none rest)

locks_all : {from : ℕ} {locks : List TextLine} → LocksFrom from locks → count_of 72 locks ≡ length locks
unfolding count_of
locks_all LocksFrom.none = refl
locks_all (LocksFrom.one_more k e small rest) = ap₂ (λ (b : Bool) (n : ℕ). cond b 1 0 + n) (of_kind_lock k) (locks_all rest) ∙ omega arith

-- a run has as many H lines as locks
pub run_locks : (run : RunLines) → IsRun run → count_of 72 (lines_in (ran run)) ≡ length run.locks
unfolding lines_in count_of
run_locks run is =
    let last : cond (eqb run.last.letter 72) 1 0 + 0 ≡ 0 = ap (λ (b : Bool). cond b 1 0 + 0) (of_kind_lock is.last_right) in
    omega (
      arith,
      count_append 72 run.deeds (run.locks ++ (run.last ∷ [])),
      count_append 72 run.locks (run.last ∷ []),
      deeds_none is.deeds_right,
      locks_all is.locks_right,
      last,
    )

-- ---- runs and refused ones together

abbrev pub in_all : Gather → ℕ
in_all g = g.runs + g.refused

run_more : (runs : ℕ) → runs ≤ one_run_more runs
unfolding one_run_more
run_more runs = by_test (λ (n : ℕ). runs ≤ n) (ltb runs 401) (λ e. omega arith) (λ e. omega arith)

refused-more : (refused : ℕ) → refused ≤ more refused
unfolding more
refused-more refused = by_test (λ (n : ℕ). refused ≤ n) (ltb refused (2 ^ 64 - 1)) (λ e. omega arith) (λ e. omega arith)

line-keeps : (kind : Option LineKind) (scan : Scan) (g : Gather) → in_all g ≤ in_all (after_line kind scan g)
unfolding after_line faulty deed_read lock_read last_read refusal_read
line-keeps None scan g = omega arith
line-keeps (Some Deed) scan g = by_test (λ (h : Gather). in_all g ≤ in_all h) (eqb g.locks 0) (λ e. omega arith) (λ e. omega arith)
line-keeps (Some Lock) scan g = by_test (λ (h : Gather). in_all g ≤ in_all h) (is_next_lock (first_of scan) g.locks) (λ e. omega arith) (λ e. omega arith)
line-keeps (Some Last) scan g = omega (arith, run_more g.runs)
line-keeps (Some Refusal) scan g = by_test (λ (h : Gather). in_all g ≤ in_all h) g.inside (λ e. omega arith) (λ e. omega (arith, refused-more g.refused))

part_keeps : (part : Part) (scan : Scan) (g : Gather) → in_all g ≤ in_all (after_part part scan g)
unfolding after_part inside_line faulty
part_keeps Steps scan g = omega arith
part_keeps Letter scan g = omega arith
part_keeps Space scan g = omega arith
part_keeps Numbers scan g = omega arith
part_keeps Whole scan g = line-keeps (kind_of scan.letter) scan g
part_keeps Wrong scan g = omega arith

byte_keeps : (g : Gather) (byte : ℕ) → in_all g ≤ in_all (after_byte g byte)
unfolding after_byte
byte_keeps g byte =
    by_test (λ (h : Gather). in_all g ≤ in_all h) (is_fine g.fault)
    (λ e. part_keeps (scan_byte g.scan byte).part (scan_byte g.scan byte) g)
    (λ e. omega arith)

-- they are counted up only
text-keeps : (text : List ℕ) (g : Gather) → in_all g ≤ in_all (after_all g text)
unfolding after_all
text-keeps [] g = omega arith
text-keeps (byte ∷ rest) g = omega (arith, byte_keeps g byte, text-keeps rest (after_byte g byte))

-- ---- pieces

-- rows that are as many as gather wants; what they say is not asked
pub some_rows : List ℕ
some_rows = replicate (401 * 194) 0

rows_many : length some_rows ≡ 401 * 194
unfolding some_rows
rows_many = length-replicate {A = ℕ} (401 * 194) 0

pub gathered : {ps : List Piece} → Pieces ps → GatheredFrom ps some_rows
gathered {ps} right = runs_are_gathered ps some_rows right rows_many

pieces_counted : (ps : List Piece) → length (runs_in ps) + refused_in ps ≡ length ps
unfolding runs_in refused_in
pieces_counted [] = refl
pieces_counted (ran run ∷ rest) = omega (arith, pieces_counted rest)
pieces_counted (left_out l ∷ rest) = omega (arith, pieces_counted rest)

-- at most two pieces are counted one by one
few_counted : (ps : List Piece) → Pieces ps → length ps ≤ 2 → in_all (after_all start_gather (pieces_text ps)) ≡ length ps
few_counted ps right few =
    let told = gathered right in
    omega (arith, few, pieces_counted ps, told.runs, told.refused (omega (arith, few, pieces_counted ps)))

-- the first pieces of more
first_pieces : (ps rest : List Piece) → Pieces (ps ++ rest) → Pieces ps
first_pieces [] rest right = Pieces.none
first_pieces (ran run ∷ ps) rest (Pieces.one_run is right) = Pieces.one_run is (first_pieces ps rest right)
first_pieces (left_out l ∷ ps) rest (Pieces.one_refused k right) = Pieces.one_refused k (first_pieces ps rest right)

pieces_append : (ps rest : List Piece) → pieces_text (ps ++ rest) ≡ pieces_text ps ++ pieces_text rest
unfolding pieces_text
pieces_append [] rest = refl
pieces_append (p ∷ ps) rest = ap (λ (t : List ℕ). piece_text p ++ t) (pieces_append ps rest) ∙ sym (append_assoc (piece_text p) (pieces_text ps) (pieces_text rest))

pub record IsOne (ps : List Piece) : Type 0 where
  pub piece : Piece
  pub same : ps ≡ piece ∷ []

-- where one was counted in all, there was one piece
pub one_piece : (ps : List Piece) → Pieces ps → in_all (after_all start_gather (pieces_text ps)) ≡ 1 → IsOne ps
one_piece [] right e = absurd (omega (arith, few_counted [] right (lit≤ tt), e))
one_piece (p ∷ []) right e = record { piece = p; same = refl }
one_piece (p ∷ q ∷ rest) right e =
    let two : List ℕ = pieces_text (p ∷ q ∷ []) in
    let parts : after_all start_gather (pieces_text (p ∷ q ∷ rest)) ≡ after_all (after_all start_gather two) (pieces_text rest) =
    ap (after_all start_gather) (pieces_append (p ∷ q ∷ []) rest) ∙ (pieces start_gather two (pieces_text rest) []).stands in
    absurd (omega (
      arith,
      few_counted (p ∷ q ∷ []) (first_pieces (p ∷ q ∷ []) rest right) (lit≤ tt),
      text-keeps (pieces_text rest) (after_all start_gather two),
      ap in_all parts,
      e,
    ))
