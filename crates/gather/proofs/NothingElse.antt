-- A text that has no fault is the text of runs: from each place on, what is left of it is the rest of the run at hand and the pieces behind it.
use Prim.Native.Nat.{ℕ, ◌+◌, ◌-◌, ◌^◌, ◌<◌}
use mathlib.Core.Path.{◌≡◌, refl, sym, ap, subst, ◌∙◌}
use mathlib.Core.Bool.{Bool, true, false, cond, ◌&&◌, true≢false}
use mathlib.Core.List.{List, [], ◌∷◌, ◌++◌, append_assoc, append-nil}
use native.Mathlib.Omega.{arith}
use lib.Dec.{eqb, ltb, lit<}
use lib.ListN.{get_or}
use borrow.Author.Tests.{eqb-true, ltb-true}
use Rattle.lists.proofs.Laws.{and_left, and_right}
use Rattle.lists.proofs.Tests.{by_test}
use Rattle.std.specs.Prelude.{Option, Some, None}
use Rattle.linereader.specs.declared.LineKind.{LineKind}
use Rattle.linereader.specs.declared.LineKind.TheVariants.{Deed, Lock, Last, Refusal}
use Rattle.linereader.specs.declared.Part.{Part}
use Rattle.linereader.specs.declared.Part.TheVariants.{Steps, Letter, Space, Numbers, Whole, Wrong}
use Rattle.linereader.specs.declared.Scan.{Scan}
use Rattle.linereader.specs.Reading.{kind_of, start_scan, scan_byte, scan_all}
use Rattle.linereader.specs.Theorems.{IsLine}
use Rattle.linereader.proofs.Read.{shown, read_in, After, text-after, read_is_written}
use Rattle.linereader.proofs.Written.{scan_append}
use Rattle.gather.specs.declared.Fault.{Fault}
use Rattle.gather.specs.declared.Fault.TheVariants.{NoLine, DeedBehindLock, LockOutOfOrder, RefusalInside}
use Rattle.gather.specs.declared.Gather.{Gather}
use Rattle.gather.specs.Gathering.{start_gather, more, faulty, deed_read, lock_read, last_read, refusal_read, first_of, is_next_lock, after_line, inside_line, is_fine, is_steps, at_line_start, end_fault, after_byte, after_all, fault_of}
use Rattle.gather.specs.Texts.{TextLine, line_text, lines_text, OfKind, Deeds, LocksFrom, Piece, ran, left_out, Pieces, piece_text, pieces_text}
use Rattle.gather.specs.Theorems.{TextOfRuns, NothingElseIsFine}
use Rattle.gather.proofs.Lines.{OneByte, one_byte, one_more, fault_stays, scan_of, lock_number}

-- what is left of a run that has had so many H lines, and the pieces behind it
record RunRest (had : ℕ) (text : List ℕ) : Type 0 where
  deeds : List TextLine
  locks : List TextLine
  last : TextLine
  behind : List Piece
  deeds_right : Deeds deeds
  no_deeds : 0 < had → deeds ≡ []
  locks_right : LocksFrom had locks
  last_right : OfKind Last last
  behind_right : Pieces behind
  same : text ≡ lines_text deeds ++ (lines_text locks ++ (line_text last ++ pieces_text behind))

-- what is left inside a run, or between runs
abbrev Rest : Bool → ℕ → List ℕ → Type 0
Rest true had text = RunRest had text
Rest false had text = TextOfRuns text

-- ---- one line in front of what is left

deed_front : (l : TextLine) (rest : List ℕ) → OfKind Deed l → RunRest 0 rest → RunRest 0 (line_text l ++ rest)
unfolding lines_text
deed_front l rest k r =
    record {
      deeds = l ∷ r.deeds;
      locks = r.locks;
      last = r.last;
      behind = r.behind;
      deeds_right = Deeds.one_more k r.deeds_right;
      no_deeds = λ h. absurd (omega (arith, h));
      locks_right = r.locks_right;
      last_right = r.last_right;
      behind_right = r.behind_right;
      same = ap (λ (t : List ℕ). line_text l ++ t) r.same
          ∙ sym (append_assoc (line_text l) (lines_text r.deeds) (lines_text r.locks ++ (line_text r.last ++ pieces_text r.behind)));
    }

lock_front : (had : ℕ) (l : TextLine) (rest : List ℕ) → OfKind Lock l → get_or l.numbers 0 0 ≡ had → had < 2 ^ 64 - 1 → RunRest (had + 1) rest
    → RunRest had (line_text l ++ rest)
unfolding lines_text
lock_front had l rest k e small r =
    record {
      deeds = [];
      locks = l ∷ r.locks;
      last = r.last;
      behind = r.behind;
      deeds_right = Deeds.none;
      no_deeds = λ h. refl;
      locks_right = LocksFrom.one_more k e small r.locks_right;
      last_right = r.last_right;
      behind_right = r.behind_right;
      same = ap (λ (t : List ℕ). line_text l ++ t)
          (r.same ∙ ap (λ (ds : List TextLine). lines_text ds ++ (lines_text r.locks ++ (line_text r.last ++ pieces_text r.behind))) (r.no_deeds (omega arith)))
          ∙ sym (append_assoc (line_text l) (lines_text r.locks) (line_text r.last ++ pieces_text r.behind));
    }

last_front : (had : ℕ) (l : TextLine) (rest : List ℕ) → OfKind Last l → TextOfRuns rest → RunRest had (line_text l ++ rest)
unfolding lines_text
last_front had l rest k r =
    record {
      deeds = [];
      locks = [];
      last = l;
      behind = r.pieces;
      deeds_right = Deeds.none;
      no_deeds = λ h. refl;
      locks_right = LocksFrom.none;
      last_right = k;
      behind_right = r.right;
      same = ap (λ (t : List ℕ). line_text l ++ t) r.same;
    }

refusal_front : (l : TextLine) (rest : List ℕ) → OfKind Refusal l → TextOfRuns rest → TextOfRuns (line_text l ++ rest)
unfolding pieces_text piece_text
refusal_front l rest k r =
    record { pieces = left_out l ∷ r.pieces; right = Pieces.one_refused k r.right; same = ap (λ (t : List ℕ). line_text l ++ t) r.same }

-- where a run begins, what is left of it is a run
run_front : (text : List ℕ) → RunRest 0 text → TextOfRuns text
unfolding pieces_text piece_text
run_front text r =
    record {
      pieces = ran (record { deeds = r.deeds; locks = r.locks; last = r.last }) ∷ r.behind;
      right = Pieces.one_run (record { deeds_right = r.deeds_right; locks_right = r.locks_right; last_right = r.last_right }) r.behind_right;
      same = r.same ∙ simp append_assoc;
    }

begun : (inside : Bool) (had : ℕ) (text : List ℕ) → (inside ≡ false → had ≡ 0) → RunRest had text → Rest inside had text
begun true had text none r = r
begun false had text none r = run_front text (subst (λ (n : ℕ). RunRest n text) (none refl) r)

-- ---- a whole line

-- a text with a fault in it is not fine at its end
not_fine : (fault : Fault) (g : Gather) (rest : List ℕ) → fault_of (after_all (faulty fault g) rest) ≡ None → ⊥
unfolding faulty fault_of is_fine
not_fine fault g rest e =
    let found : Some fault ≡ None = ap fault_of (sym (fault_stays rest (faulty fault g) refl)) ∙ e in
    true≢false (cc)

line_found : (kind : Option LineKind) (l : TextLine) (g : Gather) (rest : List ℕ) → is_fine g.fault ≡ true → (g.inside ≡ false → g.locks ≡ 0)
    → IsLine l.steps l.letter l.numbers → kind_of l.letter ≡ kind
    → ((h : Gather) → is_fine h.fault ≡ true → (h.inside ≡ false → h.locks ≡ 0) → fault_of (after_all (inside_line start_scan h) rest) ≡ None
    → Rest h.inside h.locks rest)
    → fault_of (after_all (after_line kind (scan_all start_scan (line_text l)) g) rest) ≡ None → Rest g.inside g.locks (line_text l ++ rest)
unfolding after_line deed_read lock_read last_read refusal_read inside_line is_next_lock first_of is_fine
line_found None l g rest fine none is k next = λ e. absurd (not_fine NoLine g rest e)
line_found (Some Deed) l g rest fine none is k next =
    by_test (λ (h : Gather). fault_of (after_all h rest) ≡ None → Rest g.inside g.locks (line_text l ++ rest)) (eqb g.locks 0)
    (λ t e.
    let z : g.locks ≡ 0 = eqb-true g.locks 0 t in
    let on : RunRest g.locks rest = next (deed_read g) fine (λ f. absurd (true≢false f)) e in
    begun g.inside g.locks (line_text l ++ rest) none
    (subst (λ (n : ℕ). RunRest n (line_text l ++ rest)) (sym z) (deed_front l rest (record { is_line = is; of_kind = k }) (subst (λ (n : ℕ). RunRest n rest) z on))))
    (λ t e. absurd (not_fine DeedBehindLock g rest e))
line_found (Some Lock) l g rest fine none is k next =
    let of : OfKind Lock l = record { is_line = is; of_kind = k } in
    let first : ℕ = get_or (scan_all start_scan (line_text l)).numbers 0 0 in
    by_test (λ (h : Gather). fault_of (after_all h rest) ≡ None → Rest g.inside g.locks (line_text l ++ rest)) (eqb first g.locks && ltb first (2 ^ 64 - 1))
    (λ t e.
    let z : first ≡ g.locks = eqb-true first g.locks (and_left (eqb first g.locks) (ltb first (2 ^ 64 - 1)) t) in
    let low : first < 2 ^ 64 - 1 = ltb-true first (2 ^ 64 - 1) (and_right (eqb first g.locks) (ltb first (2 ^ 64 - 1)) t) in
    let small : g.locks < 2 ^ 64 - 1 = omega (arith, z, low) in
    let on : RunRest (more g.locks) rest = next (lock_read g) fine (λ f. absurd (true≢false f)) e in
    begun g.inside g.locks (line_text l ++ rest) none
    (lock_front g.locks l rest of (sym (lock_number l of 0 (lit< tt)) ∙ z) small (subst (λ (n : ℕ). RunRest n rest) (one_more g.locks small) on)))
    (λ t e. absurd (not_fine LockOutOfOrder g rest e))
line_found (Some Last) l g rest fine none is k next = λ e.
    begun g.inside g.locks (line_text l ++ rest) none (last_front g.locks l rest (record { is_line = is; of_kind = k }) (next (last_read g) fine (λ f. refl) e))
line_found (Some Refusal) l g rest fine none is k next =
    by_test (λ (h : Gather). fault_of (after_all h rest) ≡ None → Rest g.inside g.locks (line_text l ++ rest)) g.inside
    (λ t e. absurd (not_fine RefusalInside g rest e))
    (λ t e.
    let on : Rest g.inside g.locks rest = next (refusal_read g) fine none e in
    subst (λ (b : Bool). Rest b g.locks (line_text l ++ rest)) (sym t)
    (refusal_front l rest (record { is_line = is; of_kind = k }) (subst (λ (b : Bool). Rest b g.locks rest) t on)))

-- ---- the text, byte by byte

-- at the end there is nothing of a line, and no run is open
nothing_read : (part : Part) (some : Bool) (s : Scan) → s.part ≡ part → s.begun ≡ some → at_line_start part some ≡ true → read_in part s ≡ []
unfolding at_line_start is_steps
nothing_read Steps true s p b e = absurd (true≢false (sym e))
nothing_read Steps false s p b e = ap (λ (c : Bool). shown c s.number) b
nothing_read Letter some s p b e = absurd (true≢false (sym e))
nothing_read Space some s p b e = absurd (true≢false (sym e))
nothing_read Numbers some s p b e = absurd (true≢false (sym e))
nothing_read Whole some s p b e = absurd (true≢false (sym e))
nothing_read Wrong some s p b e = absurd (true≢false (sym e))

all_read : (s : Scan) (read : List ℕ) → After read s → at_line_start s.part s.begun ≡ true → read ≡ []
unfolding at_line_start is_steps
all_read s read (After.no e) start = absurd (true≢false (sym start ∙ ap (λ (p : Part). at_line_start p s.begun) e))
all_read s read (After.on part p h e) start =
    sym e ∙ nothing_read part s.begun s p refl (ap (λ (q : Part). at_line_start q s.begun) (sym p) ∙ start)

-- a fine end: at the start of a line, outside a run
ends : (start inside : Bool) → end_fault start inside ≡ None → (start ≡ true) × (inside ≡ false)
unfolding end_fault
ends true true e = cc
ends true false e = (refl, refl)
ends false inside e = cc

at_end_lem : (read : List ℕ) (g : Gather) → is_fine g.fault ≡ true → fault_of (inside_line (scan_all start_scan read) g) ≡ None → Rest g.inside g.locks (read ++ [])
unfolding fault_of inside_line pieces_text
at_end_lem read g fine e =
    let s : Scan = scan_all start_scan read in
    let both = ends (at_line_start s.part s.begun) g.inside
    (sym (ap (λ (b : Bool). cond b (end_fault (at_line_start s.part s.begun) g.inside) g.fault) fine) ∙ e) in
    subst (λ (b : Bool). Rest b g.locks (read ++ [])) (sym both.1)
    (record { pieces = []; right = Pieces.none; same = append-nil read ∙ all_read s read (text-after read) both.0 })

rest_found : (text read : List ℕ) (g : Gather) → is_fine g.fault ≡ true → (g.inside ≡ false → g.locks ≡ 0)
    → fault_of (after_all (inside_line (scan_all start_scan read) g) text) ≡ None → Rest g.inside g.locks (read ++ text)
unfolding after_all scan_all line_text is_fine
rest_found [] read g fine none e = at_end_lem read g fine e
rest_found (byte ∷ rest) read g fine none e =
    go (one_byte (scan_all start_scan read) byte g fine)
    (rest_found rest (read ++ (byte ∷ [])) g fine none)
    (λ h. rest_found rest [] h)
  where
    s : Scan
    s = scan_all start_scan read

    one : scan_all start_scan (read ++ (byte ∷ [])) ≡ scan_byte s byte
    one = scan_append start_scan read (byte ∷ [])

    go : OneByte s byte g → (fault_of (after_all (inside_line (scan_all start_scan (read ++ (byte ∷ []))) g) rest) ≡ None → Rest g.inside g.locks ((read ++ (byte ∷ [])) ++ rest))
        → ((h : Gather) → is_fine h.fault ≡ true → (h.inside ≡ false → h.locks ≡ 0) → fault_of (after_all (inside_line (scan_all start_scan []) h) rest) ≡ None
        → Rest h.inside h.locks rest)
        → Rest g.inside g.locks (read ++ (byte ∷ rest))
    go (OneByte.inside o b f) on next =
        let fine_on : fault_of (after_all (inside_line (scan_all start_scan (read ++ (byte ∷ []))) g) rest) ≡ None =
        ap (λ (t : Scan). fault_of (after_all (inside_line t g) rest)) one ∙ ap (λ (h : Gather). fault_of (after_all h rest)) (sym b) ∙ e in
        subst (Rest g.inside g.locks) (append_assoc read (byte ∷ []) rest) (on fine_on)
    go (OneByte.whole p b f) on next =
        let found = read_is_written (read ++ (byte ∷ [])) (ap (λ (t : Scan). t.part) one ∙ p) in
        let l : TextLine = record { steps = found.steps; letter = found.letter; numbers = found.numbers } in
        let same : read ++ (byte ∷ []) ≡ line_text l = found.same in
        let w : Scan = scan_all start_scan (line_text l) in
        let scan_same : scan_byte s byte ≡ w = sym one ∙ ap (scan_all start_scan) same in
        let after : after_all (after_byte (inside_line s g) byte) rest ≡ after_all (after_line (kind_of l.letter) w g) rest =
        ap (λ (h : Gather). after_all h rest)
        (b ∙ ap (λ (t : Scan). after_line (kind_of t.letter) t g) scan_same ∙ ap (λ (n : ℕ). after_line (kind_of n) w g) (scan_of l found.is_line).letter_read) in
        subst (Rest g.inside g.locks) (ap (λ (t : List ℕ). t ++ rest) (sym same) ∙ append_assoc read (byte ∷ []) rest)
        (line_found (kind_of l.letter) l g rest fine none found.is_line refl next (ap fault_of (sym after) ∙ e))
    go (OneByte.bad p b) on next = absurd (not_fine NoLine g rest (ap (λ (h : Gather). fault_of (after_all h rest)) (sym b) ∙ e))

pub nothing_else_is_fine : NothingElseIsFine
unfolding start_gather inside_line scan_all is_fine
nothing_else_is_fine text e = rest_found text [] start_gather refl (λ f. refl) e
