-- A line as it is gathered: while it is read the gathering only carries the scan, and its newline does what a line of its kind does.
use Prim.Native.Nat.{ℕ, ◌+◌, ◌-◌, ◌^◌, ◌<◌}
use mathlib.Core.Path.{◌≡◌, refl, sym, ap, subst, ◌∙◌}
use mathlib.Core.Bool.{Bool, true, false, cond, true≢false}
use mathlib.Core.List.{List, [], ◌∷◌}
use native.Mathlib.Omega.{arith}
use lib.Dec.{eqb, lit<}
use lib.ListN.{get_or}
use lib.Seq.{get_or-take}
use borrow.Author.Tests.{lt-ltb, eq-eqb}
use Rattle.lists.proofs.Tests.{and_both}
use Rattle.std.specs.Prelude.{Option, Some, None}
use Rattle.linereader.specs.declared.LineKind.{LineKind}
use Rattle.linereader.specs.declared.LineKind.TheVariants.{Deed, Lock, Last, Refusal}
use Rattle.linereader.specs.declared.Part.{Part}
use Rattle.linereader.specs.declared.Part.TheVariants.{Steps, Letter, Space, Numbers, Whole, Wrong}
use Rattle.linereader.specs.declared.Scan.{Scan}
use Rattle.linereader.specs.Reading.{kind_of, is_deed, numbers_behind, start_scan, scan_byte, scan_all}
use Rattle.linereader.specs.Theorems.{IsLine, IsRead}
use Rattle.linereader.proofs.Read.{whole_byte, wrong_stays}
use Rattle.linereader.proofs.Written.{written_is_read}
use Rattle.gather.specs.declared.Fault.TheVariants.{NoLine, DeedBehindLock, LockOutOfOrder, RefusalInside}
use Rattle.gather.specs.declared.Gather.{Gather}
use Rattle.gather.specs.Gathering.{more, faulty, deed_read, lock_read, last_read, refusal_read, first_of, is_next_lock, after_line, inside_line, after_part, lock_rows, last_rows, rows_after_line, rows_after_part, is_fine, after_byte, rows_after_byte, after_all, rows_after_all}
use Rattle.gather.specs.Texts.{TextLine, line_text, OfKind}

-- a count below its top
pub one_more : (n : ℕ) → n < 2 ^ 64 - 1 → more n ≡ n + 1
unfolding more
one_more n h = rw (lt-ltb n (2 ^ 64 - 1) h)

-- ---- one byte

-- a line may still come of it
abbrev pub goes_on : Part → Bool
goes_on Steps = true
goes_on Letter = true
goes_on Space = true
goes_on Numbers = true
goes_on Whole = false
goes_on Wrong = false

-- a scan is not both
pub not_both : {part : Part} → part ≡ Wrong → part ≡ Whole → ⊥
not_both p q = true≢false (cc)

-- what one byte does, by what is read of the line with it
pub data OneByte (s : Scan) (byte : ℕ) (g : Gather) : Type 0 where
  inside : goes_on (scan_byte s byte).part ≡ true → after_byte (inside_line s g) byte ≡ inside_line (scan_byte s byte) g
      → ((rows : List ℕ) → rows_after_byte (inside_line s g) byte rows ≡ rows) → OneByte s byte g
  whole : (scan_byte s byte).part ≡ Whole → after_byte (inside_line s g) byte ≡ after_line (kind_of (scan_byte s byte).letter) (scan_byte s byte) g
      → ((rows : List ℕ) → rows_after_byte (inside_line s g) byte rows ≡ rows_after_line (kind_of (scan_byte s byte).letter) (scan_byte s byte) g rows)
      → OneByte s byte g
  bad : (scan_byte s byte).part ≡ Wrong → after_byte (inside_line s g) byte ≡ faulty NoLine g → OneByte s byte g

-- what a line does asks nothing of the scan before it
line_same : (kind : Option LineKind) (t s : Scan) (g : Gather) → after_line kind t (inside_line s g) ≡ after_line kind t g
unfolding after_line inside_line faulty deed_read lock_read last_read refusal_read
line_same None t s g = refl
line_same (Some Deed) t s g = refl
line_same (Some Lock) t s g = refl
line_same (Some Last) t s g = refl
line_same (Some Refusal) t s g = refl

rows_same : (kind : Option LineKind) (t s : Scan) (g : Gather) (rows : List ℕ) → rows_after_line kind t (inside_line s g) rows ≡ rows_after_line kind t g rows
unfolding rows_after_line inside_line
rows_same None t s g rows = refl
rows_same (Some Deed) t s g rows = refl
rows_same (Some Lock) t s g rows = refl
rows_same (Some Last) t s g rows = refl
rows_same (Some Refusal) t s g rows = refl

pub one_byte : (s : Scan) (byte : ℕ) (g : Gather) → is_fine g.fault ≡ true → OneByte s byte g
unfolding after_byte rows_after_byte after_part rows_after_part inside_line faulty
one_byte s byte g fine = go (scan_byte s byte).part refl
  where
    t : Scan
    t = scan_byte s byte

    stands : (part : Part) → t.part ≡ part → after_byte (inside_line s g) byte ≡ after_part part t (inside_line s g)
    stands part e =
        ap (λ (b : Bool). cond b (after_part t.part t (inside_line s g)) (inside_line s g)) fine ∙ ap (λ (p : Part). after_part p t (inside_line s g)) e

    gathered : (part : Part) → t.part ≡ part → (rows : List ℕ) → rows_after_byte (inside_line s g) byte rows ≡ rows_after_part part t (inside_line s g) rows
    gathered part e rows =
        ap (λ (b : Bool). cond b (rows_after_part t.part t (inside_line s g) rows) rows) fine
        ∙ ap (λ (p : Part). rows_after_part p t (inside_line s g) rows) e

    go : (part : Part) → t.part ≡ part → OneByte s byte g
    go Steps e = inside (ap goes_on e) (stands Steps e) (gathered Steps e)
    go Letter e = inside (ap goes_on e) (stands Letter e) (gathered Letter e)
    go Space e = inside (ap goes_on e) (stands Space e) (gathered Space e)
    go Numbers e = inside (ap goes_on e) (stands Numbers e) (gathered Numbers e)
    go Whole e =
        whole e (stands Whole e ∙ line_same (kind_of t.letter) t s g) (λ rows. gathered Whole e rows ∙ rows_same (kind_of t.letter) t s g rows)
    go Wrong e = bad e (stands Wrong e)

-- ---- a text

-- what a text does
pub record Does (g : Gather) (text : List ℕ) (after : Gather) (rows-after : List ℕ → List ℕ) : Type 0 where
  pub stands : after_all g text ≡ after
  pub gathered : (rows : List ℕ) → rows_after_all g text rows ≡ rows-after rows

-- behind the first fault nothing is read
pub fault_stays : (text : List ℕ) (g : Gather) → is_fine g.fault ≡ false → after_all g text ≡ g
unfolding after_all after_byte
fault_stays [] g f = refl
fault_stays (byte ∷ rest) g f =
    ap (λ (b : Bool). after_all (cond b (after_part (scan_byte g.scan byte).part (scan_byte g.scan byte) g) g) rest) f ∙ fault_stays rest g f

-- a whole scan does what its line does
abbrev pub AsLine : Gather → List ℕ → Scan → Gather → Type 0
AsLine start text w g = Does start text (after_line (kind_of w.letter) w g) (rows_after_line (kind_of w.letter) w g)

-- nothing comes behind a whole line
nothing_behind : (s : Scan) (byte : ℕ) (rest : List ℕ) → s.part ≡ Whole → (scan_all s (byte ∷ rest)).part ≡ Whole → ⊥
unfolding scan_all
nothing_behind s byte rest e w = not_both (wrong_stays (scan_byte s byte) rest (whole_byte s byte e)) w

-- a line from where it is read so far to its end
line_gathered : (text : List ℕ) (s : Scan) (g : Gather) → is_fine g.fault ≡ true → goes_on s.part ≡ true → (scan_all s text).part ≡ Whole
    → AsLine (inside_line s g) text (scan_all s text) g
unfolding after_all rows_after_all scan_all
line_gathered [] s g fine on w = absurd (true≢false (sym on ∙ ap goes_on w))
line_gathered (byte ∷ rest) s g fine on w = go rest w (one_byte s byte g fine) (λ o. line_gathered rest (scan_byte s byte) g fine o w)
  where
    go : (rest : List ℕ) → (scan_all (scan_byte s byte) rest).part ≡ Whole → OneByte s byte g
        → (goes_on (scan_byte s byte).part ≡ true → AsLine (inside_line (scan_byte s byte) g) rest (scan_all (scan_byte s byte) rest) g)
        → AsLine (inside_line s g) (byte ∷ rest) (scan_all (scan_byte s byte) rest) g
    go rest w (inside o e f) next =
        record {
          stands = ap (λ (h : Gather). after_all h rest) e ∙ (next o).stands;
          gathered = λ rows. ap (λ (h : Gather). rows_after_all h rest (rows_after_byte (inside_line s g) byte rows)) e
              ∙ ap (rows_after_all (inside_line (scan_byte s byte) g) rest) (f rows) ∙ (next o).gathered rows;
        }
    go [] w (whole p e f) next = record { stands = e; gathered = f }
    go (more ∷ rest) w (whole p e f) next = absurd (nothing_behind (scan_byte s byte) more rest p w)
    go rest w (bad p e) next = absurd (not_both (wrong_stays (scan_byte s byte) rest p) w)

-- ---- a written line, by its kind

-- at the start of a line, and nothing was wrong so far
pub record AtLine (g : Gather) : Type 0 where
  pub start : g.scan ≡ start_scan
  pub fine : is_fine g.fault ≡ true

pub written-line : (l : TextLine) (g : Gather) → AtLine g → IsLine l.steps l.letter l.numbers
    → AsLine g (line_text l) (scan_all start_scan (line_text l)) g
unfolding inside_line start_scan line_text
written-line l g at is =
    subst (λ (h : Gather). AsLine h (line_text l) (scan_all start_scan (line_text l)) g) (ap (λ (s : Scan). inside_line s g) (sym at.start))
    (line_gathered (line_text l) start_scan g at.fine refl (written_is_read l.steps l.letter l.numbers is).whole)

-- what its scan tells
pub scan_of : (l : TextLine) → IsLine l.steps l.letter l.numbers → IsRead (scan_all start_scan (line_text l)) l.steps l.letter l.numbers
unfolding line_text
scan_of l is = written_is_read l.steps l.letter l.numbers is

pub of_kind_line : (kind : LineKind) (l : TextLine) (g : Gather) → AtLine g → OfKind kind l
    → Does g (line_text l) (after_line (Some kind) (scan_all start_scan (line_text l)) g) (rows_after_line (Some kind) (scan_all start_scan (line_text l)) g)
of_kind_line kind l g at k =
    let w : Scan = scan_all start_scan (line_text l) in
    subst (λ (k : Option LineKind). Does g (line_text l) (after_line k w g) (rows_after_line k w g)) (ap kind_of (scan_of l k.is_line).letter_read ∙ k.of_kind)
    (written-line l g at k.is_line)

pub deed_line : (l : TextLine) (g : Gather) → AtLine g → OfKind Deed l → g.locks ≡ 0 → Does g (line_text l) (deed_read g) (λ rows. rows)
unfolding after_line rows_after_line
deed_line l g at k none =
    let d = of_kind_line Deed l g at k in
    record { stands = d.stands ∙ ap (λ (b : Bool). cond b (deed_read g) (faulty DeedBehindLock g)) (eq-eqb g.locks 0 none); gathered = d.gathered }

-- an H line has four numbers
four_numbers : (letter : ℕ) → kind_of letter ≡ Some Lock → numbers_behind letter ≡ 4
unfolding kind_of numbers_behind
four_numbers letter = go (eqb letter 72) (eqb letter 69) (eqb letter 67) (eqb letter 81) (is_deed letter)
  where
    go : (a b c d e : Bool) → cond a (Some Lock) (cond b (Some Last) (cond c (Some Last) (cond d (Some Refusal) (cond e (Some Deed) None)))) ≡ Some Lock → ◌≡◌ {A = ℕ} (cond a 4 2) 4
    go true b c d e p = refl
    go false true c d e p = cc
    go false false true d e p = cc
    go false false false true e p = cc
    go false false false false true p = cc
    go false false false false false p = cc

-- the scan of an H line has its numbers
pub lock_number : (l : TextLine) → OfKind Lock l → (i : ℕ) → i < 4 → get_or (scan_all start_scan (line_text l)).numbers i 0 ≡ get_or l.numbers i 0
lock_number l k i below =
    let r = scan_of l k.is_line in
    let w : Scan = scan_all start_scan (line_text l) in
    let many : w.count ≡ 4 = r.count_read ∙ k.is_line.many ∙ four_numbers l.letter k.of_kind in
    sym (get_or-take w.count w.numbers i 0 (omega (arith, many, below))) ∙ ap (λ (ns : List ℕ). get_or ns i 0) r.numbers_read

-- a lock's rows by three numbers of its line
lock_rows_same : (ns ms : List ℕ) (run lock : ℕ) (rows : List ℕ) → ((i : ℕ) → i < 4 → get_or ns i 0 ≡ get_or ms i 0)
    → lock_rows ns run lock rows ≡ lock_rows ms run lock rows
unfolding lock_rows
lock_rows_same ns ms run lock rows e = rw (e 1 (lit< tt), e 2 (lit< tt), e 3 (lit< tt))

pub lock-line : (l : TextLine) (g : Gather) → AtLine g → OfKind Lock l → get_or l.numbers 0 0 ≡ g.locks → g.locks < 2 ^ 64 - 1
    → Does g (line_text l) (lock_read g) (lock_rows l.numbers g.runs g.locks)
unfolding after_line rows_after_line is_next_lock first_of
lock-line l g at k e small =
    let d = of_kind_line Lock l g at k in
    let w : Scan = scan_all start_scan (line_text l) in
    let first : get_or w.numbers 0 0 ≡ g.locks = lock_number l k 0 (lit< tt) ∙ e in
    let next : is_next_lock (first_of w) g.locks ≡ true =
    and_both (eq-eqb (get_or w.numbers 0 0) g.locks first) (lt-ltb (get_or w.numbers 0 0) (2 ^ 64 - 1) (omega (arith, first, small))) in
    record {
      stands = d.stands ∙ ap (λ (b : Bool). cond b (lock_read g) (faulty LockOutOfOrder g)) next;
      gathered = λ rows. d.gathered rows ∙ ap (λ (b : Bool). cond b (lock_rows w.numbers g.runs g.locks rows) rows) next
          ∙ lock_rows_same w.numbers l.numbers g.runs g.locks rows (lock_number l k);
    }

pub last_line : (l : TextLine) (g : Gather) → AtLine g → OfKind Last l → Does g (line_text l) (last_read g) (last_rows l.steps g.runs g.locks)
unfolding after_line rows_after_line
last_line l g at k =
    let d = of_kind_line Last l g at k in
    record {
      stands = d.stands;
      gathered = λ rows. d.gathered rows ∙ ap (λ (steps : ℕ). last_rows steps g.runs g.locks rows) (scan_of l k.is_line).steps_read;
    }

pub refusal-line : (l : TextLine) (g : Gather) → AtLine g → OfKind Refusal l → g.inside ≡ false → Does g (line_text l) (refusal_read g) (λ rows. rows)
unfolding after_line rows_after_line
refusal-line l g at k out =
    let d = of_kind_line Refusal l g at k in
    record { stands = d.stands ∙ ap (λ (b : Bool). cond b (faulty RefusalInside g) (refusal_read g)) out; gathered = d.gathered }
