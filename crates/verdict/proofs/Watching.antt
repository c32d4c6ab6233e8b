-- What is watched of a text: the reading stands as gather says, inside a line the notes stay, and each whole line is noted by its letter. So the lines
-- of a text without a fault are noted one after the other.
use Prim.Native.Nat.{ℕ, ◌≤◌, ◌<◌}
use mathlib.Core.Path.{◌≡◌, refl, sym, ap, ap₂, subst, ◌∙◌}
use mathlib.Core.Bool.{Bool, true, cond, true≢false}
use mathlib.Core.List.{List, [], ◌∷◌, ◌++◌}
use native.Mathlib.Omega.{arith}
use lib.Dec.{eqb, lit<, lit≤}
use lib.ListN.{get_or}
use lib.Seq.{get_or-take}
use Rattle.lists.proofs.Tests.{by_test, by_value}
use Rattle.std.specs.Prelude.{Option, Some, None}
use Rattle.linereader.specs.declared.LineKind.{LineKind}
use Rattle.linereader.specs.declared.LineKind.TheVariants.{Deed, Lock, Last, Refusal}
use Rattle.linereader.specs.declared.Part.{Part}
use Rattle.linereader.specs.declared.Part.TheVariants.{Steps, Letter, Space, Numbers, Whole, Wrong}
use Rattle.linereader.specs.declared.Scan.{Scan}
use Rattle.linereader.specs.Reading.{kind_of, numbers_behind, start_scan, scan_byte, scan_all}
use Rattle.linereader.specs.Theorems.{IsLine}
use Rattle.linereader.proofs.Read.{whole_byte, wrong_stays}
use Rattle.gather.specs.declared.Gather.{Gather}
use Rattle.gather.specs.Gathering.{faulty, deed_read, lock_read, last_read, refusal_read, first_of, is_next_lock, after_line, inside_line as reading_on, after_part, is_fine, after_byte, after_all}
use Rattle.gather.specs.Texts.{TextLine, line_text, lines_text}
use Rattle.gather.proofs.Pieces.{pieces}
use Rattle.gather.proofs.Lines.{goes_on, not_both, OneByte, one_byte, fault_stays, AtLine, scan_of, written-line}
use Rattle.verdict.specs.declared.Noted.{Noted}
use Rattle.verdict.specs.declared.Watch.{Watch}
use Rattle.verdict.specs.Verdicts.{first_noted, one_more_note, noted, noted_if, inside_line, line_watched, is_whole_line, watch_part, watch_byte, watch_all}

-- ---- the reading stands as gather says

part_gather : (part : Part) (scan : Scan) (w : Watch) → (watch_part part scan w).gather ≡ after_part part scan w.gather
unfolding watch_part line_watched inside_line
part_gather part scan w = by_test (λ (v : Watch). v.gather ≡ after_part part scan w.gather) (is_whole_line part) (λ e. refl) (λ e. refl)

byte_gather : (w : Watch) (byte : ℕ) → (watch_byte w byte).gather ≡ after_byte w.gather byte
unfolding watch_byte after_byte
byte_gather w byte =
    let t : Scan = scan_byte w.gather.scan byte in
    by_value (λ (b : Bool). (cond b (watch_part t.part t w) w).gather ≡ cond b (after_part t.part t w.gather) w.gather) (is_fine w.gather.fault)
    (λ e. part_gather t.part t w)
    (λ e. refl)

pub same_gather : (text : List ℕ) (w : Watch) → (watch_all w text).gather ≡ after_all w.gather text
unfolding watch_all after_all
same_gather [] w = refl
same_gather (byte ∷ rest) w = same_gather rest (watch_byte w byte) ∙ ap (λ (g : Gather). after_all g rest) (byte_gather w byte)

watch-append : (text rest : List ℕ) (w : Watch) → watch_all w (text ++ rest) ≡ watch_all (watch_all w text) rest
unfolding watch_all
watch-append [] rest w = refl
watch-append (byte ∷ text) rest w = watch-append text rest (watch_byte w byte)

-- ---- one byte

byte-at : (w : Watch) (byte : ℕ) (part : Part) → is_fine w.gather.fault ≡ true → (scan_byte w.gather.scan byte).part ≡ part
    → watch_byte w byte ≡ watch_part part (scan_byte w.gather.scan byte) w
unfolding watch_byte
byte-at w byte part fine e =
    let t : Scan = scan_byte w.gather.scan byte in
    ap (λ (b : Bool). cond b (watch_part t.part t w) w) fine ∙ ap (λ (p : Part). watch_part p t w) e

-- inside a line
part_inside : (part : Part) (t : Scan) (w : Watch) → goes_on part ≡ true → watch_part part t w ≡ inside_line (reading_on t w.gather) w
unfolding watch_part is_whole_line after_part
part_inside Steps t w on = refl
part_inside Letter t w on = refl
part_inside Space t w on = refl
part_inside Numbers t w on = refl
part_inside Whole t w on = absurd (true≢false (sym on))
part_inside Wrong t w on = absurd (true≢false (sym on))

-- at its end
part_whole : (t : Scan) (w : Watch) → watch_part Whole t w ≡ line_watched t (after_part Whole t w.gather) w
unfolding watch_part is_whole_line
part_whole t w = refl

-- ---- a line

-- a text is noted as the line that the scan from here has at its end
abbrev NotedAs : Watch → List ℕ → Type 0
NotedAs w text = watch_all w text ≡ line_watched (scan_all w.gather.scan text) (watch_all w text).gather w

-- a line from where it is read so far to its end
line-noted : (text : List ℕ) (w : Watch) → is_fine w.gather.fault ≡ true → goes_on w.gather.scan.part ≡ true
    → (scan_all w.gather.scan text).part ≡ Whole → NotedAs w text
unfolding watch_all scan_all inside_line reading_on line_watched
line-noted [] w fine on whole = absurd (true≢false (sym on ∙ ap goes_on whole))
line-noted (byte ∷ rest) w fine on whole =
    go rest whole (one_byte w.gather.scan byte w.gather fine)
    (λ o. line-noted rest (inside_line (reading_on (scan_byte w.gather.scan byte) w.gather) w) fine o whole)
  where
    t : Scan
    t = scan_byte w.gather.scan byte

    go : (rest : List ℕ) → (scan_all t rest).part ≡ Whole → OneByte w.gather.scan byte w.gather
        → (goes_on t.part ≡ true → NotedAs (inside_line (reading_on t w.gather) w) rest)
        → watch_all (watch_byte w byte) rest ≡ line_watched (scan_all t rest) (watch_all (watch_byte w byte) rest).gather w
    go rest whole (OneByte.inside o e f) next =
        subst (λ (v : Watch). watch_all v rest ≡ line_watched (scan_all t rest) (watch_all v rest).gather w)
        (sym (byte-at w byte t.part fine refl ∙ part_inside t.part t w o))
        (next o)
    go [] whole (OneByte.whole p e f) next =
        subst (λ (v : Watch). v ≡ line_watched t v.gather w) (sym (byte-at w byte Whole fine p ∙ part_whole t w)) refl
    go (other ∷ rest) whole (OneByte.whole p e f) next = absurd (not_both (wrong_stays (scan_byte t other) rest (whole_byte t other p)) whole)
    go rest whole (OneByte.bad p e) next = absurd (not_both (wrong_stays t rest p) whole)

-- a written line
line-watched : (l : TextLine) (w : Watch) → AtLine w.gather → IsLine l.steps l.letter l.numbers
    → watch_all w (line_text l) ≡ line_watched (scan_all start_scan (line_text l)) (after_all w.gather (line_text l)) w
unfolding start_scan
line-watched l w at is =
    let text : List ℕ = line_text l in
    let from : scan_all w.gather.scan text ≡ scan_all start_scan text = ap (λ (s : Scan). scan_all s text) at.start in
    line-noted text w at.fine (ap (λ (s : Scan). goes_on s.part) at.start) (ap (λ (s : Scan). s.part) from ∙ (scan_of l is).whole)
    ∙ ap₂ (λ (s : Scan) (g : Gather). line_watched s g w) from (same_gather text w)

-- behind it a line starts
starts_again : (kind : Option LineKind) (scan : Scan) (g : Gather) → (after_line kind scan g).scan ≡ start_scan
unfolding after_line faulty deed_read lock_read last_read refusal_read
starts_again None scan g = refl
starts_again (Some Deed) scan g = by_test (λ (h : Gather). h.scan ≡ start_scan) (eqb g.locks 0) (λ e. refl) (λ e. refl)
starts_again (Some Lock) scan g = by_test (λ (h : Gather). h.scan ≡ start_scan) (is_next_lock (first_of scan) g.locks) (λ e. refl) (λ e. refl)
starts_again (Some Last) scan g = refl
starts_again (Some Refusal) scan g = by_test (λ (h : Gather). h.scan ≡ start_scan) g.inside (λ e. refl) (λ e. refl)

line_behind : (l : TextLine) (g : Gather) → AtLine g → IsLine l.steps l.letter l.numbers → (after_all g (line_text l)).scan ≡ start_scan
line_behind l g at is =
    let w : Scan = scan_all start_scan (line_text l) in
    ap (λ (h : Gather). h.scan) (written-line l g at is).stands ∙ starts_again (kind_of w.letter) w g

-- what is fine at its end was fine on the way
fine_before : (g : Gather) (rest : List ℕ) → is_fine (after_all g rest).fault ≡ true → is_fine g.fault ≡ true
fine_before g rest fine =
    by_value (λ (b : Bool). is_fine g.fault ≡ true) (is_fine g.fault)
    (λ e. e)
    (λ e. ap (λ (h : Gather). is_fine h.fault) (sym (fault_stays rest g e)) ∙ fine)

-- ---- the notes of lines

-- of the first line with a letter
abbrev pub as_first : TextLine → Noted
as_first l = record { count = 1; steps = l.steps; first = get_or l.numbers 0 0; second = get_or l.numbers 1 0 }

unfoldable pub noted_line : ℕ → TextLine → Noted → Noted
noted_line letter l notes = cond (eqb l.letter letter) (cond (eqb notes.count 0) (as_first l) (one_more_note notes)) notes

unfoldable pub noted_lines : ℕ → List TextLine → Noted → Noted
noted_lines letter [] notes = notes
noted_lines letter (l ∷ rest) notes = noted_lines letter rest (noted_line letter l notes)

-- lines watched, by what they do to the notes of each letter
abbrev pub watched_by : (ℕ → Noted → Noted) → Gather → Watch → Watch
watched_by notes next w =
    record {
      gather = next;
      locks = notes 72 w.locks;
      refusal = notes 81 w.refusal;
      actions = notes 88 w.actions;
      cut = notes 67 w.cut;
      lost = notes 76 w.lost;
      failed = notes 78 w.failed;
    }

-- a line has at least two numbers, and its scan has them
at-least_two : (letter : ℕ) → 2 ≤ numbers_behind letter
unfolding numbers_behind
at-least_two letter = by_test (λ n. 2 ≤ n) (eqb letter 72) (λ e. lit≤ tt) (λ e. lit≤ tt)

number_of : (l : TextLine) → IsLine l.steps l.letter l.numbers → (i : ℕ) → i < 2
    → get_or (scan_all start_scan (line_text l)).numbers i 0 ≡ get_or l.numbers i 0
number_of l is i below =
    let r = scan_of l is in
    let s : Scan = scan_all start_scan (line_text l) in
    let many : s.count ≡ numbers_behind l.letter = r.count_read ∙ is.many in
    sym (get_or-take s.count s.numbers i 0 (omega (arith, many, at-least_two l.letter, below))) ∙ ap (λ (ns : List ℕ). get_or ns i 0) r.numbers_read

-- so a line is noted by its scan as by itself
noted_same : (l : TextLine) → IsLine l.steps l.letter l.numbers → (letter : ℕ) (notes : Noted)
    → noted_if letter (scan_all start_scan (line_text l)) notes ≡ noted_line letter l notes
unfolding noted_if noted first_noted noted_line
noted_same l is letter notes =
    let r = scan_of l is in
    let one : ◌≡◌ {A = ℕ} (get_or (scan_all start_scan (line_text l)).numbers 0 0) (get_or l.numbers 0 0) = number_of l is 0 (lit< tt) in
    let two : ◌≡◌ {A = ℕ} (get_or (scan_all start_scan (line_text l)).numbers 1 0) (get_or l.numbers 1 0) = number_of l is 1 (lit< tt) in
    λ i. cond (eqb (r.letter_read i) letter)
    (cond (eqb notes.count 0) (record { count = 1; steps = r.steps_read i; first = one i; second = two i }) (one_more_note notes))
    notes

line_by_letter : (l : TextLine) (w : Watch) → AtLine w.gather → IsLine l.steps l.letter l.numbers
    → watch_all w (line_text l) ≡ watched_by (λ letter. noted_line letter l) (after_all w.gather (line_text l)) w
unfolding line_watched
line_by_letter l w at is =
    line-watched l w at is
    ∙ ap (λ (notes : ℕ → Noted → Noted). watched_by notes (after_all w.gather (line_text l)) w) (λ i letter notes. noted_same l is letter notes i)

-- lines of the night program
pub data AreLines : List TextLine → Type 0 where
  none : AreLines []
  one_more : {l : TextLine} {rest : List TextLine} → IsLine l.steps l.letter l.numbers → AreLines rest → AreLines (l ∷ rest)

-- the lines of a text without a fault, one after the other
pub lines_watched : {lines : List TextLine} (w : Watch) → AreLines lines → AtLine w.gather → is_fine (after_all w.gather (lines_text lines)).fault ≡ true
    → watch_all w (lines_text lines) ≡ watched_by (λ letter. noted_lines letter lines) (after_all w.gather (lines_text lines)) w
unfolding lines_text watch_all after_all noted_lines
lines_watched w AreLines.none at fine = refl
lines_watched w (AreLines.one_more {l = l} {rest = rest} is others) at fine =
    let text : List ℕ = line_text l in
    let g : Gather = after_all w.gather text in
    let v : Watch = watched_by (λ letter. noted_line letter l) g w in
    let both : after_all w.gather (text ++ lines_text rest) ≡ after_all g (lines_text rest) = (pieces w.gather text (lines_text rest) []).stands in
    let fine_on : is_fine (after_all g (lines_text rest)).fault ≡ true = ap (λ (h : Gather). is_fine h.fault) (sym both) ∙ fine in
    let at_next : AtLine g = record { start = line_behind l w.gather at is; fine = fine_before g (lines_text rest) fine_on } in
    watch-append text (lines_text rest) w ∙ ap (λ (u : Watch). watch_all u (lines_text rest)) (line_by_letter l w at is)
    ∙ lines_watched v others at_next fine_on
    ∙ ap (λ (h : Gather). watched_by (λ letter. noted_lines letter (l ∷ rest)) h w) (sym both)
