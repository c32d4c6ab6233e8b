-- The loop that fills a buffer: what is written so far, and what the run still says, are together what it said from the start.
use Rattle.std.specs.Prelude.{Option, Some, None}
use Prim.Native.Nat.{ℕ, suc, ◌+◌, ◌-◌, ◌≤◌, ◌<◌}
use mathlib.Core.Path.{◌≡◌, refl, ◌∙◌, sym, ap}
use mathlib.Core.Bool.{Bool, true, false, cond}
use mathlib.Core.List.{List, [], ◌++◌, append-nil, append_assoc}
use native.Mathlib.Omega.{arith}
use lib.Dec.{leb}
use lib.ListN.{length, take, drop, length-append, length-drop, take-append-drop}
use lib.Seq.{length-take-le, take_at, drop_at, drop-drop}
use borrow.Author.Tests.{le-leb, lt-leb, leb-true, leb-false}
use Rattle.lines.specs.Line.{buffer_after}
use Rattle.course.specs.declared.Run.{Run}
use Rattle.wording.specs.declared.Line.{Line}
use Rattle.wording.specs.Wording.{text}
use Rattle.course.specs.Whole.{Course, says, silence, course}
use Rattle.course.specs.Ready.{ready}
use Rattle.run.specs.Current.{Saying}
use Rattle.run.specs.Filling.{texts, fitting, stops_at, written, filling, filled_buffer}
use Rattle.run.proofs.Ready.{Goes, course_over}

-- what a course would leave in so many bytes: the run, and the text
abbrev pub stops_in : ℕ → Course → Run
stops_in room c = stops_at room c.lines c.end

-- a line that fits, and one that does not
pub stops_fits : (room : ℕ) (l : Line) (before after : Run) (rest : Course) → length (text l) ≤ room
    → stops_in room (says l before after rest) ≡ stops_in (room - length (text l)) rest
unfolding says stops_at
stops_fits room l before after rest fits = simp (le-leb _ _ fits)

pub stops_full : (room : ℕ) (l : Line) (before after : Run) (rest : Course) → room < length (text l) → stops_in room (says l before after rest) ≡ before
unfolding says stops_at
stops_full room l before after rest full = simp (lt-leb _ _ full)

pub written_fits : (room : ℕ) (l : Line) (before after : Run) (rest : Course) → length (text l) ≤ room
    → written room (says l before after rest) ≡ text l ++ written (room - length (text l)) rest
unfolding written says fitting texts
written_fits room l before after rest fits = simp (le-leb _ _ fits)

pub written_full : (room : ℕ) (l : Line) (before after : Run) (rest : Course) → room < length (text l) → written room (says l before after rest) ≡ []
unfolding written says fitting texts
written_full room l before after rest full = simp (lt-leb _ _ full)

-- the loop: `bytes` is the buffer, `buffer` what it was
pub record Fills (ceiling : ℕ) (schedule buffer : List ℕ) (start run : Run) (used : ℕ) (bytes : List ℕ) : Type 0 where
  pub ready_now : ready schedule run ≡ true
  pub within : used ≤ length buffer
  pub long : length bytes ≡ length buffer
  pub inside : used ≤ length bytes
  pub stops : stops_in (length buffer - used) (course ceiling schedule run) ≡ stops_in (length buffer) (course ceiling schedule start)
  pub wrote : take used bytes ++ written (length buffer - used) (course ceiling schedule run) ≡ written (length buffer) (course ceiling schedule start)
  pub rest : drop used bytes ≡ drop used buffer

pub fills_none : (ceiling : ℕ) (schedule buffer : List ℕ) (start run : Run) → course ceiling schedule run ≡ course ceiling schedule start
    → ready schedule run ≡ true → Fills ceiling schedule buffer start run 0 buffer
fills_none ceiling schedule buffer start run e r =
    let none : length buffer - 0 ≡ length buffer = omega arith in
    record {
      ready_now = r;
      within = omega arith;
      long = refl;
      inside = omega arith;
      stops = rw none (ap (stops_in (length buffer)) e);
      wrote = rw none (ap (written (length buffer)) e);
      rest = refl;
    }

-- where the loop ends: nothing more is written, and the run stands where it stops
pub record Full (ceiling : ℕ) (schedule buffer : List ℕ) (start run : Run) (used : ℕ) (bytes : List ℕ) : Type 0 where
  pub answer : record { run = run; used = used } ≡ filling (length buffer) (course ceiling schedule start)
  pub content : bytes ≡ filled_buffer buffer (course ceiling schedule start)

full_by : (ceiling : ℕ) (schedule buffer : List ℕ) (start run : Run) (used : ℕ) (bytes : List ℕ) → Fills ceiling schedule buffer start run used bytes
    → stops_in (length buffer - used) (course ceiling schedule run) ≡ run → written (length buffer - used) (course ceiling schedule run) ≡ []
    → Full ceiling schedule buffer start run used bytes
unfolding filling filled_buffer
full_by ceiling schedule buffer start run used bytes f s w =
    let text_is : take used bytes ≡ written (length buffer) (course ceiling schedule start) =
    sym (append-nil (take used bytes)) ∙ ap (λ (l : List ℕ). take used bytes ++ l) (sym w) ∙ f.wrote in
    let count : used ≡ length (written (length buffer) (course ceiling schedule start)) =
    sym (length-take-le used bytes f.inside) ∙ ap length text_is in
    record {
      answer = λ i. record { run = (sym s ∙ f.stops) i; used = count i };
      content = sym (take-append-drop used bytes) ∙ (λ i. text_is i ++ f.rest i) ∙ ap (λ (n : ℕ). written (length buffer) (course ceiling schedule start) ++ drop n buffer) count;
    }

-- the run is over
pub full_over : (ceiling : ℕ) (schedule buffer : List ℕ) (start run : Run) (used : ℕ) (bytes : List ℕ) → Fills ceiling schedule buffer start run used bytes
    → run.over ≡ true → Full ceiling schedule buffer start run used bytes
unfolding silence stops_at written fitting texts
full_over ceiling schedule buffer start run used bytes f o =
    full_by ceiling schedule buffer start run used bytes f
    (ap (stops_in (length buffer - used)) (course_over ceiling schedule run o))
    (ap (written (length buffer - used)) (course_over ceiling schedule run o))

-- what is answered of a line behind the used bytes: its length where it fits
abbrev Answers : List ℕ → ℕ → Line → Option ℕ → Type 0
Answers bytes used l answer = answer ≡ cond (leb (length (text l)) (length bytes - used)) (Some (length (text l))) None

none_fits : (b : Bool) (m : ℕ) → None ≡ cond b (Some m) None → b ≡ false
none_fits true m e = cc
none_fits false m e = refl

some_fits : (b : Bool) (n m : ℕ) → Some n ≡ cond b (Some m) None → (b ≡ true) × (n ≡ m)
some_fits true n m e = (refl, cc)
some_fits false n m e = cc

-- the line does not fit: the buffer is as it was
pub full_line : (ceiling : ℕ) (schedule buffer : List ℕ) (start run : Run) (used : ℕ) (bytes next : List ℕ) (said : Saying)
    → Fills ceiling schedule buffer start run used bytes → Goes ceiling schedule run (Some said) → Answers bytes used said.line None
    → next ≡ take used bytes ++ buffer_after (drop used bytes) (text said.line) → Full ceiling schedule buffer start run used next
unfolding buffer_after
full_line ceiling schedule buffer start run used bytes next said f goes a e =
    let short : leb (length (text said.line)) (length bytes - used) ≡ false = none_fits _ _ a in
    let full : length buffer - used < length (text said.line) = omega (arith, leb-false (length (text said.line)) (length bytes - used) short, f.long) in
    let same : next ≡ bytes = e ∙ rw (length-drop used bytes, short) (take-append-drop used bytes) in
    rw same (full_by ceiling schedule buffer start run used bytes f
    (ap (stops_in (length buffer - used)) goes ∙ stops_full _ _ _ _ _ full)
    (ap (written (length buffer - used)) goes ∙ written_full _ _ _ _ _ full))

-- the line fits: it is written, and the run goes on
pub fills_line : (ceiling : ℕ) (schedule buffer : List ℕ) (start run after : Run) (used : ℕ) (bytes next : List ℕ) (n : ℕ) (said : Saying)
    → Fills ceiling schedule buffer start run used bytes → Goes ceiling schedule run (Some said) → Answers bytes used said.line (Some n)
    → next ≡ take used bytes ++ buffer_after (drop used bytes) (text said.line)
    → course ceiling schedule after ≡ course ceiling schedule said.run → ready schedule after ≡ true
    → Fills ceiling schedule buffer start after (used + n) next
unfolding buffer_after
fills_line ceiling schedule buffer start run after used bytes next n said f goes a e same r =
    let line = said.line in
    let fits : leb (length (text line)) (length bytes - used) ≡ true = (some_fits _ n _ a).0 in
    let count : n ≡ length (text line) = (some_fits _ n _ a).1 in
    let room : length (text line) ≤ length buffer - used = omega (arith, leb-true (length (text line)) (length bytes - used) fits, f.long) in
    let front : length (take used bytes) ≡ used = length-take-le used bytes f.inside in
    let content : next ≡ take used bytes ++ (text line ++ drop (length (text line)) (drop used bytes)) = e ∙ rw (length-drop used bytes, fits) refl in
    let split : next ≡ (take used bytes ++ text line) ++ drop (length (text line)) (drop used bytes) = content ∙ sym (append_assoc (take used bytes) (text line) _) in
    let seam : length (take used bytes ++ text line) ≡ used + n = length-append (take used bytes) (text line) ∙ rw (front, count) refl in
    let left : length buffer - (used + n) ≡ length buffer - used - length (text line) = omega (arith, count) in
    let top : take (used + n) next ≡ take used bytes ++ text line = ap (take (used + n)) split ∙ take_at (take used bytes ++ text line) (drop (length (text line)) (drop used bytes)) (used + n) seam in
    let behind : drop (length (text line)) (drop used bytes) ≡ drop (used + n) buffer =
    ap (drop (length (text line))) f.rest ∙ drop-drop (length (text line)) used buffer ∙ ap (λ (m : ℕ). drop (used + m) buffer) (sym count) in
    let kept : length next ≡ length buffer =
    omega
    (arith, ap length content, length-append (take used bytes) (text line ++ drop (length (text line)) (drop used bytes)), length-append (text line) (drop (length (text line)) (drop used bytes)), length-drop (length (text line)) (drop used bytes), length-drop used bytes, front, room, f.long, f.within) in
    record {
      ready_now = r;
      within = omega (arith, room, count, f.within);
      long = kept;
      inside = omega (arith, room, count, f.within, kept);
      stops =
          (λ i. stops_in (left i) (same i)) ∙ sym (stops_fits (length buffer - used) line run said.run (course ceiling schedule said.run) room)
          ∙ ap (stops_in (length buffer - used)) (sym goes)
          ∙ f.stops;
      wrote =
          (λ i. top i ++ written (left i) (same i)) ∙ append_assoc (take used bytes) (text line) _
          ∙ ap (λ (l : List ℕ). take used bytes ++ l) (sym (written_fits (length buffer - used) line run said.run (course ceiling schedule said.run) room) ∙ ap (written (length buffer - used)) (sym goes))
          ∙ f.wrote;
      rest = ap (drop (used + n)) split ∙ drop_at (take used bytes ++ text line) (drop (length (text line)) (drop used bytes)) (used + n) seam ∙ behind;
    }

-- each line said is one line fewer to say
pub fewer_lines : (ceiling : ℕ) (schedule : List ℕ) (run after : Run) (said : Saying) → Goes ceiling schedule run (Some said) → course ceiling schedule after ≡ course ceiling schedule said.run
    → length (course ceiling schedule after).lines < length (course ceiling schedule run).lines
unfolding says
fewer_lines ceiling schedule run after said goes same =
    let one : length (course ceiling schedule run).lines ≡ suc (length (course ceiling schedule said.run).lines) = ap (λ (c : Course). length c.lines) goes in
    let rest : length (course ceiling schedule after).lines ≡ length (course ceiling schedule said.run).lines = ap (λ (c : Course). length c.lines) same in
    omega (arith, one, rest)

-- a line said leaves the end as it was; a run that is over is at its end
pub same_end : (ceiling : ℕ) (schedule : List ℕ) (run after : Run) (said : Saying) → Goes ceiling schedule run (Some said) → course ceiling schedule after ≡ course ceiling schedule said.run
    → (course ceiling schedule after).end ≡ (course ceiling schedule run).end
unfolding says
same_end ceiling schedule run after said goes same =
    ap (λ (c : Course). c.end) same ∙ sym (ap (λ (c : Course). c.end) goes)

pub end_over : (ceiling : ℕ) (schedule : List ℕ) (run : Run) → run.over ≡ true → (course ceiling schedule run).end ≡ run
unfolding silence
end_over ceiling schedule run o = ap (λ (c : Course). c.end) (course_over ceiling schedule run o)
