-- The letters of a run's lines: no line bears Q, and C is borne by the last one alone, where the run was cut.
use Prim.Native.Nat.{ℕ, ◌+◌}
use mathlib.Core.Path.{◌≡◌, refl, sym, ap, ap₂, ◌∙◌}
use mathlib.Core.Bool.{Bool, true, false, cond}
use mathlib.Core.List.{List, [], ◌∷◌, ◌++◌}
use native.Mathlib.Nat.{zero-add}
use lib.Dec.{eqb}
use borrow.Author.Tests.{ne_eqb}
use Rattle.std.specs.Prelude.{Some}
use Rattle.linereader.specs.declared.LineKind.{LineKind}
use Rattle.linereader.specs.declared.LineKind.TheVariants.{Deed, Lock, Last}
use Rattle.linereader.specs.Reading.{kind_of}
use Rattle.gather.specs.Texts.{TextLine, OfKind, Deeds, LocksFrom, RunLines, IsRun}
use Rattle.nightfile.specs.File.{file_number}
use Rattle.wording.specs.Wording.{end_letter}
use Rattle.course.specs.Wording.{is_cut}
use Rattle.run.specs.Outcomes.{outcome_of, file_course, file_outcome}
use Rattle.ownsheet.specs.Numbers.{night_ceiling}
use Rattle.verdict.specs.Lines.{count_of}
use Rattle.monthly.proofs.Runs.{RunOf, run_of}
use Rattle.fleet.specs.Fleet.{lines_of_file}

-- ---- kinds of lines

-- a letter that belongs to another kind, or to none
abbrev Other : LineKind → ℕ → Type 0
Other kind letter = kind_of letter ≡ Some kind → ⊥

-- is not borne by a line of this kind
not_borne : {kind : LineKind} {l : TextLine} (letter : ℕ) → Other kind letter → OfKind kind l → eqb l.letter letter ≡ false
not_borne {kind} {l} letter other k = ne_eqb l.letter letter (λ e. other (ap kind_of (sym e) ∙ k.of_kind))

-- ---- lines before others

deeds_without : {deeds : List TextLine} (letter : ℕ) (rest : List TextLine) → Other Deed letter → Deeds deeds → count_of letter (deeds ++ rest) ≡ count_of letter rest
unfolding count_of
deeds_without letter rest other Deeds.none = refl
deeds_without letter rest other (Deeds.one_more k deeds) =
    ap₂ (λ (b : Bool) (n : ℕ). cond b 1 0 + n) (not_borne letter other k) (deeds_without letter rest other deeds) ∙ zero-add (count_of letter rest)

locks_without : {from : ℕ} {locks : List TextLine} (letter : ℕ) (rest : List TextLine) → Other Lock letter → LocksFrom from locks
    → count_of letter (locks ++ rest) ≡ count_of letter rest
unfolding count_of
locks_without letter rest other LocksFrom.none = refl
locks_without letter rest other (LocksFrom.one_more k e small locks) =
    ap₂ (λ (b : Bool) (n : ℕ). cond b 1 0 + n) (not_borne letter other k) (locks_without letter rest other locks) ∙ zero-add (count_of letter rest)

-- a letter that is not theirs is the last line's, or no line's
last_only : (run : RunLines) (letter : ℕ) → IsRun run → Other Deed letter → Other Lock letter
    → count_of letter (run.deeds ++ (run.locks ++ (run.last ∷ []))) ≡ cond (eqb run.last.letter letter) 1 0 + 0
unfolding count_of
last_only run letter is deed lock =
    deeds_without letter (run.locks ++ (run.last ∷ [])) deed is.deeds_right ∙ locks_without letter (run.last ∷ []) lock is.locks_right

-- ---- the lines of an accepted file

pub no_refusal : (file : List ℕ) → file_number file ≡ 0 → count_of 81 (lines_of_file file) ≡ 0
unfolding lines_of_file kind_of
no_refusal file e =
    let r : RunOf file = run_of file e in
    ap (count_of 81) (sym r.lines) ∙ last_only r.run 81 r.right (λ z. cc) (λ z. cc)
    ∙ ap (λ (b : Bool). cond b 1 0 + 0) (not_borne {kind = Last} 81 (λ z. cc) r.right.last_right)

cut_letter : (cut : Bool) → cond (eqb (end_letter cut) 67) 1 0 + 0 ≡ cond cut 1 0
unfolding end_letter
cut_letter true = refl
cut_letter false = refl

pub cut_counted : (file : List ℕ) → file_number file ≡ 0 → count_of 67 (lines_of_file file) ≡ cond (file_outcome night_ceiling file).cut 1 0
unfolding lines_of_file kind_of file_outcome outcome_of
cut_counted file e =
    let r : RunOf file = run_of file e in
    ap (count_of 67) (sym r.lines) ∙ last_only r.run 67 r.right (λ z. cc) (λ z. cc)
    ∙ ap (λ (letter : ℕ). cond (eqb letter 67) 1 0 + 0) r.letter ∙ cut_letter (is_cut (file_course night_ceiling file).end.phase)
