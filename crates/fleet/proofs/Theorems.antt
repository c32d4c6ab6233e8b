-- The verdicts on night files: each file's text is that of one run or of one refused run, and what its verdict says of it; and the
-- counts in the report of several files.
use Prim.Native.Nat.{ℕ, zero, suc, ◌+◌, ◌^◌, ◌<◌}
use mathlib.Core.Path.{◌≡◌, refl, sym, ap, ap₂, ◌∙◌}
use mathlib.Core.Bool.{Bool, true, false, cond}
use mathlib.Core.List.{List, [], ◌∷◌}
use native.Mathlib.Omega.{arith}
use lib.Dec.{eqb, ltb, lit<}
use lib.ListN.{length}
use borrow.Author.Tests.{eqb-true, eqb-false, ne_eqb, ltb-true, ltb-false, lt-ltb}
use Rattle.lists.proofs.Tests.{by_value}
use Rattle.nightfile.specs.File.{file_number, schedule_part}
use Rattle.gather.specs.Texts.{TextLine, ran, left_out, Pieces, line_text, piece_text}
use Rattle.run.specs.Outcomes.{file_text, file_outcome, file_course, schedule_sum}
use Rattle.run.proofs.Sum.{file_cut, refused-text}
use Rattle.ownsheet.specs.Numbers.{night_ceiling}
use Rattle.ownsheet.proofs.Ends.{the_locks_are_the_plans}
use Rattle.verdict.specs.declared.Verdict.{Verdict}
use Rattle.verdict.specs.declared.Verdict.TheVariants.{Incomplete, Refused, RefusedActions, Cut, LocksLost, TakesFailed, Good}
use Rattle.verdict.specs.declared.Judged.{Judged}
use Rattle.verdict.specs.Verdicts.{verdict_number, verdict_of}
use Rattle.verdict.specs.Lines.{count_of, first_of, notes_of, lines_in, worst_line, of_a_run, of_a_refusal}
use Rattle.verdict.specs.Theorems.{OnePiece, Decided}
use Rattle.verdict.proofs.Theorems.{the_worst_line_decides, whole_runs_are-not, the_first_letter_decides, each_has_its_number}
use Rattle.morning.specs.Theorems.{Schedules, number_of, count_of as schedule_count}
use Rattle.morning.proofs.AnyText.{every_schedule-is-counted}
use Rattle.morning.proofs.Sums.{the_sums_are_the_schedules}
use Rattle.monthly.proofs.Runs.{run_of, refusal_line, refusal_right}
use Rattle.fleet.specs.Fleet.{NightFile, lines_of_file, schedules_of, Named, number_on, files_with}
use Rattle.fleet.specs.Theorems.{TheVerdictOnAFile, NoFileIsIncomplete, GoodIsGood, AllGoodAreCalledGood, CutRun, CutIsCut, NightFilesAreSchedules, TheFleetIsTold}
use Rattle.fleet.proofs.Heads.{lines_over}
use Rattle.fleet.proofs.Letters.{no_refusal, cut_counted}

-- ---- the text of a file is one piece

-- an accepted file's: its run
run_piece : (file : List ℕ) → file_number file ≡ 0 → OnePiece (file_text night_ceiling file)
run_piece file e =
    let r = run_of file e in
    let plan = the_locks_are_the_plans night_ceiling file e in
    record {
      piece = ran r.run;
      right = Pieces.one_run r.right Pieces.none;
      fit = of_a_run {run = r.run} (omega (arith, r.says.locks, plan.same, plan.least)) (omega (arith, r.says.locks, plan.same, plan.most));
      same = r.text;
    }

-- a refused file's: its Q line
refusal_piece : (file : List ℕ) → (file_number file ≡ 0 → ⊥) → OnePiece (file_text night_ceiling file)
unfolding piece_text line_text
refusal_piece file other =
    record {
      piece = left_out (refusal_line file);
      right = Pieces.one_refused (refusal_right file) Pieces.none;
      fit = of_a_refusal;
      same = refused-text night_ceiling file other;
    }

piece_of : (file : List ℕ) → OnePiece (file_text night_ceiling file)
piece_of file =
    by_value (λ (b : Bool). OnePiece (file_text night_ceiling file)) (eqb (file_number file) 0)
    (λ e. run_piece file (eqb-true (file_number file) 0 e)) (λ e. refusal_piece file (eqb-false (file_number file) 0 e))

-- its worst line decides
piece_decides : {text : List ℕ} (one : OnePiece text) → verdict_of text ≡ worst_line (lines_in one.piece)
piece_decides one = ap verdict_of one.same ∙ the_worst_line_decides one.piece one.right one.fit

pub the_verdict_on_a_file : TheVerdictOnAFile
unfolding run_piece refusal_piece lines_in lines_of_file count_of first_of notes_of
the_verdict_on_a_file file =
    record {
      refused = λ other.
          piece_decides (refusal_piece file other) ∙ (the_first_letter_decides (refusal_line file ∷ [])).refused (lit< tt);
      accepted = λ e. piece_decides (run_piece file e) ∙ ap worst_line (run_of file e).lines;
    }

pub no_file_is_incomplete : NoFileIsIncomplete
no_file_is_incomplete file e =
    let one = piece_of file in
    whole_runs_are-not one.piece one.right one.fit (ap (λ (t : List ℕ). (verdict_of t).verdict) (sym one.same) ∙ e)

-- ---- verdicts

-- they are told apart by their numbers
apart : {verdict other : Verdict} → eqb (verdict_number verdict) (verdict_number other) ≡ false → verdict ≡ other → ⊥
apart {verdict} {other} e same = eqb-false (verdict_number verdict) (verdict_number other) e (ap verdict_number same)

-- with another verdict than refused a file was accepted
was_accepted : (file : List ℕ) (verdict : Verdict) → (Refused ≡ verdict → ⊥) → (verdict_of (file_text night_ceiling file)).verdict ≡ verdict → file_number file ≡ 0
was_accepted file verdict other e =
    by_value (λ (b : Bool). file_number file ≡ 0) (eqb (file_number file) 0) (λ z. eqb-true (file_number file) 0 z)
    (λ z. absurd (other (ap (λ (j : Judged). j.verdict) (sym ((the_verdict_on_a_file file).refused (eqb-false (file_number file) 0 z))) ∙ e)))

-- a number is 0, or above it
none_or_some : (P : Type 0) (n : ℕ) → (n ≡ 0 → P) → (0 < n → P) → P
none_or_some P zero none some = none refl
none_or_some P (suc n) none some = some (omega arith)

-- no line bears a letter whose verdict is another one
none_borne : {judged : Judged} (verdict other : Verdict) (lines : List TextLine) (letter : ℕ)
    → (0 < count_of letter lines → judged ≡ record { verdict = other; noted = notes_of letter lines })
    → (other ≡ verdict → ⊥) → judged.verdict ≡ verdict → count_of letter lines ≡ 0
none_borne verdict other lines letter then differ e =
    none_or_some (count_of letter lines ≡ 0) (count_of letter lines) (λ z. z)
    (λ some. absurd (differ (ap (λ (j : Judged). j.verdict) (sym (then some)) ∙ e)))

-- ---- good

pub good_is_good : GoodIsGood
unfolding verdict_number
good_is_good file good =
    let e : file_number file ≡ 0 = was_accepted file Good (apart refl) good in
    let lines : List TextLine = lines_of_file file in
    let d : Decided lines (worst_line lines) = the_first_letter_decides lines in
    let told : (worst_line lines).verdict ≡ Good = ap (λ (j : Judged). j.verdict) (sym ((the_verdict_on_a_file file).accepted e)) ∙ good in
    let q : count_of 81 lines ≡ 0 = no_refusal file e in
    let x : count_of 88 lines ≡ 0 = none_borne Good RefusedActions lines 88 (d.actions q) (apart refl) told in
    let c : count_of 67 lines ≡ 0 = none_borne Good Cut lines 67 (d.cut q x) (apart refl) told in
    let l : count_of 76 lines ≡ 0 = none_borne Good LocksLost lines 76 (d.lost q x c) (apart refl) told in
    let n : count_of 78 lines ≡ 0 = none_borne Good TakesFailed lines 78 (d.failed q x c l) (apart refl) told in
    let whole : (file_outcome night_ceiling file).cut ≡ false = not-counted (file_outcome night_ceiling file).cut (sym (cut_counted file e) ∙ c) in
    record {
      accepted = e;
      not_cut = whole;
      to_its_end = ltb-false night_ceiling (schedule_sum (schedule_part file)) (sym (file_cut night_ceiling file e) ∙ whole);
      no_action_refused = x;
      no_lock_lost = l;
      no_take_failed = n;
    }
  where
    not-counted : (cut : Bool) → ◌≡◌ {A = ℕ} (cond cut 1 0) 0 → cut ≡ false
    not-counted true z = absurd (omega (arith, z))
    not-counted false z = refl

pub all_good_are_called_good : AllGoodAreCalledGood
all_good_are_called_good file run =
    let e = run.accepted in
    let lines : List TextLine = lines_of_file file in
    let c : count_of 67 lines ≡ 0 = cut_counted file e ∙ ap (λ (cut : Bool). cond cut 1 0) run.not_cut in
    ap (λ (j : Judged). j.verdict)
    ((the_verdict_on_a_file file).accepted e
    ∙ (the_first_letter_decides lines).good (no_refusal file e) run.no_action_refused c run.no_lock_lost run.no_take_failed)

-- ---- cut

-- where no line bears Q and none C, the verdict is not cut
not_cut : (lines : List TextLine) → count_of 81 lines ≡ 0 → count_of 67 lines ≡ 0 → (worst_line lines).verdict ≡ Cut → ⊥
unfolding verdict_number
not_cut lines q c cut =
    let d : Decided lines (worst_line lines) = the_first_letter_decides lines in
    let x : count_of 88 lines ≡ 0 = none_borne Cut RefusedActions lines 88 (d.actions q) (apart refl) cut in
    let l : count_of 76 lines ≡ 0 = none_borne Cut LocksLost lines 76 (d.lost q x c) (apart refl) cut in
    let n : count_of 78 lines ≡ 0 = none_borne Cut TakesFailed lines 78 (d.failed q x c l) (apart refl) cut in
    apart {verdict = Good} refl (ap (λ (j : Judged). j.verdict) (sym (d.good q x c l n)) ∙ cut)

-- of a file that is called cut
called_cut : (file : List ℕ) → (verdict_of (file_text night_ceiling file)).verdict ≡ Cut → CutRun file
unfolding verdict_number
called_cut file cut =
    let e : file_number file ≡ 0 = was_accepted file Cut (apart refl) cut in
    let sum = schedule_sum (schedule_part file) in
    let lines : List TextLine = lines_of_file file in
    let q : count_of 81 lines ≡ 0 = no_refusal file e in
    let told : (worst_line lines).verdict ≡ Cut = ap (λ (j : Judged). j.verdict) (sym ((the_verdict_on_a_file file).accepted e)) ∙ cut in
    record {
      accepted = e;
      above = by_value (λ (b : Bool). night_ceiling < sum) (ltb night_ceiling sum) (λ z. ltb-true night_ceiling sum z)
          (λ z.
          let c : count_of 67 lines ≡ 0 = cut_counted file e ∙ ap (λ (b : Bool). cond b 1 0) (file_cut night_ceiling file e ∙ z) in
          absurd (not_cut lines q c told));
      no_action_refused = none_borne Cut RefusedActions lines 88 ((the_first_letter_decides lines).actions q) (apart refl) told;
    }

pub cut_is_cut : CutIsCut
cut_is_cut file =
    record {
      is_cut = called_cut file;
      is_called = λ run.
          let e = run.accepted in
          let sum = schedule_sum (schedule_part file) in
          let lines : List TextLine = lines_of_file file in
          let c : count_of 67 lines ≡ 1 =
          cut_counted file e ∙ ap (λ (b : Bool). cond b 1 0) (file_cut night_ceiling file e ∙ lt-ltb night_ceiling sum run.above) in
          ap (λ (j : Judged). j.verdict)
          ((the_verdict_on_a_file file).accepted e
          ∙ (the_first_letter_decides lines).cut (no_refusal file e) run.no_action_refused (omega (arith, c)));
    }

-- ---- several files

pub night_files_are_schedules : NightFilesAreSchedules
unfolding schedules_of file_text
night_files_are_schedules [] Named.none = Schedules.none
night_files_are_schedules (file ∷ rest) (Named.one_more named others) =
    Schedules.one_more named (lines_over (file_course night_ceiling file.bytes).lines) (night_files_are_schedules rest others)

-- each is counted by the verdict on its lines
files_counted : (number : ℕ) (files : List NightFile) → schedule_count number (schedules_of files) ≡ files_with number files
unfolding schedules_of schedule_count number_of files_with number_on
files_counted number [] = refl
files_counted number (file ∷ rest) = ap (λ (n : ℕ). cond (eqb (number_on file) number) 1 0 + n) (files_counted number rest)

schedules_long : (files : List NightFile) → length (schedules_of files) ≡ length files
unfolding schedules_of
schedules_long [] = refl
schedules_long (file ∷ rest) = ap suc (schedules_long rest)

none_incomplete : (files : List NightFile) → files_with (verdict_number Incomplete) files ≡ 0
unfolding files_with number_on
none_incomplete [] = refl
none_incomplete (file ∷ rest) =
    let verdict : Verdict = (verdict_of (file_text night_ceiling file.bytes)).verdict in
    let other : eqb (verdict_number verdict) (verdict_number Incomplete) ≡ false =
    ne_eqb (verdict_number verdict) (verdict_number Incomplete) (λ e. no_file_is_incomplete file.bytes (each_has_its_number verdict Incomplete e)) in
    ap₂ (λ (b : Bool) (n : ℕ). cond b 1 0 + n) other (none_incomplete rest)

pub the_fleet_is_told : TheFleetIsTold
the_fleet_is_told rows names files named few =
    let right : Schedules (schedules_of files) = night_files_are_schedules files named in
    let long : length (schedules_of files) ≡ length files = schedules_long files in
    let fit : length (schedules_of files) < 2 ^ 64 = omega (arith, long, few) in
    record {
      counts = λ number h. (every_schedule-is-counted rows names (schedules_of files) right fit).counts number h ∙ files_counted number files;
      all = (the_sums_are_the_schedules rows names (schedules_of files) right fit).all ∙ long;
      none_incomplete = none_incomplete files;
    }
