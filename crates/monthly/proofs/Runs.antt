-- The text of one night file: of an accepted file a run as it is gathered, whose H lines and steps are the numbers of the file's row; of a refused file
-- one Q line.
use Rattle.std.specs.Prelude.{Option, Some}
use Prim.Native.Nat.{ℕ, zero, suc, ◌+◌, ◌^◌, ◌≤◌, ◌<◌}
use mathlib.Core.Path.{◌≡◌, refl, ◌∙◌, sym, ap, ap₂, subst}
use mathlib.Core.Bool.{Bool, true, false, cond, not, true≢false}
use mathlib.Core.List.{List, [], ◌∷◌, ◌++◌, append-nil}
use native.Mathlib.Omega.{arith}
use lib.Dec.{eqb, ltb, lit<}
use lib.ListN.{length, get_or, length-drop}
use borrow.Author.Tests.{eqb-true, eqb-false, ltb-false}
use Rattle.lists.specs.Refusal.{refused_if}
use Rattle.lists.proofs.Laws.{and_left, and_right}
use Rattle.lists.proofs.Tests.{by_value, by_test, or_right}
use Rattle.plan.specs.Plan.{in_range}
use Rattle.nightfile.specs.File.{length_wrong, schedule_start, contents_right, plan_body, schedule_body, plan_length_wrong, plan_of, bytes_left_over, item_kinds_right, schedule_number, bodies_number, file_number, file_place}
use Rattle.nightfile.proofs.Laws.{passed_over}
use Rattle.nightfile.proofs.FirstBad.{six_tells_the_first_bad, only_six_tells_a_place}
use Rattle.tally.specs.Tally.{sum_of}
use Rattle.tally.proofs.Small.{sum-together}
use Rattle.wording.specs.declared.Line.{Line}
use Rattle.wording.specs.Wording.{line_of, more_of, numbers_of, text, lock_says, end_letter, last_says}
use Rattle.course.specs.declared.Reached.{Reached}
use Rattle.course.specs.Standing.{locks_of}
use Rattle.course.specs.Wording.{is_cut}
use Rattle.run.specs.Outcomes.{file_course, file_text}
use Rattle.linereader.specs.declared.LineKind.{LineKind}
use Rattle.linereader.specs.declared.LineKind.TheVariants.{Deed, Lock, Last, Refusal}
use Rattle.linereader.specs.Reading.{is_deed, is_kind, kind_of, numbers_behind}
use Rattle.gather.specs.Texts.{TextLine, no_line, line_text, lines_text, OfKind, Deeds, LocksFrom, RunLines, IsRun, ran, piece_text}
use Rattle.ownsheet.specs.Numbers.{night_ceiling, lock_lines, last_lines, is_deed as is_deed_line, all_deeds, lines_of, text_of}
use Rattle.ownsheet.proofs.Ends.{Within, within_end, few_steps, the_locks_are_the_plans}
use Rattle.ownsheet.proofs.Lines.{text_both, the_lines_end_with_the_numbers}
use Rattle.monthly.specs.Monthly.{as_text, as_texts}
use Rattle.monthly.proofs.Deeds.{Small, Deedlike, file_deeds}

-- ---- lines as they are gathered

texts_same : (lines : List Line) → text_of lines ≡ lines_text (as_texts lines)
unfolding text_of lines_text line_text text as_texts
texts_same [] = refl
texts_same (l ∷ rest) = ap (λ (t : List ℕ). text l ++ t) (texts_same rest)

texts_both : (a b : List Line) → as_texts (a ++ b) ≡ as_texts a ++ as_texts b
unfolding as_texts
texts_both [] b = refl
texts_both (l ∷ a) b = ap (λ (ls : List TextLine). as_text l ∷ ls) (texts_both a b)

-- ---- two numbers, and four

two_small : {a b : ℕ} → a < 2 ^ 64 → b < 2 ^ 64 → (place : ℕ) → get_or (a ∷ b ∷ []) place 0 < 2 ^ 64
two_small p q zero = p
two_small p q (suc zero) = q
two_small p q (suc (suc place)) = lit< tt

four_small : {a b c d : ℕ} → a < 2 ^ 64 → b < 2 ^ 64 → c < 2 ^ 64 → d < 2 ^ 64 → (place : ℕ) → get_or (a ∷ b ∷ c ∷ d ∷ []) place 0 < 2 ^ 64
four_small p q r s zero = p
four_small p q r s (suc zero) = q
four_small p q r s (suc (suc zero)) = r
four_small p q r s (suc (suc (suc zero))) = s
four_small p q r s (suc (suc (suc (suc place)))) = lit< tt

-- ---- the lines of actions and events

-- a letter of theirs is no other line's
not_this : (letter other : ℕ) → is_deed letter ≡ true → is_deed other ≡ false → eqb letter other ≡ true → ⊥
not_this letter other e none z = true≢false (sym e ∙ ap is_deed (eqb-true letter other z) ∙ none)

deed_kind : (letter : ℕ) → is_deed letter ≡ true → kind_of letter ≡ Some Deed
unfolding is_deed kind_of
deed_kind letter e =
    past 72 (Some Lock) _ refl
    (past 69 (Some Last) _ refl
    (past 67 (Some Last) _ refl
    (past 81 (Some Refusal) _ refl (by_test IsDeed (is_deed letter) (λ z. refl) (λ z. absurd (true≢false (sym e ∙ z)))))))
  where
    IsDeed : Option LineKind → Type 0
    IsDeed kind = kind ≡ Some Deed

    past : (other : ℕ) (kind later : Option LineKind) → is_deed other ≡ false → IsDeed later → IsDeed (cond (eqb letter other) kind later)
    past other kind later none l = by_test IsDeed (eqb letter other) (λ z. absurd (not_this letter other e none z)) (λ z. l)

deed_numbers : (letter : ℕ) → is_deed letter ≡ true → numbers_behind letter ≡ 2
unfolding is_deed numbers_behind
deed_numbers letter e = by_test (λ (n : ℕ). n ≡ 2) (eqb letter 72) (λ z. absurd (not_this letter 72 e refl z)) (λ z. refl)

-- such a line, if it is small
deed_right : (l : Line) → is_deed_line l ≡ true → Small l → OfKind Deed (as_text l)
unfolding is_deed_line is_deed numbers_of more_of is_kind
deed_right l e s =
    let kind = deed_kind l.letter e in
    let numbers : numbers_of l ≡ l.first ∷ l.second ∷ [] =
    ap (λ (more : Option (ℕ × ℕ)). l.first ∷ l.second ∷ more_of more) s.short in
    record {
      is_line = record {
        known = ap is_kind kind;
        many = ap (λ (ns : List ℕ). length ns) numbers ∙ sym (deed_numbers l.letter e);
        steps_small = s.steps;
        small = subst (λ (ns : List ℕ). (place : ℕ) → get_or ns place 0 < 2 ^ 64) (sym numbers) (two_small s.first s.second);
      };
      of_kind = kind;
    }

-- all of those before the end
deeds_right : (before end : List Line) → all_deeds before ≡ true → Deedlike (before ++ end) → Deeds (as_texts before)
unfolding all_deeds as_texts
deeds_right [] end e d = Deeds.none
deeds_right (l ∷ rest) end e (Deedlike.one_more small d) =
    let mine = and_left (is_deed_line l) (all_deeds rest) e in
    Deeds.one_more (deed_right l mine (small mine)) (deeds_right rest end (and_right (is_deed_line l) (all_deeds rest) e) d)

-- ---- the H lines

-- what a lock's line says
abbrev pub lock_numbers : Reached → ℕ → List ℕ
lock_numbers reached lock =
    lock ∷ get_or reached.tally.busy lock 0 ∷ get_or reached.tally.grants lock 0 ∷ get_or reached.tally.failed lock 0 ∷ []

locks_many : (reached : Reached) (lock n : ℕ) → length (as_texts (lock_lines reached lock n)) ≡ n
unfolding lock_lines as_texts
locks_many reached lock zero = refl
locks_many reached lock (suc n) = ap suc (locks_many reached (lock + 1) n)

locks_say : (reached : Reached) (lock n k : ℕ) → k < n → (get_or (as_texts (lock_lines reached lock n)) k no_line).numbers ≡ lock_numbers reached (lock + k)
unfolding lock_lines as_texts numbers_of more_of lock_says
locks_say reached lock zero k below = absurd (omega (arith, below))
locks_say reached lock (suc n) zero below = let same : lock ≡ lock + 0 = omega arith in ap (lock_numbers reached) same
locks_say reached lock (suc n) (suc k) below =
    let same : lock + 1 + k ≡ lock + suc k = omega arith in
    locks_say reached (lock + 1) n k (omega (arith, below)) ∙ ap (lock_numbers reached) same

-- they are small, since what is counted is
lock_right : (reached : Reached) (lock : ℕ) → Within reached → reached.steps ≤ 1000000 → lock < 64
    → OfKind Lock (as_text (lock_says reached.steps lock (get_or reached.tally.busy lock 0) (get_or reached.tally.grants lock 0) (get_or reached.tally.failed lock 0)))
unfolding lock_says numbers_of more_of kind_of is_kind numbers_behind
lock_right reached lock w few below =
    record {
      is_line = record {
        known = refl;
        many = refl;
        steps_small = omega (arith, few);
        small = four_small (omega (arith, below)) (omega (arith, few, w.busy lock)) (omega (arith, few, w.grants lock below)) (omega (arith, few, w.failed lock below));
      };
      of_kind = refl;
    }

locks_right_lem : (reached : Reached) (lock n : ℕ) → Within reached → reached.steps ≤ 1000000 → lock + n ≤ 64 → LocksFrom lock (as_texts (lock_lines reached lock n))
unfolding lock_lines as_texts lock_says numbers_of more_of
locks_right_lem reached lock zero w few room = LocksFrom.none
locks_right_lem reached lock (suc n) w few room =
    LocksFrom.one_more {lock = lock} (lock_right reached lock w few (omega (arith, room))) refl (omega (arith, room))
    (locks_right_lem reached (lock + 1) n w few (omega (arith, room)))

-- ---- the last line

last_right : (steps : ℕ) (cut : Bool) (grants failed : ℕ) → steps < 2 ^ 64 → grants < 2 ^ 64 → failed < 2 ^ 64 → OfKind Last (as_text (last_says steps cut grants failed))
unfolding last_says line_of end_letter numbers_of more_of kind_of is_kind numbers_behind
last_right steps true grants failed a b c =
    record { is_line = record { known = refl; many = refl; steps_small = a; small = two_small b c }; of_kind = refl }
last_right steps false grants failed a b c =
    record { is_line = record { known = refl; many = refl; steps_small = a; small = two_small b c }; of_kind = refl }

-- ---- an accepted file

-- a run as it is gathered says what a file's row has: its steps, as many locks, and of each lock three numbers
pub record Says (file : List ℕ) (run : RunLines) : Type 0 where
  pub steps : run.last.steps ≡ (file_course night_ceiling file).end.reached.steps
  pub locks : length run.locks ≡ locks_of (file_course night_ceiling file).end
  pub numbers : (lock : ℕ) → lock < locks_of (file_course night_ceiling file).end
      → (get_or run.locks lock no_line).numbers ≡ lock_numbers (file_course night_ceiling file).end.reached lock

pub record RunOf (file : List ℕ) : Type 0 where
  pub run : RunLines
  pub right : IsRun run
  pub text : file_text night_ceiling file ≡ piece_text (ran run)
  pub says : Says file run
  -- its lines are those of the file's course, and its last line tells whether that was cut
  pub lines : run.deeds ++ (run.locks ++ (run.last ∷ [])) ≡ as_texts (lines_of (file_course night_ceiling file).lines)
  pub letter : run.last.letter ≡ end_letter (is_cut (file_course night_ceiling file).end.phase)

pub run_of : (file : List ℕ) → file_number file ≡ 0 → RunOf file
unfolding piece_text line_text text last_lines last_says line_of text_of as_texts
run_of file e =
    let end = (file_course night_ceiling file).end in
    let reached = end.reached in
    let locks = locks_of end in
    let plan = the_locks_are_the_plans night_ceiling file e in
    let most : locks ≤ 64 = omega (arith, plan.same, plan.most) in
    let few = few_steps file e in
    let w = within_end night_ceiling file in
    let ends = the_lines_end_with_the_numbers night_ceiling file e in
    let before = ends.before in
    let last = last_says reached.steps (is_cut end.phase) (sum_of reached.tally.grants locks) (sum_of reached.tally.failed locks) in
    let small : Deedlike (before ++ last_lines end) = subst Deedlike ends.lines (file_deeds night_ceiling (lit< tt) file e) in
    record {
      run = record { deeds = as_texts before; locks = as_texts (lock_lines reached 0 locks); last = as_text last };
      right = record {
        deeds_right = deeds_right before (last_lines end) ends.deeds small;
        locks_right = locks_right_lem reached 0 locks w few (omega (arith, most));
        last_right = last_right reached.steps (is_cut end.phase) (sum_of reached.tally.grants locks) (sum_of reached.tally.failed locks)
            (omega (arith, few)) (omega (arith, few, w.both, sum-together reached.tally.grants locks))
            (omega (arith, few, w.both, sum-together reached.tally.failed locks));
      };
      text = ends.written
          ∙ ap₂ (λ (a b : List ℕ). a ++ b) (texts_same before)
          (text_both (lock_lines reached 0 locks) (last ∷ []) ∙ ap₂ (λ (a b : List ℕ). a ++ b) (texts_same (lock_lines reached 0 locks)) (append-nil (text last)));
      says = record {
        steps = refl;
        locks = locks_many reached 0 locks;
        numbers = λ lock below.
            let same : 0 + lock ≡ lock = omega arith in
            locks_say reached 0 locks lock below ∙ ap (lock_numbers reached) same;
      };
      lines = sym
          (ap as_texts ends.lines ∙ texts_both before (last_lines end)
          ∙ ap (λ (ls : List TextLine). as_texts before ++ ls) (texts_both (lock_lines reached 0 locks) (last ∷ [])));
      letter = refl;
    }

-- ---- a refused file

number_most : (file : List ℕ) → file_number file ≤ 6
unfolding file_number bodies_number schedule_number refused_if
number_most file =
    at_most (length_wrong file) 1
    (λ e. at_most (not (contents_right file)) 2
    (λ e. at_most (plan_length_wrong (plan_body file)) 3
    (λ e. at_most (not (in_range (plan_of (plan_body file)))) 4
    (λ e. at_most (bytes_left_over (schedule_body file)) 5
    (λ e. at_most (not (item_kinds_right (schedule_body file))) 6 (λ e. omega arith) (omega arith)) (omega arith)) (omega arith)) (omega arith)) (omega arith)) (omega arith)
  where
    at_most : (test : Bool) (number : ℕ) {later : ℕ} → (test ≡ false → later ≤ 6) → number ≤ 6 → cond test number later ≤ 6
    at_most test number l n = by_test (λ (k : ℕ). k ≤ 6) test (λ e. n) l

-- a place is told of a file that is not too long
body_most : (file : List ℕ) → file_number file ≡ 6 → length (schedule_body file) ≤ 65535
unfolding file_number length_wrong schedule_body
body_most file e =
    let long = passed_over (length_wrong file) 1 _ 6 (λ same. omega (arith, same)) e in
    let most : length file ≤ 65535 = ltb-false 65535 (length file) (or_right (ltb (length file) 11) (ltb 65535 (length file)) long.0) in
    omega (arith, length-drop (schedule_start file) file, most)

place_small : (file : List ℕ) → file_place file < 2 ^ 64
place_small file =
    by_value (λ b. file_place file < 2 ^ 64) (eqb (file_number file) 6) (λ e. six (eqb-true _ 6 e))
    (λ e. omega (arith, only_six_tells_a_place file (eqb-false _ 6 e)))
  where
    six : file_number file ≡ 6 → file_place file < 2 ^ 64
    six e = omega (arith, (six_tells_the_first_bad file e).there, body_most file e)

-- its one line
abbrev pub refusal_line : List ℕ → TextLine
refusal_line file = record { steps = 0; letter = 81; numbers = file_number file ∷ file_place file ∷ [] }

pub refusal_right : (file : List ℕ) → OfKind Refusal (refusal_line file)
unfolding kind_of is_kind numbers_behind
refusal_right file =
    record {
      is_line = record { known = refl; many = refl; steps_small = lit< tt; small = two_small (omega (arith, number_most file)) (place_small file) };
      of_kind = refl;
    }
