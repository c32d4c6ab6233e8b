-- The four rule books: the sentences of specs/Theorems, proved.
use Prim.Native.Nat.{ℕ, ◌+◌, ◌-◌}
use mathlib.Core.Path.{◌≡◌, refl, ◌∙◌, sym, ap, subst}
use mathlib.Core.Bool.{Bool, true, false, not, ◌||◌, and-false, true≢false}
use mathlib.Core.Logic.{◌⊎◌, inl, inr, ⊎_elim}
use mathlib.Core.List.{List, [], ◌∷◌}
use lib.Dec.{eqb}
use borrow.Author.Tests.{eqb-true, eqb-false}
use Rattle.lists.specs.Refusal.{refused_if}
use Rattle.lists.proofs.Tests.{by_value, by_test, or_by_first, or_by_second}
use Rattle.cars.specs.Cars.{multiring, release_needs_idle}
use Rattle.plan.specs.Plan.{in_range}
use Rattle.usernode.specs.Node.{is_idle}
use Rattle.acts.specs.declared.Action.TheVariants.{Take, Force}
use Rattle.acts.specs.Actions.{later_number, needs_idle, node_number}
use Rattle.ring.specs.State.{start_of}
use Rattle.nightfile.specs.File.{byte_at, length_wrong, contents_right, plan_body, schedule_body, plan_length_wrong, plan_of, schedule_number, bodies_number, file_number, number_and_place, file_told, file_place}
use Rattle.lines.specs.Line.{line}
use Rattle.course.specs.Whole.{Course}
use Rattle.run.specs.Filling.{texts}
use Rattle.run.specs.Outcomes.{outcome_of, file_course, file_text, file_outcome}
use Rattle.run.proofs.Sum.{refused-text}
use Rattle.onelock.specs.OneLock.{releases}
use Rattle.nightlock.specs.NightLock.{plan_in, items_in}
use Rattle.books.specs.Alike.{Alike, under_plan, under_told}
use Rattle.books.specs.Before.{multiring01, in_range01, bodies_number01, file_number01, file_place01, file_course01, file_text01, file_outcome01}
use Rattle.books.specs.Calm.{calm_schedule, book_of01, with_rules}
use Rattle.books.specs.Theorems.{NothingElseAsks, UnderThreeAndFour, RulesAsIn01, IsNew, OnlyThreeAndFourAreNew, FilesKeepTheirText, AnsweredAlike, OneDifference}
use Rattle.books.proofs.Rules.{alike_self}
use Rattle.books.proofs.Under.{sound-under, stepping-under}
use Rattle.books.proofs.Acts.{node_number_lem, acting-under, acting-own}
use Rattle.books.proofs.Fits.{Fits}
use Rattle.books.proofs.Courses.{Same}
use Rattle.books.proofs.Begun.{refused_course, refused-course, said_before}
use Rattle.books.proofs.Changed.{rules_in, rules_or_0, told_same, number_same, plan_same, schedule_same}
use Rattle.books.proofs.Range.{one_of, one_or_next, range_as_in_01, out_of_range_01, in_turn, earlier_or_later}

-- an action is under both what it was before
pub nothing_else_asks : NothingElseAsks
nothing_else_asks rules state alike =
    record {
      refused = sound-under rules state alike;
      step = stepping-under rules state alike;
      action = λ action node lock calm.
          acting-under rules action state node lock alike (or_by_second (release_needs_idle rules) _ calm)
          ∙ ap (under_told rules) (sym (acting-own action state node lock (or_by_second (release_needs_idle state.plan.rules) _ calm)));
    }

pub under_three_and_four : UnderThreeAndFour
unfolding release_needs_idle node_number needs_idle later_number releases
under_three_and_four rules least most =
    let none : release_needs_idle rules ≡ false = one_of (λ r. release_needs_idle r ≡ false) rules 3 4 (one_or_next rules 3 least most) refl refl in
    record {
      release = λ node lock. rw (none, and-false (not (is_idle node.activity)));
      take = λ node lock. node_number_lem rules Take node lock (or_by_second (release_needs_idle rules) _ refl);
      force = λ node lock. node_number_lem rules Force node lock (or_by_second (release_needs_idle rules) _ refl);
    }

pub rules_as_in_01 : RulesAsIn01
unfolding multiring multiring01 release_needs_idle
rules_as_in_01 rules least most =
    let old = one_or_next rules 1 least most in
    record {
      junctions = one_of (λ r. multiring r ≡ multiring01 r) rules 1 2 old refl refl;
      numbers = λ action node lock. node_number_lem rules action node lock (or_by_first _ _ old);
    }

-- rules 1 are alike to 3, and 2 to 4
two_less : (file : List ℕ) → (eqb (plan_of (plan_body file)).rules 3 || eqb (plan_of (plan_body file)).rules 4) ≡ true → Alike (byte_at file 11 - 2) (byte_at file 11)
unfolding multiring
two_less file =
    rules_or_0 (λ r. (eqb r 3 || eqb r 4) ≡ true → Alike (byte_at file 11 - 2) (byte_at file 11)) file (λ e. absurd (true≢false (sym e)))
    (λ e. one_of (λ r. Alike (r - 2) r) (byte_at file 11) 3 4 e (record { many = refl; least = refl; most = refl }) (record { many = refl; least = refl; most = refl }))

pub only_three_and_four_are_new : OnlyThreeAndFourAreNew
unfolding file_number file_number01 bodies_number bodies_number01 refused_if
only_three_and_four_are_new file =
    let plan = plan_of (plan_body file) in
    let by : Bool → ℕ = λ right. refused_if (not right) 4 (schedule_number (schedule_body file)) in
    by_value (λ b. (file_number file ≡ file_number01 file) ⊎ IsNew file) (eqb plan.rules 3 || eqb plan.rules 4)
    (λ new. ⊎_elim inl (λ later. inr (record { rules = new; before = later ∙ ap by (out_of_range_01 plan new); now = sym (number_same (byte_at file 11 - 2) file (two_less file new)) }))
    (earlier_or_later (length_wrong file) (not (contents_right file)) (plan_length_wrong (plan_body file)) (by (in_range plan)) (by (in_range01 plan))))
    (λ old. inl (ap (λ (right : Bool). in_turn (length_wrong file) (not (contents_right file)) (plan_length_wrong (plan_body file)) (by right)) (range_as_in_01 plan old)))

-- an accepted file of 01's books, under rules that are alike
file_fits : (k : ℕ) (file : List ℕ) → book_of01 file ≡ true → file_number file ≡ 0 → Alike k (byte_at file 11) → (release_needs_idle k || calm_schedule file) ≡ true
    → Fits k (items_in file) (start_of (plan_in file))
unfolding book_of01 release_needs_idle calm_schedule start_of
file_fits k file book e alike calm =
    record {
      alike = subst (Alike k) (sym (rules_in file e)) alike;
      own = ap release_needs_idle (rules_in file e) ∙ book;
      calm = calm;
    }

-- under its own rules it says what it said before
as_before : (ceiling : ℕ) (file : List ℕ) → book_of01 file ≡ true → file_number file ≡ 0 → Same (file_course ceiling file) (file_course01 ceiling file)
unfolding book_of01 release_needs_idle
as_before ceiling file book e =
    let own = byte_at file 11 in
    said_before ceiling own file file e e (λ i. under_plan (rules_in file e i) (plan_in file)) refl
    (file_fits own file book e (alike_self own) (or_by_first _ _ book))

-- and a file of 01's books has the number that it had
number_before : (file : List ℕ) → book_of01 file ≡ true → file_number file ≡ file_number01 file
unfolding book_of01
number_before file book =
    let is_old : ℕ → Type 0 = λ r. (eqb r 3 || eqb r 4) ≡ false in
    let old = rules_or_0 is_old file refl (one_of is_old (byte_at file 11) 1 2 book refl refl) in
    ⊎_elim (λ same. same) (λ new. absurd (true≢false (sym new.rules ∙ old))) (only_three_and_four_are_new file)

pub files_keep_their_text : FilesKeepTheirText
unfolding file_text file_text01 file_outcome file_outcome01 file_place file_place01 file_told
files_keep_their_text ceiling file book =
    let same = number_before file book in
    record {
      number = same;
      text = by_test (λ (text : List ℕ). file_text ceiling file ≡ text) (eqb (file_number01 file) 0)
          (λ e. (as_before ceiling file book (same ∙ eqb-true _ _ e)).text)
          (λ e. refused-text ceiling file (λ none. eqb-false _ _ e (sym same ∙ none))
          ∙ ap (λ (number : ℕ). line 0 81 (number ∷ (number_and_place number (schedule_body file)).place ∷ [])) same);
      result = λ e. (as_before ceiling file book e).result;
    }

-- rules 3 are alike to 1, and 4 to 2
two_more : (rules : ℕ) → (eqb rules 1 || eqb rules 2) ≡ true → Alike (rules + 2) rules
unfolding multiring
two_more rules book =
    one_of (λ r. Alike (r + 2) r) rules 1 2 book (record { many = refl; least = refl; most = refl }) (record { many = refl; least = refl; most = refl })

module _ (ceiling : ℕ) (file : List ℕ) (book : book_of01 file ≡ true) where
  -- the file with those rules
  abbrev rules : ℕ
  rules = byte_at file 11 + 2

  abbrev changed : List ℕ
  changed = with_rules rules file

  alike : Alike rules (byte_at file 11)
  unfolding book_of01
  alike = two_more (byte_at file 11) book

  -- both are accepted: each says what the file said before
  accepted_alike : calm_schedule file ≡ true → file_number file ≡ 0 → AnsweredAlike ceiling changed file
  unfolding file_text file_outcome
  accepted_alike calm e =
      let o = number_same rules file alike ∙ e in
      let fits = file_fits rules file book e alike (or_by_second (release_needs_idle rules) _ calm) in
      let one = said_before ceiling rules file changed e o (plan_same rules file e o) (schedule_same rules file e o) fits in
      let other = as_before ceiling file book e in
      record { text = one.text ∙ sym other.text; result = one.result ∙ sym other.result }

  -- both are refused: the same is told of them
  refused_alike : (file_number file ≡ 0 → ⊥) → AnsweredAlike ceiling changed file
  unfolding file_text file_outcome
  refused_alike refused =
      let same = refused-course ceiling changed (λ o. refused (sym (number_same rules file alike) ∙ o)) ∙ ap (refused_course ceiling) (told_same rules file alike)
      ∙ sym (refused-course ceiling file refused) in
      record { text = ap (λ (c : Course). texts c.lines) same; result = ap (λ (c : Course). outcome_of c.end) same }

pub one_difference : OneDifference
one_difference ceiling file book calm =
    by_value (λ accepted. AnsweredAlike ceiling (with_rules (byte_at file 11 + 2) file) file) (eqb (file_number file) 0)
    (λ t. accepted_alike ceiling file book calm (eqb-true (file_number file) 0 t)) (λ t. refused_alike ceiling file book (eqb-false (file_number file) 0 t))
