-- Laws of the night file: the values of a plan body while they are read, its two parts, and what an accepted file gives.
use Prim.Native.Nat.{ℕ, zero, suc, ◌+◌, ◌-◌, ◌≤◌, ◌<◌}
use mathlib.Core.Path.{◌≡◌, refl, sym, ap, subst, ◌∙◌}
use mathlib.Core.Bool.{Bool, true, false, cond, not, ◌&&◌, ◌||◌}
use mathlib.Core.List.{List, [], ◌∷◌, ◌++◌, map}
use mathlib.Core.Logic.{⊎_elim}
use native.Mathlib.Nat.{add-sub_cancel_left, eq-or-lt_of_le}
use native.Mathlib.Omega.{arith}
use lib.Dec.{eqb, ltb}
use lib.ListN.{length, get_or, take, drop, replicate, length-append, length-replicate, length-drop}
use lib.Seq.{get_or-drop, length-take-le, take_all}
use borrow.Author.Tests.{eqb-true, ltb-false, not-false}
use Rattle.std.specs.Prelude.{Result, Ok, Err}
use Rattle.std.specs.Result.{is_err}
use denote.Param.Members.{Mut, Called}
use Rattle.std.specs.Array.{IsFromFnResult, IsFromFnResultFrom}
use Rattle.std.specs.List.{range_with_len}
use Rattle.std.proofs.lemmas.List.FromFn.{fill_by_all}
use Rattle.std.proofs.lemmas.List.{get_or-take}
use Rattle.lists.specs.Refusal.{refused_if}
use Rattle.lists.proofs.Laws.{and_right}
use Rattle.positions.specs.Shape.{ends_at}
use Rattle.plan.specs.Plan.{in_range}
use Rattle.nightfile.specs.File.{byte_at, plan_values, length_wrong, entry_at, entry_length, schedule_start, contents_right, plan_body, schedule_body, plan_length_wrong, plan_of, schedule_number, bodies_number, file_number, Told, number_and_place, file_told, file_place, if_accepted, plan_part, refusal_number, refusal_place, file_answer_number, file_answer_place, file_answer_told, bytes_left_over, item_kinds_right, first_bad_item, schedule_answer, bodies_answer, file_answer}
use Rattle.nightfile.specs.Theorems.{AnswerTellsNumberAndPlace}
use Rattle.nightfile.specs.declared.FileRefusal.{FileRefusal}
use Rattle.nightfile.specs.declared.FileRefusal.TheVariants.{WrongLength, WrongContents, WrongPlanLength, PlanOutOfRange, BytesLeftOver, BadItem}

-- a byte past the end is 0, with zeros written there or not
padded_at : (bytes : List ℕ) (n at : ℕ) → get_or (bytes ++ replicate n 0) at 0 ≡ get_or bytes at 0
padded_at [] zero at = refl
padded_at [] (suc n) zero = refl
padded_at [] (suc n) (suc at) = padded_at [] n at
padded_at (b ∷ bytes) n zero = refl
padded_at (b ∷ bytes) n (suc at) = padded_at bytes n at

-- an array made from a function of the place, which keeps nothing from one call to the next
module _ {F : Type 0} (g : Mut F (ℕ × Unit {0}) ℕ) (t : ℕ → ℕ) (f : F)
    (gives : (k y : ℕ) (q : F) → Called g f (k, tt) y q → (q ≡ f) × (y ≡ t k)) (ys : List ℕ) where
  from_each : (n i : ℕ) → IsFromFnResultFrom g f ys i n → (k : ℕ) → i ≤ k → k < i + n → get_or ys k 0 ≡ t k
  from_each zero i made k from before = absurd (omega arith)
  from_each (suc n) i (q, y, here, called, rest) k from before =
      let same = gives i y q called in
      ⊎_elim
      (λ at. let first : get_or ys i 0 ≡ t i = here.1 0 ∙ same.1 in subst (λ (j : ℕ). get_or ys j 0 ≡ t j) at first)
      (λ behind. from_each n (i + 1) (subst (λ (p : F). IsFromFnResultFrom g p ys (i + 1) n) same.0 rest) k (omega arith) (omega arith))
      (eq-or-lt_of_le from)

  pub made_by : (n : ℕ) → IsFromFnResult g f ys n → ys ≡ map t (range_with_len 0 n)
  made_by n made = fill_by_all t ys n 0 made.long (λ k below. from_each n 0 made.each k (omega arith) (omega arith))

-- the values of a plan body, place by place
pub values_made : (body : List ℕ) → map (λ place. byte_at body (3 + place)) (range_with_len 0 352) ≡ plan_values body
unfolding byte_at plan_values
values_made body = made (drop 3 body) 352
  where
    made : (bytes : List ℕ) (n : ℕ) → map (λ place. get_or body (3 + place) 0) (range_with_len 0 n) ≡ take n (drop 3 body ++ replicate n 0)
    made bytes n =
        let long : length (drop 3 body ++ replicate n 0) ≡ length (drop 3 body) + n = simp (length-append, length-replicate) in
        sym (fill_by_all (λ place. get_or body (3 + place) 0) (take n (drop 3 body ++ replicate n 0)) n 0 (length-take-le n _ (omega arith))
        (λ k below. get_or-take n (drop 3 body ++ replicate n 0) k 0 below ∙ padded_at (drop 3 body) n k ∙ get_or-drop 3 body k 0))

-- the bodies as the code cuts them out of a file
pub plan_cut : (file : List ℕ) → take (schedule_start file - 11) (drop 11 file) ≡ plan_body file
unfolding plan_body schedule_start
plan_cut file = rw add-sub_cancel_left

pub schedule_cut : (file : List ℕ) → take (length file - schedule_start file) (drop (schedule_start file) file) ≡ schedule_body file
unfolding schedule_body
schedule_cut file = take_all (length file - schedule_start file) (drop (schedule_start file) file) (simp length-drop (omega arith))

-- where the contents are right the schedule starts within the file, or at its end
pub start_most : (file : List ℕ) → contents_right file ≡ true → schedule_start file ≤ length file
unfolding contents_right
start_most file e =
    let ends = and_right (eqb (byte_at file 0) 2 && entry_at file 1 1 11 && entry_at file 6 2 (schedule_start file)) _ e in
    omega (arith, eqb-true (schedule_start file + entry_length file 6) (length file) ends)

-- where another number is given the test fails, and what comes later gives it
pub passed_over : (test : Bool) (number later given : ℕ) → (number ≡ given → ⊥) → refused_if test number later ≡ given → (test ≡ false) × (later ≡ given)
unfolding refused_if
passed_over true number later given other e = absurd (other e)
passed_over false number later given other e = (refl, e)

-- a test that does not refuse: it fails, and what comes later does not refuse
pub not-refused : (test : Bool) (number later : ℕ) → 0 < number → refused_if test number later ≡ 0 → (test ≡ false) × (later ≡ 0)
not-refused test number later h e = passed_over test number later 0 (λ same. omega arith) e

neither : (a b : Bool) → (a || b) ≡ false → (a ≡ false) × (b ≡ false)
neither true b e = (e, cc)
neither false b e = (refl, e)

-- what an accepted file gives
pub record AcceptedFile (file : List ℕ) : Type 0 where
  pub least : 11 ≤ length file
  pub most : length file ≤ 65535
  pub contents : contents_right file ≡ true
  pub plan_least : 3 ≤ length (plan_body file)
  pub plan_ends : ends_at false (byte_at (plan_body file) 2) (drop 3 (plan_body file)) ≡ true
  pub in_range_lem : in_range (plan_of (plan_body file)) ≡ true
  pub schedule : schedule_number (schedule_body file) ≡ 0

bodies_accepted : (plan schedule : List ℕ) → bodies_number plan schedule ≡ 0 →
    (plan_length_wrong plan ≡ false) × (in_range (plan_of plan) ≡ true) × (schedule_number schedule ≡ 0)
unfolding bodies_number
bodies_accepted plan schedule e =
    let long = not-refused (plan_length_wrong plan) 3 _ (omega arith) e in
    let range = not-refused (not (in_range (plan_of plan))) 4 _ (omega arith) long.1 in
    (long.0, not-false _ range.0, range.1)

pub accepted : (file : List ℕ) → file_number file ≡ 0 → AcceptedFile file
unfolding file_number length_wrong plan_length_wrong
accepted file e =
    let long = not-refused (length_wrong file) 1 _ (omega arith) e in
    let ends = neither (ltb (length file) 11) _ long.0 in
    let contents = not-refused (not (contents_right file)) 2 _ (omega arith) long.1 in
    let bodies = bodies_accepted (plan_body file) (schedule_body file) contents.1 in
    let plan = neither (ltb (length (plan_body file)) 3) _ bodies.0 in
    record {
      least = ltb-false _ _ ends.0;
      most = ltb-false _ _ ends.1;
      contents = not-false _ contents.0;
      plan_least = ltb-false _ _ plan.0;
      plan_ends = not-false _ plan.1;
      in_range_lem = bodies.1;
      schedule = bodies.2;
    }

-- the answer to a file tells its number and its place
schedule_told : (schedule : List ℕ) → file_answer_told (schedule_answer schedule) ≡ number_and_place (schedule_number schedule) schedule
unfolding schedule_answer schedule_number refused_if number_and_place file_answer_told file_answer_number file_answer_place refusal_number refusal_place
schedule_told schedule = go (bytes_left_over schedule) (item_kinds_right schedule)
  where
    go : (left right : Bool)
        → file_answer_told (cond left (Err BytesLeftOver) (cond right (Ok tt) (Err (BadItem (first_bad_item schedule)))))
        ≡ number_and_place (refused_if left 5 (refused_if (not right) 6 0)) schedule
    go true right = refl
    go false true = refl
    go false false = refl

bodies_told : (plan schedule : List ℕ) → file_answer_told (bodies_answer plan schedule) ≡ number_and_place (bodies_number plan schedule) schedule
unfolding bodies_answer bodies_number refused_if number_and_place file_answer_told file_answer_number file_answer_place refusal_number refusal_place
bodies_told plan schedule = go (plan_length_wrong plan) (in_range (plan_of plan))
  where
    go : (wrong right : Bool)
        → file_answer_told (cond wrong (Err WrongPlanLength) (cond right (schedule_answer schedule) (Err PlanOutOfRange)))
        ≡ number_and_place (refused_if wrong 3 (refused_if (not right) 4 (schedule_number schedule))) schedule
    go true right = refl
    go false true = schedule_told schedule
    go false false = refl

pub answer_told : (file : List ℕ) → file_answer_told (file_answer file) ≡ file_told file
unfolding file_answer file_told file_number refused_if number_and_place file_answer_told file_answer_number file_answer_place refusal_number refusal_place
answer_told file = go (length_wrong file) (contents_right file)
  where
    go : (wrong right : Bool)
        → file_answer_told (cond wrong (Err WrongLength) (cond right (bodies_answer (plan_body file) (schedule_body file)) (Err WrongContents)))
        ≡ number_and_place (refused_if wrong 1 (refused_if (not right) 2 (bodies_number (plan_body file) (schedule_body file)))) (schedule_body file)
    go true right = refl
    go false true = bodies_told (plan_body file) (schedule_body file)
    go false false = refl

pub told_by : (file : List ℕ) {answer : Result Unit FileRefusal} → answer ≡ file_answer file → file_answer_told answer ≡ file_told file
told_by file e = ap file_answer_told e ∙ answer_told file

pub answer_tells : AnswerTellsNumberAndPlace
unfolding file_place file_told file_answer_told number_and_place
answer_tells file = (ap (λ (t : Told). t.number) (answer_told file), ap (λ (t : Told). t.place) (answer_told file))

-- an accepted file has no number, a refused one has
pub refused_by : (file : List ℕ) → is_err (file_answer file) ≡ not (eqb (file_number file) 0)
unfolding file_answer_number refusal_number
refused_by file = go (file_answer file) ∙ ap (λ (n : ℕ). not (eqb n 0)) (answer_tells file).0
  where
    go : (answer : Result Unit FileRefusal) → is_err answer ≡ not (eqb (file_answer_number answer) 0)
    go (Ok accepted) = refl
    go (Err WrongLength) = refl
    go (Err WrongContents) = refl
    go (Err WrongPlanLength) = refl
    go (Err PlanOutOfRange) = refl
    go (Err BytesLeftOver) = refl
    go (Err (BadItem place)) = refl

-- where a file is not refused, the schedule starts within it, or at its end
pub start_within : (file : List ℕ) → is_err (file_answer file) ≡ false → schedule_start file ≤ length file
start_within file e = start_most file (accepted file (eqb-true _ _ (not-false _ (sym (refused_by file) ∙ e)))).contents

-- an accepted file shows its two bodies
pub plan_shown : (file : List ℕ) → file_number file ≡ 0 → plan_part file ≡ plan_body file
unfolding plan_part if_accepted
plan_shown file e = rw e

-- and its plan is in range
pub plan-in_range : (file : List ℕ) → file_number file ≡ 0 → in_range (plan_of (plan_part file)) ≡ true
plan-in_range file e = ap (λ (body : List ℕ). in_range (plan_of body)) (plan_shown file e) ∙ (accepted file e).in_range_lem
