-- What a promise equates tells answers apart: the numbers of refusals, and what a line's, start, an action and a step tell.
use Rattle.std.specs.Prelude.{Result, Ok, Err}
use Prim.Native.Nat.{ℕ, ◌-◌}
use mathlib.Core.Path.{◌≡◌, refl, sym, ap, ◌∙◌}
use mathlib.Core.List.{[], ◌∷◌}
use mathlib.Core.Bool.{cond}
use lib.Dec.{eqb}
use lib.ListN.{get_or}
use Rattle.acts.specs.declared.ActionRefusal.{ActionRefusal}
use Rattle.acts.specs.declared.ActionRefusal.TheVariants.{NoSuchNode, NoSuchLock, NotIdle, Holds, LettingGo, DoesNotHold, BadState}
use Rattle.acts.specs.Actions.{action_refusal_number, action_answer_number}
use Rattle.ring.specs.declared.PlanOutOfRange.{PlanOutOfRange}
use Rattle.ring.specs.declared.StepRefusal.{StepRefusal}
use Rattle.ring.specs.declared.StepRefusal.TheVariants.{BadState as Bad, QueueFull, Astray}
use Rattle.ring.specs.declared.Started.{Started}
use Rattle.ring.specs.declared.Acted.{Acted}
use Rattle.ring.specs.declared.Stepped.{Stepped}
use Rattle.ring.specs.State.{plan_answer_number, start_told}
use Rattle.ring.specs.Actions.{action_told}
use Rattle.ring.specs.Step.{step_answer_number, step_told}
use Rattle.nightfile.specs.declared.FileRefusal.{FileRefusal}
use Rattle.nightfile.specs.declared.FileRefusal.TheVariants.{WrongLength, WrongContents, WrongPlanLength, PlanOutOfRange as PlanWrong, BytesLeftOver, BadItem}
use Rattle.nightfile.specs.File.{Told as FileTold, refusal_number, refusal_place, file_answer_number, file_answer_place, file_answer_told}
use Rattle.lines.specs.declared.TooShort.{TooShort}
use Rattle.lines.specs.Line.{Told as LineTold, written_number, written_length, written_told}

-- two answers that are the one named are equal
pub same : {A : Type 0} {d x y : A} → x ≡ d → y ≡ d → x ≡ y
same p q = p ∙ sym q

-- f tells apart whatever can be read back
pub read_back : {A B : Type 0} (f : A → B) (back : B → A) → ((x : A) → back (f x) ≡ x) → (x y : A) → f x ≡ f y → x ≡ y
read_back f back law x y e = sym (law x) ∙ ap back e ∙ law y

-- the answers read back from their numbers
plan_answer : ℕ → Result Unit PlanOutOfRange
plan_answer number = cond (eqb number 0) (Ok tt) (Err (record {}))

plan_answer_lem : (x : Result Unit PlanOutOfRange) → plan_answer (plan_answer_number x) ≡ x
unfolding plan_answer plan_answer_number
plan_answer_lem (Ok nothing) = refl
plan_answer_lem (Err refusal) = refl

action_answer : ℕ → Result Unit ActionRefusal
action_answer number =
    get_or (Ok tt ∷ Err NoSuchNode ∷ Err NoSuchLock ∷ Err NotIdle ∷ Err Holds ∷ Err LettingGo ∷ Err DoesNotHold ∷ Err BadState ∷ []) (number - 6) (Ok tt)

action_answer_lem : (x : Result Unit ActionRefusal) → action_answer (action_answer_number x) ≡ x
unfolding action_answer action_answer_number action_refusal_number
action_answer_lem (Ok nothing) = refl
action_answer_lem (Err NoSuchNode) = refl
action_answer_lem (Err NoSuchLock) = refl
action_answer_lem (Err NotIdle) = refl
action_answer_lem (Err Holds) = refl
action_answer_lem (Err LettingGo) = refl
action_answer_lem (Err DoesNotHold) = refl
action_answer_lem (Err BadState) = refl

step_answer : ℕ → Result Unit StepRefusal
step_answer number = get_or (Ok tt ∷ Err Bad ∷ Err QueueFull ∷ Err Astray ∷ []) (number - 12) (Ok tt)

step_answer_lem : (x : Result Unit StepRefusal) → step_answer (step_answer_number x) ≡ x
unfolding step_answer step_answer_number
step_answer_lem (Ok nothing) = refl
step_answer_lem (Err Bad) = refl
step_answer_lem (Err QueueFull) = refl
step_answer_lem (Err Astray) = refl

file_answer : FileTold → Result Unit FileRefusal
file_answer told =
    get_or (Ok tt ∷ Err WrongLength ∷ Err WrongContents ∷ Err WrongPlanLength ∷ Err PlanWrong ∷ Err BytesLeftOver ∷ Err (BadItem told.place) ∷ []) told.number (Ok tt)

file_answer_lem : (x : Result Unit FileRefusal) → file_answer (file_answer_told x) ≡ x
unfolding file_answer file_answer_told file_answer_number file_answer_place refusal_number refusal_place
file_answer_lem (Ok accepted) = refl
file_answer_lem (Err WrongLength) = refl
file_answer_lem (Err WrongContents) = refl
file_answer_lem (Err WrongPlanLength) = refl
file_answer_lem (Err PlanWrong) = refl
file_answer_lem (Err BytesLeftOver) = refl
file_answer_lem (Err (BadItem place)) = refl

written_answer : LineTold → Result ℕ TooShort
written_answer told = cond (eqb told.number 0) (Ok told.length) (Err (record {}))

written_answer_lem : (x : Result ℕ TooShort) → written_answer (written_told x) ≡ x
unfolding written_answer written_told written_number written_length
written_answer_lem (Ok n) = refl
written_answer_lem (Err refusal) = refl

-- so numbers and what is told tell answers apart
pub file_apart : (x y : Result Unit FileRefusal) → file_answer_told x ≡ file_answer_told y → x ≡ y
file_apart = read_back file_answer_told file_answer file_answer_lem

pub written_apart : (x y : Result ℕ TooShort) → written_told x ≡ written_told y → x ≡ y
written_apart = read_back written_told written_answer written_answer_lem

pub answer_apart : (x y : Result Unit ActionRefusal) → action_answer_number x ≡ action_answer_number y → x ≡ y
answer_apart = read_back action_answer_number action_answer action_answer_lem

pub start_apart : (x y : Started) → start_told x ≡ start_told y → x ≡ y
unfolding start_told
start_apart = read_back start_told (λ t. record { answer = plan_answer t.number; state = t.state })
    (λ x i. record { answer = plan_answer_lem x.answer i; state = x.state })

pub action_apart : (x y : Acted) → action_told x ≡ action_told y → x ≡ y
unfolding action_told
action_apart = read_back action_told (λ t. record { answer = action_answer t.number; state = t.state })
    (λ x i. record { answer = action_answer_lem x.answer i; state = x.state })

pub step_apart : (x y : Stepped) → step_told x ≡ step_told y → x ≡ y
unfolding step_told
step_apart = read_back step_told (λ t. record { answer = step_answer t.number; state = t.state; events = t.events })
    (λ x i. record { answer = step_answer_lem x.answer i; state = x.state; events = x.events })
