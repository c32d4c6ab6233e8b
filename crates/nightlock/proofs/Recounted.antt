-- Lines with another count of busy steps: only an H line changes, and where the count is the run's own no line does.
use Rattle.std.specs.Prelude.{Option, None, Some, is_some}
use Prim.Native.Nat.{ℕ}
use mathlib.Core.Path.{◌≡◌, refl, sym, ap, ap₂}
use mathlib.Core.Bool.{Bool, true, false, cond}
use mathlib.Core.List.{List, [], ◌∷◌, ◌++◌}
use lib.Dec.{eqb}
use Rattle.acts.specs.declared.Action.{Action}
use Rattle.acts.specs.declared.Action.TheVariants.{Take, Release, Force}
use Rattle.turns.specs.declared.Event.{Event}
use Rattle.turns.specs.declared.Event.TheVariants.{Granted, Failed, Lost, Back, Sent}
use Rattle.turns.specs.Turn.{event_letter, event_lock}
use Rattle.items.specs.Items.{place_at}
use Rattle.wording.specs.Wording.{text, line_of, action_letter, action_says, refused_says, event_says, lock_says, end_letter, last_says}
use Rattle.course.specs.declared.Run.{Run}
use Rattle.course.specs.Wording.{event_here, is_cut, event_line, action_refusal, action_line, last_line}
use Rattle.course.specs.Whole.{Said}
use Rattle.run.specs.Filling.{texts}
use Rattle.nightlock.specs.NightLock.{EachSaid}
use Rattle.nightlock.specs.Busy.{third_and_fourth, recounted, CountedAnewItHasFour, text_by}

-- an H line counted anew has four numbers, whatever it had
pub counted_anew_it_has_four : CountedAnewItHasFour
unfolding recounted lock_says
counted_anew_it_has_four count line e = ap (λ (n : ℕ). is_some (cond (eqb n 72) (lock_says line.steps line.first (count line.steps line.first) (third_and_fourth line.more).0 (third_and_fourth line.more).1) line).more) e

module _ (count : ℕ → ℕ → ℕ) where
  -- an H line with this count
  pub lock_recounted : (steps lock busy grants failed : ℕ) → busy ≡ count steps lock
      → recounted count (lock_says steps lock busy grants failed) ≡ lock_says steps lock busy grants failed
  unfolding third_and_fourth recounted lock_says
  lock_recounted steps lock busy grants failed e = ap (λ (n : ℕ). lock_says steps lock n grants failed) (sym e)

  -- no other line is an H line
  event_same : (steps place : ℕ) (event : Option Event) → recounted count (event_says steps place event) ≡ event_says steps place event
  unfolding recounted event_says line_of event_letter event_lock
  event_same steps place None = refl
  event_same steps place (Some (Granted lock)) = refl
  event_same steps place (Some (Failed lock)) = refl
  event_same steps place (Some (Lost lock)) = refl
  event_same steps place (Some (Back lock)) = refl
  event_same steps place (Some (Sent lock)) = refl

  pub event_recounted : (run : Run) → recounted count (event_line run) ≡ event_line run
  unfolding event_line
  event_recounted run = event_same _ _ (event_here run)

  action_same : (steps : ℕ) (action : Action) (node lock : ℕ) → recounted count (action_says steps action node lock) ≡ action_says steps action node lock
  unfolding recounted action_says line_of action_letter
  action_same steps Take node lock = refl
  action_same steps Release node lock = refl
  action_same steps Force node lock = refl

  pub action_recounted : (action : Action) (node lock : ℕ) (run : Run) → recounted count (action_line action node lock run) ≡ action_line action node lock run
  unfolding action_line recounted refused_says line_of
  action_recounted action node lock run = go (eqb (action_refusal action node lock run) 0)
    where
      go : (accepted : Bool)
          → recounted count (cond accepted (action_says run.reached.steps action node lock) (refused_says run.reached.steps (action_refusal action node lock run) (place_at run.at)))
          ≡ cond accepted (action_says run.reached.steps action node lock) (refused_says run.reached.steps (action_refusal action node lock run) (place_at run.at))
      go true = action_same run.reached.steps action node lock
      go false = refl

  last_same : (cut : Bool) (steps grants failed : ℕ) → recounted count (last_says steps cut grants failed) ≡ last_says steps cut grants failed
  unfolding recounted last_says line_of end_letter
  last_same true steps grants failed = refl
  last_same false steps grants failed = refl

  pub last_recounted : (run : Run) → recounted count (last_line run) ≡ last_line run
  unfolding last_line
  last_recounted run = last_same (is_cut run.phase) _ _ _

  -- lines that are all as they were
  pub text-recounted : (lines : List Said) → EachSaid (λ said. recounted count said.line ≡ said.line) lines → texts lines ≡ text_by count lines
  unfolding texts text_by EachSaid
  text-recounted [] each = refl
  text-recounted (said ∷ rest) each = ap₂ (λ (first others : List ℕ). first ++ others) (ap text (sym each.0)) (text-recounted rest each.1)

-- two counts that are the same
pub text_same : (count other : ℕ → ℕ → ℕ) → ((steps lock : ℕ) → count steps lock ≡ other steps lock) → (lines : List Said) → text_by count lines ≡ text_by other lines
text_same count other e lines = ap (λ (c : ℕ → ℕ → ℕ). text_by c lines) (λ i steps lock. e steps lock i)
