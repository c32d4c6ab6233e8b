-- A run that is ready can be read off its course: it is the run before the first line or, where all is said, the run at the end.
use Rattle.std.specs.Prelude.{Option, None, Some}
use Prim.Native.Nat.{ℕ}
use mathlib.Core.Path.{◌≡◌, refl, ap, sym, ◌∙◌}
use mathlib.Core.Bool.{Bool, true, false}
use mathlib.Core.List.{List, [], ◌∷◌}
use Rattle.course.specs.declared.Run.{Run}
use Rattle.course.specs.Whole.{Said, Course, says, silence, course}
use Rattle.course.specs.Ready.{ready}
use contract.Lifetimes.{Lfts}
use Rattle.course.proofs.Run.onward.Reads as onward
use Rattle.settled.specs.Settled.{OneTold}
use Rattle.settled.proofs.Apart.{same}
use Rattle.run.specs.Current.{Saying}
use Rattle.run.proofs.Ready.{Goes, course_over, ready_goes}

before_first : List Said → Run → Run
before_first [] end = end
before_first (said ∷ rest) end = said.before

pub stands : Course → Run
stands c = before_first c.lines c.end

-- a run that has a line to say is the run before it
says_stands : (ceiling : ℕ) (schedule : List ℕ) (run : Run) (said : Option Saying) → Goes ceiling schedule run said → stands (course ceiling schedule run) ≡ run
unfolding stands before_first says
says_stands ceiling schedule run None goes = absurd goes
says_stands ceiling schedule run (Some said) goes = ap stands goes

stands_by : (ceiling : ℕ) (schedule : List ℕ) (run : Run) (over : Bool) → run.over ≡ over → ready schedule run ≡ true
    → stands (course ceiling schedule run) ≡ run
unfolding stands before_first says silence
stands_by ceiling schedule run true o r = ap stands (course_over ceiling schedule run o)
stands_by ceiling schedule run false o r = says_stands ceiling schedule run _ (ready_goes ceiling schedule run r o)

pub ready_stands : (ceiling : ℕ) (schedule : List ℕ) (run : Run) → ready schedule run ≡ true → stands (course ceiling schedule run) ≡ run
ready_stands ceiling schedule run r = stands_by ceiling schedule run run.over refl r

-- so the promise of `Run::onward`, that the course is the one it was and the run is ready, leaves one run
pub onward_settled : (κ : Lfts 1) → OneTold (λ r e. r) (onward.Learnt κ)
onward_settled κ a x y d e p q =
    sym (ready_stands _ _ x p.1) ∙ ap stands (same p.0 q.0) ∙ ready_stands _ _ y q.1
