-- Enough buffers bring a run to its end: a run that is not over has a line to say, and a buffer with room for any line takes one or more.
use Prim.Native.Nat.{ℕ, suc, ◌≤◌, ◌<◌}
use mathlib.Core.Path.{◌≡◌, refl, ◌∙◌, ap}
use mathlib.Core.Bool.{Bool, true, false}
use mathlib.Core.List.{List, [], ◌∷◌}
use native.Mathlib.Omega.{arith}
use lib.ListN.{length, get_or}
use Rattle.course.specs.declared.Run.{Run}
use Rattle.course.specs.Standing.{beginning}
use Rattle.course.specs.Whole.{Course, says, silence, course}
use Rattle.nightfile.specs.File.{schedule_part}
use Rattle.run.specs.Filling.{stops_at, filling, after_buffers}
use Rattle.run.specs.Outcomes.{file_course, file_text}
use Rattle.run.specs.Theorems.{TheBuffersHoldTheFile, EnoughBuffersEndTheRun}
use Rattle.run.proofs.Ready.{course_over}
use Rattle.run.proofs.Along.{along}
use Rattle.run.proofs.Buffers.{buffers_hold_all, buffer_nearer}

-- a run that is not over has a line to say
some-line : (ceiling : ℕ) (schedule : List ℕ) (run : Run) → run.over ≡ false → 0 < length (course ceiling schedule run).lines
unfolding says
some-line ceiling schedule run o =
    along (λ reached. Unit) (λ c. 0 < length c.lines) (λ line run p. omega arith) (λ line before after rest p. omega arith) (λ run p. tt)
    (λ action node lock run p. tt) ceiling schedule run o tt

-- buffers leave a run that is over as it is
stays_over : (ceiling : ℕ) (schedule rooms : List ℕ) (run : Run) → run.over ≡ true → (after_buffers ceiling schedule rooms run).over ≡ true
unfolding after_buffers filling silence stops_at
stays_over ceiling schedule [] run o = o
stays_over ceiling schedule (room ∷ rooms) run o =
    stays_over ceiling schedule rooms (filling room (course ceiling schedule run)).run
    (ap (λ (c : Course). (stops_at room c.lines c.end).over) (course_over ceiling schedule run o) ∙ o)

-- as many buffers of 107 bytes or more as there are lines
enough : (ceiling : ℕ) (schedule rooms : List ℕ) (run : Run) → ((place : ℕ) → place < length rooms → 107 ≤ get_or rooms place 0)
    → length (course ceiling schedule run).lines ≤ length rooms → (after_buffers ceiling schedule rooms run).over ≡ true
unfolding after_buffers
enough ceiling schedule [] run large long = go run.over refl
  where
    go : (over : Bool) → run.over ≡ over → run.over ≡ true
    go true o = o
    go false o = absurd (omega (arith, some-line ceiling schedule run o, long))
enough ceiling schedule (room ∷ rooms) run large long =
    go (filling room (course ceiling schedule run)).run.over refl
    (λ fewer. enough ceiling schedule rooms (filling room (course ceiling schedule run)).run (λ place below. large (suc place) (omega arith)) fewer)
  where
    next : Run
    next = (filling room (course ceiling schedule run)).run

    go : (over : Bool) → next.over ≡ over
        → (length (course ceiling schedule next).lines ≤ length rooms → (after_buffers ceiling schedule rooms next).over ≡ true)
        → (after_buffers ceiling schedule rooms next).over ≡ true
    go true o again = stays_over ceiling schedule rooms next o
    go false o again = again (omega (arith, buffer_nearer ceiling schedule room run (large 0 (omega arith)) o, long))

-- of a file
pub enough_end : EnoughBuffersEndTheRun
unfolding file_course
enough_end ceiling file rooms large long = enough ceiling (schedule_part file) rooms (beginning file) large long

pub buffers_hold_file : TheBuffersHoldTheFile
unfolding file_text file_course
buffers_hold_file ceiling file rooms o = buffers_hold_all ceiling (schedule_part file) rooms (beginning file) o
