-- What demand 3 says of a night run, as sentences that proofs/ proves of every accepted file and every ceiling.
use Rattle.std.specs.Prelude.{ℕ, ◌/◌, ◌<◌, ◌≡◌, Bool, true, false, List, [], length, get_or}
use Rattle.cars.specs.Cars.{multiring}
use Rattle.plan.specs.declared.Plan.{Plan}
use Rattle.plan.specs.Plan.{in_range}
use Rattle.ring.specs.declared.State.{State}
use Rattle.ring.specs.Step.{stepping}
use Rattle.nightfile.specs.File.{file_number, schedule_part}
use Rattle.course.specs.declared.Run.{Run}
use Rattle.course.specs.Whole.{Course, items_from, course}
use Rattle.run.specs.Outcomes.{file_course, file_outcome, file_text}
use Rattle.onelock.specs.OneLock.{Item, reached, history, plain}
use Rattle.nightlock.specs.NightLock.{plan_in, items_of, PassesThrough, IsReached, Stands, EachSaid, reported}
use Rattle.nightlock.specs.Busy.{some_has, some_holds, file_steps, text_by, is_held, with_busy}

-- the items that a run goes by are all items of its schedule, also those whose steps are summed
abbrev pub AllItems : Type 0
AllItems = (file : List ℕ) → items_from (schedule_part file) 0 ≡ items_of (schedule_part file) 0 (length (schedule_part file) / 3)

-- every state that the run passes through is a state of demand 3's statement
abbrev pub EveryStateIsReached : Type 0
EveryStateIsReached = (file : List ℕ) → file_number file ≡ 0 → (state : State) → PassesThrough file state → IsReached (plan_in file) state

-- the run before and after each line stands where a first part of the file's own items has brought it
abbrev pub EveryLineStands : Type 0
EveryLineStands =
    (ceiling : ℕ) (file : List ℕ) → file_number file ≡ 0 → EachSaid (λ said. Stands file said.before × Stands file said.after) (file_course ceiling file).lines

-- no step of it is refused: the step is done in every such state
abbrev pub NoStepRefused : Type 0
NoStepRefused = (file : List ℕ) → file_number file ≡ 0 → (items : List Item) → (stepping (reached (plan_in file) items)).number ≡ 0

-- the run ends where some first part of the items has brought it, all of them where it is not cut, and what its lines report of a lock, each grant and
-- each ending at the time that its line says, is the lock's history over these items
pub record Reported (ceiling : ℕ) (file : List ℕ) : Type 0 where
  pub stands : Stands file (file_course ceiling file).end
  pub all : (file_outcome ceiling file).cut ≡ false → stands.left ≡ []
  pub lines : (lock : ℕ) → reported (plan_in file).rules lock (file_course ceiling file).lines ≡ history (plan_in file) stands.done lock

abbrev pub TheLinesAreTheHistory : Type 0
TheLinesAreTheHistory = (ceiling : ℕ) (file : List ℕ) → file_number file ≡ 0 → Reported ceiling file

-- a run's busy steps, in its text and in its result, are the steps that it did after which it is so of the lock
pub record BusyStepsAre (so : ℕ → State → Bool) (ceiling : ℕ) (file : List ℕ) : Type 0 where
  pub text : file_text ceiling file ≡ text_by (file_steps so file) (file_course ceiling file).lines
  pub result : (lock : ℕ) → lock < (plan_in file).locks
      → get_or (file_outcome ceiling file).busy lock 0 ≡ file_steps so file (file_outcome ceiling file).steps lock

-- under all four rules "some node holds it or is letting it go"; a file's bytes are below 256
abbrev pub BusyStepsOfSomeHas : Type 0
BusyStepsOfSomeHas =
    (ceiling : ℕ) (file : List ℕ) → ((place : ℕ) → get_or file place 0 < 256) → file_number file ≡ 0 → BusyStepsAre some_has ceiling file

-- "ring files keep their lines, since nothing is let go there": there it is the same to say "some node holds it"
abbrev pub RingFilesKeepTheirLines : Type 0
RingFilesKeepTheirLines =
    (ceiling : ℕ) (file : List ℕ) → ((place : ℕ) → get_or file place 0 < 256) → file_number file ≡ 0 → multiring (plan_in file).rules ≡ false
    → BusyStepsAre some_holds ceiling file

-- two courses that differ in busy steps only: they say the same but for the busy steps of their H lines, and end the same but for their busy counts
pub record OnlyBusyDiffers (one other : Course) : Type 0 where
  pub text : (count : ℕ → ℕ → ℕ) → text_by count one.lines ≡ text_by count other.lines
  pub end : one.end ≡ with_busy one.end.reached.tally.busy other.end

-- busy counts reach nothing else: so it is of a run and the same run with other busy counts, whatever they are
abbrev pub OnlyLockLinesTellBusySteps : Type 0
OnlyLockLinesTellBusySteps =
    (ceiling : ℕ) (schedule counts : List ℕ) (run : Run) → OnlyBusyDiffers (course ceiling schedule (with_busy counts run)) (course ceiling schedule run)

-- after every schedule a lock is busy exactly where its history gives it a holder: from its grant to its ending, which under multiring rules is the
-- didv's going
abbrev pub BusyWhileHeld : Type 0
BusyWhileHeld =
    (plan : Plan) → in_range plan ≡ true → (items : List Item) (lock : ℕ) → some_has lock (reached plan items) ≡ is_held (plain (history plan items lock))
