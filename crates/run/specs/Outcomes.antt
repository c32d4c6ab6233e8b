-- 01, "The run and its lines": the result of a run, and the lines of a file.
use Rattle.std.specs.Prelude.{ℕ, List}
use Rattle.nightfile.specs.File.{schedule_part}
use Rattle.tally.specs.Tally.{sum_of}
use Rattle.course.specs.declared.Run.{Run}
use Rattle.course.specs.declared.Phase.{Phase}
use Rattle.course.specs.declared.Phase.TheVariants.{Items, Ended, Cut, Refused}
use Rattle.run.specs.declared.Outcome.{Outcome}
use Rattle.course.specs.Standing.{locks_of, beginning}
use Rattle.course.specs.Wording.{is_cut}
use Rattle.course.specs.Whole.{Course, course, items_from, steps_in}
use Rattle.run.specs.Filling.{texts}

-- the number that the file is refused with; 0: none
unfoldable pub refusal_of : Phase → ℕ
refusal_of Items = 0
refusal_of Ended = 0
refusal_of Cut = 0
refusal_of (Refused number place) = number

-- 02, item 3: the place that is told beside that number; 0: none
unfoldable pub place_of : Phase → ℕ
place_of Items = 0
place_of Ended = 0
place_of Cut = 0
place_of (Refused number place) = place

-- the numbers of a run where it stands
unfoldable pub outcome_of : Run → Outcome
outcome_of run =
    record {
      refusal = refusal_of run.phase;
      place = place_of run.phase;
      cut = is_cut run.phase;
      steps = run.reached.steps;
      busy = run.reached.tally.busy;
      grants = sum_of run.reached.tally.grants (locks_of run);
      failed = sum_of run.reached.tally.failed (locks_of run);
    }

-- the course of a file under a ceiling
unfoldable pub file_course : ℕ → List ℕ → Course
file_course ceiling file = course ceiling (schedule_part file) (beginning file)

-- what is answered, and what is written, of a file
unfoldable pub file_outcome : ℕ → List ℕ → Outcome
file_outcome ceiling file = outcome_of (file_course ceiling file).end

unfoldable pub file_text : ℕ → List ℕ → List ℕ
file_text ceiling file = texts (file_course ceiling file).lines

-- "the schedule's sum": the steps of all its items
unfoldable pub schedule_sum : List ℕ → ℕ
schedule_sum schedule = steps_in (items_from schedule 0)
