-- What proofs/ proves over the definitions, as sentences: of every file under every ceiling, and of buffers of any sizes.
use Rattle.std.specs.Prelude.{ℕ, ◌+◌, ◌*◌, ◌^◌, ◌≤◌, ◌<◌, min, ◌≡◌, true, List, [], ◌∷◌, ◌++◌, ltb, length, get_or, take}
use Rattle.nightfile.specs.File.{schedule_body, file_number, file_place, schedule_part}
use Rattle.nightfile.specs.Theorems.{IsFirstBad}
use Rattle.lines.specs.Line.{line}
use Rattle.course.specs.declared.Run.{Run}
use Rattle.course.specs.Standing.{nodes_of, beginning}
use Rattle.course.specs.Whole.{Course, course}
use Rattle.run.specs.Filling.{texts, written, filling, filled_buffer, in_buffers, after_buffers}
use Rattle.run.specs.Outcomes.{file_course, file_outcome, file_text, schedule_sum}

-- "the steps it reports are the smaller of the ceiling and the schedule's sum"
abbrev pub TheSmallerOfBoth : Type 0
TheSmallerOfBoth =
    (ceiling : ℕ) (file : List ℕ) → file_number file ≡ 0 → (file_outcome ceiling file).steps ≡ min ceiling (schedule_sum (schedule_part file))

-- "C where the schedule's sum is above the ceiling"
abbrev pub CutAboveTheCeiling : Type 0
CutAboveTheCeiling =
    (ceiling : ℕ) (file : List ℕ) → file_number file ≡ 0 → (file_outcome ceiling file).cut ≡ ltb ceiling (schedule_sum (schedule_part file))

-- "A refused file gives only "0 Q number 0"."; 02, item 3: "The Q line's last number becomes that place for 6"
abbrev pub OnlyTheNumberAndPlace : Type 0
OnlyTheNumberAndPlace =
    (ceiling : ℕ) (file : List ℕ) → (file_number file ≡ 0 → ⊥) → file_text ceiling file ≡ line 0 81 (file_number file ∷ file_place file ∷ [])

-- the result has the file's number, 0 where the file is accepted, and its place, 0 where none is told
abbrev pub TheNumberInTheResult : Type 0
TheNumberInTheResult = (ceiling : ℕ) (file : List ℕ) → (file_outcome ceiling file).refusal ≡ file_number file

abbrev pub ThePlaceInTheResult : Type 0
ThePlaceInTheResult = (ceiling : ℕ) (file : List ℕ) → (file_outcome ceiling file).place ≡ file_place file

-- so for 6 the one line and the result name the first bad item of the file's schedule
pub record NamesTheFirstBad (ceiling : ℕ) (file : List ℕ) : Type 0 where
  pub place : ℕ
  pub first : IsFirstBad (schedule_body file) place
  pub text : file_text ceiling file ≡ line 0 81 (6 ∷ place ∷ [])
  pub result : (file_outcome ceiling file).place ≡ place

abbrev pub SixNamesTheFirstBad : Type 0
SixNamesTheFirstBad = (ceiling : ℕ) (file : List ℕ) → file_number file ≡ 6 → NamesTheFirstBad ceiling file

-- "and stays 0 for 1 to 5"
abbrev pub OthersStay0 : Type 0
OthersStay0 =
    (ceiling : ℕ) (file : List ℕ) → (file_number file ≡ 0 → ⊥) → (file_number file ≡ 6 → ⊥)
    → file_text ceiling file ≡ line 0 81 (file_number file ∷ 0 ∷ [])

-- buffers of any sizes, filled one after the other from any run: what they hold and what is still to be said are the run's lines
abbrev pub HeldAndStillToSay : Type 0
HeldAndStillToSay =
    (ceiling : ℕ) (schedule rooms : List ℕ) (run : Run)
    → in_buffers ceiling schedule rooms run ++ texts (course ceiling schedule (after_buffers ceiling schedule rooms run)).lines
    ≡ texts (course ceiling schedule run).lines

-- once the run is over they hold exactly its lines
abbrev pub TheBuffersHoldTheLines : Type 0
TheBuffersHoldTheLines =
    (ceiling : ℕ) (schedule rooms : List ℕ) (run : Run) → (after_buffers ceiling schedule rooms run).over ≡ true
    → in_buffers ceiling schedule rooms run ≡ texts (course ceiling schedule run).lines

-- the bytes that a buffer is used for are those that are written into it
abbrev pub TheUsedBytesAreWritten : Type 0
TheUsedBytesAreWritten =
    (buffer : List ℕ) (course : Course) → take (filling (length buffer) course).used (filled_buffer buffer course) ≡ written (length buffer) course

-- buffers of any sizes, filled from the beginning of a file, accepted or refused: once the run is over they hold exactly the file's lines
abbrev pub TheBuffersHoldTheFile : Type 0
TheBuffersHoldTheFile =
    (ceiling : ℕ) (file rooms : List ℕ) → (after_buffers ceiling (schedule_part file) rooms (beginning file)).over ≡ true
    → in_buffers ceiling (schedule_part file) rooms (beginning file) ≡ file_text ceiling file

-- and it does come to be over: as many buffers as the file has lines are enough, if each has room for any line, which is 107 bytes
abbrev pub EnoughBuffersEndTheRun : Type 0
EnoughBuffersEndTheRun =
    (ceiling : ℕ) (file rooms : List ℕ) → ((place : ℕ) → place < length rooms → 107 ≤ get_or rooms place 0)
    → length (file_course ceiling file).lines ≤ length rooms → (after_buffers ceiling (schedule_part file) rooms (beginning file)).over ≡ true

-- the counts of a run have 64 bits, and one that is at its top, 2 ^ 64 - 1, stays there (tally, `more` and `add_up`). At the end of a run they are
-- far below it: the steps are fewer than 2 ^ 32, a lock is busy at most once a step, and each of at most 64 nodes has at most one event a step.
-- So nothing was cut off on the way.
pub record SmallCounts (ceiling : ℕ) (file : List ℕ) : Type 0 where
  pub steps : (file_outcome ceiling file).steps < 2 ^ 32
  pub busy : (lock : ℕ) → get_or (file_outcome ceiling file).busy lock 0 ≤ (file_outcome ceiling file).steps
  pub events : (file_outcome ceiling file).grants + (file_outcome ceiling file).failed ≤ nodes_of (beginning file) * (file_outcome ceiling file).steps
  pub nodes : nodes_of (beginning file) ≤ 64

-- of every file, accepted or refused, under every ceiling; a file's bytes are below 256
abbrev pub NoCountIsCapped : Type 0
NoCountIsCapped = (ceiling : ℕ) (file : List ℕ) → ((place : ℕ) → get_or file place 0 < 256) → SmallCounts ceiling file
