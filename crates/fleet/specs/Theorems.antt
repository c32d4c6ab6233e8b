-- What proofs/ proves of the verdicts on night files, as sentences: what each verdict says of the file and of its run, for every file.
use Rattle.std.specs.Prelude.{ℕ, ◌^◌, ◌≤◌, ◌<◌, ◌≡◌, false, List, length, get_or}
use Rattle.nightfile.specs.File.{file_number, file_place, schedule_part}
use Rattle.run.specs.Outcomes.{file_text, file_outcome, schedule_sum}
use Rattle.ownsheet.specs.Numbers.{night_ceiling}
use Rattle.verdict.specs.declared.Verdict.TheVariants.{Incomplete, Refused, Cut, Good}
use Rattle.verdict.specs.Verdicts.{verdict_number, verdict_of}
use Rattle.verdict.specs.Lines.{count_of, worst_line}
use Rattle.morning.specs.declared.Entry.{Entry}
use Rattle.morning.specs.Counts.{all_of}
use Rattle.morning.specs.Theorems.{Schedules, night_after}
use Rattle.fleet.specs.Fleet.{NightFile, lines_of_file, schedules_of, Named, files_with}

-- the verdict on the lines of a file: of a refused one its number and place; of an accepted one by the worst of its run's lines
pub record VerdictOn (file : List ℕ) : Type 0 where
  pub refused : (file_number file ≡ 0 → ⊥)
      → verdict_of (file_text night_ceiling file)
      ≡ record { verdict = Refused; noted = record { count = 1; steps = 0; first = file_number file; second = file_place file } }
  pub accepted : file_number file ≡ 0 → verdict_of (file_text night_ceiling file) ≡ worst_line (lines_of_file file)

abbrev pub TheVerdictOnAFile : Type 0
TheVerdictOnAFile = (file : List ℕ) → VerdictOn file

-- what the night program writes is never incomplete
abbrev pub NoFileIsIncomplete : Type 0
NoFileIsIncomplete = (file : List ℕ) → (verdict_of (file_text night_ceiling file)).verdict ≡ Incomplete → ⊥

-- a file that is called good was accepted and run to the end of its schedule, no action of it was refused, no lock lost, and no take failed
pub record GoodRun (file : List ℕ) : Type 0 where
  pub accepted : file_number file ≡ 0
  pub not_cut : (file_outcome night_ceiling file).cut ≡ false
  pub to_its_end : schedule_sum (schedule_part file) ≤ night_ceiling
  pub no_action_refused : count_of 88 (lines_of_file file) ≡ 0
  pub no_lock_lost : count_of 76 (lines_of_file file) ≡ 0
  pub no_take_failed : count_of 78 (lines_of_file file) ≡ 0

abbrev pub GoodIsGood : Type 0
GoodIsGood = (file : List ℕ) → (verdict_of (file_text night_ceiling file)).verdict ≡ Good → GoodRun file

-- and only then: a file of which all this is so is called good
abbrev pub AllGoodAreCalledGood : Type 0
AllGoodAreCalledGood = (file : List ℕ) → GoodRun file → (verdict_of (file_text night_ceiling file)).verdict ≡ Good

-- a file that is called cut was accepted, its schedule's sum is above the ceiling, and no action of it was refused
pub record CutRun (file : List ℕ) : Type 0 where
  pub accepted : file_number file ≡ 0
  pub above : night_ceiling < schedule_sum (schedule_part file)
  pub no_action_refused : count_of 88 (lines_of_file file) ≡ 0

-- and only then
pub record CutOn (file : List ℕ) : Type 0 where
  pub is_cut : (verdict_of (file_text night_ceiling file)).verdict ≡ Cut → CutRun file
  pub is_called : CutRun file → (verdict_of (file_text night_ceiling file)).verdict ≡ Cut

abbrev pub CutIsCut : Type 0
CutIsCut = (file : List ℕ) → CutOn file

-- night files with their lines are schedules as the report reads them, so what morning's theorems say is said of them
abbrev pub NightFilesAreSchedules : Type 0
NightFilesAreSchedules = (files : List NightFile) → Named files → Schedules (schedules_of files)

-- the report of a night's files, with whatever room: each file is counted by the verdict on its lines, every file once, and none is incomplete
pub record FleetTold (rows : List Entry) (names : List ℕ) (files : List NightFile) : Type 0 where
  pub counts : (number : ℕ) → number < 7 → get_or (night_after rows names (schedules_of files)).counts number 0 ≡ files_with number files
  pub all : all_of (night_after rows names (schedules_of files)).counts ≡ length files
  pub none_incomplete : files_with (verdict_number Incomplete) files ≡ 0

abbrev pub TheFleetIsTold : Type 0
TheFleetIsTold = (rows : List Entry) (names : List ℕ) (files : List NightFile) → Named files → length files < 2 ^ 64 → FleetTold rows names files
