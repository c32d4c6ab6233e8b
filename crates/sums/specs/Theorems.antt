-- What proofs/ proves over the definitions of the sheet, as sentences.
use Rattle.std.specs.Prelude.{ℕ, ◌+◌, ◌*◌, ◌^◌, ◌≤◌, ◌<◌, ◌≡◌, List, [], length, get_or}
use Rattle.lists.specs.Loops.{total}
use Rattle.sums.specs.declared.Sheet.{Sheet}
use Rattle.sums.specs.declared.MadeSheet.{MadeSheet}
use Rattle.sums.specs.Sheet.{lock_places, steps_place, locks_place, busy_place, grants_place, failed_place, run_count, number_at, sheet_locks, over_runs, sheet_number, empty_sheet, busy_of, grants_of, failed_of, shares_of, making}
use Rattle.sums.specs.Text.{sheet_room, sheet_text}

-- "Sums equal the sums of the runs": the sheet has the runs' locks, and at each the sum over the runs of the number that the run has for it; 0
-- behind them
pub record SumsAt (numbers : List ℕ) (lock : ℕ) : Type 0 where
  pub locks : (making numbers).sheet.locks ≡ sheet_locks numbers
  pub busy : get_or (busy_of (making numbers).sheet) lock 0 ≡ total (number_at numbers (busy_place + lock)) (run_count numbers)
  pub grants : get_or (grants_of (making numbers).sheet) lock 0 ≡ total (number_at numbers (grants_place + lock)) (run_count numbers)
  pub failed : get_or (failed_of (making numbers).sheet) lock 0 ≡ total (number_at numbers (failed_place + lock)) (run_count numbers)

abbrev pub TheSumsOfTheRuns : Type 0
TheSumsOfTheRuns = (numbers : List ℕ) (lock : ℕ) → sheet_number numbers ≡ 0 → lock < sheet_locks numbers → SumsAt numbers lock

pub record NothingAt (sheet : Sheet) (lock : ℕ) : Type 0 where
  pub busy : get_or (busy_of sheet) lock 0 ≡ 0
  pub grants : get_or (grants_of sheet) lock 0 ≡ 0
  pub failed : get_or (failed_of sheet) lock 0 ≡ 0
  pub share : get_or (shares_of sheet) lock 0 ≡ 0

abbrev pub NothingBehindTheLocks : Type 0
NothingBehindTheLocks = (numbers : List ℕ) (lock : ℕ) → (making numbers).sheet.locks ≤ lock → NothingAt (making numbers).sheet lock

-- "the busy share in whole parts per million rounded down, with 0 where no step ran": over all runs' steps
pub record RoundedDown (numbers : List ℕ) (lock : ℕ) : Type 0 where
  pub no_step : over_runs numbers steps_place ≡ 0 → get_or (shares_of (making numbers).sheet) lock 0 ≡ 0
  pub at_most : get_or (shares_of (making numbers).sheet) lock 0 * over_runs numbers steps_place ≤ over_runs numbers (busy_place + lock) * 1000000
  pub less_than_one_more : 0 < over_runs numbers steps_place
      → over_runs numbers (busy_place + lock) * 1000000 < (get_or (shares_of (making numbers).sheet) lock 0 + 1) * over_runs numbers steps_place

abbrev pub TheShareIsRoundedDown : Type 0
TheShareIsRoundedDown = (numbers : List ℕ) (lock : ℕ) → sheet_number numbers ≡ 0 → lock < sheet_locks numbers → RoundedDown numbers lock

-- "No runs give an empty sheet", and so does a refusal
abbrev pub NoRunsNoSheet : Type 0
NoRunsNoSheet = making [] ≡ record { number = 0; sheet = empty_sheet }

abbrev pub RefusedIsEmpty : Type 0
RefusedIsEmpty = (numbers : List ℕ) → (sheet_number numbers ≡ 0 → ⊥) → (making numbers).sheet ≡ empty_sheet

-- "the order of runs doesn't change them". A run of one input is a run of another in what is read of it: its steps, its number of locks, and of
-- each of these locks three numbers
pub record SameRun (one : List ℕ) (i : ℕ) (other : List ℕ) (j : ℕ) : Type 0 where
  pub steps : number_at one steps_place i ≡ number_at other steps_place j
  pub locks : number_at one locks_place i ≡ number_at other locks_place j
  pub busy : (lock : ℕ) → lock < number_at one locks_place i → lock < lock_places → number_at one (busy_place + lock) i ≡ number_at other (busy_place + lock) j
  pub grants : (lock : ℕ) → lock < number_at one locks_place i → lock < lock_places → number_at one (grants_place + lock) i ≡ number_at other (grants_place + lock) j
  pub failed : (lock : ℕ) → lock < number_at one locks_place i → lock < lock_places → number_at one (failed_place + lock) i ≡ number_at other (failed_place + lock) j

-- two runs changed places, all else stayed
pub record ChangedPlaces (one other : List ℕ) : Type 0 where
  pub long : length one ≡ length other
  pub i : ℕ
  pub j : ℕ
  pub i_below : i < run_count one
  pub j_below : j < run_count one
  pub there : SameRun one i other j
  pub back : SameRun one j other i
  pub others : (run : ℕ) → run < run_count one → (run ≡ i → ⊥) → (run ≡ j → ⊥) → SameRun one run other run

-- any permutation is made of such changes
pub data Reordered : List ℕ → List ℕ → Type 0 where
  same : {one : List ℕ} → Reordered one one
  changed : {one other : List ℕ} → ChangedPlaces one other → Reordered one other
  then : {one other third : List ℕ} → Reordered one other → Reordered other third → Reordered one third

-- the number that is told and the whole sheet, refused or not
abbrev pub TheOrderDoesNotMatter : Type 0
TheOrderDoesNotMatter = (one other : List ℕ) → Reordered one other → making one ≡ making other

-- nothing else is read: not the places behind a run's locks
abbrev pub NothingElseIsRead : Type 0
NothingElseIsRead =
    (one other : List ℕ) → length one ≡ length other → ((run : ℕ) → run < run_count one → SameRun one run other run) → making one ≡ making other

-- why nothing wraps: of runs that are not refused all steps together are at most 400 times 1,000,000; so the largest product, busy steps times
-- 1,000,000, is at most 4 * 10 ^ 14, and 2 ^ 64 is above 10 ^ 19
pub record SmallSums (numbers : List ℕ) (lock : ℕ) : Type 0 where
  pub steps : over_runs numbers steps_place ≤ 400000000
  pub busy : over_runs numbers (busy_place + lock) ≤ over_runs numbers steps_place
  pub grants : over_runs numbers (grants_place + lock) ≤ 64 * over_runs numbers steps_place
  pub failed : over_runs numbers (failed_place + lock) ≤ 64 * over_runs numbers steps_place
  pub product : over_runs numbers (busy_place + lock) * 1000000 < 2 ^ 64
  pub share : get_or (shares_of (making numbers).sheet) lock 0 ≤ 1000000

abbrev pub NothingWraps : Type 0
NothingWraps = (numbers : List ℕ) (lock : ℕ) → sheet_number numbers ≡ 0 → lock < sheet_locks numbers → SmallSums numbers lock

-- the room that the writer of sheets asks for is enough for every answer
abbrev pub RoomForEverySheet : Type 0
RoomForEverySheet = (made : MadeSheet) → length (sheet_text made) ≤ sheet_room
