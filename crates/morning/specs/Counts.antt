-- What the counts by verdict come to: the bad schedules, those to be looked at, all of them; and that they are counted so.
use Rattle.std.specs.Prelude.{ℕ, ◌+◌, ◌-◌, ◌^◌, ◌<◌, min, ◌≡◌, Bool, true, cond, ◌&&◌, List, [], ◌∷◌, eqb, length, get_or}
use Rattle.verdict.specs.Verdicts.{is_bad, is_looked_at}
use Rattle.morning.specs.declared.Entry.{Entry}
use Rattle.morning.specs.Reading.{start_night, after_all, end_night}
use Rattle.morning.specs.Theorems.{Schedule, Schedules, number_of, night_after}

-- two counts together; a count of 64 bits that is at its top stays there
unfoldable pub together : ℕ → ℕ → ℕ
together one other = min (one + other) (2 ^ 64 - 1)

unfoldable pub bad_of : List ℕ → ℕ
bad_of counts = together (together (get_or counts 0 0) (get_or counts 1 0)) (together (get_or counts 2 0) (get_or counts 3 0))

unfoldable pub looked_at_of : List ℕ → ℕ
looked_at_of counts = together (get_or counts 4 0) (get_or counts 5 0)

unfoldable pub all_of : List ℕ → ℕ
all_of counts = together (together (bad_of counts) (looked_at_of counts)) (get_or counts 6 0)

-- how many schedules have a verdict of which this holds
unfoldable pub with_verdict : (ℕ → Bool) → List Schedule → ℕ
with_verdict holds [] = 0
with_verdict holds (schedule ∷ rest) = cond (holds (number_of schedule)) 1 0 + with_verdict holds rest

-- the report's three sums, with whatever room for rows and names
pub record Summed (rows : List Entry) (names : List ℕ) (schedules : List Schedule) : Type 0 where
  pub bad : bad_of (night_after rows names schedules).counts ≡ with_verdict is_bad schedules
  pub looked_at : looked_at_of (night_after rows names schedules).counts ≡ with_verdict is_looked_at schedules
  pub all : all_of (night_after rows names schedules).counts ≡ length schedules

abbrev pub TheSumsAreTheSchedules : Type 0
TheSumsAreTheSchedules =
    (rows : List Entry) (names : List ℕ) (schedules : List Schedule) → Schedules schedules → length schedules < 2 ^ 64 → Summed rows names schedules

-- of every text whatever, cut off or not: each head line begins a schedule, and so do lines before the first one; and each is counted once
unfoldable pub heads_in : Bool → List ℕ → ℕ
heads_in start [] = 0
heads_in start (byte ∷ rest) = cond (start && eqb byte 62) 1 0 + heads_in (eqb byte 10) rest

unfoldable pub nameless : List ℕ → ℕ
nameless [] = 0
nameless (byte ∷ rest) = cond (eqb byte 62) 0 1

abbrev pub NoScheduleIsLost : Type 0
NoScheduleIsLost =
    (rows : List Entry) (names text : List ℕ) → length text < 2 ^ 64
    → all_of (end_night (length rows) (after_all (length rows) (length names) start_night text)).counts ≡ nameless text + heads_in true text
