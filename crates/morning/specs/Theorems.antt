-- What proofs/ proves of a night's text, as sentences: in whatever pieces it comes the same is told; each schedule is counted by its verdict, and listed where
-- it is not good and there is room; and the report goes through the listed ones worst first, each once.
use Rattle.std.specs.Prelude.{ℕ, ◌+◌, ◌^◌, ◌≤◌, ◌<◌, max, ◌≡◌, Bool, true, false, cond, not, ◌&&◌, List, [], ◌∷◌, ◌++◌, map, eqb, length, get_or, take, drop}
use Rattle.verdict.specs.declared.Verdict.{Verdict}
use Rattle.verdict.specs.declared.Verdict.TheVariants.{Incomplete, Refused, RefusedActions, Cut, LocksLost, TakesFailed, Good}
use Rattle.verdict.specs.Verdicts.{verdict_number, verdict_of}
use Rattle.morning.specs.declared.Night.{Night}
use Rattle.morning.specs.declared.Entry.{Entry}
use Rattle.morning.specs.Reading.{start_night, shown, after_all, rows_after_all, names_after_all, end_night, rows_end_night}
use Rattle.morning.specs.Order.{entry_at, first_entry, report_order, visited}

-- ---- the pieces do not matter

pub record SameInPieces (night : Night) (piece rest : List ℕ) (rows : List Entry) (names : List ℕ) : Type 0 where
  pub stands : after_all (length rows) (length names) night (piece ++ rest)
      ≡ after_all (length rows) (length names) (after_all (length rows) (length names) night piece) rest
  pub told : rows_after_all (length names) night (piece ++ rest) rows
      ≡ rows_after_all (length names) (after_all (length rows) (length names) night piece) rest (rows_after_all (length names) night piece rows)
  pub named : names_after_all (length rows) night (piece ++ rest) names
      ≡ names_after_all (length rows) (after_all (length rows) (length names) night piece) rest (names_after_all (length rows) night piece names)

abbrev pub ThePiecesDoNotMatter : Type 0
ThePiecesDoNotMatter = (night : Night) (piece rest : List ℕ) (rows : List Entry) (names : List ℕ) → SameInPieces night piece rest rows names

-- ---- the schedules of a night

-- a schedule: its file's name, and its text
pub record Schedule : Type 0 where
  pub name : List ℕ
  pub text : List ℕ

-- where there is none
abbrev pub no_schedule : Schedule
no_schedule = record { name = []; text = [] }

-- a name has no newline
unfoldable pub is_name : List ℕ → Bool
is_name [] = true
is_name (byte ∷ rest) = not (eqb byte 10) && is_name rest

-- no line of a text begins with `>`, and its last line has its newline
unfoldable pub has_no_head : Bool → List ℕ → Bool
has_no_head start [] = start
has_no_head start (byte ∷ rest) = not (start && eqb byte 62) && has_no_head (eqb byte 10) rest

pub data Schedules : List Schedule → Type 0 where
  none : Schedules []
  one_more : {schedule : Schedule} {rest : List Schedule} → is_name schedule.name ≡ true → has_no_head true schedule.text ≡ true → Schedules rest
      → Schedules (schedule ∷ rest)

-- head line and lines, one schedule after the other
unfoldable pub night_text : List Schedule → List ℕ
night_text [] = []
night_text (schedule ∷ rest) = 62 ∷ (schedule.name ++ (10 ∷ (schedule.text ++ night_text rest)))

unfoldable pub number_of : Schedule → ℕ
number_of schedule = verdict_number (verdict_of schedule.text).verdict

-- how many have a verdict
unfoldable pub count_of : ℕ → List Schedule → ℕ
count_of number [] = 0
count_of number (schedule ∷ rest) = cond (eqb (number_of schedule) number) 1 0 + count_of number rest

-- one verdict is good
unfoldable pub is_good : Verdict → Bool
is_good Incomplete = false
is_good Refused = false
is_good RefusedActions = false
is_good Cut = false
is_good LocksLost = false
is_good TakesFailed = false
is_good Good = true

-- those that are not good, in order
unfoldable pub not_good : List Schedule → List Schedule
not_good [] = []
not_good (schedule ∷ rest) = cond (is_good (verdict_of schedule.text).verdict) (not_good rest) (schedule ∷ not_good rest)

-- the longest name's bytes
unfoldable pub longest_name : List Schedule → ℕ
longest_name [] = 0
longest_name (schedule ∷ rest) = max (length schedule.name) (longest_name rest)

-- the bytes of all names
unfoldable pub name_bytes : List Schedule → ℕ
name_bytes [] = 0
name_bytes (schedule ∷ rest) = length schedule.name + name_bytes rest

-- the row of a schedule: its verdict, what that rests on, and its name as it is shown
pub record RowOf (rows : List Entry) (names : List ℕ) (k : ℕ) (schedule : Schedule) : Type 0 where
  pub verdict : (entry_at rows k).verdict ≡ number_of schedule
  pub count : (entry_at rows k).noted.count ≡ (verdict_of schedule.text).noted.count
  pub steps : (entry_at rows k).noted.steps ≡ (verdict_of schedule.text).noted.steps
  pub first : (entry_at rows k).noted.first ≡ (verdict_of schedule.text).noted.first
  pub second : (entry_at rows k).noted.second ≡ (verdict_of schedule.text).noted.second
  pub long : (entry_at rows k).end ≡ (entry_at rows k).start + length schedule.name
  pub inside : (entry_at rows k).end ≤ length names
  pub name : take (length schedule.name) (drop (entry_at rows k).start names) ≡ map shown schedule.name

-- at the end of the text: as `after_all` leaves the state, the rows and the names, and the last schedule ended
abbrev pub night_after : List Entry → List ℕ → List Schedule → Night
night_after rows names schedules = end_night (length rows) (after_all (length rows) (length names) start_night (night_text schedules))

abbrev pub rows_after : List Entry → List ℕ → List Schedule → List Entry
rows_after rows names schedules =
    rows_end_night (after_all (length rows) (length names) start_night (night_text schedules)) (rows_after_all (length names) start_night (night_text schedules) rows)

abbrev pub names_after : List Entry → List ℕ → List Schedule → List ℕ
names_after rows names schedules = names_after_all (length rows) start_night (night_text schedules) names

-- with whatever room, every schedule is counted by its verdict, and those that are not good are listed or counted as not listed
pub record Counted (rows : List Entry) (names : List ℕ) (schedules : List Schedule) : Type 0 where
  pub counts : (number : ℕ) → number < 7 → get_or (night_after rows names schedules).counts number 0 ≡ count_of number schedules
  pub all : (night_after rows names schedules).listed + (night_after rows names schedules).unlisted ≡ length (not_good schedules)

abbrev pub EveryScheduleIsCounted : Type 0
EveryScheduleIsCounted =
    (rows : List Entry) (names : List ℕ) (schedules : List Schedule) → Schedules schedules → length schedules < 2 ^ 64 → Counted rows names schedules

-- where there is room for the rows and names of those that are not good, and for one name more, all that are not good are listed, in order, each with its row and its name
pub record Listed (rows : List Entry) (names : List ℕ) (schedules : List Schedule) : Type 0 where
  pub listed : (night_after rows names schedules).listed ≡ length (not_good schedules)
  pub unlisted : (night_after rows names schedules).unlisted ≡ 0
  pub row : (k : ℕ) → k < length (not_good schedules)
      → RowOf (rows_after rows names schedules) (names_after rows names schedules) k (get_or (not_good schedules) k no_schedule)

abbrev pub AllAreListed : Type 0
AllAreListed =
    (rows : List Entry) (names : List ℕ) (schedules : List Schedule) → Schedules schedules → length (not_good schedules) ≤ length rows
    → name_bytes (not_good schedules) + longest_name schedules ≤ length names → Listed rows names schedules

-- what was read of a schedule stays when it has ended: what is read behind the end of a night goes on with it
abbrev pub TheEndKeepsWhatWasRead : Type 0
TheEndKeepsWhatWasRead = (room : ℕ) (night : Night) → (end_night room night).hand.watch ≡ night.hand.watch

-- ---- the order of the report

-- going from the first listed schedule to the next, each is met once: by verdict, worst first, and of one verdict in the order of the text
abbrev pub WorstFirst : Type 0
WorstFirst = (rows : List Entry) (listed most : ℕ) → listed < most → visited rows listed (first_entry rows listed) most ≡ report_order rows listed
