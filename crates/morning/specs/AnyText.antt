-- Any text whatever as the schedules of a night, cut at its head lines, and that these are the schedules that are counted and listed: also of a text that is
-- cut off, or in which a schedule's last line lacks its newline.
use Rattle.std.specs.Prelude.{ℕ, ◌+◌, ◌^◌, ◌≤◌, ◌<◌, ◌≡◌, Bool, true, false, cond, List, [], ◌∷◌, eqb, length, get_or}
use Rattle.morning.specs.declared.Place.{Place}
use Rattle.morning.specs.declared.Place.TheVariants.{LineStart, InLine, InName}
use Rattle.morning.specs.declared.Night.{Night}
use Rattle.morning.specs.declared.Entry.{Entry}
use Rattle.morning.specs.Reading.{start_night, after_all, rows_after_all, names_after_all, end_night, rows_end_night}
use Rattle.morning.specs.Theorems.{Schedule, no_schedule, Schedules, night_text, count_of, not_good, name_bytes, longest_name, RowOf}

-- from a place on: what is left of the schedule at hand, its name and its text, and the schedules behind it
pub record Rest : Type 0 where
  pub name : List ℕ
  pub text : List ℕ
  pub behind : List Schedule

-- the schedule at hand, with one byte more in front of its name or of its text
unfoldable pub at_hand : Rest → Schedule
at_hand rest = record { name = rest.name; text = rest.text }

unfoldable pub name_front : ℕ → Rest → Rest
name_front byte rest = record { name = byte ∷ rest.name; text = rest.text; behind = rest.behind }

unfoldable pub text_front : ℕ → Rest → Rest
text_front byte rest = record { name = rest.name; text = byte ∷ rest.text; behind = rest.behind }

-- the next head line begins
unfoldable pub head_front : Rest → Rest
head_front rest = record { name = []; text = []; behind = at_hand rest ∷ rest.behind }

-- at the start of a line `>` begins a head line; a newline ends a line, or a name
unfoldable pub cut_at : Place → List ℕ → Rest
cut_at place [] = record { name = []; text = []; behind = [] }
cut_at LineStart (byte ∷ rest) = cond (eqb byte 62) (head_front (cut_at InName rest)) (text_front byte (cut_at (cond (eqb byte 10) LineStart InLine) rest))
cut_at InLine (byte ∷ rest) = text_front byte (cut_at (cond (eqb byte 10) LineStart InLine) rest)
cut_at InName (byte ∷ rest) = cond (eqb byte 10) (cut_at LineStart rest) (name_front byte (cut_at InName rest))

unfoldable pub is_none : List ℕ → Bool
is_none [] = true
is_none (byte ∷ rest) = false

-- the schedules of a text; lines before the first head line are those of a schedule without a name
unfoldable pub schedules_in : List ℕ → List Schedule
schedules_in text = cond (is_none (cut_at LineStart text).text) (cut_at LineStart text).behind (at_hand (cut_at LineStart text) ∷ (cut_at LineStart text).behind)

-- the text of a night is cut into its schedules
abbrev pub ANightIsCutIntoItsSchedules : Type 0
ANightIsCutIntoItsSchedules = (schedules : List Schedule) → Schedules schedules → schedules_in (night_text schedules) ≡ schedules

-- the night after any text, its last schedule ended
abbrev pub night_of : List Entry → List ℕ → List ℕ → Night
night_of rows names text = end_night (length rows) (after_all (length rows) (length names) start_night text)

-- each schedule of the text is counted by its verdict, and each that is not good is listed or counted as not listed
pub record TextCounted (rows : List Entry) (names text : List ℕ) : Type 0 where
  pub counts : (number : ℕ) → number < 7 → get_or (night_of rows names text).counts number 0 ≡ count_of number (schedules_in text)
  pub all : (night_of rows names text).listed + (night_of rows names text).unlisted ≡ length (not_good (schedules_in text))

abbrev pub EveryTextIsCounted : Type 0
EveryTextIsCounted = (rows : List Entry) (names text : List ℕ) → length text < 2 ^ 64 → TextCounted rows names text

-- the rows and the names after any text, its last schedule ended
abbrev pub rows_of : List Entry → List ℕ → List ℕ → List Entry
rows_of rows names text =
    rows_end_night (after_all (length rows) (length names) start_night text) (rows_after_all (length names) start_night text rows)

abbrev pub names_of : List Entry → List ℕ → List ℕ → List ℕ
names_of rows names text = names_after_all (length rows) start_night text names

-- where there is room, all that are not good are listed, in order, each with its row and its name
pub record TextListed (rows : List Entry) (names text : List ℕ) : Type 0 where
  pub listed : (night_of rows names text).listed ≡ length (not_good (schedules_in text))
  pub unlisted : (night_of rows names text).unlisted ≡ 0
  pub row : (k : ℕ) → k < length (not_good (schedules_in text))
      → RowOf (rows_of rows names text) (names_of rows names text) k (get_or (not_good (schedules_in text)) k no_schedule)

abbrev pub EveryTextIsListed : Type 0
EveryTextIsListed =
    (rows : List Entry) (names text : List ℕ) → length (not_good (schedules_in text)) ≤ length rows
    → name_bytes (not_good (schedules_in text)) + longest_name (schedules_in text) ≤ length names → TextListed rows names text
