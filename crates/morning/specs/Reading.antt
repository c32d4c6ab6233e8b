-- The text of a night, read byte by byte. A line that begins with `>` is a head line: the rest of it names a schedule's file, and the lines behind it, up to
-- the next head line, are the schedule's text (lines before the first head line are those of a schedule without a name). Each schedule is counted by
-- its verdict, and one that is not good is listed: a row, and its name.
use Rattle.std.specs.Prelude.{ℕ, ◌+◌, Bool, true, false, cond, ◌&&◌, List, [], ◌∷◌, eqb, ltb, length, get_or, replicate, set}
use Rattle.gather.specs.Gathering.{more}
use Rattle.verdict.specs.declared.Watch.{Watch}
use Rattle.verdict.specs.declared.Judged.{Judged}
use Rattle.verdict.specs.Verdicts.{verdict_number, start_watch, watch_byte, judged}
use Rattle.morning.specs.declared.Place.{Place}
use Rattle.morning.specs.declared.Place.TheVariants.{LineStart, InLine, InName}
use Rattle.morning.specs.declared.AtHand.{AtHand}
use Rattle.morning.specs.declared.Night.{Night}
use Rattle.morning.specs.declared.Entry.{Entry}

-- the number of the verdict that is not listed: good
abbrev pub good_number : ℕ
good_number = 6

-- a schedule begins: its name starts where the names end
unfoldable pub hand_begun : ℕ → AtHand
hand_begun used = record { watch = start_watch; start = used; fits = true }

-- at the start of the text
unfoldable pub start_night : Night
start_night =
    record { place = LineStart; begun = false; hand = hand_begun 0; used = 0; listed = 0; unlisted = 0; counts = replicate 7 0 }

-- ---- a schedule's text

-- the place, and what is read of the schedule's text; a schedule is at hand
unfoldable pub reading : Place → Watch → Night → Night
reading place watch night =
    record {
      place = place;
      begun = true;
      hand = record { watch = watch; start = night.hand.start; fits = night.hand.fits };
      used = night.used;
      listed = night.listed;
      unlisted = night.unlisted;
      counts = night.counts;
    }

unfoldable pub line_byte : Night → ℕ → Night
line_byte night byte = reading (cond (eqb byte 10) LineStart InLine) (watch_byte night.hand.watch byte) night

-- ---- a schedule's name

-- the place, where the names end, and whether there was room for this one
unfoldable pub naming : Place → ℕ → Bool → Night → Night
naming place used fits night =
    record {
      place = place;
      begun = night.begun;
      hand = record { watch = night.hand.watch; start = night.hand.start; fits = fits };
      used = used;
      listed = night.listed;
      unlisted = night.unlisted;
      counts = night.counts;
    }

-- a byte of a name as it is shown: a question mark for a control byte
unfoldable pub shown : ℕ → ℕ
shown byte = cond (ltb byte 32) 63 (cond (eqb byte 127) 63 byte)

-- it is kept where the names end, if there is room for so many bytes
unfoldable pub name_byte : ℕ → Night → ℕ → Night
name_byte room night byte =
    cond (eqb byte 10) (naming LineStart night.used night.hand.fits night)
    (cond (ltb night.used room) (naming InName (night.used + 1) night.hand.fits night) (naming InName night.used false night))

unfoldable pub names_after_name : Night → ℕ → List ℕ → List ℕ
names_after_name night byte names = cond (eqb byte 10) names (set names night.used (shown byte))

-- ---- a schedule's end

-- the counts with one more of a verdict
unfoldable pub counted_at : List ℕ → ℕ → List ℕ
counted_at counts number = set counts number (more (get_or counts number 0))

-- whether so many rows have room for one more, and the name had room
unfoldable pub has_room : Bool → ℕ → ℕ → Bool
has_room fits listed room = fits && ltb listed room

unfoldable pub is_listed : ℕ → Bool → ℕ → ℕ → Bool
is_listed number fits listed room = ltb number good_number && has_room fits listed room

-- no schedule is at hand: where the names end, how many are listed and not listed, the counts
unfoldable pub closed_as : ℕ → ℕ → ℕ → List ℕ → Night → Night
closed_as used listed unlisted counts night =
    record {
      place = night.place;
      begun = false;
      hand = record { watch = night.hand.watch; start = used; fits = true };
      used = used;
      listed = listed;
      unlisted = unlisted;
      counts = counts;
    }

-- with this verdict: listed; or not good and not listed, for want of room; or good. The name of one that is not listed is forgotten
unfoldable pub closed_by : Judged → ℕ → Night → Night
closed_by j room night =
    cond (is_listed (verdict_number j.verdict) night.hand.fits night.listed room)
    (closed_as night.used (night.listed + 1) night.unlisted (counted_at night.counts (verdict_number j.verdict)) night)
    (cond (ltb (verdict_number j.verdict) good_number)
    (closed_as night.hand.start night.listed (more night.unlisted) (counted_at night.counts (verdict_number j.verdict)) night)
    (closed_as night.hand.start night.listed night.unlisted (counted_at night.counts (verdict_number j.verdict)) night))

-- if a schedule is at hand
unfoldable pub closing : Bool → ℕ → Night → Night
closing begun room night = cond begun (closed_by (judged night.hand.watch) room night) night

-- the row: the verdict's number; how many lines decide it, the first one's steps and two numbers; where the name starts and ends
unfoldable pub row_put : Judged → Night → List Entry → List Entry
row_put j night rows = set rows night.listed (record { verdict = verdict_number j.verdict; noted = j.noted; start = night.hand.start; end = night.used })

unfoldable pub rows_closed_by : Judged → Night → List Entry → List Entry
rows_closed_by j night rows =
    cond (is_listed (verdict_number j.verdict) night.hand.fits night.listed (length rows)) (row_put j night rows) rows

unfoldable pub rows_closing : Bool → Night → List Entry → List Entry
rows_closing begun night rows = cond begun (rows_closed_by (judged night.hand.watch) night rows) rows

-- ---- one byte more

-- a head line has begun: the next schedule is at hand
unfoldable pub head_begun : Night → Night
head_begun night =
    record {
      place = InName;
      begun = true;
      hand = hand_begun night.used;
      used = night.used;
      listed = night.listed;
      unlisted = night.unlisted;
      counts = night.counts;
    }

-- at the start of a line `>` begins a head line, and ends the schedule before it
unfoldable pub on_line_start : ℕ → Night → ℕ → Night
on_line_start room night byte = cond (eqb byte 62) (head_begun (closing night.begun room night)) (line_byte night byte)

unfoldable pub rows_on_line_start : Night → ℕ → List Entry → List Entry
rows_on_line_start night byte rows = cond (eqb byte 62) (rows_closing night.begun night rows) rows

-- so many rows, names of so many bytes
unfoldable pub after_byte_in : Place → ℕ → ℕ → Night → ℕ → Night
after_byte_in LineStart room name_room night byte = on_line_start room night byte
after_byte_in InLine room name_room night byte = line_byte night byte
after_byte_in InName room name_room night byte = name_byte name_room night byte

unfoldable pub after_byte : ℕ → ℕ → Night → ℕ → Night
after_byte room name_room night byte = after_byte_in night.place room name_room night byte

unfoldable pub rows_after_byte_in : Place → Night → ℕ → List Entry → List Entry
rows_after_byte_in LineStart night byte rows = rows_on_line_start night byte rows
rows_after_byte_in InLine night byte rows = rows
rows_after_byte_in InName night byte rows = rows

unfoldable pub rows_after_byte : Night → ℕ → List Entry → List Entry
rows_after_byte night byte rows = rows_after_byte_in night.place night byte rows

unfoldable pub names_after_byte_in : Place → Night → ℕ → List ℕ → List ℕ
names_after_byte_in LineStart night byte names = names
names_after_byte_in InLine night byte names = names
names_after_byte_in InName night byte names = names_after_name night byte names

unfoldable pub names_after_byte : Night → ℕ → List ℕ → List ℕ
names_after_byte night byte names = names_after_byte_in night.place night byte names

-- all bytes of a piece of text, in order
unfoldable pub after_all : ℕ → ℕ → Night → List ℕ → Night
after_all room name_room night [] = night
after_all room name_room night (byte ∷ rest) = after_all room name_room (after_byte room name_room night byte) rest

unfoldable pub rows_after_all : ℕ → Night → List ℕ → List Entry → List Entry
rows_after_all name_room night [] rows = rows
rows_after_all name_room night (byte ∷ rest) rows =
    rows_after_all name_room (after_byte (length rows) name_room night byte) rest (rows_after_byte night byte rows)

unfoldable pub names_after_all : ℕ → Night → List ℕ → List ℕ → List ℕ
names_after_all room night [] names = names
names_after_all room night (byte ∷ rest) names =
    names_after_all room (after_byte room (length names) night byte) rest (names_after_byte night byte names)

-- ---- the end of the text

unfoldable pub end_night : ℕ → Night → Night
end_night room night = closing night.begun room night

unfoldable pub rows_end_night : Night → List Entry → List Entry
rows_end_night night rows = rows_closing night.begun night rows
