-- Any text is read as one schedule after the other: what its name does, what its text does, and its end. So the state, the rows and the names at the
-- end of the text are those that the ends of its schedules, in order, have left.
use Prim.Native.Nat.{ℕ, ◌+◌}
use mathlib.Core.Path.{◌≡◌, refl, sym, ap, ◌∙◌}
use mathlib.Core.Bool.{Bool, true, false, cond}
use mathlib.Core.List.{List, [], ◌∷◌}
use lib.Dec.{eqb, ltb}
use lib.ListN.{length, set}
use Rattle.lists.proofs.Tests.{by_value}
use Rattle.gather.specs.Gathering.{more}
use Rattle.verdict.specs.Verdicts.{verdict_number, start_watch, watch_byte, watch_all, judged, verdict_of}
use Rattle.morning.specs.declared.Place.{Place}
use Rattle.morning.specs.declared.Place.TheVariants.{LineStart, InLine, InName}
use Rattle.morning.specs.declared.AtHand.{AtHand}
use Rattle.morning.specs.declared.Night.{Night}
use Rattle.morning.specs.declared.Entry.{Entry}
use Rattle.morning.specs.Reading.{start_night, hand_begun, reading, line_byte, naming, shown, name_byte, names_after_name, counted_at, is_listed, closed_as, closed_by, closing, row_put, rows_closed_by, rows_closing, head_begun, on_line_start, rows_on_line_start, after_byte_in, after_byte, rows_after_byte_in, rows_after_byte, names_after_byte_in, names_after_byte, after_all, rows_after_all, names_after_all, end_night, rows_end_night}
use Rattle.morning.specs.Theorems.{Schedule}
use Rattle.morning.specs.AnyText.{Rest, at_hand, name_front, text_front, head_front, cut_at, is_none, schedules_in, night_of}
use Rattle.morning.proofs.Laws.{byte_long, byte_names_long}

-- ---- the state, the rows and the names as one

pub record Book : Type 0 where
  pub night : Night
  pub rows : List Entry
  pub names : List ℕ

abbrev byted : ℕ → ℕ → Book → ℕ → Book
byted room name-room book byte =
    record {
      night = after_byte room name-room book.night byte;
      rows = rows_after_byte book.night byte book.rows;
      names = names_after_byte book.night byte book.names;
    }

unfoldable read : ℕ → ℕ → Book → List ℕ → Book
read room name-room book [] = book
read room name-room book (byte ∷ rest) = read room name-room (byted room name-room book byte) rest

-- the rows and the names stay as long, so this is what the three readings say
read_told : (room name-room : ℕ) (book : Book) (text : List ℕ) → length book.rows ≡ room → length book.names ≡ name-room
    → read room name-room book text
    ≡ record {
      night = after_all room name-room book.night text;
      rows = rows_after_all name-room book.night text book.rows;
      names = names_after_all room book.night text book.names;
    }
unfolding read after_all rows_after_all names_after_all
read_told room name-room book [] r n = refl
read_told room name-room book (byte ∷ rest) r n =
    let after = byted room name-room book byte in
    let night = book.night in
    read_told room name-room after rest (byte_long night byte book.rows ∙ r) (byte_names_long night byte book.names ∙ n)
    ∙ ap (λ (k : ℕ). record {
      night = after_all room name-room after.night rest;
      rows = rows_after_all name-room (after_byte k name-room night byte) rest after.rows;
      names = names_after_all room after.night rest after.names;
    }) (sym r)
    ∙ ap (λ (k : ℕ). record {
      night = after_all room name-room after.night rest;
      rows = rows_after_all name-room (after_byte (length book.rows) name-room night byte) rest after.rows;
      names = names_after_all room (after_byte room k night byte) rest after.names;
    }) (sym n)

-- ---- a schedule's name

-- where the names end behind it
unfoldable pub name_end : ℕ → ℕ → List ℕ → ℕ
name_end name-room used [] = used
name_end name-room used (byte ∷ rest) = name_end name-room (cond (ltb used name-room) (used + 1) used) rest

-- whether there was room for it
unfoldable pub name_fits : ℕ → ℕ → Bool → List ℕ → Bool
name_fits name-room used fits [] = fits
name_fits name-room used fits (byte ∷ rest) = name_fits name-room (cond (ltb used name-room) (used + 1) used) (cond (ltb used name-room) fits false) rest

-- the names with it
unfoldable pub spelled : ℕ → List ℕ → ℕ → List ℕ → List ℕ
spelled name-room names used [] = names
spelled name-room names used (byte ∷ rest) = spelled name-room (set names used (shown byte)) (cond (ltb used name-room) (used + 1) used) rest

-- ---- one schedule, and its end

-- a schedule is at hand, the names end at a place, all else is as it was
abbrev pub handed : Place → AtHand → ℕ → Night → Night
handed place hand used base =
    record { place = place; begun = true; hand = hand; used = used; listed = base.listed; unlisted = base.unlisted; counts = base.counts }

-- all of it is read: its name and its text, behind where the book stands
abbrev pub whole_hand : ℕ → Book → Schedule → AtHand
whole_hand name-room book schedule =
    record {
      watch = watch_all start_watch schedule.text;
      start = book.night.used;
      fits = name_fits name-room book.night.used true schedule.name;
    }

abbrev pub whole : ℕ → Book → Schedule → Night
whole name-room book schedule =
    handed LineStart (whole_hand name-room book schedule) (name_end name-room book.night.used schedule.name) book.night

-- and it has ended with its verdict
abbrev pub closed : ℕ → ℕ → Book → Schedule → Book
closed room name-room book schedule =
    record {
      night = closed_by (verdict_of schedule.text) room (whole name-room book schedule);
      rows = rows_closed_by (verdict_of schedule.text) (whole name-room book schedule) book.rows;
      names = spelled name-room book.names book.night.used schedule.name;
    }

unfoldable pub closings : ℕ → ℕ → Book → List Schedule → Book
closings room name-room book [] = book
closings room name-room book (schedule ∷ rest) = closings room name-room (closed room name-room book schedule) rest

-- ---- the schedule at hand

-- behind the rest of its name and of its text it has ended
abbrev hand_closed : ℕ → ℕ → AtHand → ℕ → Night → List Entry → List ℕ → Schedule → Book
hand_closed room name-room hand used base rows names schedule =
    let whole : AtHand =
    record { watch = watch_all hand.watch schedule.text; start = hand.start; fits = name_fits name-room used hand.fits schedule.name } in
    let night : Night = handed LineStart whole (name_end name-room used schedule.name) base in
    record {
      night = closed_by (judged whole.watch) room night;
      rows = rows_closed_by (judged whole.watch) night rows;
      names = spelled name-room names used schedule.name;
    }

-- the end of the text; what the place is there does not matter any more
abbrev pub at_line : Night → Night
at_line night =
    record {
      place = LineStart;
      begun = night.begun;
      hand = night.hand;
      used = night.used;
      listed = night.listed;
      unlisted = night.unlisted;
      counts = night.counts;
    }

abbrev ended : ℕ → Book → Book
ended room book = record { night = at_line (end_night room book.night); rows = rows_end_night book.night book.rows; names = book.names }

-- a function of a choice
chosen : {A B : Type 0} (f : A → B) (test : Bool) (x y : A) → f (cond test x y) ≡ cond test (f x) (f y)
chosen f true x y = refl
chosen f false x y = refl

end_read : (room : ℕ) (place : Place) (hand : AtHand) (used : ℕ) (base : Night)
    → at_line (closed_by (judged hand.watch) room (handed place hand used base))
    ≡ closed_by (judged hand.watch) room (handed LineStart hand used base)
unfolding closed_by closed_as naming
end_read room place hand used base =
    let number : ℕ = verdict_number (judged hand.watch).verdict in
    let counts : List ℕ = counted_at base.counts number in
    let at : Night = handed place hand used base in
    let listed : Night = closed_as used (base.listed + 1) base.unlisted counts at in
    let unlisted : Night = closed_as hand.start base.listed (more base.unlisted) counts at in
    let good : Night = closed_as hand.start base.listed base.unlisted counts at in
    let test : Bool = is_listed number hand.fits base.listed room in
    chosen at_line test listed (cond (ltb number 6) unlisted good) ∙ ap (cond test (at_line listed)) (chosen at_line (ltb number 6) unlisted good)

-- the rest of the text: the schedule at hand ends, and those behind it
rest_read : (room name-room : ℕ) (place : Place) (hand : AtHand) (used : ℕ) (base : Night) (rows : List Entry) (names text : List ℕ)
    → ended room (read room name-room (record { night = handed place hand used base; rows = rows; names = names }) text)
    ≡ closings room name-room (hand_closed room name-room hand used base rows names (at_hand (cut_at place text))) (cut_at place text).behind
unfolding read closings name_end name_fits spelled cut_at at_hand name_front text_front head_front watch_all verdict_of hand_begun reading naming line_byte closing rows_closing rows_closed_by row_put head_begun end_night rows_end_night after_byte after_byte_in on_line_start name_byte rows_after_byte rows_after_byte_in rows_on_line_start names_after_byte names_after_byte_in names_after_name
rest_read room name-room place hand used base rows names [] =
    ap (λ (night : Night). record { night = night; rows = rows_closed_by (judged hand.watch) (handed LineStart hand used base) rows; names = names })
    (end_read room place hand used base)
rest_read room name-room LineStart hand used base rows names (byte ∷ rest) =
    let at : Night = handed LineStart hand used base in
    let after : Night = closed_by (judged hand.watch) room at in
    let next : Place = cond (eqb byte 10) LineStart InLine in
    let watched : AtHand = record { watch = watch_byte hand.watch byte; start = hand.start; fits = hand.fits } in
    by_value
    (λ (b : Bool).
    ended room (read room name-room (record { night = cond b (head_begun after) (line_byte at byte); rows = cond b (rows_closed_by (judged hand.watch) at rows) rows; names = names }) rest)
    ≡ (let cut : Rest = cond b (head_front (cut_at InName rest)) (text_front byte (cut_at next rest)) in
    closings room name-room (hand_closed room name-room hand used base rows names (at_hand cut)) cut.behind))
    (eqb byte 62)
    (λ e. rest_read room name-room InName (hand_begun after.used) after.used after (rows_closed_by (judged hand.watch) at rows) names rest)
    (λ e. rest_read room name-room next watched used base rows names rest)
rest_read room name-room InLine hand used base rows names (byte ∷ rest) =
    rest_read room name-room (cond (eqb byte 10) LineStart InLine)
    (record { watch = watch_byte hand.watch byte; start = hand.start; fits = hand.fits }) used base rows names rest
rest_read room name-room InName hand used base rows names (byte ∷ rest) =
    let at : Night = handed InName hand used base in
    by_value
    (λ (b : Bool).
    ended room
    (read room name-room
    (record {
      night = cond b (naming LineStart used hand.fits at) (cond (ltb used name-room) (naming InName (used + 1) hand.fits at) (naming InName used false at));
      rows = rows;
      names = cond b names (set names used (shown byte));
    })
    rest)
    ≡ (let cut : Rest = cond b (cut_at LineStart rest) (name_front byte (cut_at InName rest)) in
    closings room name-room (hand_closed room name-room hand used base rows names (at_hand cut)) cut.behind))
    (eqb byte 10)
    (λ e. rest_read room name-room LineStart hand used base rows names rest)
    (λ e. by_value
    (λ (b : Bool).
    ended room
    (read room name-room
    (record { night = cond b (naming InName (used + 1) hand.fits at) (naming InName used false at); rows = rows; names = set names used (shown byte) })
    rest)
    ≡ closings room name-room
    (hand_closed room name-room (record { watch = hand.watch; start = hand.start; fits = cond b hand.fits false }) (cond b (used + 1) used) base rows (set names used (shown byte)) (at_hand (cut_at InName rest)))
    (cut_at InName rest).behind)
    (ltb used name-room)
    (λ e. rest_read room name-room InName hand (used + 1) base rows (set names used (shown byte)) rest)
    (λ e. rest_read room name-room InName (record { watch = hand.watch; start = hand.start; fits = false }) used base rows (set names used (shown byte)) rest))

abbrev pub at_start : List Entry → List ℕ → Book
at_start rows names = record { night = start_night; rows = rows; names = names }

-- the first byte begins a schedule
all_read : (room name-room : ℕ) (rows : List Entry) (names text : List ℕ)
    → ended room (read room name-room (at_start rows names) text) ≡ closings room name-room (at_start rows names) (schedules_in text)
unfolding read closings schedules_in is_none cut_at at_hand text_front head_front watch_all verdict_of hand_begun reading naming line_byte closing rows_closing head_begun end_night rows_end_night start_night after_byte after_byte_in on_line_start rows_after_byte rows_after_byte_in rows_on_line_start names_after_byte names_after_byte_in
all_read room name-room rows names [] = refl
all_read room name-room rows names (byte ∷ rest) =
    let next : Place = cond (eqb byte 10) LineStart InLine in
    let hand : AtHand = hand_begun 0 in
    by_value
    (λ (b : Bool).
    ended room (read room name-room (record { night = cond b (head_begun start_night) (line_byte start_night byte); rows = cond b rows rows; names = names }) rest)
    ≡ (let cut : Rest = cond b (head_front (cut_at InName rest)) (text_front byte (cut_at next rest)) in
    closings room name-room (at_start rows names) (cond (is_none cut.text) cut.behind (at_hand cut ∷ cut.behind))))
    (eqb byte 62)
    (λ e. rest_read room name-room InName hand 0 start_night rows names rest)
    (λ e. rest_read room name-room next (record { watch = watch_byte start_watch byte; start = 0; fits = true }) 0 start_night rows names rest)

-- at the end of the text
pub all_told : (rows : List Entry) (names text : List ℕ)
    → record {
      night = at_line (night_of rows names text);
      rows = rows_end_night (after_all (length rows) (length names) start_night text) (rows_after_all (length names) start_night text rows);
      names = names_after_all (length rows) start_night text names;
    }
    ≡ closings (length rows) (length names) (at_start rows names) (schedules_in text)
all_told rows names text =
    ap (ended (length rows)) (sym (read_told (length rows) (length names) (at_start rows names) text refl refl))
    ∙ all_read (length rows) (length names) rows names text
