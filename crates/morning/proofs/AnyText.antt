-- Any text is cut into schedules at its head lines, and these are counted: as many as begin, and of the text of a night the schedules that it is made of.
use Prim.Native.Nat.{ℕ, ◌+◌, ◌^◌, ◌≤◌, ◌<◌}
use mathlib.Core.Path.{◌≡◌, refl, sym, ap, subst, ◌∙◌}
use mathlib.Core.Bool.{Bool, true, false, cond, not, ◌&&◌, true≢false}
use mathlib.Core.List.{List, [], ◌∷◌, ◌++◌}
use native.Mathlib.Omega.{arith}
use lib.Dec.{eqb}
use lib.ListN.{length}
use borrow.Author.Tests.{not-true, eqb-true}
use Rattle.lists.proofs.Laws.{and_left, and_right}
use Rattle.lists.proofs.Tests.{by_value}
use Rattle.morning.specs.declared.Place.{Place}
use Rattle.morning.specs.declared.Place.TheVariants.{LineStart, InLine, InName}
use Rattle.morning.specs.Theorems.{Schedule, is_name, has_no_head, Schedules, none, one_more, night_text, count_of, not_good, EveryScheduleIsCounted}
use Rattle.morning.specs.Counts.{heads_in, nameless}
use Rattle.morning.specs.AnyText.{Rest, at_hand, name_front, text_front, head_front, cut_at, is_none, schedules_in, ANightIsCutIntoItsSchedules, EveryTextIsCounted}
use Rattle.morning.proofs.Counting.{one_at_most, text-counted}

-- ---- the text of a night

-- a byte that begins no head line stands in front of the rest of the text
front_cut : (start : Bool) (byte : ℕ) (rest : List ℕ) → (start && eqb byte 62) ≡ false
    → cut_at (cond start LineStart InLine) (byte ∷ rest) ≡ text_front byte (cut_at (cond (eqb byte 10) LineStart InLine) rest)
unfolding cut_at
front_cut true byte rest e = rw e
front_cut false byte rest e = refl

text_cut : (start : Bool) (text rest : List ℕ) {behind : List Schedule} → has_no_head start text ≡ true
    → cut_at LineStart rest ≡ record { name = []; text = []; behind = behind }
    → cut_at (cond start LineStart InLine) (text ++ rest) ≡ record { name = []; text = text; behind = behind }
unfolding has_no_head text_front
text_cut true [] rest e cut = cut
text_cut false [] rest e cut = absurd (true≢false (sym e))
text_cut start (byte ∷ text) rest e cut =
    front_cut start byte (text ++ rest) (not-true (start && eqb byte 62) (and_left (not (start && eqb byte 62)) _ e))
    ∙ ap (text_front byte) (text_cut (eqb byte 10) text rest (and_right (not (start && eqb byte 62)) _ e) cut)

name_cut : (name rest : List ℕ) {text : List ℕ} {behind : List Schedule} → is_name name ≡ true
    → cut_at LineStart rest ≡ record { name = []; text = text; behind = behind }
    → cut_at InName (name ++ (10 ∷ rest)) ≡ record { name = name; text = text; behind = behind }
unfolding is_name name_front cut_at
name_cut [] rest e cut = cut
name_cut (byte ∷ name) rest e cut =
    rw (not-true (eqb byte 10) (and_left (not (eqb byte 10)) _ e)) (ap (name_front byte) (name_cut name rest (and_right (not (eqb byte 10)) _ e) cut))

night_cut : (schedules : List Schedule) → Schedules schedules → cut_at LineStart (night_text schedules) ≡ record { name = []; text = []; behind = schedules }
unfolding cut_at night_text head_front at_hand
night_cut [] none = refl
night_cut (schedule ∷ rest) (one_more n t more) =
    ap head_front (name_cut schedule.name (schedule.text ++ night_text rest) n (text_cut true schedule.text (night_text rest) t (night_cut rest more)))

pub a_night_is_cut_into_its_schedules : ANightIsCutIntoItsSchedules
unfolding schedules_in is_none
a_night_is_cut_into_its_schedules schedules right =
    ap (λ (cut : Rest). cond (is_none cut.text) cut.behind (at_hand cut ∷ cut.behind)) (night_cut schedules right)

-- ---- as many as begin

abbrev is_line_start : Place → Bool
is_line_start LineStart = true
is_line_start InLine = false
is_line_start InName = false

-- where a line starts behind a byte of a text
next_start : (newline : Bool) → is_line_start (cond newline LineStart InLine) ≡ newline
next_start true = refl
next_start false = refl

-- one for each head line
behind_many : (place : Place) (text : List ℕ) → length (cut_at place text).behind ≡ heads_in (is_line_start place) text
unfolding cut_at heads_in text_front name_front head_front
behind_many place [] = refl
behind_many LineStart (byte ∷ rest) =
    let next : Place = cond (eqb byte 10) LineStart InLine in
    by_value
    (λ (b : Bool). length (cond b (head_front (cut_at InName rest)) (text_front byte (cut_at next rest))).behind ≡ cond b 1 0 + heads_in (eqb byte 10) rest)
    (eqb byte 62)
    (λ e. let other : false ≡ eqb byte 10 = sym (ap (λ (n : ℕ). eqb n 10) (eqb-true byte 62 e)) in
    let on = behind_many InName rest ∙ ap (λ (s : Bool). heads_in s rest) other in
    omega (arith, on))
    (λ e. let on = behind_many next rest ∙ ap (λ (s : Bool). heads_in s rest) (next_start (eqb byte 10)) in omega (arith, on))
behind_many InLine (byte ∷ rest) =
    let on = behind_many (cond (eqb byte 10) LineStart InLine) rest ∙ ap (λ (s : Bool). heads_in s rest) (next_start (eqb byte 10)) in
    omega (arith, on)
behind_many InName (byte ∷ rest) =
    by_value (λ (b : Bool). length (cond b (cut_at LineStart rest) (name_front byte (cut_at InName rest))).behind ≡ 0 + heads_in b rest) (eqb byte 10)
    (λ e. let on = behind_many LineStart rest in omega (arith, on))
    (λ e. let on = behind_many InName rest in omega (arith, on))

-- and one where the text does not begin with a head line
pub as_many_as_begin : (text : List ℕ) → length (schedules_in text) ≡ nameless text + heads_in true text
unfolding schedules_in is_none nameless heads_in cut_at text_front head_front
as_many_as_begin [] = refl
as_many_as_begin (byte ∷ rest) =
    let next : Place = cond (eqb byte 10) LineStart InLine in
    let behind = behind_many LineStart (byte ∷ rest) in
    let first : length (schedules_in (byte ∷ rest)) ≡ cond (eqb byte 62) 0 1 + length (cut_at LineStart (byte ∷ rest)).behind =
    by_value
    (λ (b : Bool). (let cut : Rest = cond b (head_front (cut_at InName rest)) (text_front byte (cut_at next rest)) in
    length (cond (is_none cut.text) cut.behind (at_hand cut ∷ cut.behind)) ≡ cond b 0 1 + length cut.behind))
    (eqb byte 62)
    (λ e. omega arith)
    (λ e. omega arith) in
    omega (arith, first, behind)

heads_few : (start : Bool) (text : List ℕ) → heads_in start text ≤ length text
unfolding heads_in
heads_few start [] = omega arith
heads_few start (byte ∷ rest) = omega (arith, one_at_most (start && eqb byte 62), heads_few (eqb byte 10) rest)

-- the first byte begins one, whichever byte it is
first_begins : (head : Bool) → cond head 0 1 + cond head 1 0 ≡ 1
first_begins true = refl
first_begins false = refl

-- so they are no more than the bytes
pub schedules_few : (text : List ℕ) → length (schedules_in text) ≤ length text
unfolding nameless heads_in
schedules_few [] = omega (arith, as_many_as_begin [])
schedules_few (byte ∷ rest) = omega (arith, as_many_as_begin (byte ∷ rest), first_begins (eqb byte 62), heads_few (eqb byte 10) rest)

-- ---- they are counted

pub every-text-is-counted : EveryTextIsCounted
every-text-is-counted rows names text few = text-counted rows names text (omega (arith, few, schedules_few text))

pub every_schedule-is-counted : EveryScheduleIsCounted
every_schedule-is-counted rows names schedules right few =
    let cut : schedules_in (night_text schedules) ≡ schedules = a_night_is_cut_into_its_schedules schedules right in
    let counted = text-counted rows names (night_text schedules) (subst (λ (s : List Schedule). length s < 2 ^ 64) (sym cut) few) in
    record {
      counts = λ number h. counted.counts number h ∙ ap (count_of number) cut;
      all = counted.all ∙ ap (λ (s : List Schedule). length (not_good s)) cut;
    }
