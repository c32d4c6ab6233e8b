-- The listed schedules in the order of the report: by verdict, worst first, and of one verdict in the order of the text; what a row says.
use Rattle.std.specs.Prelude.{ℕ, zero, suc, ◌+◌, ◌-◌, min, Bool, cond, not, ◌&&◌, List, [], ◌∷◌, ◌++◌, Option, Some, None, eqb, ltb, leb, length, get_or}
use Rattle.lists.specs.Loops.{first_not}
use Rattle.verdict.specs.Verdicts.{no_notes}
use Rattle.morning.specs.declared.Cursor.{Cursor}
use Rattle.morning.specs.declared.Entry.{Entry}
use Rattle.morning.specs.Reading.{good_number}

-- ---- a row

-- what no row says
unfoldable pub no_entry : Entry
no_entry = record { verdict = good_number; noted = no_notes; start = 0; end = 0 }

-- what the row at a place says
unfoldable pub entry_at : List Entry → ℕ → Entry
entry_at rows place = get_or rows place no_entry

-- ---- from one to the next

-- how many of the listed schedules have a row
unfoldable pub places_in : List Entry → ℕ → ℕ
places_in rows listed = min listed (length rows)

unfoldable pub is_with : ℕ → Entry → Bool
is_with verdict entry = eqb entry.verdict verdict

unfoldable pub has_verdict : List Entry → ℕ → ℕ → Bool
has_verdict rows verdict place = is_with verdict (entry_at rows place)

-- the first place from one on whose row has a verdict; the number of places where there is none
unfoldable pub next_place : List Entry → ℕ → ℕ → ℕ → ℕ
next_place rows places verdict from = first_not (λ place. not (leb from place && has_verdict rows verdict place)) places

-- with a verdict from a place on, or else with one of so many better verdicts; none
unfoldable pub seeking : List Entry → ℕ → ℕ → ℕ → ℕ → Option Cursor
seeking rows places zero verdict from = None
seeking rows places (suc better) verdict from =
    cond (ltb (next_place rows places verdict from) places) (Some (record { verdict = verdict; place = next_place rows places verdict from }))
    (seeking rows places better (verdict + 1) 0)

unfoldable pub seek : List Entry → ℕ → ℕ → ℕ → Option Cursor
seek rows places verdict from = seeking rows places (good_number - verdict) verdict from

unfoldable pub first_entry : List Entry → ℕ → Option Cursor
first_entry rows listed = seek rows (places_in rows listed) 0 0

unfoldable pub next_entry : List Entry → ℕ → Cursor → Option Cursor
next_entry rows listed cursor =
    cond (ltb cursor.place (places_in rows listed)) (seek rows (places_in rows listed) cursor.verdict (cursor.place + 1))
    (seek rows (places_in rows listed) cursor.verdict (places_in rows listed))

-- ---- the whole order

-- of one verdict, the places ascending
unfoldable pub entries_of : List Entry → ℕ → ℕ → List Cursor
entries_of rows verdict zero = []
entries_of rows verdict (suc places) =
    entries_of rows verdict places ++ cond (has_verdict rows verdict places) (record { verdict = verdict; place = places } ∷ []) []

-- so many verdicts from this one on, in order
unfoldable pub entries_from : List Entry → ℕ → ℕ → ℕ → List Cursor
entries_from rows places zero verdict = []
entries_from rows places (suc more) verdict = entries_of rows verdict places ++ entries_from rows places more (verdict + 1)

unfoldable pub report_order : List Entry → ℕ → List Cursor
report_order rows listed = entries_from rows (places_in rows listed) good_number 0

-- those that are met, from one on, so many at most
unfoldable pub visited : List Entry → ℕ → Option Cursor → ℕ → List Cursor
visited rows listed cursor zero = []
visited rows listed None (suc most) = []
visited rows listed (Some cursor) (suc most) = cursor ∷ visited rows listed (next_entry rows listed cursor) most
