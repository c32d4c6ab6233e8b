-- What proofs/ proves over the definitions, as sentences: of the place of the first bad item (02, item 3), and of a plan's body (docs/NESTED.md).
use Rattle.std.specs.Prelude.{ℕ, ◌*◌, ◌/◌, ◌≤◌, ◌<◌, ◌≡◌, true, false, List, length, drop}
use Rattle.plan.specs.declared.Plan.{Plan}
use Rattle.plan.specs.Plan.{positions_read, in_range}
use Rattle.nightfile.specs.File.{byte_at, plan_length_wrong, plan_of, schedule_body, file_number, file_place, file_answer_number, file_answer_place, file_answer}

-- the first bad item of a schedule: there is a whole item at this place, its first byte is above 3, and that of no item before it is
pub record IsFirstBad (schedule : List ℕ) (place : ℕ) : Type 0 where
  pub there : place < length schedule / 3
  pub bad : 3 < byte_at schedule (3 * place)
  pub before : (earlier : ℕ) → earlier < place → byte_at schedule (3 * earlier) ≤ 3

-- a schedule has at most one
abbrev pub OneIsFirst : Type 0
OneIsFirst = (schedule : List ℕ) (one other : ℕ) → IsFirstBad schedule one → IsFirstBad schedule other → one ≡ other

-- beside 6 its place is told
abbrev pub SixTellsTheFirstBad : Type 0
SixTellsTheFirstBad = (file : List ℕ) → file_number file ≡ 6 → IsFirstBad (schedule_body file) (file_place file)

-- and beside no other number, 5 too, is a place told
abbrev pub OnlySixTellsAPlace : Type 0
OnlySixTellsAPlace = (file : List ℕ) → (file_number file ≡ 6 → ⊥) → file_place file ≡ 0

-- the answer to a file tells its number, and its place
abbrev pub AnswerTellsNumberAndPlace : Type 0
AnswerTellsNumberAndPlace = (file : List ℕ) → (file_answer_number (file_answer file) ≡ file_number file) × (file_answer_place (file_answer file) ≡ file_place file)

-- the plan of all the bytes of a body
unfoldable pub whole_plan : List ℕ → Plan
whole_plan body = record { rules = byte_at body 0; locks = byte_at body 1; positions = byte_at body 2; values = drop 3 body }

-- of a body that ends where its positions do (3): the plan with its 352 places is in range where the plan of all its bytes is. So neither the zeros
-- behind the body nor the cut at 352 bytes matter to 4
abbrev pub RangeOfTheBody : Type 0
RangeOfTheBody = (body : List ℕ) → plan_length_wrong body ≡ false → in_range (plan_of body) ≡ in_range (whole_plan body)

-- and where it is in range, its positions are those of the body, and they take all of it
abbrev pub PositionsOfTheBody : Type 0
PositionsOfTheBody =
    (body : List ℕ) → plan_length_wrong body ≡ false → in_range (plan_of body) ≡ true
    → (positions_read (plan_of body) ≡ positions_read (whole_plan body)) × ((positions_read (plan_of body)).place ≡ length (drop 3 body))
