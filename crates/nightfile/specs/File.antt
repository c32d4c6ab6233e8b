-- 01, "The night file and its items": the file, its two bodies, the plan; the numbers 1 to 6, and with 6 where the first bad item is.
use Rattle.std.specs.Prelude.{ℕ, ◌+◌, ◌*◌, ◌/◌, ◌%◌, Bool, false, cond, not, ◌&&◌, ◌||◌, List, [], ◌++◌, eqb, ltb, leb, length, get_or, take, drop, replicate, Result, Ok, Err}
use Rattle.lists.specs.Loops.{every, first_not}
use Rattle.lists.specs.Refusal.{refused_if}
use Rattle.plan.specs.declared.Plan.{Plan}
use Rattle.positions.specs.Shape.{ends_at}
use Rattle.plan.specs.Plan.{value_places, in_range}
use Rattle.nightfile.specs.declared.FileRefusal.{FileRefusal}
use Rattle.nightfile.specs.declared.FileRefusal.TheVariants.{WrongLength, WrongContents, WrongPlanLength, PlanOutOfRange, BytesLeftOver, BadItem}

-- a byte, and "two bytes each, low byte first"
unfoldable pub byte_at : List ℕ → ℕ → ℕ
byte_at bytes at = get_or bytes at 0

unfoldable pub two_at : List ℕ → ℕ → ℕ
two_at bytes at = byte_at bytes at + 256 * byte_at bytes (at + 1)

-- 1 "file under 11 or over 65,535 bytes"
unfoldable pub length_wrong : List ℕ → Bool
length_wrong file = ltb (length file) 11 || ltb 65535 (length file)

-- "five bytes an entry: kind, offset and length": the entry at a byte is of this kind and its body starts there
unfoldable pub entry_at : List ℕ → ℕ → ℕ → ℕ → Bool
entry_at file at kind start = eqb (byte_at file at) kind && eqb (two_at file (at + 1)) start

-- the length that an entry states
unfoldable pub entry_length : List ℕ → ℕ → ℕ
entry_length file at = two_at file (at + 3)

-- where the schedule starts: "the first at byte 11", "without gap"
unfoldable pub schedule_start : List ℕ → ℕ
schedule_start file = 11 + entry_length file 1

-- "First byte: number of entries, 2."; "Kind 1 is the plan, kind 2 the schedule, in that order."; "without gap or rest"
unfoldable pub contents_right : List ℕ → Bool
contents_right file =
    eqb (byte_at file 0) 2
    && entry_at file 1 1 11
    && entry_at file 6 2 (schedule_start file)
    && eqb (schedule_start file + entry_length file 6) (length file)

-- the two bodies of a file whose contents are right
unfoldable pub plan_body : List ℕ → List ℕ
plan_body file = take (entry_length file 1) (drop 11 file)

unfoldable pub schedule_body : List ℕ → List ℕ
schedule_body file = drop (schedule_start file) file

-- 3 "plan body under 3 bytes, or does not end exactly where its positions do" (docs/NESTED.md)
unfoldable pub plan_length_wrong : List ℕ → Bool
plan_length_wrong body = ltb (length body) 3 || not (ends_at false (byte_at body 2) (drop 3 body))

-- the bytes of the positions: the first 352 of them, which is all that a plan in range has; places without a byte are 0
unfoldable pub plan_values : List ℕ → List ℕ
plan_values body = take value_places (drop 3 body ++ replicate value_places 0)

-- "Plan: rules (1 ring, 2 multiring), locks, number of positions, then one byte a position."; 02, item 4 has rules 3 and 4, item 6 lists of positions
unfoldable pub plan_of : List ℕ → Plan
plan_of body =
    record {
      rules = byte_at body 0;
      locks = byte_at body 1;
      positions = byte_at body 2;
      values = plan_values body;
    }

-- 5 "schedule length not a multiple of 3"
unfoldable pub bytes_left_over : List ℕ → Bool
bytes_left_over schedule = not (eqb (length schedule % 3) 0)

-- 6 "an item's first byte above 3": the item at an index, and all whole items
unfoldable pub item_kind_right : List ℕ → ℕ → Bool
item_kind_right schedule index = leb (byte_at schedule (3 * index)) 3

unfoldable pub item_kinds_right : List ℕ → Bool
item_kinds_right schedule = every (item_kind_right schedule) (length schedule / 3)

-- 02, item 3, "the place of the first bad item, counted from 0": all items before it are right; the number of whole items where none is bad
unfoldable pub first_bad_item : List ℕ → ℕ
first_bad_item schedule = first_not (item_kind_right schedule) (length schedule / 3)

-- "For a file, 1 to 6: the lowest that applies"; 0: none
unfoldable pub schedule_number : List ℕ → ℕ
schedule_number schedule = refused_if (bytes_left_over schedule) 5 (refused_if (not (item_kinds_right schedule)) 6 0)

unfoldable pub bodies_number : List ℕ → List ℕ → ℕ
bodies_number plan schedule =
    refused_if (plan_length_wrong plan) 3 (refused_if (not (in_range (plan_of plan))) 4 (schedule_number schedule))

unfoldable pub file_number : List ℕ → ℕ
file_number file =
    refused_if (length_wrong file) 1 (refused_if (not (contents_right file)) 2 (bodies_number (plan_body file) (schedule_body file)))

-- 02, item 3: what is told of a file, its number and a place beside it: "that place for 6", else 0
pub record Told : Type 0 where
  pub number : ℕ
  pub place : ℕ

unfoldable pub number_and_place : ℕ → List ℕ → Told
number_and_place number schedule = record { number = number; place = cond (eqb number 6) (first_bad_item schedule) 0 }

unfoldable pub file_told : List ℕ → Told
file_told file = number_and_place (file_number file) (schedule_body file)

unfoldable pub file_place : List ℕ → ℕ
file_place file = (file_told file).place

-- "When none of the numbers 1 to 6 below applies the two bodies are shown"; "an empty part stands for each body"
unfoldable pub if_accepted : List ℕ → List ℕ → List ℕ
if_accepted file part = cond (eqb (file_number file) 0) part []

unfoldable pub plan_part : List ℕ → List ℕ
plan_part file = if_accepted file (plan_body file)

unfoldable pub schedule_part : List ℕ → List ℕ
schedule_part file = if_accepted file (schedule_body file)

-- "shown as parts of the caller's file": by the file's place in memory, a block and an offset in it, a part that starts so many bytes
-- behind the file's start lies in the same block, that much further; the empty part of a refused file lies at the file's start
unfoldable pub part_at : ℕ × ℕ → List ℕ → ℕ → ℕ × ℕ
part_at place file start = (place.0, place.1 + cond (eqb (file_number file) 0) start 0)

-- a refusal's number, and the place that it tells (0: none)
unfoldable pub refusal_number : FileRefusal → ℕ
refusal_number WrongLength = 1
refusal_number WrongContents = 2
refusal_number WrongPlanLength = 3
refusal_number PlanOutOfRange = 4
refusal_number BytesLeftOver = 5
refusal_number (BadItem place) = 6

unfoldable pub refusal_place : FileRefusal → ℕ
refusal_place WrongLength = 0
refusal_place WrongContents = 0
refusal_place WrongPlanLength = 0
refusal_place PlanOutOfRange = 0
refusal_place BytesLeftOver = 0
refusal_place (BadItem place) = place

-- an answer's number, the place that it tells (0: none), and both
unfoldable pub file_answer_number : Result Unit FileRefusal → ℕ
file_answer_number (Ok accepted) = 0
file_answer_number (Err refusal) = refusal_number refusal

unfoldable pub file_answer_place : Result Unit FileRefusal → ℕ
file_answer_place (Ok accepted) = 0
file_answer_place (Err refusal) = refusal_place refusal

unfoldable pub file_answer_told : Result Unit FileRefusal → Told
file_answer_told answer = record { number = file_answer_number answer; place = file_answer_place answer }

-- the answer to a file: accepted, or "the lowest that applies", with 6 the place of the first bad item
unfoldable pub schedule_answer : List ℕ → Result Unit FileRefusal
schedule_answer schedule =
    cond (bytes_left_over schedule) (Err BytesLeftOver) (cond (item_kinds_right schedule) (Ok tt) (Err (BadItem (first_bad_item schedule))))

unfoldable pub bodies_answer : List ℕ → List ℕ → Result Unit FileRefusal
bodies_answer plan schedule =
    cond (plan_length_wrong plan) (Err WrongPlanLength) (cond (in_range (plan_of plan)) (schedule_answer schedule) (Err PlanOutOfRange))

unfoldable pub file_answer : List ℕ → Result Unit FileRefusal
file_answer file =
    cond (length_wrong file) (Err WrongLength) (cond (contents_right file) (bodies_answer (plan_body file) (schedule_body file)) (Err WrongContents))
