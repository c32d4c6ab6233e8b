-- 01, "The night file and its items", and 02, item 3: the item reader. "At the end or past it, it says that there are no more; one or two bytes left
-- over give 5, else a first byte above 3 gives 6, and in all three the place doesn't move."
use Rattle.std.specs.Prelude.{ℕ, ◌+◌, ◌-◌, ◌/◌, cond, List, eqb, ltb, leb, length, Option, Some, None, Result, Ok, Err}
use Rattle.acts.specs.declared.Action.{Action}
use Rattle.acts.specs.declared.Action.TheVariants.{Take, Release, Force}
use Rattle.items.specs.declared.Item.{Item}
use Rattle.items.specs.declared.Item.TheVariants.{Steps, Act}
use Rattle.items.specs.declared.ItemRefusal.{ItemRefusal}
use Rattle.items.specs.declared.ItemRefusal.TheVariants.{LeftOver, Bad}
use Rattle.items.specs.declared.Reading.{Reading}
use Rattle.nightfile.specs.File.{byte_at, two_at}

-- "1, 2, 3, then node and lock: take, release, force"
unfoldable pub action_of : ℕ → Action
action_of kind = cond (eqb kind 1) Take (cond (eqb kind 2) Release Force)

-- "items of three bytes. 0, low, high: that many steps, 0 allowed."
unfoldable pub item_of : List ℕ → ℕ → Item
item_of schedule at =
    cond (eqb (byte_at schedule at) 0)
    (Steps (two_at schedule (at + 1)))
    (Act (action_of (byte_at schedule at)) (byte_at schedule (at + 1)) (byte_at schedule (at + 2)))

-- an item's place "from 0": which item of the schedule has the byte at an offset, three bytes each
unfoldable pub place_at : ℕ → ℕ
place_at at = at / 3

-- an answer and the place afterwards
unfoldable pub reading : Result (Option Item) ItemRefusal → ℕ → Reading
reading answer at = record { answer = answer; at = at }

-- what is read at a place, a byte offset; a bad item comes with its place "from 0"
unfoldable pub read_at : List ℕ → ℕ → Reading
read_at schedule at =
    cond (leb (length schedule) at)
    (reading (Ok None) at)
    (cond (ltb (length schedule - at) 3)
    (reading (Err LeftOver) at)
    (cond (ltb 3 (byte_at schedule at)) (reading (Err (Bad (place_at at))) at) (reading (Ok (Some (item_of schedule at))) (at + 3))))

-- the number of a refusal
unfoldable pub item_refusal_number : ItemRefusal → ℕ
item_refusal_number LeftOver = 5
item_refusal_number (Bad place) = 6

-- the number of an answer; 0 where an item is found or there are no more
unfoldable pub item_answer_number : Result (Option Item) ItemRefusal → ℕ
item_answer_number (Ok found) = 0
item_answer_number (Err refusal) = item_refusal_number refusal

-- the place of the bad item that a refusal tells; 0 where it tells none
unfoldable pub item_refusal_place : ItemRefusal → ℕ
item_refusal_place LeftOver = 0
item_refusal_place (Bad place) = place

-- the place of the bad item that an answer tells; 0 where it tells none
unfoldable pub item_answer_place : Result (Option Item) ItemRefusal → ℕ
item_answer_place (Ok found) = 0
item_answer_place (Err refusal) = item_refusal_place refusal
