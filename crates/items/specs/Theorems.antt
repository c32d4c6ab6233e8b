-- 02, item 3, "The item reader must hand back the place of the first bad item": as sentences over the definitions. Proved in proofs/.
use Rattle.std.specs.Prelude.{ℕ, ◌+◌, ◌*◌, ◌<◌, ◌≡◌, List, Option, Some, Result, Ok, Err}
use Rattle.nightfile.specs.File.{schedule_body, file_number, file_place}
use Rattle.items.specs.declared.Item.{Item}
use Rattle.items.specs.declared.ItemRefusal.{ItemRefusal}
use Rattle.items.specs.declared.ItemRefusal.TheVariants.{Bad}
use Rattle.items.specs.Items.{item_of, reading, read_at, item_answer_number, item_answer_place}

-- reading a schedule from its start, item by item: an item is found at each place before this one, and here this place is handed back, with number 6
pub record HandsBack (schedule : List ℕ) (place : ℕ) : Type 0 where
  pub before : (earlier : ℕ) → earlier < place → read_at schedule (3 * earlier) ≡ reading (Ok (Some (item_of schedule (3 * earlier)))) (3 * (earlier + 1))
  pub there : read_at schedule (3 * place) ≡ reading (Err (Bad place)) (3 * place)
  pub number : item_answer_number (read_at schedule (3 * place)).answer ≡ 6
  pub told : item_answer_place (read_at schedule (3 * place)).answer ≡ place

-- of a file that is refused with 6 the item reader hands back the place that the file is told with
abbrev pub TheReaderTellsTheSame : Type 0
TheReaderTellsTheSame = (file : List ℕ) → file_number file ≡ 6 → HandsBack (schedule_body file) (file_place file)

-- an answer with any other number, 5 too, tells no place
abbrev pub OnlyBadTellsAPlace : Type 0
OnlyBadTellsAPlace = (answer : Result (Option Item) ItemRefusal) → (item_answer_number answer ≡ 6 → ⊥) → item_answer_place answer ≡ 0
