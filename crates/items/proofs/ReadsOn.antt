-- Reading a schedule item by item: of an accepted file an item is found at each place, and at the end there are no more; of a file that is refused
-- with 6 the first bad item's place is handed back.
use Prim.Native.Nat.{ℕ, ◌+◌, ◌-◌, ◌*◌, ◌/◌, ◌≤◌, ◌<◌}
use mathlib.Core.Path.{◌≡◌, refl, ap, ◌∙◌}
use mathlib.Core.List.{List}
use native.Mathlib.Omega.{arith}
use lib.ListN.{length}
use borrow.Author.Tests.{le-leb, lt-leb, lt-ltb, le-ltb}
use Rattle.nightfile.specs.File.{byte_at, schedule_body, schedule_number, file_place}
use Rattle.nightfile.proofs.Schedule.{whole, kind_most}
use Rattle.nightfile.proofs.FirstBad.{six_tells_the_first_bad}
use Rattle.std.specs.Prelude.{Some, None, Ok, Err}
use Rattle.items.specs.declared.ItemRefusal.TheVariants.{LeftOver, Bad}
use Rattle.items.specs.declared.Reading.{Reading}
use Rattle.items.specs.Items.{item_of, place_at, reading, read_at, item_refusal_number, item_refusal_place, item_answer_number, item_answer_place}
use Rattle.items.specs.Theorems.{TheReaderTellsTheSame, OnlyBadTellsAPlace}

-- what is read at the item at an index: it is found where its first byte is at most 3, and else it is bad, with that index
finds : (schedule : List ℕ) (k : ℕ) → k < length schedule / 3 → byte_at schedule (3 * k) ≤ 3 →
    read_at schedule (3 * k) ≡ reading (Ok (Some (item_of schedule (3 * k)))) (3 * k + 3)
unfolding read_at
finds schedule k below right =
    let inside : 3 * k < length schedule = omega arith in
    let room : 3 ≤ length schedule - 3 * k = omega arith in
    simp (lt-leb _ _ inside, le-ltb _ _ room, le-ltb _ _ right)

finds_bad : (schedule : List ℕ) (k : ℕ) → k < length schedule / 3 → 3 < byte_at schedule (3 * k) → read_at schedule (3 * k) ≡ reading (Err (Bad k)) (3 * k)
unfolding read_at place_at
finds_bad schedule k below bad =
    let inside : 3 * k < length schedule = omega arith in
    let room : 3 ≤ length schedule - 3 * k = omega arith in
    let index : 3 * k / 3 ≡ k = omega arith in
    simp (lt-leb _ _ inside, le-ltb _ _ room, lt-ltb _ _ bad, index)

-- each item of an accepted file's schedule is found, and the place moves past it
pub reads_on : (schedule : List ℕ) (k : ℕ) → schedule_number schedule ≡ 0 → k < length schedule / 3 →
    read_at schedule (3 * k) ≡ reading (Ok (Some (item_of schedule (3 * k)))) (3 * k + 3)
reads_on schedule k e below = finds schedule k below (kind_most schedule k (whole schedule e).kinds below)

-- at the end, and past it, there are no more, and the place does not move
pub reads_past : (schedule : List ℕ) (at : ℕ) → length schedule ≤ at → read_at schedule at ≡ reading (Ok None) at
unfolding read_at
reads_past schedule at past = simp (le-leb _ _ past)

-- the item reader hands back the place that the file is told with
pub reader_tells_the_same : TheReaderTellsTheSame
unfolding item_answer_number item_answer_place item_refusal_number item_refusal_place reading
reader_tells_the_same file six =
    let first = six_tells_the_first_bad file six in
    let here : read_at (schedule_body file) (3 * file_place file) ≡ reading (Err (Bad (file_place file))) (3 * file_place file) = finds_bad (schedule_body file) _ first.there first.bad in
    record {
      before = λ earlier l.
          let next : 3 * earlier + 3 ≡ 3 * (earlier + 1) = omega arith in
          finds (schedule_body file) earlier (omega (arith, first.there)) (first.before earlier l)
          ∙ ap (reading (Ok (Some (item_of (schedule_body file) (3 * earlier))))) next;
      there = here;
      number = ap (λ (r : Reading). item_answer_number r.answer) here;
      told = ap (λ (r : Reading). item_answer_place r.answer) here;
    }

pub only_bad_tells_a_place : OnlyBadTellsAPlace
unfolding item_answer_number item_answer_place item_refusal_number item_refusal_place
only_bad_tells_a_place (Ok found) other = refl
only_bad_tells_a_place (Err LeftOver) other = refl
only_bad_tells_a_place (Err (Bad place)) other = absurd (other refl)
