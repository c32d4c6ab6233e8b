-- The items that a run reads from its schedule are all of the schedule's items: at each place an item is found, up to the end.
use Prim.Native.Nat.{ℕ, zero, suc, ◌+◌, ◌-◌, ◌*◌, ◌/◌, ◌≤◌}
use mathlib.Core.Path.{◌≡◌, refl, ap, ◌∙◌}
use mathlib.Core.List.{List, [], ◌∷◌}
use native.Mathlib.Omega.{arith}
use lib.ListN.{length}
use Rattle.items.specs.declared.Item.{Item}
use Rattle.items.specs.declared.Reading.{Reading}
use Rattle.std.specs.Prelude.{Ok, None}
use Rattle.nightfile.specs.File.{schedule_number, schedule_part}
use Rattle.items.specs.Items.{item_of, reading, read_at}
use Rattle.nightfile.proofs.Schedule.{whole, part_right}
use Rattle.items.proofs.ReadsOn.{reads_on, reads_past}
use Rattle.course.specs.Whole.{and_others, items_within, items_from}
use Rattle.nightlock.specs.NightLock.{items_of}
use Rattle.nightlock.specs.Corollaries.{AllItems}

module _ (schedule : List ℕ) (right : schedule_number schedule ≡ 0) where
  -- what is read first at a place, and then the others
  read_first : (n at : ℕ) (r : Reading) → read_at schedule at ≡ r → items_within (suc n) schedule at ≡ and_others r.answer (items_within n schedule r.at)
  unfolding items_within
  read_first n at r e = ap (λ (z : Reading). and_others z.answer (items_within n schedule z.at)) e

  -- at the end nothing is read
  none_left : (n at : ℕ) → length schedule ≤ at → items_within n schedule at ≡ []
  unfolding and_others items_within reading
  none_left zero at past = refl
  none_left (suc n) at past = read_first n at (reading (Ok None) at) (reads_past schedule at past)

  -- from the k-th item on, as many as there are
  from_item : (c n k : ℕ) → c ≤ n → k + c ≡ length schedule / 3 → items_within n schedule (3 * k) ≡ items_of schedule k c
  unfolding and_others items_of reading
  from_item zero n k room end = none_left n (3 * k) (let w = whole schedule right in omega (arith, w.long))
  from_item (suc c) zero k room end = absurd (omega arith)
  from_item (suc c) (suc n) k room end =
      let next : 3 * k + 3 ≡ 3 * suc k = omega arith in
      read_first n (3 * k) _ (reads_on schedule k right (omega arith))
      ∙ ap (λ (at : ℕ). item_of schedule (3 * k) ∷ items_within n schedule at) next
      ∙ ap (λ (rest : List Item). item_of schedule (3 * k) ∷ rest) (from_item c n (suc k) (omega arith) (omega arith))

pub all_items : AllItems
unfolding items_from
all_items file =
    let schedule = schedule_part file in
    from_item schedule (part_right file) (length schedule / 3) (length schedule - 0) 0 (omega arith) (omega arith)
