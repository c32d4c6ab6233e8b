-- What the schedule of an accepted file gives: whole items only, and no first byte of an item above 3.
use Prim.Native.Nat.{ℕ, ◌*◌, ◌/◌, ◌%◌, ◌≤◌, ◌<◌}
use mathlib.Core.Path.{◌≡◌, refl}
use mathlib.Core.Bool.{Bool, true, false, cond}
use mathlib.Core.List.{List, []}
use native.Mathlib.Omega.{arith}
use lib.Dec.{eqb}
use lib.ListN.{length}
use borrow.Author.Tests.{eqb-true, leb-true, not-false}
use Rattle.lists.specs.Loops.{every}
use Rattle.lists.specs.Refusal.{refused_if}
use Rattle.lists.proofs.Laws.{every-at}
use Rattle.nightfile.specs.File.{byte_at, bytes_left_over, item_kind_right, item_kinds_right, schedule_number, schedule_body, file_number, if_accepted, schedule_part}
use Rattle.nightfile.proofs.Laws.{not-refused, accepted}

-- what an accepted schedule gives: whole items only, and each item's first byte is at most 3
pub record Whole (schedule : List ℕ) : Type 0 where
  pub long : 3 * (length schedule / 3) ≡ length schedule
  pub kinds : item_kinds_right schedule ≡ true

pub whole : (schedule : List ℕ) → schedule_number schedule ≡ 0 → Whole schedule
unfolding schedule_number bytes_left_over
whole schedule e =
    let left = not-refused (bytes_left_over schedule) 5 _ (omega arith) e in
    let rest : length schedule % 3 ≡ 0 = eqb-true _ _ (not-false _ left.0) in
    record { long = omega arith; kinds = not-false _ (not-refused _ 6 0 (omega arith) left.1).0 }

-- the first byte of the item at an index
pub kind_most : (schedule : List ℕ) (k : ℕ) → item_kinds_right schedule ≡ true → k < length schedule / 3 → byte_at schedule (3 * k) ≤ 3
unfolding item_kinds_right item_kind_right
kind_most schedule k e below = leb-true _ _ (every-at (item_kind_right schedule) (length schedule / 3) k e below)

-- the schedule's part of any file is such a schedule: that of a refused file is empty
empty_right : schedule_number [] ≡ 0
unfolding schedule_number bytes_left_over item_kinds_right every refused_if
empty_right = refl

shown_right : (file : List ℕ) (shown : Bool) → eqb (file_number file) 0 ≡ shown → schedule_number (cond shown (schedule_body file) []) ≡ 0
shown_right file true e = (accepted file (eqb-true _ _ e)).schedule
shown_right file false e = empty_right

pub part_right : (file : List ℕ) → schedule_number (schedule_part file) ≡ 0
unfolding schedule_part if_accepted
part_right file = shown_right file (eqb (file_number file) 0) refl
