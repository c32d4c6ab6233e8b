-- The schedule's sum is below 2 ^ 32: a file has at most 65,535 bytes, an item has three of them and at most 65,535 steps.
use Rattle.std.specs.Prelude.{Option, Some, None, Result, Ok, Err}
use Prim.Native.Nat.{ℕ, zero, suc, ◌+◌, ◌-◌, ◌*◌, ◌^◌, ◌≤◌, ◌<◌}
use mathlib.Core.Path.{◌≡◌, refl, subst}
use mathlib.Core.Bool.{Bool, true, false, cond}
use mathlib.Core.List.{List, []}
use native.Mathlib.Omega.{arith}
use lib.Dec.{eqb, ltb, leb}
use lib.ListN.{length, get_or, drop, length-drop}
use lib.Seq.{get_or-drop}
use borrow.Author.Tests.{eqb-true}
use Rattle.items.specs.declared.Item.TheVariants.{Steps, Act}
use Rattle.items.specs.declared.Item.{Item}
use Rattle.items.specs.declared.ItemRefusal.{ItemRefusal}
use Rattle.items.specs.declared.ItemRefusal.TheVariants.{LeftOver, Bad}
use Rattle.nightfile.specs.File.{byte_at, two_at, file_number, schedule_start, schedule_body, if_accepted, schedule_part}
use Rattle.nightfile.proofs.Laws.{accepted}
use Rattle.items.specs.Items.{action_of, item_of, place_at, reading, read_at}
use Rattle.course.specs.Whole.{and_others, items_within, items_from, steps_in}
use Rattle.course.proofs.Found.{found_moves}
use Rattle.run.specs.Outcomes.{schedule_sum}

-- the steps of what is read
abbrev steps_found : Result (Option Item) ItemRefusal → ℕ
steps_found (Ok None) = 0
steps_found (Ok (Some (Steps n))) = n
steps_found (Ok (Some (Act action node lock))) = 0
steps_found (Err refusal) = 0

-- a schedule of bytes
module _ (schedule : List ℕ) (bytes : (place : ℕ) → get_or schedule place 0 < 256) where
  -- the steps of one item
  two_most : (at : ℕ) → two_at schedule at ≤ 65535
  unfolding two_at byte_at
  two_most at = omega (arith, bytes at, bytes (at + 1))

  found_most : (at : ℕ) → steps_found (read_at schedule at).answer ≤ 65535
  unfolding read_at reading item_of
  found_most at = go (leb (length schedule) at) (ltb (length schedule - at) 3) (ltb 3 (byte_at schedule at)) (eqb (byte_at schedule at) 0)
    where
      go : (past short bad steps : Bool)
          → steps_found (cond past (reading (Ok None) at) (cond short (reading (Err LeftOver) at) (cond bad (reading (Err (Bad (place_at at))) at)
          (reading (Ok (Some (cond steps (Steps (two_at schedule (at + 1))) (Act (action_of (byte_at schedule at)) (byte_at schedule (at + 1)) (byte_at schedule (at + 2)))))) (at + 3))))).answer
          ≤ 65535
      go true short bad steps = omega arith
      go false true bad steps = omega arith
      go false false true steps = omega arith
      go false false false true = two_most (at + 1)
      go false false false false = omega arith

  -- an item, and the others behind it
  next_most : (n at : ℕ) (answer : Result (Option Item) ItemRefusal) → (read_at schedule at).answer ≡ answer
      → 3 * steps_in (items_within n schedule (read_at schedule at).at) ≤ 65535 * (length schedule - (read_at schedule at).at)
      → 3 * steps_in (and_others answer (items_within n schedule (read_at schedule at).at)) ≤ 65535 * (length schedule - at)
  unfolding and_others steps_in
  next_most n at (Ok None) e rest = omega arith
  next_most n at (Ok (Some (Steps k))) e rest =
      let moves = found_moves schedule at (Steps k) e in
      let most : k ≤ 65535 = subst (λ a. steps_found a ≤ 65535) e (found_most at) in
      omega (arith, moves.0, moves.1, most, rest)
  next_most n at (Ok (Some (Act action node lock))) e rest =
      let moves = found_moves schedule at (Act action node lock) e in
      omega (arith, moves.0, moves.1, rest)
  next_most n at (Err refusal) e rest = omega arith

  items_most : (n at : ℕ) → 3 * steps_in (items_within n schedule at) ≤ 65535 * (length schedule - at)
  unfolding items_within steps_in
  items_most zero at = omega arith
  items_most (suc n) at = next_most n at (read_at schedule at).answer refl (items_most n (read_at schedule at).at)

-- the schedule's part of a file of bytes
part_bytes : (file : List ℕ) → ((place : ℕ) → get_or file place 0 < 256) → (place : ℕ) → get_or (schedule_part file) place 0 < 256
unfolding schedule_part if_accepted schedule_body
part_bytes file bytes place = go (eqb (file_number file) 0)
  where
    go : (shown : Bool) → get_or (cond shown (drop (schedule_start file) file) []) place 0 < 256
    go true = omega (arith, get_or-drop (schedule_start file) file place 0, bytes (schedule_start file + place))
    go false = omega arith

part_short : (file : List ℕ) → length (schedule_part file) ≤ 65535
unfolding schedule_part if_accepted schedule_body
part_short file = go (eqb (file_number file) 0) refl
  where
    go : (shown : Bool) → eqb (file_number file) 0 ≡ shown → length (cond shown (drop (schedule_start file) file) []) ≤ 65535
    go true e = omega (arith, length-drop (schedule_start file) file, (accepted file (eqb-true _ _ e)).most)
    go false e = omega arith

pub sum_short : (file : List ℕ) → ((place : ℕ) → get_or file place 0 < 256) → schedule_sum (schedule_part file) < 2 ^ 32
unfolding schedule_sum items_from
sum_short file bytes =
    let schedule = schedule_part file in
    omega (arith, items_most schedule (part_bytes file bytes) (length schedule - 0) 0, part_short file)
