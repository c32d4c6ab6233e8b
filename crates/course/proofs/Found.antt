-- The items of a schedule, one after the other: what is found at a place, and what the items from there are.
use Prim.Native.Nat.{ℕ, zero, suc, ◌+◌, ◌-◌, ◌≤◌, ◌<◌}
use mathlib.Core.Path.{◌≡◌, refl, ◌∙◌, sym, ap}
use mathlib.Core.Bool.{Bool, true, false, cond}
use mathlib.Core.List.{List, [], ◌∷◌}
use native.Mathlib.Omega.{arith}
use lib.Dec.{leb, ltb}
use lib.ListN.{length}
use borrow.Author.Tests.{leb-false, ltb-false, le-leb}
use Rattle.items.specs.declared.Item.{Item}
use Rattle.std.specs.Prelude.{Option, Some, None, Result, Ok, Err}
use Rattle.items.specs.declared.ItemRefusal.{ItemRefusal}
use Rattle.items.specs.declared.ItemRefusal.TheVariants.{LeftOver, Bad}
use Rattle.items.specs.declared.Reading.{Reading}
use Rattle.nightfile.specs.File.{byte_at}
use Rattle.items.specs.Items.{item_of, place_at, reading, read_at}
use Rattle.course.specs.Whole.{and_others, items_within, items_from}

-- what is read at a place: no item, or an item that ends within the schedule
data Reads (long at : ℕ) (r : Reading) : Type 0 where
  none : ((others : List Item) → and_others r.answer others ≡ []) → Reads long at r
  found : (item : Item) → r ≡ reading (Ok (Some item)) (at + 3) → at + 3 ≤ long → Reads long at r

reads_by : (long at place : ℕ) (item : Item) (past short bad : Bool) → leb long at ≡ past → ltb (long - at) 3 ≡ short →
    Reads long at (cond past (reading (Ok None) at) (cond short (reading (Err LeftOver) at) (cond bad (reading (Err (Bad place)) at) (reading (Ok (Some item)) (at + 3)))))
unfolding and_others reading
reads_by long at place item true short bad p s = none (λ others. refl)
reads_by long at place item false true bad p s = none (λ others. refl)
reads_by long at place item false false true p s = none (λ others. refl)
reads_by long at place item false false false p s =
    let inside : at < long = leb-false long at p in
    let room : 3 ≤ long - at = ltb-false (long - at) 3 s in
    let fits : at + 3 ≤ long = omega arith in
    found item refl fits

reads : (schedule : List ℕ) (at : ℕ) → Reads (length schedule) at (read_at schedule at)
unfolding read_at
reads schedule at = reads_by (length schedule) at (place_at at) (item_of schedule at) (leb (length schedule) at) (ltb (length schedule - at) 3) (ltb 3 (byte_at schedule at)) refl refl

-- past the end there are no items
none_past : (schedule : List ℕ) (at : ℕ) (others : List Item) → length schedule ≤ at → and_others (read_at schedule at).answer others ≡ []
unfolding read_at reading and_others
none_past schedule at others past = simp (le-leb _ _ past)

-- more bytes than there are make no more items
enough_by : (n m : ℕ) (schedule : List ℕ) (at : ℕ) (r : Reading)
    → ((place : ℕ) → length schedule - place ≤ n → length schedule - place ≤ m → items_within n schedule place ≡ items_within m schedule place)
    → Reads (length schedule) at r → length schedule - at ≤ suc n → length schedule - at ≤ suc m
    → and_others r.answer (items_within n schedule r.at) ≡ and_others r.answer (items_within m schedule r.at)
unfolding reading
enough_by n m schedule at r same (none e) p q = e _ ∙ sym (e _)
enough_by n m schedule at r same (found item e fits) p q =
    let a : length schedule - (at + 3) ≤ n = omega arith in
    let b : length schedule - (at + 3) ≤ m = omega arith in
    rw e (ap (and_others (Ok (Some item))) (same (at + 3) a b))

enough : (n m : ℕ) (schedule : List ℕ) (at : ℕ) → length schedule - at ≤ n → length schedule - at ≤ m → items_within n schedule at ≡ items_within m schedule at
unfolding items_within
enough zero zero schedule at p q = refl
enough zero (suc m) schedule at p q = let past : length schedule ≤ at = omega arith in sym (none_past schedule at _ past)
enough (suc n) zero schedule at p q = let past : length schedule ≤ at = omega arith in none_past schedule at _ past
enough (suc n) (suc m) schedule at p q =
    enough_by n m schedule at (read_at schedule at) (λ place a b. enough n m schedule place a b) (reads schedule at) p q

-- where an item is found, the place moves past it, within the schedule
moves_by : (long at : ℕ) (r : Reading) (item : Item) → Reads long at r → r.answer ≡ Ok (Some item) → (r.at ≡ at + 3) × (at + 3 ≤ long)
unfolding and_others reading
moves_by long at r item (none e) f =
    let nothing : item ∷ [] ≡ [] = ap (λ (a : Result (Option Item) ItemRefusal). and_others a []) (sym f) ∙ e [] in
    let count : length (item ∷ []) ≡ length {A = Item} [] = ap length nothing in
    absurd (omega (arith, count))
moves_by long at r item (found other e fits) f = (ap (λ (x : Reading). x.at) e, fits)

pub found_moves : (schedule : List ℕ) (at : ℕ) (item : Item) → (read_at schedule at).answer ≡ Ok (Some item)
    → ((read_at schedule at).at ≡ at + 3) × (at + 3 ≤ length schedule)
found_moves schedule at item f = moves_by (length schedule) at (read_at schedule at) item (reads schedule at) f

-- it is then the first of the items from there
first_by : (n at : ℕ) (schedule : List ℕ) (item : Item) → (read_at schedule at).answer ≡ Ok (Some item) → at + 3 ≤ length schedule → length schedule - at ≤ n
    → items_within n schedule at ≡ item ∷ items_from schedule (at + 3)
unfolding items_within items_from and_others
first_by zero at schedule item f fits p = absurd (omega arith)
first_by (suc n) at schedule item f fits p =
    let a : length schedule - (at + 3) ≤ n = omega arith in
    let b : length schedule - (at + 3) ≤ length schedule - (at + 3) = omega arith in
    rw (f, (found_moves schedule at item f).0) (ap (λ (others : List Item). item ∷ others) (enough n (length schedule - (at + 3)) schedule (at + 3) a b))

pub items_found : (schedule : List ℕ) (at : ℕ) (item : Item) → (read_at schedule at).answer ≡ Ok (Some item)
    → items_from schedule at ≡ item ∷ items_from schedule (at + 3)
unfolding items_from
items_found schedule at item f =
    let b : length schedule - at ≤ length schedule - at = omega arith in
    first_by (length schedule - at) at schedule item f (found_moves schedule at item f).1 b

-- where none is found, there are no items from there
none_by : (n : ℕ) (schedule : List ℕ) (at : ℕ) → ((others : List Item) → and_others (read_at schedule at).answer others ≡ []) → items_within n schedule at ≡ []
unfolding items_within
none_by zero schedule at e = refl
none_by (suc n) schedule at e = e _

pub items_none : (schedule : List ℕ) (at : ℕ) → ((others : List Item) → and_others (read_at schedule at).answer others ≡ []) → items_from schedule at ≡ []
unfolding items_from
items_none schedule at e = none_by (length schedule - at) schedule at e
