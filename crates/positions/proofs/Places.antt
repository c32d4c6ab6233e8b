-- What stands at a place, with what the bytes must have for it; and a reading of one position more.
use Prim.Native.Nat.{ℕ, zero, suc, ◌+◌, ◌≤◌, ◌<◌}
use mathlib.Core.Path.{◌≡◌, refl, sym}
use mathlib.Core.Bool.{Bool, true, false, ◌&&◌}
use mathlib.Core.List.{List}
use native.Mathlib.Omega.{arith}
use lib.Dec.{eqb, ltb, leb}
use lib.ListN.{length, get_or}
use borrow.Author.Tests.{leb-true, eqb-true, eqb-false, ltb-true, lt-ltb, le-leb, eq-eqb, ne_eqb}
use Rattle.lists.proofs.Laws.{and_left, and_right}
use Rattle.lists.proofs.Tests.{by_test}
use Rattle.std.specs.Prelude.{Option, Some, None}
use Rattle.positions.specs.declared.Position.{Position}
use Rattle.positions.specs.declared.Position.TheVariants.{Node, Users, Listed}
use Rattle.positions.specs.Ring.{no_more}
use Rattle.positions.specs.Reading.{Reading, wrong, counted, joined, position_at, onward, positions, reading}

module _ (values : List ℕ) (place : ℕ) where
  pub data Stands : Bool → Option Position → Type 0 where
    a_node : (deeper : Bool) → place < length values → get_or values place 0 ≡ 0 → Stands deeper (Some Node)
    some_users : {value : ℕ} → place < length values → get_or values place 0 ≡ value → (value ≡ 0 → ⊥) → value ≤ 4 → Stands true (Some (Users value))
    a_list : {count : ℕ} → place + 1 < length values → get_or values place 0 ≡ 5 → get_or values (place + 1) 0 ≡ count → 1 ≤ count → count ≤ 4
        → Stands true (Some (Listed count))
    nothing : (deeper : Bool) → Stands deeper None

  a_count : place + 1 < length values → get_or values place 0 ≡ 5 → Stands true (counted (get_or values (place + 1) 0))
  unfolding counted
  a_count there five =
      let count = get_or values (place + 1) 0 in
      by_test (Stands true) (leb 1 count && leb count 4)
      (λ e. a_list there five refl (leb-true _ _ (and_left (leb 1 count) (leb count 4) e)) (leb-true _ _ (and_right (leb 1 count) (leb count 4) e)))
      (λ e. nothing true)

  a_junction_lem : (deeper : Bool) → place < length values → (get_or values place 0 ≡ 0 → ⊥) → Stands deeper (joined deeper values place (get_or values place 0))
  unfolding joined
  a_junction_lem false there some = nothing false
  a_junction_lem true there some =
      let value = get_or values place 0 in
      by_test (Stands true) (leb value 4)
      (λ small. some_users there refl some (leb-true _ _ small))
      (λ large. by_test (Stands true) (eqb value 5)
      (λ five. by_test (Stands true) (ltb (place + 1) (length values))
      (λ room. a_count (ltb-true _ _ room) (eqb-true _ _ five)) (λ none. nothing true))
      (λ above. nothing true))

  pub stands : (deeper : Bool) → Stands deeper (position_at deeper values place)
  unfolding position_at
  stands deeper =
      by_test (Stands deeper) (ltb place (length values))
      (λ there. by_test (Stands deeper) (eqb (get_or values place 0) 0)
      (λ none. a_node deeper (ltb-true _ _ there) (eqb-true _ _ none))
      (λ some. a_junction_lem deeper (ltb-true _ _ there) (eqb-false _ _ some)))
      (λ behind. nothing deeper)

  -- and back: what the bytes must have for it is enough
  pub node_at : (deeper : Bool) → place < length values → get_or values place 0 ≡ 0 → position_at deeper values place ≡ Some Node
  unfolding position_at
  node_at deeper there none = simp (lt-ltb _ _ there, eq-eqb _ _ none)

  pub users_at : (value : ℕ) → place < length values → get_or values place 0 ≡ value → (value ≡ 0 → ⊥) → value ≤ 4
      → position_at true values place ≡ Some (Users value)
  unfolding position_at joined
  users_at value there same some small = simp (lt-ltb _ _ there, same, ne_eqb _ _ some, le-leb _ _ small)

  pub list_at_lem : (count : ℕ) → place + 1 < length values → get_or values place 0 ≡ 5 → get_or values (place + 1) 0 ≡ count → 1 ≤ count → count ≤ 4
      → position_at true values place ≡ Some (Listed count)
  unfolding position_at joined counted
  list_at_lem count there five same least most =
      let here : place < length values = omega (arith, there) in
      simp (lt-ltb _ _ here, lt-ltb _ _ there, five, same, le-leb _ _ least, le-leb _ _ most)

-- whether a junction may stand where so many levels are left, and how its list is read
abbrev pub deeper_at : ℕ → Bool
deeper_at zero = false
deeper_at (suc depth) = true

pub deeper_is : (depth : ℕ) → deeper_at depth ≡ ltb 0 depth
deeper_is zero = refl
deeper_is (suc depth) = sym (lt-ltb 0 (suc depth) (omega arith))

abbrev pub list_at : List ℕ → ℕ → ℕ → ℕ → Reading
list_at values zero count place = wrong
list_at values (suc depth) count place = reading depth values count place

pub reading_none : (values : List ℕ) (depth place : ℕ) → reading depth values 0 place ≡ record { right = true; place = place; ring = no_more }
unfolding reading positions
reading_none values zero place = refl
reading_none values (suc depth) place = refl

pub reading-more : (values : List ℕ) (depth count place : ℕ)
    → reading depth values (suc count) place
    ≡ onward (list_at values depth) (λ next. reading depth values count next) place (position_at (deeper_at depth) values place)
unfolding reading positions
reading-more values zero count place = refl
reading-more values (suc depth) count place = refl
