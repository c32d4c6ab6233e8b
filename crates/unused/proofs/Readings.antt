-- Two lists of bytes that are the same in those that the positions take are read as the same, in range or not.
use Prim.Native.Nat.{ℕ, zero, suc, ◌+◌}
use mathlib.Core.Path.{◌≡◌, refl, sym, ap, subst, ◌∙◌}
use mathlib.Core.Bool.{Bool, true, false, cond, true≢false}
use mathlib.Core.List.{List}
use native.Mathlib.Nat.{add-zero}
use lib.Dec.{eqb, leb, ltb}
use lib.ListN.{length, get_or, take}
use borrow.Author.Tests.{ltb-true}
use Rattle.std.specs.Prelude.{Option, Some, None}
use Rattle.lists.proofs.Tests.{by_value}
use Rattle.positions.specs.declared.Position.{Position}
use Rattle.positions.specs.declared.Position.TheVariants.{Node, Users}
use Rattle.positions.specs.Ring.{users_only}
use Rattle.positions.specs.Reading.{Reading, counted, joined, position_at, wrong, behind_user, behind_junction, onward, reading, main_ring}
use Rattle.positions.proofs.Ends.{zero_other, small_other}
use Rattle.positions.proofs.InRange.{right_reads}
use Rattle.positions.proofs.Places.{Stands, a_node, some_users, a_list, nothing, stands, deeper_at, list_at, reading_none, reading-more}
use Rattle.unused.specs.Unused.{values_taken}
use Rattle.unused.proofs.Taken.{Same, same_byte, same_count, same_more, behind_byte, behind_count, behind_reads}

module _ (a b : List ℕ) (long : length a ≡ length b) where
  -- so many positions from a place on, with so many behind them: the same bytes are taken
  abbrev Alike : ℕ → ℕ → Type 0
  Alike coming place = Same a b long false coming place

  -- ---- what stands at a place

  -- a count that a list has there
  abbrev count_at : ℕ → List ℕ → Option Position
  count_at place values = cond (ltb place (length values)) (counted (get_or values place 0)) None

  count_same : (coming place : ℕ) → Same a b long true coming place → count_at place a ≡ count_at place b
  count_same coming place same =
      by_value (λ t. cond t (counted (get_or a place 0)) None ≡ cond t (counted (get_or b place 0)) None) (ltb place (length a))
      (λ e. ap counted (same_count a b long coming place (ltb-true _ _ e) same).0) (λ e. refl)
      ∙ ap (λ (n : ℕ). cond (ltb place n) (counted (get_or b place 0)) None) long

  -- a junction of this value
  joined_same : (deeper : Bool) (coming place : ℕ) → Same a b long (eqb (get_or a place 0) 5) coming (place + 1)
      → joined deeper a place (get_or a place 0) ≡ joined deeper b place (get_or a place 0)
  unfolding joined
  joined_same false coming place same = refl
  joined_same true coming place same =
      let value = get_or a place 0 in
      let with_count : Option Position → Option Position = λ count. cond (leb value 4) (Some (Users value)) count in
      ap with_count (by_value (λ t. cond t (count_at (place + 1) a) None ≡ cond t (count_at (place + 1) b) None) (eqb value 5)
      (λ e. count_same coming (place + 1) (subst (λ (opening : Bool). Same a b long opening coming (place + 1)) e same)) (λ e. refl))

  position_same : (deeper : Bool) (coming place : ℕ) → Alike (suc coming) place → position_at deeper a place ≡ position_at deeper b place
  unfolding position_at
  position_same deeper coming place same =
      let at : List ℕ → ℕ → Option Position = λ values value. cond (eqb value 0) (Some Node) (joined deeper values place value) in
      by_value (λ t. cond t (at a (get_or a place 0)) None ≡ cond t (at b (get_or b place 0)) None) (ltb place (length a))
      (λ e. let byte = same_byte a b long coming place (ltb-true _ _ e) same in
      ap (λ (p : Option Position). cond (eqb (get_or a place 0) 0) (Some Node) p) (joined_same deeper coming place byte.1) ∙ ap (at b) byte.0)
      (λ e. refl)
      ∙ ap (λ (n : ℕ). cond (ltb place n) (at b (get_or b place 0)) None) long

  -- ---- positions

  -- a list read of the one and of the other; behind it, where it is in range, the same bytes are taken
  abbrev ListSame : ℕ → Type 0
  ListSame depth =
      (many place more : ℕ) → Alike (many + more) place
      → (list_at a depth many place ≡ list_at b depth many place)
      × ((list_at a depth many place).right ≡ true → Alike more (list_at a depth many place).place)

  -- the further positions of a ring, read of the one and of the other
  abbrev RestSame : ℕ → ℕ → ℕ → Type 0
  RestSame depth count more = (place : ℕ) → Alike (count + more) place → reading depth a count place ≡ reading depth b count place

  -- what is read behind a list
  listed : ℕ → ℕ → List ℕ → Reading → Reading
  listed depth count values read = cond read.right (behind_junction read.ring (reading depth values count read.place)) wrong

  -- by what the position at a place is
  onward_same : (depth count more place : ℕ) → ListSame depth → RestSame depth count more → Alike (suc count + more) place
      → {deeper : Bool} {position : Option Position} → Stands a place deeper position
      → onward (list_at a depth) (λ next. reading depth a count next) place position
      ≡ onward (list_at b depth) (λ next. reading depth b count next) place position
  unfolding onward listed
  onward_same depth count more place list rest same (a_node deeper there none) =
      ap behind_user (rest (place + 1) (behind_byte a b long count more place there (zero_other (get_or a place 0) none) same))
  onward_same depth count more place list rest same (some_users {value = value} there equal some small) =
      ap (behind_junction (users_only value)) (rest (place + 1)
      (behind_byte a b long count more place there (small_other (get_or a place 0) value equal small) same))
  onward_same depth count more place list rest same (a_list {count = many} there five equal least most) =
      let within = list_at a depth many (place + 2) in
      let both = list many (place + 2) (count + more) (behind_count a b long count more place many there five equal same) in
      by_value (λ t. cond t (behind_junction within.ring (reading depth a count within.place)) wrong
      ≡ cond t (behind_junction within.ring (reading depth b count within.place)) wrong) within.right
      (λ e. ap (behind_junction within.ring) (rest within.place (both.1 e))) (λ e. refl)
      ∙ ap (listed depth count b) both.0
  onward_same depth count more place list rest same (nothing deeper) = refl

  -- one position more
  one_more : (depth count more place : ℕ) → ListSame depth → RestSame depth count more → Alike (suc count + more) place
      → reading depth a (suc count) place ≡ reading depth b (suc count) place
  one_more depth count more place list rest same =
      reading-more a depth count place
      ∙ onward_same depth count more place list rest same (stands a place (deeper_at depth))
      ∙ ap (onward (list_at b depth) (λ next. reading depth b count next) place)
      (position_same (deeper_at depth) (count + more) place (same_more a b long count more place same))
      ∙ sym (reading-more b depth count place)

  -- where no level is left there is no list
  no_list : ListSame 0
  unfolding wrong
  no_list many place more same = (refl, λ e. absurd (true≢false (sym e)))

  -- where one is left the list is read with one level less
  a_level : (depth : ℕ) → ((many place more : ℕ) → Alike (many + more) place → reading depth a many place ≡ reading depth b many place) → ListSame (suc depth)
  a_level depth read many place more same =
      (read many place more same, λ e. behind_reads a b long more (right_reads a depth many place e) same)

  reading_same : (depth count place more : ℕ) → Alike (count + more) place → reading depth a count place ≡ reading depth b count place
  reading_same zero zero place more same = reading_none a 0 place ∙ sym (reading_none b 0 place)
  reading_same zero (suc count) place more same = one_more 0 count more place no_list (λ next. reading_same zero count next more) same
  reading_same (suc depth) zero place more same = reading_none a (suc depth) place ∙ sym (reading_none b (suc depth) place)
  reading_same (suc depth) (suc count) place more same =
      one_more (suc depth) count more place (a_level depth (λ many next further. reading_same depth many next further))
      (λ next. reading_same (suc depth) count next more) same

  -- all positions of the main ring
  pub read_same : (count : ℕ) → take (values_taken false count a) a ≡ take (values_taken false count a) b → main_ring a count ≡ main_ring b count
  unfolding main_ring
  read_same count same =
      reading_same 3 count 0 0 (subst (λ (n : ℕ). Alike n 0) (sym (add-zero count)) same)
