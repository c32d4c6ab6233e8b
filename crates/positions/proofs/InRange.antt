-- Positions in range, as a predicate over the bytes: a right reading is one, and one is a right reading.
use Prim.Native.Nat.{ℕ, zero, suc, ◌+◌, ◌≤◌, ◌<◌}
use mathlib.Core.Path.{◌≡◌, refl, sym, subst, ◌∙◌, ap}
use mathlib.Core.Bool.{Bool, true, false, cond, true≢false}
use mathlib.Core.List.{List}
use lib.ListN.{length, get_or}
use Rattle.std.specs.Prelude.{Option}
use Rattle.positions.specs.declared.Position.{Position}
use Rattle.positions.specs.Ring.{Ring, no_more, user_node, a_junction, users_only}
use Rattle.positions.specs.Reading.{Reading, wrong, behind_user, behind_junction, onward, positions, reading}
use Rattle.positions.proofs.Places.{Stands, a_node, some_users, a_list, nothing, stands, node_at, users_at, list_at_lem, deeper_at, list_at, reading_none, reading-more}

module _ (values : List ℕ) where
  -- levels, count, place, the place behind, ring
  pub data Reads : ℕ → ℕ → ℕ → ℕ → Ring → Type 0 where
    reads_none : {depth place : ℕ} → Reads depth 0 place place no_more
    reads_user : {depth count place behind : ℕ} {rest : Ring} → place < length values → get_or values place 0 ≡ 0
        → Reads depth count (place + 1) behind rest → Reads depth (suc count) place behind (user_node rest)
    reads_users : {depth count place behind value : ℕ} {rest : Ring} → place < length values → get_or values place 0 ≡ value → (value ≡ 0 → ⊥) → value ≤ 4
        → Reads (suc depth) count (place + 1) behind rest → Reads (suc depth) (suc count) place behind (a_junction (users_only value) rest)
    reads_list : {depth count place middle behind many : ℕ} {subring rest : Ring} → place + 1 < length values → get_or values place 0 ≡ 5
        → get_or values (place + 1) 0 ≡ many → 1 ≤ many → many ≤ 4
        → Reads depth many (place + 2) middle subring → Reads (suc depth) count middle behind rest
        → Reads (suc depth) (suc count) place behind (a_junction subring rest)

  -- what is read right is in range
  abbrev Right : ℕ → ℕ → ℕ → Reading → Type 0
  Right depth count place read = read.right ≡ true → Reads depth count place read.place read.ring

  list_right : (subring : Bool) (read : Reading) → (cond subring read wrong).right ≡ true → (subring ≡ true) × (read.right ≡ true)
  unfolding wrong
  list_right true read e = (refl, e)
  list_right false read e = absurd (true≢false (sym e))

  -- one position more, with no level left
  right_level : (count place : ℕ) → ((next : ℕ) → Right 0 count next (reading 0 values count next))
      → {position : Option Position} → Stands values place false position
      → Right 0 (suc count) place (onward (list_at values 0) (λ next. reading 0 values count next) place position)
  unfolding onward behind_user wrong
  right_level count place rest (a_node false there none) e = reads_user there none (rest (place + 1) e)
  right_level count place rest (nothing false) e = absurd (true≢false (sym e))

  -- and with levels left
  right_deeper : (depth count place : ℕ) → ((many next : ℕ) → Right depth many next (reading depth values many next))
      → ((next : ℕ) → Right (suc depth) count next (reading (suc depth) values count next))
      → {position : Option Position} → Stands values place true position
      → Right (suc depth) (suc count) place (onward (list_at values (suc depth)) (λ next. reading (suc depth) values count next) place position)
  unfolding onward behind_user behind_junction wrong
  right_deeper depth count place list rest (a_node true there none) e = reads_user there none (rest (place + 1) e)
  right_deeper depth count place list rest (some_users there same some small) e =
      reads_users there same some small (rest (place + 1) e)
  right_deeper depth count place list rest (a_list {count = many} there five same least most) e =
      let within = reading depth values many (place + 2) in
      let all = behind_junction within.ring (reading (suc depth) values count within.place) in
      let both = list_right within.right all e in
      subst (λ (b : Bool). Reads (suc depth) (suc count) place (cond b all wrong).place (cond b all wrong).ring) (sym both.0)
      (reads_list there five same least most (list many (place + 2) both.0) (rest within.place both.1))
  right_deeper depth count place list rest (nothing true) e = absurd (true≢false (sym e))

  pub right_reads : (depth count place : ℕ) → (reading depth values count place).right ≡ true
      → Reads depth count place (reading depth values count place).place (reading depth values count place).ring
  unfolding reading positions
  right_reads zero zero place e = reads_none
  right_reads zero (suc count) place e = right_level count place (λ next. right_reads zero count next) (stands values place false) e
  right_reads (suc depth) zero place e = reads_none
  right_reads (suc depth) (suc count) place e =
      right_deeper depth count place (λ many next. right_reads depth many next) (λ next. right_reads (suc depth) count next) (stands values place true) e

  -- what is in range is read right
  pub reads_reading : {depth count place behind : ℕ} {ring : Ring} → Reads depth count place behind ring
      → reading depth values count place ≡ record { right = true; place = behind; ring = ring }
  unfolding onward behind_user behind_junction
  reads_reading (reads_none {depth = depth} {place = place}) = reading_none values depth place
  reads_reading (reads_user {depth = depth} {count = count} {place = place} there none more) =
      reading-more values depth count place
      ∙ ap (onward (list_at values depth) (λ next. reading depth values count next) place) (node_at values place (deeper_at depth) there none)
      ∙ ap behind_user (reads_reading more)
  reads_reading (reads_users {depth = depth} {count = count} {place = place} {value = value} there same some small more) =
      reading-more values (suc depth) count place
      ∙ ap (onward (list_at values (suc depth)) (λ next. reading (suc depth) values count next) place) (users_at values place value there same some small)
      ∙ ap (behind_junction (users_only value)) (reads_reading more)
  reads_reading (reads_list {depth = depth} {count = count} {place = place} {many = many} {subring = subring} there five same least most within more) =
      reading-more values (suc depth) count place
      ∙ ap (onward (list_at values (suc depth)) (λ next. reading (suc depth) values count next) place) (list_at_lem values place many there five same least most)
      ∙ ap (λ (read : Reading). cond read.right (behind_junction read.ring (reading (suc depth) values count read.place)) wrong)
      (reads_reading within)
      ∙ ap (behind_junction subring) (reads_reading more)
