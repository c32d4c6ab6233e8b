-- Plans without a byte of 5: the values are the positions, one byte each. And plans without a junction.
use Prim.Native.Nat.{ℕ, zero, suc, ◌+◌, ◌≤◌, ◌<◌}
use mathlib.Core.Path.{◌≡◌, refl, sym, ap, subst, ◌∙◌}
use mathlib.Core.Bool.{true}
use mathlib.Core.List.{List}
use native.Mathlib.Nat.{add-zero, zero-add}
use native.Mathlib.Omega.{arith}
use lib.ListN.{length, get_or}
use Rattle.lists.proofs.Tests.{by_number}
use Rattle.positions.specs.Ring.{Ring, no_more, user_node, a_junction, users_only, nodes_in, junctions_in}
use Rattle.positions.specs.Reading.{reading}
use Rattle.positions.proofs.InRange.{Reads, reads_none, reads_user, reads_users, reads_list, right_reads, reads_reading}
use Rattle.positions.proofs.Counts.{users_no_junction, reads_onward, reads_within}

-- a position that is one byte: 0 is a user node, any other value a junction with that many user nodes
unfoldable pub ring_one : ℕ → Ring → Ring
ring_one zero rest = user_node rest
ring_one (suc value) rest = a_junction (users_only (suc value)) rest

-- so many of them, from a place on
unfoldable pub ring_from : List ℕ → ℕ → ℕ → Ring
ring_from values place zero = no_more
ring_from values place (suc count) = ring_one (get_or values place 0) (ring_from values (place + 1) count)

module _ (values : List ℕ) where
  -- of so many places from one on
  abbrev Each : (ℕ → Type 0) → ℕ → ℕ → Type 0
  Each P place count = (k : ℕ) → place ≤ k → k < place + count → P (get_or values k 0)

  behind_first : (P : ℕ → Type 0) (place count : ℕ) → Each P place (suc count) → Each P (place + 1) count
  behind_first P place count each k from before = each k (omega (arith, from)) (omega (arith, before))

  -- of the first place, and of those behind it
  with_first : (P : ℕ → Type 0) (place count : ℕ) → P (get_or values place 0) → Each P (place + 1) count → Each P place (suc count)
  with_first P place count first each k from before =
      by_number (λ k. P (get_or values k 0)) place k first (λ other. each k (omega (arith, from, other)) (omega (arith, before)))

  one_reads : (depth count place behind value : ℕ) (rest : Ring) → place < length values → get_or values place 0 ≡ value → value ≤ 4
      → Reads values (suc depth) count (place + 1) behind rest → Reads values (suc depth) (suc count) place behind (ring_one value rest)
  unfolding ring_one
  one_reads depth count place behind zero rest there same small more = reads_user there same more
  one_reads depth count place behind (suc value) rest there same small more = reads_users there same (λ e. omega (arith, e)) small more

  old_reads : (depth count place : ℕ) → place + count ≤ length values → Each (λ value. value ≤ 4) place count
      → Reads values (suc depth) count place (place + count) (ring_from values place count)
  unfolding ring_from
  old_reads depth zero place room small =
      subst (λ behind. Reads values (suc depth) 0 place behind no_more) (sym (add-zero place)) reads_none
  old_reads depth (suc count) place room small =
      let end : place + 1 + count ≡ place + suc count = omega arith in
      let more = old_reads depth count (place + 1) (omega (arith, room)) (behind_first (λ value. value ≤ 4) place count small) in
      one_reads depth count place (place + suc count) (get_or values place 0) (ring_from values (place + 1) count) (omega (arith, room)) refl
      (small place (omega arith) (omega arith))
      (subst (λ behind. Reads values (suc depth) count (place + 1) behind (ring_from values (place + 1) count)) end more)

  -- values that are all at most 4 are in range, each a position
  pub old_plan : (depth count : ℕ) → count ≤ length values → ((k : ℕ) → k < count → get_or values k 0 ≤ 4)
      → reading (suc depth) values count 0 ≡ record { right = true; place = count; ring = ring_from values 0 count }
  old_plan depth count room small =
      let end = zero-add count in
      subst (λ behind. reading (suc depth) values count 0 ≡ record { right = true; place = behind; ring = ring_from values 0 count }) end
      (reads_reading values (old_reads depth count 0 (omega (arith, end, room)) (λ k from before. small k (omega (arith, before)))))

  -- a right reading has a byte for each position
  pub right_long : (depth count : ℕ) → (reading depth values count 0).right ≡ true → count ≤ length values
  right_long depth count right =
      let reads = right_reads values depth count 0 right in
      let most = reads_onward reads in
      let fits = reads_within reads (omega arith) in omega (arith, most, fits)

  no_list : {depth count place behind : ℕ} {ring : Ring} → Reads values depth count place behind ring → Each (λ value. value ≡ 5 → ⊥) place count
      → Each (λ value. value ≤ 4) place count
  no_list reads_none other = λ k from before. absurd (omega (arith, from, before))
  no_list (reads_user {count = count} {place = place} there none rest) other =
      with_first (λ value. value ≤ 4) place count (omega (arith, none)) (no_list rest (behind_first (λ value. value ≡ 5 → ⊥) place count other))
  no_list (reads_users {count = count} {place = place} there same some small rest) other =
      with_first (λ value. value ≤ 4) place count (omega (arith, same, small)) (no_list rest (behind_first (λ value. value ≡ 5 → ⊥) place count other))
  no_list (reads_list {count = count} {place = place} there five same least most within rest) other =
      absurd (other place (omega arith) (omega arith) five)

  -- and back: where no byte of 5 stands in the first places of a right reading, these are all at most 4
  pub old_values : (depth count : ℕ) → (reading depth values count 0).right ≡ true → ((k : ℕ) → k < count → get_or values k 0 ≡ 5 → ⊥)
      → (k : ℕ) → k < count → get_or values k 0 ≤ 4
  old_values depth count right other k before =
      no_list (right_reads values depth count 0 right) (λ j from below. other j (omega (arith, below))) k (omega arith) (omega (arith, before))

  -- ---- no junction

  no_junction : {depth count place behind : ℕ} {ring : Ring} → Reads values depth count place behind ring → junctions_in ring ≡ 0
      → Each (λ value. value ≡ 0) place count
  unfolding junctions_in
  no_junction reads_none e = λ k from before. absurd (omega (arith, from, before))
  no_junction (reads_user {count = count} {place = place} there none rest) e =
      with_first (λ value. value ≡ 0) place count none (no_junction rest e)
  no_junction (reads_users there same some small rest) e = absurd (omega (arith, e))
  no_junction (reads_list there five same least most within rest) e = absurd (omega (arith, e))

  no_junction_nodes : {depth count place behind : ℕ} {ring : Ring} → Reads values depth count place behind ring → junctions_in ring ≡ 0 → nodes_in ring ≡ count
  unfolding junctions_in nodes_in
  no_junction_nodes reads_none e = refl
  no_junction_nodes (reads_user there none rest) e = let same = no_junction_nodes rest e in omega (arith, same)
  no_junction_nodes (reads_users there same some small rest) e = absurd (omega (arith, e))
  no_junction_nodes (reads_list there five same least most within rest) e = absurd (omega (arith, e))

  -- a right reading without a junction is of zeros
  pub flat_values : (depth count : ℕ) → (reading depth values count 0).right ≡ true → junctions_in (reading depth values count 0).ring ≡ 0
      → (k : ℕ) → k < count → get_or values k 0 ≡ 0
  flat_values depth count right none k before =
      no_junction (right_reads values depth count 0 right) none k (omega arith) (omega (arith, before))

  -- and has a user node for each position
  pub flat_nodes : (depth count : ℕ) → (reading depth values count 0).right ≡ true → junctions_in (reading depth values count 0).ring ≡ 0
      → nodes_in (reading depth values count 0).ring ≡ count
  flat_nodes depth count right none = no_junction_nodes (right_reads values depth count 0 right) none

  zeros_reads : (depth count place : ℕ) → place + count ≤ length values → Each (λ value. value ≡ 0) place count
      → Reads values depth count place (place + count) (users_only count)
  unfolding users_only
  zeros_reads depth zero place room none = subst (λ behind. Reads values depth 0 place behind no_more) (sym (add-zero place)) reads_none
  zeros_reads depth (suc count) place room none =
      let end : place + 1 + count ≡ place + suc count = omega arith in
      let more = zeros_reads depth count (place + 1) (omega (arith, room)) (behind_first (λ value. value ≡ 0) place count none) in
      let there : place < length values = omega (arith, room) in
      reads_user there (none place (omega arith) (omega arith))
      (subst (λ behind. Reads values depth count (place + 1) behind (users_only count)) end more)

  -- zeros are in range, with any levels: user nodes and no junction
  pub zeros_read : (depth count : ℕ) → count ≤ length values → ((k : ℕ) → k < count → get_or values k 0 ≡ 0)
      → reading depth values count 0 ≡ record { right = true; place = count; ring = users_only count }
  zeros_read depth count room none =
      let end = zero-add count in
      subst (λ behind. reading depth values count 0 ≡ record { right = true; place = behind; ring = users_only count }) end
      (reads_reading values (zeros_reads depth count 0 (omega (arith, end, room)) (λ k from before. none k (omega (arith, before)))))

  pub zeros_flat : (depth count : ℕ) → count ≤ length values → ((k : ℕ) → k < count → get_or values k 0 ≡ 0)
      → junctions_in (reading depth values count 0).ring ≡ 0
  zeros_flat depth count room none = ap (λ read. junctions_in read.ring) (zeros_read depth count room none) ∙ users_no_junction count
