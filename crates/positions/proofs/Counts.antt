-- What positions in range have: where they end, and how many user nodes and junctions.
use Prim.Native.Nat.{ℕ, zero, suc, ◌+◌, ◌*◌, ◌≤◌}
use mathlib.Core.Path.{◌≡◌, refl}
use mathlib.Core.List.{List}
use native.Mathlib.Nat.{mul-add}
use native.Mathlib.Omega.{arith}
use lib.ListN.{length}
use Rattle.positions.specs.Ring.{Ring, nodes_in, junctions_in, users_only}
use Rattle.positions.proofs.InRange.{Reads, reads_none, reads_user, reads_users, reads_list}

-- so many user nodes are as many, and no junction
pub users_nodes : (n : ℕ) → nodes_in (users_only n) ≡ n
unfolding nodes_in users_only
users_nodes zero = refl
users_nodes (suc n) = let e = users_nodes n in omega (arith, e)

pub users_no_junction : (n : ℕ) → junctions_in (users_only n) ≡ 0
unfolding junctions_in users_only
users_no_junction zero = refl
users_no_junction (suc n) = users_no_junction n

module _ {values : List ℕ} where
  -- each position has at least one byte
  pub reads_onward : {depth count place behind : ℕ} {ring : Ring} → Reads values depth count place behind ring → place + count ≤ behind
  reads_onward reads_none = omega arith
  reads_onward (reads_user there none more) = let e = reads_onward more in omega (arith, e)
  reads_onward (reads_users there same some small more) = let e = reads_onward more in omega (arith, e)
  reads_onward (reads_list there five same least most within more) =
      let d = reads_onward within in
      let e = reads_onward more in omega (arith, d, e)

  -- no byte behind the last one is read
  pub reads_within : {depth count place behind : ℕ} {ring : Ring} → Reads values depth count place behind ring → place ≤ length values → behind ≤ length values
  reads_within reads_none there = there
  reads_within (reads_user there none more) before = reads_within more (omega (arith, there))
  reads_within (reads_users there same some small more) before = reads_within more (omega (arith, there))
  reads_within (reads_list there five same least most within more) before = reads_within more (reads_within within (omega (arith, there)))

  -- a byte brings at most four user nodes
  pub reads_nodes : {depth count place behind : ℕ} {ring : Ring} → Reads values depth count place behind ring → nodes_in ring + 4 * place ≤ 4 * behind
  unfolding nodes_in
  reads_nodes reads_none = omega arith
  reads_nodes (reads_user there none more) = let e = reads_nodes more in omega (arith, e)
  reads_nodes (reads_users {value = value} there same some small more) =
      let e = reads_nodes more in
      let u = users_nodes value in omega (arith, e, u, small)
  reads_nodes (reads_list there five same least most within more) =
      let d = reads_nodes within in
      let e = reads_nodes more in omega (arith, d, e)

  -- and at most one junction
  pub reads_junctions : {depth count place behind : ℕ} {ring : Ring} → Reads values depth count place behind ring → junctions_in ring + place ≤ behind
  unfolding junctions_in
  reads_junctions reads_none = omega arith
  reads_junctions (reads_user there none more) = let e = reads_junctions more in omega (arith, e)
  reads_junctions (reads_users {value = value} there same some small more) =
      let e = reads_junctions more in
      let u = users_no_junction value in omega (arith, e, u)
  reads_junctions (reads_list there five same least most within more) =
      let d = reads_junctions within in
      let e = reads_junctions more in omega (arith, d, e)

  -- a user node has at most one byte of its own, a junction at most two
  pub reads_bytes : {depth count place behind : ℕ} {ring : Ring} → Reads values depth count place behind ring
      → behind ≤ place + nodes_in ring + 2 * junctions_in ring
  unfolding nodes_in junctions_in
  reads_bytes reads_none = omega arith
  reads_bytes (reads_user there none more) = let e = reads_bytes more in omega (arith, e)
  reads_bytes (reads_users there same some small more) = let e = reads_bytes more in omega (arith, e)
  reads_bytes (reads_list there five same least most within more) =
      let d = reads_bytes within in
      let e = reads_bytes more in omega (arith, d, e)

  -- each position has at least one user node within
  pub reads_some : {depth count place behind : ℕ} {ring : Ring} → Reads values depth count place behind ring → count ≤ nodes_in ring
  unfolding nodes_in
  reads_some reads_none = omega arith
  reads_some (reads_user there none more) = let e = reads_some more in omega (arith, e)
  reads_some (reads_users {value = value} there same some small more) =
      let e = reads_some more in
      let u = users_nodes value in omega (arith, e, u, some)
  reads_some (reads_list there five same least most within more) =
      let d = reads_some within in
      let e = reads_some more in omega (arith, d, e, least)

  -- with no level left there is no junction
  pub reads_level : {count place behind : ℕ} {ring : Ring} → Reads values 0 count place behind ring → junctions_in ring ≡ 0
  unfolding junctions_in
  reads_level reads_none = refl
  reads_level (reads_user there none more) = reads_level more

module _ (values : List ℕ) where
  -- with one level the positions bound the junctions; each level more brings at most one junction for each user node
  abbrev Most : ℕ → ℕ → Type 0
  Most depth most = (count place behind : ℕ) (ring : Ring) → Reads values depth count place behind ring → junctions_in ring ≤ most * nodes_in ring

  pub reads_most : (depth most : ℕ) → Most depth most → {count place behind : ℕ} {ring : Ring} → Reads values (suc depth) count place behind ring
      → junctions_in ring ≤ count + most * nodes_in ring
  unfolding junctions_in nodes_in
  reads_most depth most below reads_none = omega arith
  reads_most depth most below (reads_user {rest = rest} there none more) =
      let e = reads_most depth most below more in rw (mul-add most (nodes_in rest) 1) (omega (arith, e))
  reads_most depth most below (reads_users {value = value} {rest = rest} there same some small more) =
      let e = reads_most depth most below more in
      let u = users_no_junction value in rw (mul-add most (nodes_in (users_only value)) (nodes_in rest)) (omega (arith, e, u))
  reads_most depth most below (reads_list {subring = subring} {rest = rest} there five same least many within more) =
      let d = below _ _ _ _ within in
      let e = reads_most depth most below more in rw (mul-add most (nodes_in subring) (nodes_in rest)) (omega (arith, d, e))

  level_most : Most 0 0
  level_most count place behind ring reads = let e = reads_level reads in omega (arith, e)

  first_most : Most 1 1
  first_most count place behind ring reads =
      let e = reads_most 0 0 level_most reads in
      let s = reads_some reads in omega (arith, e, s)

  second_most : Most 2 2
  second_most count place behind ring reads =
      let e = reads_most 1 1 first_most reads in
      let s = reads_some reads in omega (arith, e, s)

  pub third_most : {count place behind : ℕ} {ring : Ring} → Reads values 3 count place behind ring → junctions_in ring ≤ count + 2 * nodes_in ring
  third_most reads = reads_most 2 2 second_most reads
