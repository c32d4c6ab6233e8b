-- Which junctions stand within which. Every junction of a plan in range has a node within, so a junction that comes later than another in travelling
-- order, the nodes within it among those within the other, stands within the other.
use Prim.Native.Nat.{ℕ, zero, suc, ◌+◌, ◌≤◌, ◌<◌}
use mathlib.Core.Path.{◌≡◌, sym, subst, subst₂}
use mathlib.Core.Bool.{true}
use mathlib.Core.List.{List}
use native.Mathlib.Nat.{add-zero}
use native.Mathlib.Omega.{arith}
use lib.ListN.{get_or}
use Rattle.positions.specs.Ring.{Ring, no_more, user_node, a_junction, nodes_in, junctions_in, users_only}
use Rattle.positions.proofs.InRange.{Reads, reads_none, reads_user, reads_users, reads_list}
use Rattle.positions.proofs.Counts.{reads_some, users_nodes}
use Rattle.positions.proofs.Theorems.{main_reads}
use Rattle.plan.specs.declared.Plan.{Plan}
use Rattle.plan.specs.Plan.{positions_read, ring_of, in_range}
use Rattle.plan.proofs.Laws.{in_range_lem}
use Rattle.usernode.specs.declared.Node.{Node}
use Rattle.junction.specs.declared.Junction.{Junction}
use Rattle.ring.specs.State.{rest_junction}
use Rattle.onelock.specs.OneLock.{Within, junctions_from}
use Rattle.onelock.proofs.Line.Ring.{Line}
use Rattle.onelock.proofs.Line.Numbers.{Parts, Junctions}
use Rattle.onelock.proofs.State.AsLine.{line_at}
use Rattle.onelock.proofs.State.Through.{line_nodes}
use Rattle.onelock.proofs.State.Within.{within_at, inside_at, behind_at, Which, this_one, one_within, one_behind, which, junction_part}

-- every junction has a node within
abbrev pub Filled : Ring → Type 0
Filled no_more = Unit
Filled (user_node rest) = Filled rest
Filled (a_junction subring rest) = (1 ≤ nodes_in subring) × Filled subring × Filled rest

users_filled : (n : ℕ) → Filled (users_only n)
unfolding users_only
users_filled zero = tt
users_filled (suc n) = users_filled n

-- so it is where the positions are in range
reads_filled : {values : List ℕ} {depth count place behind : ℕ} {ring : Ring} → Reads values depth count place behind ring → Filled ring
reads_filled reads_none = tt
reads_filled (reads_user there none more) = reads_filled more
reads_filled (reads_users {value = value} there same some small more) =
    let u = users_nodes value in (omega (arith, u, some), users_filled value, reads_filled more)
reads_filled (reads_list there five same least most within more) =
    let d = reads_some within in (omega (arith, d, least), reads_filled within, reads_filled more)

pub ring_filled : (plan : Plan) → in_range plan ≡ true → Filled (ring_of plan)
unfolding ring_of positions_read
ring_filled plan r = reads_filled (main_reads plan.values plan.positions (in_range_lem plan r).right)

-- the nodes within a junction of a ring are among those of the ring, and there is one
pub record Among (t : Ring) (i : ℕ) (w : Within) : Type 0 where
  pub low : i ≤ w.low
  pub high : w.low + w.many ≤ i + nodes_in t
  pub some : 1 ≤ w.many

pub among : (t : Ring) (i p : ℕ) → Filled t → p < junctions_in t → Among t i (within_at t i p)
unfolding junctions_from junctions_in nodes_in
among no_more i p f l = absurd (omega (arith, l))
among (user_node rest) i p f l =
    let a = among rest (i + 1) p f l in
    record { low = omega (arith, a.low); high = omega (arith, a.high); some = a.some }
among (a_junction subring rest) i p f l =
    go (which subring p) l (λ q b. among subring i q f.1 b) (λ q b. among rest (i + nodes_in subring) q f.2 b)
  where
    go : {q : ℕ} → Which subring q → q < junctions_in (a_junction subring rest) → ((k : ℕ) → k < junctions_in subring → Among subring i (within_at subring i k))
        → ((k : ℕ) → k < junctions_in rest → Among rest (i + nodes_in subring) (within_at rest (i + nodes_in subring) k))
        → Among (a_junction subring rest) i (within_at (a_junction subring rest) i q)
    go this_one m inside behind = record { low = omega arith; high = omega arith; some = f.0 }
    go (one_within q b) m inside behind =
        let a = inside q b in
        subst (Among (a_junction subring rest) i) (sym (inside_at subring rest i q b))
        (record { low = a.low; high = omega (arith, a.high); some = a.some })
    go (one_behind q) m inside behind =
        let a = behind q (omega (arith, m)) in
        subst (Among (a_junction subring rest) i) (sym (behind_at subring rest i q))
        (record { low = omega (arith, a.low); high = omega (arith, a.high); some = a.some })

-- a junction that comes later, its nodes among those within an earlier one, stands within that one: what holds of all that is within that one holds of it
module _ (nodes : List Node) (junctions : List Junction) (R : Junction → Type 0) (P : Node → Type 0) (Q : Junction → Type 0) where
  -- so it is within every junction of the line
  abbrev pub AllWithin : ℕ → Junction → Line → Type 0
  AllWithin k j s = R j → Parts P Q s

  -- the nodes within the junction at the second place are none beyond those within the one at the first
  abbrev NotBeyond : Within → Within → Type 0
  NotBeyond v w = w.low + w.many ≤ v.low + v.many

  -- what holds of the junction at the first place gives what holds of the one at the second
  abbrev Gives : ℕ → ℕ → Type 0
  Gives p q = R (get_or junctions p rest_junction) → Q (get_or junctions q rest_junction)

  pub junction_within : (t : Ring) (i j p q : ℕ) → Filled t → Junctions AllWithin i (line_at t nodes junctions i j) → p < q → q < junctions_in t
      → NotBeyond (within_at t i p) (within_at t i q) → Gives (j + p) (j + q)
  unfolding junctions_from junctions_in
  junction_within no_more i j p q f x l m n = absurd (omega (arith, m))
  junction_within (user_node rest) i j p q f x l m n =
      junction_within rest (suc i) j p q f x l m (subst (λ (k : ℕ). NotBeyond (within_at rest k p) (within_at rest k q)) (omega arith) n)
  junction_within (a_junction subring rest) i j p q f x l m n =
      go (which subring p) (which subring q) l m n (λ v w. junction_within subring i (j + 1) v w f.1 x.1)
      (λ v w. junction_within rest (i + nodes_in subring) (j + 1 + junctions_in subring) v w f.2
      (subst (λ (k : ℕ). Junctions AllWithin (i + k) (line_at rest nodes junctions (i + nodes_in subring) (j + 1 + junctions_in subring)))
      (line_nodes subring nodes junctions i (j + 1)) x.2))
    where
      ring : Ring
      ring = a_junction subring rest

      low : ℕ
      low = i + nodes_in subring

      -- what is behind is not among what is before
      apart : (v w : Within) → Among rest low w → v.low + v.many ≤ low → NotBeyond v w → ⊥
      apart v w a most le = omega (arith, a.low, a.some, most, le)

      go : {p q : ℕ} → Which subring p → Which subring q → p < q → q < junctions_in ring → NotBeyond (within_at ring i p) (within_at ring i q)
          → ((v w : ℕ) → v < w → w < junctions_in subring → NotBeyond (within_at subring i v) (within_at subring i w) → Gives (j + 1 + v) (j + 1 + w))
          → ((v w : ℕ) → v < w → w < junctions_in rest → NotBeyond (within_at rest low v) (within_at rest low w)
          → Gives (j + 1 + junctions_in subring + v) (j + 1 + junctions_in subring + w))
          → Gives (j + p) (j + q)
      go this_one this_one l m n inside behind = absurd (omega (arith, l))
      go this_one (one_within q b) l m n inside behind =
          λ y. junction_part nodes junctions P Q subring i (j + 1) (j + suc q)
          (x.0 (subst (λ (k : ℕ). R (get_or junctions k rest_junction)) (add-zero j) y)) (omega arith) (omega (arith, b))
      go this_one (one_behind q) l m n inside behind =
          absurd (apart (within_at ring i 0) (within_at rest low q) (among rest low q f.2 (omega (arith, m))) (omega arith)
          (subst (NotBeyond (within_at ring i 0)) (behind_at subring rest i q) n))
      go (one_within p a) this_one l m n inside behind = absurd (omega (arith, l))
      go (one_within p a) (one_within q b) l m n inside behind =
          subst₂ Gives (omega arith) (omega arith)
          (inside p q (omega (arith, l)) b (subst₂ NotBeyond (inside_at subring rest i p a) (inside_at subring rest i q b) n))
      go (one_within p a) (one_behind q) l m n inside behind =
          absurd (apart (within_at subring i p) (within_at rest low q) (among rest low q f.2 (omega (arith, m))) (among subring i p f.1 a).high
          (subst₂ NotBeyond (inside_at subring rest i p a) (behind_at subring rest i q) n))
      go (one_behind p) this_one l m n inside behind = absurd (omega (arith, l))
      go (one_behind p) (one_within q b) l m n inside behind = absurd (omega (arith, l, b))
      go (one_behind p) (one_behind q) l m n inside behind =
          subst₂ Gives (omega arith) (omega arith)
          (behind p q (omega (arith, l)) (omega (arith, m)) (subst₂ NotBeyond (behind_at subring rest i p) (behind_at subring rest i q) n))
