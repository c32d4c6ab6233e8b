-- The junctions of a state by their places, each with the nodes within it: what holds of each junction of a line holds of the junction at each place, and
-- what holds of all that stands along a ring holds at each of its places.
use Prim.Native.Nat.{ℕ, zero, suc, ◌+◌, ◌-◌, ◌≤◌, ◌<◌}
use mathlib.Core.Path.{◌≡◌, refl, sym, ap, ◌∙◌, subst, subst₂}
use mathlib.Core.Logic.{⊎_elim}
use mathlib.Core.List.{List, ◌++◌}
use native.Mathlib.Nat.{add-zero, eq-or-lt_of_le}
use native.Mathlib.Omega.{arith}
use lib.ListN.{get_or, length, length-append, get_or-append}
use lib.Seq.{get_or-append-add}
use Rattle.lists.proofs.Tests.{at_most_or_above}
use Rattle.positions.specs.Ring.{Ring, no_more, user_node, a_junction, nodes_in, junctions_in}
use Rattle.usernode.specs.declared.Node.{Node}
use Rattle.junction.specs.declared.Junction.{Junction}
use Rattle.ring.specs.State.{rest_node, rest_junction}
use Rattle.onelock.specs.OneLock.{Within, junctions_from}
use Rattle.onelock.proofs.Line.Ring.{Line}
use Rattle.onelock.proofs.Line.Numbers.{Parts, Junctions}
use Rattle.onelock.proofs.State.AsLine.{line_at}
use Rattle.onelock.proofs.State.Through.{line_nodes}

-- where there is no junction, nobody is within
abbrev pub nobody : Within
nobody = record { low = 0; many = 0 }

-- the nodes within the junction at a place along a ring whose first node stands at place i
abbrev pub within_at : Ring → ℕ → ℕ → Within
within_at t i p = get_or (junctions_from t i) p nobody

-- as many as there are junctions
junctions_long : (t : Ring) (i : ℕ) → length (junctions_from t i) ≡ junctions_in t
unfolding junctions_from junctions_in
junctions_long no_more i = refl
junctions_long (user_node rest) i = junctions_long rest (i + 1)
junctions_long (a_junction subring rest) i =
    omega (
      arith,
      length-append (junctions_from subring i) (junctions_from rest (i + nodes_in subring)),
      junctions_long subring i,
      junctions_long rest (i + nodes_in subring),
    )

-- behind a junction: first those within it, then those on the rest of its ring
module _ (subring rest : Ring) (i : ℕ) where
  pub inside_at : (p : ℕ) → p < junctions_in subring → within_at (a_junction subring rest) i (suc p) ≡ within_at subring i p
  unfolding junctions_from
  inside_at p l = get_or-append (junctions_from subring i) (junctions_from rest (i + nodes_in subring)) nobody p (omega (arith, junctions_long subring i))

  pub behind_at : (p : ℕ) → within_at (a_junction subring rest) i (suc (junctions_in subring + p)) ≡ within_at rest (i + nodes_in subring) p
  unfolding junctions_from
  behind_at p =
      ap (λ (n : ℕ). get_or (junctions_from subring i ++ junctions_from rest (i + nodes_in subring)) (n + p) nobody) (sym (junctions_long subring i))
      ∙ get_or-append-add (junctions_from subring i) (junctions_from rest (i + nodes_in subring)) p nobody

-- which junction of a ring with a junction first is at a place: this one, one within it, or one behind it
pub data Which (subring : Ring) : ℕ → Type 0 where
  this_one : Which subring 0
  one_within : (p : ℕ) → p < junctions_in subring → Which subring (suc p)
  one_behind : (p : ℕ) → Which subring (suc (junctions_in subring + p))

pub which : (subring : Ring) (p : ℕ) → Which subring p
which subring zero = this_one
which subring (suc p) =
    ⊎_elim (λ l. subst (Which subring) (ap suc (sym (left l))) (one_behind (p - junctions_in subring))) (λ l. one_within p l)
    (at_most_or_above (junctions_in subring) p)
  where
    left : junctions_in subring ≤ p → p ≡ junctions_in subring + (p - junctions_in subring)
    left l = omega (arith, l)

-- what holds of each junction of a line, its nodes and its subring, holds of the one at each place
module _ (nodes : List Node) (junctions : List Junction) where
  -- the line within a junction
  abbrev line_within : Ring → ℕ → ℕ → Line
  line_within subring low place = line_at subring nodes junctions low (place + 1)

  -- what holds of the junction at a place, with these nodes within it
  pub record Holds (P : ℕ → Junction → Line → Type 0) (w : Within) (place : ℕ) : Type 0 where
    pub subring : Ring
    pub many : w.many ≡ nodes_in subring
    pub holds : P w.low (get_or junctions place rest_junction) (line_within subring w.low place)

  pub junction_holds : (P : ℕ → Junction → Line → Type 0) (t : Ring) (i j p : ℕ) → p < junctions_in t → Junctions P i (line_at t nodes junctions i j)
      → Holds P (within_at t i p) (j + p)
  unfolding junctions_from junctions_in
  junction_holds P no_more i j p l x = absurd (omega (arith, l))
  junction_holds P (user_node rest) i j p l x =
      subst (λ (n : ℕ). Holds P (within_at rest n p) (j + p)) (omega arith) (junction_holds P rest (suc i) j p l x)
  junction_holds P (a_junction subring rest) i j p l x =
      go (which subring p) l (λ q b. junction_holds P subring i (j + 1) q b x.1)
      (λ q b. junction_holds P rest (i + nodes_in subring) (j + 1 + junctions_in subring) q b
      (subst (λ (n : ℕ). Junctions P (i + n) (line_at rest nodes junctions (i + nodes_in subring) (j + 1 + junctions_in subring)))
      (line_nodes subring nodes junctions i (j + 1)) x.2))
    where
      go : {q : ℕ} → Which subring q → q < junctions_in (a_junction subring rest)
          → ((k : ℕ) → k < junctions_in subring → Holds P (within_at subring i k) (j + 1 + k))
          → ((k : ℕ) → k < junctions_in rest → Holds P (within_at rest (i + nodes_in subring) k) (j + 1 + junctions_in subring + k))
          → Holds P (within_at (a_junction subring rest) i q) (j + q)
      go this_one m inside behind =
          subst (λ (n : ℕ). Holds P (record { low = i; many = nodes_in subring }) n) (sym (add-zero j)) (record { subring = subring; many = refl; holds = x.0 })
      go (one_within q b) m inside behind = subst₂ (Holds P) (sym (inside_at subring rest i q b)) (omega arith) (inside q b)
      go (one_behind q) m inside behind = subst₂ (Holds P) (sym (behind_at subring rest i q)) (omega arith) (behind q (omega (arith, m)))

  -- what holds of each node and junction along a ring holds at each of its places
  module _ (P : Node → Type 0) (Q : Junction → Type 0) where
    pub node_part : (t : Ring) (i j p : ℕ) → Parts P Q (line_at t nodes junctions i j) → i ≤ p → p < i + nodes_in t → P (get_or nodes p rest_node)
    unfolding nodes_in
    node_part no_more i j p x low high = absurd (omega (arith, high))
    node_part (user_node rest) i j p x low high =
        ⊎_elim (λ e. subst (λ (n : ℕ). P (get_or nodes n rest_node)) e x.0) (λ l. node_part rest (suc i) j p x.1 l (omega (arith, high)))
        (eq-or-lt_of_le low)
    node_part (a_junction subring rest) i j p x low high =
        ⊎_elim (λ l. node_part rest (i + nodes_in subring) (j + 1 + junctions_in subring) p x.2 l (omega (arith, high)))
        (λ l. node_part subring i (j + 1) p x.1 low l) (at_most_or_above (i + nodes_in subring) p)

    pub junction_part : (t : Ring) (i j p : ℕ) → Parts P Q (line_at t nodes junctions i j) → j ≤ p → p < j + junctions_in t → Q (get_or junctions p rest_junction)
    unfolding junctions_in
    junction_part no_more i j p x low high = absurd (omega (arith, high))
    junction_part (user_node rest) i j p x low high = junction_part rest (suc i) j p x.1 low high
    junction_part (a_junction subring rest) i j p x low high =
        ⊎_elim (λ e. subst (λ (n : ℕ). Q (get_or junctions n rest_junction)) e x.0)
        (λ l. ⊎_elim (λ m. junction_part rest (i + nodes_in subring) (j + 1 + junctions_in subring) p x.2 m (omega (arith, high)))
        (λ m. junction_part subring i (j + 1) p x.1 (omega (arith, l)) m) (at_most_or_above (j + 1 + junctions_in subring) p))
        (eq-or-lt_of_le low)
