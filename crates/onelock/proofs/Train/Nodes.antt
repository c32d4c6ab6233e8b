-- The nodes by their numbers, and one of them put anew.
use Prim.Native.Nat.{ℕ}
use mathlib.Core.Path.{◌≡◌, refl}
use mathlib.Core.Bool.{cond}
use lib.Dec.{eqb}
use borrow.Author.Tests.{eqb-true, eqb-false, ne_eqb, eq-eqb}
use Rattle.usernode.specs.declared.Node.{Node}
use Rattle.lists.proofs.Tests.{by_test}

-- the nodes by their numbers, one of them put anew
abbrev pub put : (ℕ → Node) → ℕ → Node → ℕ → Node
put A q u i = cond (eqb i q) u (A i)

-- a node put anew is there
pub put_here : (A : ℕ → Node) (q : ℕ) (u : Node) → put A q u q ≡ u
put_here A q u = rw (eq-eqb q q refl)

-- the others are as they were
pub put_there : (A : ℕ → Node) (q : ℕ) (u : Node) (i : ℕ) → (i ≡ q → ⊥) → put A q u i ≡ A i
put_there A q u i n = rw (ne_eqb i q n)

-- what holds of the node put anew, at its number, and of each other node holds of all
pub put_case : (P : Node → Type 0) (A : ℕ → Node) (q : ℕ) (v : Node) (i : ℕ) → (i ≡ q → P v) → ((i ≡ q → ⊥) → P (A i)) → P (put A q v i)
put_case P A q v i here there = by_test P (eqb i q) (λ e. here (eqb-true i q e)) (λ e. there (eqb-false i q e))
