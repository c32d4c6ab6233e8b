-- What holds of each user node of a line: what follows from it, and the node of one number.
use Prim.Native.Nat.{ℕ, suc, ◌+◌, ◌≤◌, ◌<◌}
use mathlib.Core.Path.{◌≡◌, subst}
use mathlib.Core.Logic.{⊎_elim}
use native.Mathlib.Nat.{eq-or-lt_of_le}
use native.Mathlib.Omega.{arith}
use Rattle.cars.specs.declared.Car.{Car}
use Rattle.usernode.specs.declared.Node.{Node}
use Rattle.lists.proofs.Tests.{at_most_or_above}
use Rattle.onelock.proofs.Line.Ring.{Line, end, user, junction, size}
use Rattle.onelock.proofs.Line.Numbers.{Agrees}

-- what holds of each user node of the line, its number and the car that comes to it
abbrev pub Meets : (ℕ → Car → Node → Type 0) → ℕ → Car → Line → Type 0
Meets P k a end = Unit
Meets P k a (user u r) = P (suc k) a u × Meets P (suc k) u.car r
Meets P k a (junction j s r) = Meets P k j.subring s × Meets P (k + size s) j.main r

-- what follows of each node by itself follows of all of them
pub meets_all : (P Q : ℕ → Car → Node → Type 0) → ((n : ℕ) (a : Car) (u : Node) → P n a u → Q n a u)
    → (k : ℕ) (a : Car) (l : Line) → Meets P k a l → Meets Q k a l
meets_all P Q f k a end m = m
meets_all P Q f k a (user u r) m = (f (suc k) a u m.0, meets_all P Q f (suc k) u.car r m.1)
meets_all P Q f k a (junction j s r) m = (meets_all P Q f k j.subring s m.0, meets_all P Q f (k + size s) j.main r m.1)

-- two facts of each node that meets a car
abbrev pub Both : (ℕ → Car → Node → Type 0) → (ℕ → Car → Node → Type 0) → ℕ → Car → Node → Type 0
Both P Q q a u = P q a u × Q q a u

-- two facts of each node hold together
pub meets_both : (P Q : ℕ → Car → Node → Type 0) (k : ℕ) (a : Car) (l : Line) → Meets P k a l → Meets Q k a l → Meets (Both P Q) k a l
meets_both P Q k a end p q = tt
meets_both P Q k a (user u r) p q = ((p.0, q.0), meets_both P Q (suc k) u.car r p.1 q.1)
meets_both P Q k a (junction j s r) p q = (meets_both P Q k j.subring s p.0 q.0, meets_both P Q (k + size s) j.main r p.1 q.1)

-- the numbering has the node of this number
abbrev pub Numbers : (ℕ → Node) → ℕ → Car → Node → Type 0
Numbers A number a u = A number ≡ u

-- a numbering that agrees with a line has each of its nodes
pub agrees_meets : (A : ℕ → Node) (k : ℕ) (a : Car) (l : Line) → Agrees A k l → Meets (Numbers A) k a l
agrees_meets A k a end x = tt
agrees_meets A k a (user u r) x = (x.0, agrees_meets A (suc k) u.car r x.1)
agrees_meets A k a (junction j s r) x = (agrees_meets A k j.subring s x.0, agrees_meets A (k + size s) j.main r x.1)

-- the node of this number, the car that comes to it, and what holds of them
pub record Met (P : ℕ → Car → Node → Type 0) (number : ℕ) : Type 0 where
  pub arrival : Car
  pub node : Node
  pub holds : P number arrival node

-- what holds of each node holds of the one of this number
pub meets_at : (P : ℕ → Car → Node → Type 0) (k : ℕ) (a : Car) (l : Line) (number : ℕ) → Meets P k a l → k < number → number ≤ k + size l → Met P number
meets_at P k a end number m low high = absurd (omega arith)
meets_at P k a (user u r) number m low high =
    ⊎_elim (λ e. record { arrival = a; node = u; holds = subst (λ (n : ℕ). P n a u) e m.0 })
    (λ l. meets_at P (suc k) u.car r number m.1 l (omega arith))
    (eq-or-lt_of_le low)
meets_at P k a (junction j s r) number m low high =
    ⊎_elim (λ l. meets_at P k j.subring s number m.0 low l) (λ l. meets_at P (k + size s) j.main r number m.1 l (omega arith))
    (at_most_or_above number (k + size s))
