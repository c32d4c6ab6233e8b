-- The item reader that holds the schedule, and `item_from` over it: each asks nothing of its caller, and its promise leaves one possible answer.
-- What each contract says is stated here of its clauses themselves, and not of the `Learnt` that the check reads off them, in every model of the
-- program logic that the contract is read in: nothing is required, and what is ensured is one fact, by which the answer is settled.
use Rattle.std.specs.Prelude.{ℕ, ◌≡◌, List}
use base.Logic.{emp}
use contract.Lifetimes.{Lfts}
use contract.Monad.{fact}
use borrow.Fn.World.{World}
use Rattle.std.specs.Borrow.{Bor}
use Rattle.items.specs.declared.Reader.{Reader}
use Rattle.items.specs.declared.Reading.{Reading}
use Rattle.items.specs.Items.{read_at}
use Rattle.items.specs.contracts.Reader.new as new
use Rattle.items.specs.contracts.Reader.read as read
use Rattle.items.specs.contracts.Reader.moved_on as moved_on
use Rattle.items.specs.contracts.item_from as item_from

-- a reader over this slice, at this place; what is read at a place of a slice
unfoldable pub IsAt : Bor (List ℕ) → ℕ → Reader → Type 0
IsAt schedule at r = (r.schedule ≡ schedule) × (r.at ≡ at)

unfoldable pub IsRead : Bor (List ℕ) → ℕ → Reading → Type 0
IsRead schedule at r = r ≡ read_at schedule.now at

-- two that are so are equal
pub record Facts : Type 0 where
  pub reader : (schedule : Bor (List ℕ)) (at : ℕ) (x y : Reader) → IsAt schedule at x → IsAt schedule at y → x ≡ y
  pub reading : (schedule : Bor (List ℕ)) (at : ℕ) (x y : Reading) → IsRead schedule at x → IsRead schedule at y → x ≡ y

-- the contracts require nothing
pub record AskNothing (w : World) (κ : Lfts 1) : Type 2 where
  pub new : (a g : _) → (new.clauses w.𝓛 w.𝓜.mem w.𝓡.run κ a).requires g ≡ emp w.𝓤
  pub read : (a g : _) → (read.clauses w.𝓛 w.𝓜.mem w.𝓡.run κ a).requires g ≡ emp w.𝓤
  pub moved_on : (a g : _) → (moved_on.clauses w.𝓛 w.𝓜.mem w.𝓡.run κ a).requires g ≡ emp w.𝓤
  pub item_from : (a g : _) → (item_from.clauses w.𝓛 w.𝓜.mem w.𝓡.run κ a).requires g ≡ emp w.𝓤

-- and ensure just this
pub record Contracts (w : World) (κ : Lfts 1) : Type 2 where
  pub new : (a g r e : _) → (new.clauses w.𝓛 w.𝓜.mem w.𝓡.run κ a).ensures g r e ≡ fact w.𝓤 (IsAt a.0 a.1.0 r)
  pub read : (a g r e : _) → (read.clauses w.𝓛 w.𝓜.mem w.𝓡.run κ a).ensures g r e ≡ fact w.𝓤 (IsRead a.0.schedule a.0.at r)
  pub moved_on : (a g r e : _) → (moved_on.clauses w.𝓛 w.𝓜.mem w.𝓡.run κ a).ensures g r e ≡ fact w.𝓤 (IsAt a.0.schedule (read_at a.0.schedule.now a.0.at).at r)
  pub item_from : (a g r e : _) → (item_from.clauses w.𝓛 w.𝓜.mem w.𝓡.run κ a).ensures g r e ≡ fact w.𝓤 (IsRead a.0 a.1.0 r)
