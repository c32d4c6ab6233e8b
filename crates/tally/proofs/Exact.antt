-- What a step adds to a lock's busy steps: one where the lock is busy after it, else nothing.
use Rattle.std.specs.Prelude.{Option}
use Prim.Native.Nat.{ℕ, zero, suc, ◌+◌, ◌-◌, ◌^◌, ◌≤◌, ◌<◌, min}
use mathlib.Core.Path.{◌≡◌, refl, ◌∙◌, ap}
use mathlib.Core.Bool.{Bool, true, false, cond}
use mathlib.Core.List.{List}
use native.Mathlib.Omega.{arith}
use lib.Dec.{eqb}
use lib.ListN.{get_or, length, length-set}
use lib.Seq.{get_or-set_same}
use borrow.Author.Tests.{eqb-true, eqb-false}
use Rattle.lists.specs.Loops.{in_order}
use Rattle.turns.specs.declared.Event.{Event}
use Rattle.usernode.specs.declared.Node.{Node}
use Rattle.tally.specs.declared.Tally.{Tally}
use Rattle.tally.specs.Tally.{more, counted, busy, busy_lock, busy_counts, step_tally}
use Rattle.tally.proofs.Times.{one_more}
use Rattle.tally.proofs.Small.{counted_other}

module _ (nodes : List Node) (count : ℕ) (counts : List ℕ) where
  -- the counts have the places that they had
  pub busy_places : (n : ℕ) → length (busy_counts nodes count n counts) ≡ length counts
  unfolding busy_counts busy_lock in_order counted
  busy_places zero = refl
  busy_places (suc n) = go (busy nodes count n) (busy_counts nodes count n counts) ∙ busy_places n
    where
      go : (b : Bool) (l : List ℕ) → length (cond b (counted l n) l) ≡ length l
      go true l = length-set l n _
      go false l = refl

  -- one lock more, and another lock's count
  beside : (n lock : ℕ) → (lock ≡ n → ⊥) → get_or (busy_counts nodes count (suc n) counts) lock 0 ≡ get_or (busy_counts nodes count n counts) lock 0
  unfolding busy_counts busy_lock in_order
  beside n lock other = go (busy nodes count n) (busy_counts nodes count n counts)
    where
      go : (b : Bool) (l : List ℕ) → get_or (cond b (counted l n) l) lock 0 ≡ get_or l lock 0
      go true l = counted_other l n lock other
      go false l = refl

  -- a lock from n on is not counted yet
  busy-beyond : (n lock : ℕ) → n ≤ lock → get_or (busy_counts nodes count n counts) lock 0 ≡ get_or counts lock 0
  unfolding busy_counts in_order
  busy-beyond zero lock above = refl
  busy-beyond (suc n) lock above = beside n lock (λ e. omega arith) ∙ busy-beyond n lock (omega arith)

  -- one lock more, and its own count
  own : (n : ℕ) → n < length counts
      → get_or (busy_counts nodes count (suc n) counts) n 0 ≡ cond (busy nodes count n) (more (get_or counts n 0)) (get_or counts n 0)
  unfolding busy_counts busy_lock in_order counted
  own n room = go (busy nodes count n) (busy_counts nodes count n counts) (busy-beyond n n (omega arith)) (busy_places n)
    where
      go : (b : Bool) (l : List ℕ) → get_or l n 0 ≡ get_or counts n 0 → length l ≡ length counts
          → get_or (cond b (counted l n) l) n 0 ≡ cond b (more (get_or counts n 0)) (get_or counts n 0)
      go true l e long = get_or-set_same l n _ 0 (omega arith) ∙ ap more e
      go false l e long = e

  -- a lock below n is counted once
  busy-at : (n lock : ℕ) → lock < n → lock < length counts
      → get_or (busy_counts nodes count n counts) lock 0 ≡ cond (busy nodes count lock) (more (get_or counts lock 0)) (get_or counts lock 0)
  busy-at zero lock below room = absurd (omega arith)
  busy-at (suc n) lock below room = go (eqb lock n) refl (λ before. busy-at n lock before room)
    where
      go : (b : Bool) → eqb lock n ≡ b
          → (lock < n → get_or (busy_counts nodes count n counts) lock 0 ≡ cond (busy nodes count lock) (more (get_or counts lock 0)) (get_or counts lock 0))
          → get_or (busy_counts nodes count (suc n) counts) lock 0 ≡ cond (busy nodes count lock) (more (get_or counts lock 0)) (get_or counts lock 0)
      go true e again = rw (eqb-true lock n e) (own n (omega (arith, eqb-true lock n e)))
      go false e again = let other = eqb-false lock n e in beside n lock other ∙ again (omega (arith, other))

-- a capped count, and one more where the lock is busy
capped : (b : Bool) (m count : ℕ) → count ≡ min m (2 ^ 64 - 1) → cond b (more count) count ≡ min (m + cond b 1 0) (2 ^ 64 - 1)
capped true m count e = ap more e ∙ one_more m
capped false m count e = e ∙ ap (λ (k : ℕ). min k (2 ^ 64 - 1)) (omega arith)

-- a step
module _ (nodes : List Node) (events : List (Option Event)) (count locks : ℕ) (tally : Tally) where
  pub step_places : length (step_tally nodes events count locks tally).busy ≡ length tally.busy
  unfolding step_tally
  step_places = busy_places nodes (min count 64) tally.busy (min locks 64)

  pub step_exact : (lock m : ℕ) → lock < min locks 64 → lock < length tally.busy → get_or tally.busy lock 0 ≡ min m (2 ^ 64 - 1)
      → get_or (step_tally nodes events count locks tally).busy lock 0 ≡ min (m + cond (busy nodes (min count 64) lock) 1 0) (2 ^ 64 - 1)
  unfolding step_tally
  step_exact lock m below room e =
      busy-at nodes (min count 64) tally.busy (min locks 64) lock below room ∙ capped (busy nodes (min count 64) lock) m (get_or tally.busy lock 0) e
