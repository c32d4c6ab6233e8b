-- What is counted at most: nothing at the start; in one step one more of a lock's busy steps, and one for each node of all grants and N events.
-- And a sum is at most what it would be without a top.
use Rattle.std.specs.Prelude.{Option, None, Some}
use Prim.Native.Nat.{ℕ, zero, suc, ◌+◌, ◌-◌, ◌^◌, ◌≤◌, min}
use mathlib.Core.Path.{◌≡◌, refl}
use mathlib.Core.Bool.{Bool, true, false, cond}
use mathlib.Core.List.{List, [], ◌∷◌}
use native.Mathlib.Omega.{arith}
use lib.Dec.{eqb, ltb}
use lib.ListN.{get_or, set, replicate}
use lib.Seq.{get_or-set_other}
use borrow.Author.Tests.{eqb-true, eqb-false}
use Rattle.lists.specs.Loops.{total, in_order}
use Rattle.lists.proofs.Laws.{total_monotone}
use Rattle.usernode.specs.declared.Node.{Node}
use Rattle.turns.specs.declared.Event.{Event}
use Rattle.turns.specs.declared.Event.TheVariants.{Granted, Failed, Lost, Back, Sent}
use Rattle.ring.specs.Walk.{quiet}
use Rattle.tally.specs.declared.Tally.{Tally}
use Rattle.tally.specs.Tally.{more, counted, busy, busy_lock, busy_counts, event_tally, place_tally, events_tally, step_tally, empty_tally, no_counts, add_up, sum_of}

-- one more is at most one more
more_most : (count : ℕ) → more count ≤ count + 1
unfolding more
more_most count = go (ltb count (2 ^ 64 - 1))
  where
    go : (b : Bool) → cond b (count + 1) count ≤ count + 1
    go true = omega arith
    go false = omega arith

-- a count that is set to at most one more
set_most : (counts : List ℕ) (place value lock : ℕ) → value ≤ get_or counts place 0 + 1 → get_or (set counts place value) lock 0 ≤ get_or counts lock 0 + 1
set_most [] place value lock h = omega arith
set_most (c ∷ counts) zero value zero h = h
set_most (c ∷ counts) zero value (suc lock) h = omega arith
set_most (c ∷ counts) (suc place) value zero h = omega arith
set_most (c ∷ counts) (suc place) value (suc lock) h = set_most counts place value lock h

-- a lock counted: no other count changes
counted_most : (counts : List ℕ) (place lock : ℕ) → get_or (counted counts place) lock 0 ≤ get_or counts lock 0 + 1
unfolding counted
counted_most counts place lock = set_most counts place (more (get_or counts place 0)) lock (more_most (get_or counts place 0))

pub counted_other : (counts : List ℕ) (place lock : ℕ) → (lock ≡ place → ⊥) → get_or (counted counts place) lock 0 ≡ get_or counts lock 0
unfolding counted
counted_other counts place lock other = get_or-set_other counts place lock _ 0 other

-- the counts of the first locks together, without a top
abbrev pub together : List ℕ → ℕ → ℕ
together counts = total (λ lock. get_or counts lock 0)

together_most : (counts : List ℕ) (place n : ℕ) → together (counted counts place) n ≤ together counts n + min 1 (n - place)
unfolding total
together_most counts place zero = omega arith
together_most counts place (suc n) = go (eqb n place) refl (together_most counts place n)
  where
    go : (b : Bool) → eqb n place ≡ b → together (counted counts place) n ≤ together counts n + min 1 (n - place)
        → together (counted counts place) n + get_or (counted counts place) n 0 ≤ together counts n + get_or counts n 0 + min 1 (suc n - place)
    go true e before = omega (arith, eqb-true n place e, before, counted_most counts place n)
    go false e before = let other = eqb-false n place e in omega (arith, before, counted_other counts place n other)

-- busy steps: of the first locks, each at most once
busy-counted : (busies : Bool) (counts : List ℕ) (place lock : ℕ)
    → get_or (cond busies (counted counts place) counts) lock 0 ≤ get_or counts lock 0 + cond (eqb lock place) 1 0
busy-counted true counts place lock = go (eqb lock place) refl
  where
    go : (b : Bool) → eqb lock place ≡ b → get_or (counted counts place) lock 0 ≤ get_or counts lock 0 + cond b 1 0
    go true e = counted_most counts place lock
    go false e = let other = eqb-false lock place e in omega (arith, counted_other counts place lock other)
busy-counted false counts place lock = omega arith

busies_most : (nodes : List Node) (count n lock : ℕ) (counts : List ℕ) → get_or (busy_counts nodes count n counts) lock 0 ≤ get_or counts lock 0 + min 1 (n - lock)
unfolding busy_counts busy_lock in_order
busies_most nodes count zero lock counts = omega arith
busies_most nodes count (suc n) lock counts =
    go (eqb lock n) refl (busies_most nodes count n lock counts) (busy-counted (busy nodes count n) (busy_counts nodes count n counts) n lock)
  where
    go : (b : Bool) → eqb lock n ≡ b → get_or (busy_counts nodes count n counts) lock 0 ≤ get_or counts lock 0 + min 1 (n - lock)
        → get_or (busy_counts nodes count (suc n) counts) lock 0 ≤ get_or (busy_counts nodes count n counts) lock 0 + cond b 1 0
        → get_or (busy_counts nodes count (suc n) counts) lock 0 ≤ get_or counts lock 0 + min 1 (suc n - lock)
    go true e before now = omega (arith, eqb-true lock n e, before, now)
    go false e before now = omega (arith, before, now)

-- grants and N events: one for each node
abbrev pub events_in : Tally → ℕ
events_in tally = together tally.grants 64 + together tally.failed 64

event_most : (event : Option Event) (tally : Tally) → events_in (event_tally event tally) ≤ events_in tally + 1
unfolding event_tally
event_most None tally = omega arith
event_most (Some (Granted lock)) tally = omega (arith, together_most tally.grants lock 64)
event_most (Some (Failed lock)) tally = omega (arith, together_most tally.failed lock 64)
event_most (Some (Lost lock)) tally = omega arith
event_most (Some (Back lock)) tally = omega arith
event_most (Some (Sent lock)) tally = omega arith

events_most : (events : List (Option Event)) (count : ℕ) (tally : Tally) → events_in (events_tally events count tally) ≤ events_in tally + count
unfolding events_tally place_tally in_order
events_most events zero tally = omega arith
events_most events (suc count) tally =
    omega (arith, events_most events count tally, event_most (get_or events count quiet) (events_tally events count tally))

-- nothing counted yet
zeros : (n lock : ℕ) → get_or (replicate n 0) lock 0 ≤ 0
zeros zero lock = omega arith
zeros (suc n) zero = omega arith
zeros (suc n) (suc lock) = zeros n lock

pub none_busy : (lock : ℕ) → get_or empty_tally.busy lock 0 ≤ 0
unfolding empty_tally no_counts
none_busy lock = zeros 64 lock

pub none_events : events_in empty_tally ≡ 0
unfolding empty_tally no_counts total
none_events = refl

-- a step
module _ (nodes : List Node) (events : List (Option Event)) (count locks : ℕ) (tally : Tally) where
  pub step_busy : (lock : ℕ) → get_or (step_tally nodes events count locks tally).busy lock 0 ≤ get_or tally.busy lock 0 + 1
  unfolding step_tally
  step_busy lock = omega (arith, busies_most nodes (min count 64) (min locks 64) lock tally.busy)

  pub step_events : events_in (step_tally nodes events count locks tally) ≤ events_in tally + count
  unfolding step_tally
  step_events = omega (arith, events_most events (min count 64) tally)

-- a sum
sum_most : (counts : List ℕ) (n : ℕ) → in_order (add_up counts) n 0 ≤ together counts n
unfolding in_order add_up total
sum_most counts zero = omega arith
sum_most counts (suc n) = omega (arith, sum_most counts n)

pub sum-together : (counts : List ℕ) (locks : ℕ) → sum_of counts locks ≤ together counts 64
unfolding sum_of
sum-together counts locks =
    let places : min locks 64 ≤ 64 = omega arith in
    omega (arith, sum_most counts (min locks 64), total_monotone (λ lock. get_or counts lock 0) (min locks 64) 64 places)
