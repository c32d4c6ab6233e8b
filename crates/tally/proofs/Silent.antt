-- Steps without an event: what is counted after such a step depends on the nodes before it alone, so that many of them can be
-- counted at once.
use Rattle.std.specs.Prelude.{Option, None, Some}
use Prim.Native.Nat.{ℕ, ◌+◌, ◌<◌, min}
use mathlib.Core.Path.{◌≡◌, refl, ◌∙◌, sym, ap}
use mathlib.Core.Bool.{Bool, true, cond}
use mathlib.Core.List.{List}
use native.Mathlib.Numerals.{add-one}
use native.Mathlib.Omega.{arith}
use lib.ListN.{get_or}
use Rattle.lists.specs.Loops.{iterate}
use Rattle.lists.proofs.Laws.{every-at, iterate-first, iterate_same, in_order_same, some_same}
use Rattle.plan.specs.Plan.{node_count}
use Rattle.usernode.specs.declared.Node.{Node}
use Rattle.turns.specs.declared.Event.{Event}
use Rattle.turns.specs.declared.Event.TheVariants.{Granted, Failed, Lost, Back, Sent}
use Rattle.ring.specs.declared.State.{State}
use Rattle.ring.specs.State.{rest_node}
use Rattle.ring.specs.Walk.{quiet}
use Rattle.ring.specs.Step.{stepping}
use Rattle.ring.specs.Advance.{no_event, silent}
use Rattle.tally.specs.declared.Tally.{Tally}
use Rattle.tally.specs.Tally.{counted, busy, busy_lock, busy_counts, step_tally, no_events, silent_tally}
use Rattle.tally.proofs.Laws.{none_tally, no-events}
use Rattle.tally.proofs.Kept.{Kept, kept_had, step_keeps}

-- where nothing happened, there is no event
no_event_lem : (event : Option Event) → no_event event ≡ true → event ≡ None
unfolding no_event
no_event_lem None e = refl
no_event_lem (Some (Granted lock)) e = cc
no_event_lem (Some (Failed lock)) e = cc
no_event_lem (Some (Lost lock)) e = cc
no_event_lem (Some (Back lock)) e = cc
no_event_lem (Some (Sent lock)) e = cc

-- nodes that have the same keep the same locks busy
pub busy_same : (old new : List Node) (count lock : ℕ)
    → ((place : ℕ) → place < count → Kept (get_or old place rest_node) (get_or new place rest_node))
    → busy new count lock ≡ busy old count lock
unfolding busy
busy_same old new count lock kept = some_same _ _ count (λ place below. kept_had lock (kept place below))

-- nodes that keep the same locks busy, and no event: the same is counted
same_tally : (old new : List Node) (events : List (Option Event)) (count locks : ℕ) (tally : Tally)
    → ((lock : ℕ) → busy new (min count 64) lock ≡ busy old (min count 64) lock)
    → ((place : ℕ) → place < min count 64 → get_or events place quiet ≡ None)
    → step_tally new events count locks tally ≡ step_tally old no_events count locks tally
unfolding step_tally busy_counts busy_lock
same_tally old new events count locks tally b e =
    let busies = in_order_same (busy_lock new (min count 64)) (busy_lock old (min count 64)) (λ lock counts. ap (λ (x : Bool). cond x (counted counts lock) counts) (b lock)) (min locks 64) tally.busy in
    let told = none_tally events (min count 64) tally e ∙ sym (none_tally no_events (min count 64) tally (λ place below. no-events place (omega arith))) in
    λ i. record { busy = busies i; grants = (told i).grants; failed = (told i).failed }

-- a silent step
module _ (state : State) (none : silent state ≡ true) where
  -- at each node of the plan there was no event
  pub silent_place : (place : ℕ) → place < node_count state.plan → get_or (stepping state).events place quiet ≡ None
  unfolding silent
  silent_place place below = no_event_lem _ (every-at _ (node_count state.plan) place none below)

  -- the same locks are busy after the step as before it
  silent-busy : (lock : ℕ) → busy (stepping state).state.nodes (min (node_count state.plan) 64) lock ≡ busy state.nodes (min (node_count state.plan) 64) lock
  silent-busy lock =
      busy_same state.nodes (stepping state).state.nodes (min (node_count state.plan) 64) lock
      (λ place below. step_keeps state place (omega arith) (silent_place place (omega arith)))

  -- a silent step is counted as one without an event over the nodes before it
  pub silent_step : (locks : ℕ) (tally : Tally)
      → step_tally (stepping state).state.nodes (stepping state).events (node_count state.plan) locks tally
      ≡ step_tally state.nodes no_events (node_count state.plan) locks tally
  silent_step locks tally =
      same_tally state.nodes (stepping state).state.nodes (stepping state).events (node_count state.plan) locks tally silent-busy (λ place below. silent_place place (omega arith))

  -- a silent step and then n over the nodes after it are n + 1 over the nodes before it
  pub silent-more : (locks n : ℕ) (tally : Tally)
      → silent_tally state.nodes (node_count state.plan) locks (n + 1) tally
      ≡ silent_tally (stepping state).state.nodes (node_count state.plan) locks n
      (step_tally (stepping state).state.nodes (stepping state).events (node_count state.plan) locks tally)
  unfolding silent_tally
  silent-more locks n tally =
      let before : Tally → Tally = step_tally state.nodes no_events (node_count state.plan) locks in
      let after : Tally → Tally = step_tally (stepping state).state.nodes no_events (node_count state.plan) locks in
      ap (λ (k : ℕ). iterate before k tally) (add-one n)
      ∙ iterate-first before n tally
      ∙ ap (iterate before n) (sym (silent_step locks tally))
      ∙ iterate_same before after (λ t. sym (same_tally state.nodes (stepping state).state.nodes no_events (node_count state.plan) locks t silent-busy (λ place below. no-events place (omega arith)))) n _
