-- What the deeds of an item tell of a lock in a good state: who has it before and after the item.
use Prim.Native.Nat.{ℕ, suc, ◌-◌, ◌≤◌, ◌<◌}
use mathlib.Core.Path.{◌≡◌, refl, ap, sym, subst}
use mathlib.Core.Bool.{Bool, true, false, cond, not, ◌&&◌, and-true, and-false}
use mathlib.Core.List.{List}
use native.Mathlib.Omega.{arith}
use lib.Dec.{eqb}
use lib.ListN.{get_or, length}
use lib.Seq.{get_or-set_same, get_or-set_other}
use borrow.Author.Tests.{eqb-true}
use Rattle.cars.specs.Cars.{multiring}
use Rattle.plan.specs.Plan.{node_count}
use Rattle.plan.proofs.Laws.{in_range_lem, nodes_count_most}
use Rattle.usernode.specs.declared.Node.{Node}
use Rattle.usernode.specs.Node.{had}
use Rattle.acts.specs.declared.Action.{Action}
use Rattle.acts.specs.Actions.{acted}
use Rattle.ring.specs.declared.State.{State}
use Rattle.ring.specs.State.{Told, rest_node, node_of}
use Rattle.ring.specs.Actions.{action_number, acted_state, handed_back}
use Rattle.ring.specs.Walk.{quiet, walk}
use Rattle.ring.specs.Step.{StepTold, next_state, done}
use Rattle.ring.proofs.Laws.{accepted_node, accepted, node_passes_lem}
use Rattle.onelock.specs.OneLock.{Item, step, act, after_item, Deed, ended, deed_if, deed_of, releases, deeds_in, deeds_of}
use Rattle.onelock.proofs.Line.Meets.{Both, meets_both, Met, meets_at}
use Rattle.onelock.proofs.Line.Numbers.{Upto, numbered}
use Rattle.onelock.proofs.Whole.Ready.{Awaited}
use Rattle.onelock.proofs.State.AsLine.{line_of}
use Rattle.onelock.proofs.State.Walk.{line_size, Acts, line_acts}
use Rattle.onelock.proofs.State.Kept.{Kept}
use Rattle.onelock.proofs.State.Good.{Good, good, NobodyHas}
use Rattle.onelock.proofs.Run.Deeds.{Turns, Fine, fine, turns, act_turns}
use Rattle.onelock.proofs.Run.Moments.{Tells, nothing, alone, all_deeds_lem}
use Rattle.onelock.proofs.Run.Reached.{step_done, act_handed, kept_after}

-- who has the lock in a state
abbrev pub having : State → ℕ → ℕ → Bool
having s lock node = had (node_of s node) lock

-- what an action makes of its node
acted_node : (action : Action) (s : State) (node lock : ℕ) → 1 ≤ node → node ≤ length s.nodes
    → node_of (acted_state action s node lock) node ≡ acted s.plan.rules action (node_of s node) lock
unfolding node_of acted_state
acted_node action s node lock l h = get_or-set_same s.nodes (node - 1) _ rest_node (omega arith)

-- an action leaves the other nodes
acted_other : (action : Action) (s : State) (node lock k : ℕ) → 1 ≤ node → 1 ≤ k → (k ≡ node → ⊥)
    → node_of (acted_state action s node lock) k ≡ node_of s k
unfolding node_of acted_state
acted_other action s node lock k l m d = get_or-set_other s.nodes (node - 1) (k - 1) _ rest_node (λ e. d (omega arith))

-- the deeds tell who has the lock in one state and in the next
abbrev pub Shows : State → ℕ → State → List Deed → Type 0
Shows s lock t = Tells (node_count s.plan) (node_count s.plan) (having s lock) (having t lock)

module _ (s : State) (g : Good s) where
  -- the words of a node of a good state are as they should be
  pub fine_node : (q : ℕ) → Upto (node_count s.plan) q → Fine s.plan.rules (node_of s q)
  unfolding node_of
  fine_node q u =
      fine s.plan.rules (node_count s.plan) s.plan.locks (node_of s q) (in_range_lem s.plan g.plan).locks_most
      (node_passes_lem s g.pass (q - 1) (omega (arith, u.low, u.high))) (g.apart q u)

  -- what a node is before and after a step, and what holds where its own reqp comes back to it
  met : (q : ℕ) → Upto (node_count s.plan) q → Met (Both (Acts s) (Awaited (NobodyHas s))) q
  met q u =
      let car = s.zeroth.car in
      meets_at (Both (Acts s) (Awaited (NobodyHas s))) 0 car (line_of s) q
      (meets_both (Acts s) (Awaited (NobodyHas s)) 0 car (line_of s) (line_acts s g.plan g.formed) g.back) u.low
      (omega (arith, line_size s g.plan, u.high))

  -- a node's turn in a step of the state, by the node's place
  node_turns : (lock place : ℕ) → place < node_count s.plan
      → Turns (NobodyHas s lock) (suc place) (having s lock (suc place)) (having (next_state s) lock (suc place))
      (deed_of s.plan.rules lock (suc place) (get_or (walk s).events place quiet))
  node_turns lock place l =
      let u : Upto (node_count s.plan) (suc place) = record { low = omega arith; high = l } in
      let m = met (suc place) u in
      let acts = m.holds.0 in
      let here : suc place - 1 ≡ place = omega arith in
      rw (acts.old, acts.new, rw here at acts.event)
      (turns (NobodyHas s) s.plan.rules (suc place) lock m.node (subst (Fine s.plan.rules) acts.old (fine_node (suc place) u))
      m.arrival m.holds.1)

  -- the deeds of a step
  step_tells : Good (next_state s) → (lock : ℕ) → Shows s lock (next_state s) (deeds_in s.plan.rules lock (walk s).events (node_count s.plan))
  unfolding next_state
  step_tells next lock =
      all_deeds_lem (node_count s.plan) (having s lock) (having (next_state s) lock) (g.one lock) (next.one lock)
      s.plan.rules lock (walk s).events (node_turns lock) (node_count s.plan) (omega arith)

  -- the deeds of an action that is accepted
  act_tells : (action : Action) (node own lock : ℕ) → action_number action s node own ≡ 0
      → Shows s lock (acted_state action s node own) (deed_if (releases action && not (multiring s.plan.rules) && eqb own lock) (ended node))
  act_tells action node own lock a =
      let u = numbered (node_count s.plan) node (accepted_node action s node own a) in
      alone u (λ k v d. ap (λ (x : Node). had x lock) (acted_other action s node own k u.low v.low d))
      (rw (acted_node action s node own u.low (omega (arith, u.high, nodes_count_most s.plan g.plan, g.formed.nodes)))
      (act_turns (NobodyHas s) s.plan.rules node lock (node_of s node) (fine_node node u) action own (accepted action s node own a).1))

-- the deeds of an item
pub item_tells : (item : Item) (lock : ℕ) (s : State) → Kept s → Shows s lock (after_item item s) (deeds_of lock item s)
unfolding after_item deed_if deeds_of done handed_back
item_tells step lock s x =
    subst (λ (t : StepTold). Shows s lock t.state (deeds_in s.plan.rules lock t.events (node_count s.plan))) (sym (step_done s (good s x)))
    (step_tells s (good s x) (good (next_state s) (kept_after s x)) lock)
item_tells (act action node own) lock s x =
    subst (λ (t : Told). Shows s lock t.state (deed_if (ends && eqb t.number 0) (ended node)))
    (sym (act_handed action s node own (good s x))) (go (eqb (action_number action s node own) 0) refl)
  where
    ends : Bool
    ends = releases action && not (multiring s.plan.rules) && eqb own lock

    go : (b : Bool) → eqb (action_number action s node own) 0 ≡ b → Shows s lock (cond b (acted_state action s node own) s) (deed_if (ends && b) (ended node))
    go true e = rw (and-true ends) (act_tells s (good s x) action node own lock (eqb-true _ 0 e))
    go false e = rw (and-false ends) (nothing (λ k u. refl))
