-- Several steps, as the loop does them one at a time: what is left to do, and what a state that 13 refuses gives.
use Prim.Native.Nat.{ℕ, zero, suc, ◌+◌, ◌-◌, ◌≤◌, ◌<◌}
use mathlib.Core.Path.{◌≡◌, refl, sym, ap, ap₂, subst, ◌∙◌}
use mathlib.Core.Bool.{Bool, true, false, cond, ◌&&◌}
use mathlib.Core.List.{List}
use native.Mathlib.Nat.{zero-add}
use native.Mathlib.Numerals.{add-one}
use native.Mathlib.Omega.{arith}
use lib.Dec.{ltb}
use Rattle.std.proofs.Common.{Option}
use lib.ListN.{get_or, replicate}
use borrow.Author.Tests.{lt-ltb}
use Rattle.lists.specs.Loops.{every}
use Rattle.lists.proofs.Laws.{every_each}
use Rattle.lists.proofs.Places.{place_default}
use Rattle.plan.specs.Plan.{node_places, node_count}
use Rattle.turns.specs.declared.Event.{Event}
use Rattle.ring.specs.declared.State.{State}
use Rattle.ring.specs.declared.Stepped.{Stepped}
use Rattle.ring.specs.declared.Advanced.{Advanced}
use Rattle.ring.specs.Sound.{sound}
use Rattle.ring.specs.Walk.{quiet}
use Rattle.ring.specs.Step.{StepTold, step_told, refused, moving, stepping}
use Rattle.ring.specs.Advance.{no_event, silent, one_more_note, advancing}
use Rattle.ring.proofs.Laws.{stepping_plan, step_of_sound}
use Rattle.ring.proofs.Theorems.{step_keeps_sound}

-- one step more was done
abbrev pub one_step : Advanced → Advanced
one_step now = record { state = (stepping now.state).state; events = (stepping now.state).events; done = now.done + 1 }

-- it is what a step without the test of 13 gives on a state that passes
pub stepped_on : (state : State) (stepped : Stepped) (number : ℕ) → sound state ≡ true → step_told stepped ≡ moving state
    → ◌≡◌ {A = Advanced} (record { state = stepped.state; events = stepped.events; done = number })
    (record { state = (stepping state).state; events = (stepping state).events; done = number })
unfolding step_told
stepped_on state stepped number e t =
    ap (λ (told : StepTold). record { state = told.state; events = told.events; done = number }) (t ∙ sym (step_of_sound state e))

-- where so many steps were done before
abbrev plus : ℕ → Advanced → Advanced
plus before advanced = record { state = advanced.state; events = advanced.events; done = before + advanced.done }

-- what the steps that are left lead to; where none is, to what there is
abbrev pub going_on : ℕ → Advanced → Advanced
going_on zero now = now
going_on (suc left) now = plus now.done (advancing (suc left) now.state)

-- at first all steps are left
all_left : (limit : ℕ) (state : State) (events : List (Option Event)) → advancing 0 state ≡ record { state = state; events = events; done = 0 }
    → going_on limit (record { state = state; events = events; done = 0 }) ≡ advancing limit state
all_left zero state events none = sym none
all_left (suc n) state events none =
    ap (λ (d : ℕ). record { state = (advancing (suc n) state).state; events = (advancing (suc n) state).events; done = d }) (zero-add _)

-- the step that is done before a step is one step more
plus_more : (before : ℕ) (advanced : Advanced) → plus (before + 1) advanced ≡ plus before (one_more_note advanced)
unfolding one_more_note
plus_more before advanced = ap (λ (d : ℕ). record { state = advanced.state; events = advanced.events; done = d }) (omega arith)

-- one step more, by whether it was silent: all but it are left, or none
pub one_fewer : (left : ℕ) (now : Advanced) → 0 < left → going_on (cond (silent now.state) (left - 1) 0) (one_step now) ≡ going_on left now
unfolding advancing
one_fewer zero now l = absurd (omega arith)
one_fewer (suc n) now l = go (silent now.state) n
  where
    go : (b : Bool) (n : ℕ)
        → going_on (cond b (suc n - 1) 0) (one_step now)
        ≡ plus now.done (cond (b && ltb 0 n) (one_more_note (advancing n (stepping now.state).state)) (record { state = (stepping now.state).state; events = (stepping now.state).events; done = 1 }))
    go false n = refl
    go true zero = refl
    go true (suc m) =
        let e : suc (suc m) - 1 ≡ suc m = omega arith in
        rw (e, lt-ltb 0 (suc m) (omega arith)) (plus_more now.done _)

-- a step that was silent or not, the state and the events after it, and then up to n steps more
abbrev further : Bool → ℕ → State → List (Option Event) → Advanced
further still n next events = cond (still && ltb 0 n) (one_more_note (advancing n next)) (record { state = next; events = events; done = 1 })

advancing-more : (n : ℕ) (state : State) → advancing (suc n) state ≡ further (silent state) n (stepping state).state (stepping state).events
unfolding advancing
advancing-more n state = refl

-- where a step is silent and leaves the state as it is, so do so many of them
module _ (state : State) (events : List (Option Event)) (none : advancing 0 state ≡ record { state = state; events = events; done = 0 })
    (still : silent state ≡ true) (same : (stepping state).state ≡ state) (told : (stepping state).events ≡ events) where
  -- a step and those after it
  same_more : (n : ℕ) → advancing (suc n) state ≡ further true n state events
  same_more n =
      advancing-more n state
      ∙ ap (λ (b : Bool). further b n (stepping state).state (stepping state).events) still
      ∙ ap₂ (further true n) same told

  -- all of them
  all_same : (limit : ℕ) → advancing limit state ≡ record { state = state; events = events; done = limit }
  unfolding one_more_note
  all_same zero = none
  all_same (suc zero) = same_more 0
  all_same (suc (suc n)) =
      same_more (suc n)
      ∙ ap (λ (b : Bool). cond b (one_more_note (advancing (suc n) state)) (record { state = state; events = events; done = 1 })) (lt-ltb 0 (suc n) (omega arith))
      ∙ ap one_more_note (all_same (suc n))
      ∙ ap (λ (d : ℕ). record { state = state; events = events; done = d }) (add-one (suc n))

-- a step of a state that 13 refuses
step_refused : (state : State) → sound state ≡ false → stepping state ≡ refused 13 state
unfolding stepping
step_refused state e = rw e

-- it has no event
refused-silent : (state : State) → sound state ≡ false → silent state ≡ true
unfolding silent refused no_event quiet
refused-silent state e =
    every_each _ (node_count state.plan) (λ i l. rw (step_refused state e) (place_default (λ h. no_event h ≡ true) quiet node_places i refl))

-- so many of them leave the state as it is
pub all_refused : (state : State) (limit : ℕ) → sound state ≡ false
    → advancing limit state ≡ record { state = state; events = replicate node_places quiet; done = limit }
unfolding refused advancing
all_refused state limit e =
    let refuses = step_refused state e in
    all_same state (replicate node_places quiet) refl (refused-silent state e) (ap (λ (t : StepTold). t.state) refuses) (ap (λ (t : StepTold). t.events) refuses) limit

-- where the loop stands: 13 does not refuse the state, the plan is the one at the start and has this many nodes, the steps fit 16 bits, and what is
-- left to do leads to what was asked
pub record Going (start : State) (limit count : ℕ) (now : Advanced) (left : ℕ) : Type 0 where
  pub pass : sound now.state ≡ true
  pub plan : now.state.plan ≡ start.plan
  pub nodes : node_count now.state.plan ≡ count
  pub room : now.done + left ≤ 65535
  pub leads : going_on left now ≡ advancing limit start

-- at first
pub going_start : (now : Advanced) (start : State) (limit count : ℕ) → now ≡ record { state = start; events = replicate node_places quiet; done = 0 }
    → sound start ≡ true → count ≡ node_count start.plan → limit ≤ 65535 → Going now.state limit count now limit
unfolding advancing
going_start now start limit count e pass nodes most =
    subst (λ (a : Advanced). Going a.state limit count a limit) (sym e)
    (record { pass = pass; plan = refl; nodes = sym nodes; room = omega arith; leads = all_left limit start (replicate node_places quiet) refl })

-- a test leaves at most what it leaves where it holds
at_most_left : (b : Bool) (left : ℕ) → cond b left 0 ≤ left
at_most_left true left = omega arith
at_most_left false left = omega arith

-- after one step more, by whether it was silent
pub going_on_lem : (start : State) (limit count left left' : ℕ) (now next : Advanced) (b : Bool) → Going start limit count now left → 0 < left
    → next ≡ one_step now → b ≡ every (λ place. no_event (get_or next.events place quiet)) count → left' ≡ cond b (left - 1) 0
    → Going start limit count next left'
unfolding silent
going_on_lem start limit count left left' now next b g l e s t =
    let same : b ≡ silent now.state =
    s ∙ ap₂ (λ (events : List (Option Event)) (n : ℕ). every (λ place. no_event (get_or events place quiet)) n) (ap (λ (a : Advanced). a.events) e) (sym g.nodes) in
    let more : next.done ≡ now.done + 1 = ap (λ (a : Advanced). a.done) e in
    record {
      pass = ap (λ (a : Advanced). sound a.state) e ∙ step_keeps_sound now.state g.pass;
      plan = ap (λ (a : Advanced). a.state.plan) e ∙ stepping_plan now.state ∙ g.plan;
      nodes = ap (λ (a : Advanced). node_count a.state.plan) e ∙ ap node_count (stepping_plan now.state) ∙ g.nodes;
      room = omega (arith, g.room, at_most_left b (left - 1));
      leads = ap₂ going_on (t ∙ ap (λ (b : Bool). cond b (left - 1) 0) same) e ∙ one_fewer left now l ∙ g.leads;
    }

-- at last
pub going_done : (start : State) (limit count left : ℕ) (now : Advanced) → Going start limit count now left → left ≤ 0 → now ≡ advancing limit start
going_done start limit count left now g l = let none : 0 ≡ left = omega arith in ap (λ (n : ℕ). going_on n now) none ∙ g.leads
