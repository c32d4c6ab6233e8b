-- Where a step gives a user node no event, the locks that the node holds and those that it is letting go stay as they were.
use Rattle.std.specs.Prelude.{Option, None}
use Prim.Native.Nat.{ℕ, ◌≤◌, ◌<◌}
use mathlib.Core.Path.{◌≡◌, refl, ◌∙◌, sym, ap, ap₂, subst}
use mathlib.Core.Bool.{Bool, true, false, cond, ◌||◌}
use mathlib.Core.List.{List}
use native.Mathlib.Omega.{arith}
use lib.Dec.{eqb, ltb}
use lib.ListN.{get_or, set, length, length-set, length-replicate, get_or-eq_default}
use lib.Seq.{get_or-set_same, get_or-set_other, set_out}
use borrow.Author.Tests.{eqb-true, eqb-false, ltb-true, ltb-false}
use Rattle.words.specs.Words.{has}
use Rattle.cars.specs.declared.Car.{Car}
use Rattle.positions.specs.Ring.{Ring, no_more, user_node, a_junction}
use Rattle.plan.specs.Plan.{ring_of}
use Rattle.usernode.specs.declared.Node.{Node}
use Rattle.usernode.specs.declared.Rule.{Rule}
use Rattle.usernode.specs.declared.Rule.TheVariants.{Passes, SendsReqp, SendsDov, SendsDidv, OwnReqp, OwnFailp, FailsReqp, OwnDov, LosesLock}
use Rattle.usernode.specs.Node.{had}
use Rattle.usernode.specs.Rules.{rule}
use Rattle.turns.specs.declared.Turn.{Turn}
use Rattle.turns.specs.declared.Event.{Event}
use Rattle.turns.specs.Turn.{becomes, apply, event_of, turn}
use Rattle.ring.specs.declared.State.{State}
use Rattle.ring.specs.State.{rest_node}
use Rattle.ring.specs.Sound.{sound}
use Rattle.ring.specs.Walk.{Walk, quiet, node_here, turn_here, on_node, enters, leaves, along, setting_out, walk}
use Rattle.ring.specs.Step.{StepTold, next_state, step_number, refused, done, moving, stepping}

-- a node that holds and is letting go what it held and was letting go before
pub record Kept (before after : Node) : Type 0 where
  pub held : after.held ≡ before.held
  pub letting : after.letting ≡ before.letting

-- so it has the same locks
pub kept_had : {before after : Node} (lock : ℕ) → Kept before after → had after lock ≡ had before lock
unfolding had
kept_had lock kept = ap₂ (λ (held letting : ℕ). has held lock || has letting lock) kept.held kept.letting

-- by the nine rules
rule-keeps : (rules me : ℕ) (arrival : Car) (node : Node) (r : Rule) → event_of r ≡ None → Kept node (apply rules me arrival node r)
unfolding apply becomes event_of
rule-keeps rules me arrival node (SendsReqp lock) e = record { held = refl; letting = refl }
rule-keeps rules me arrival node (SendsDov lock) e = record { held = refl; letting = refl }
rule-keeps rules me arrival node (SendsDidv lock) e = record { held = cc; letting = cc }
rule-keeps rules me arrival node (OwnReqp lock) e = record { held = cc; letting = cc }
rule-keeps rules me arrival node (OwnFailp lock) e = record { held = refl; letting = refl }
rule-keeps rules me arrival node (FailsReqp tag) e = record { held = refl; letting = refl }
rule-keeps rules me arrival node (OwnDov lock) e = record { held = refl; letting = refl }
rule-keeps rules me arrival node (LosesLock tag) e = record { held = cc; letting = cc }
rule-keeps rules me arrival node Passes e = record { held = refl; letting = refl }

-- a user node's turn without an event
pub turn-keeps : (rules me : ℕ) (arrival : Car) (node : Node) → (turn rules me arrival node).event ≡ None → Kept node (turn rules me arrival node).node
unfolding turn
turn-keeps rules me arrival node e = rule-keeps rules me arrival node (rule node me arrival) e

-- at a place without an event, the words are those before the step
abbrev KeptAt : List Node → List Node → List (Option Event) → ℕ → Type 0
KeptAt old nodes events place = get_or events place quiet ≡ None → Kept (get_or old place rest_node) (get_or nodes place rest_node)

-- a turn's node and its event written to the same place
written : (old nodes : List Node) (events : List (Option Event)) (here : ℕ) (t : Turn) → length nodes ≡ length old → here < length events
    → (t.event ≡ None → Kept (get_or old here rest_node) t.node) → KeptAt old (set nodes here t.node) (set events here t.event) here
written old nodes events here t long room turned e = go (ltb here (length nodes)) refl
  where
    go : (b : Bool) → ltb here (length nodes) ≡ b → Kept (get_or old here rest_node) (get_or (set nodes here t.node) here rest_node)
    go true l =
        subst (Kept (get_or old here rest_node)) (sym (get_or-set_same nodes here _ rest_node (ltb-true _ _ l)))
        (turned (sym (get_or-set_same events here t.event quiet room) ∙ e))
    go false l =
        let beyond : length nodes ≤ here = ltb-false _ _ l in
        let same : get_or (set nodes here t.node) here rest_node ≡ get_or old here rest_node =
        ap (λ (ns : List Node). get_or ns here rest_node) (set_out nodes here t.node beyond)
        ∙ get_or-eq_default nodes rest_node beyond ∙ sym (get_or-eq_default old rest_node (omega arith)) in
        record { held = ap (λ (n : Node). n.held) same; letting = ap (λ (n : Node). n.letting) same }

-- and the other places
beside : (old nodes : List Node) (events : List (Option Event)) (here : ℕ) (t : Turn) → length nodes ≡ length old → length events ≡ 64
    → (t.event ≡ None → Kept (get_or old here rest_node) t.node) → (place : ℕ) → place < 64 → KeptAt old nodes events place
    → KeptAt old (set nodes here t.node) (set events here t.event) place
beside old nodes events here t long room turned place below kept = go (eqb place here) refl
  where
    go : (b : Bool) → eqb place here ≡ b → KeptAt old (set nodes here t.node) (set events here t.event) place
    go true q =
        let same : place ≡ here = eqb-true _ _ q in
        subst (KeptAt old (set nodes here t.node) (set events here t.event)) (sym same)
        (written old nodes events here t long (omega arith) turned)
    go false q = λ e.
        let other = eqb-false _ _ q in
        subst (Kept (get_or old place rest_node)) (sym (get_or-set_other nodes here place _ rest_node other))
        (kept (sym (get_or-set_other events here place t.event quiet other) ∙ e))

-- what the walk so far has kept
record Keeps (state : State) (w : Walk) : Type 0 where
  node_places_lem : length w.nodes ≡ length state.nodes
  event_places : length w.events ≡ 64
  words : (place : ℕ) → place < 64 → KeptAt state.nodes w.nodes w.events place

-- past a user node
keeps_node : (state : State) (w : Walk) → Keeps state w → Keeps state (on_node state w)
unfolding on_node turn_here node_here
keeps_node state w k =
    record {
      node_places_lem = length-set w.nodes w.passed _ ∙ k.node_places_lem;
      event_places = length-set w.events w.passed _ ∙ k.event_places;
      words = λ place below. beside state.nodes w.nodes w.events w.passed _ k.node_places_lem k.event_places
          (turn-keeps _ _ _ _) place below (k.words place below);
    }

-- along a ring: entering and leaving a junction changes no node and no event
keeps-along : (state : State) (inner : Bool) (ring : Ring) (w : Walk) → Keeps state w → Keeps state (along state inner ring w)
unfolding along enters leaves
keeps-along state inner no_more w k = k
keeps-along state inner (user_node rest) w k = keeps-along state inner rest (on_node state w) (keeps_node state w k)
keeps-along state inner (a_junction subring rest) w k =
    let inside = keeps-along state true subring (enters state w) (record { node_places_lem = k.node_places_lem; event_places = k.event_places; words = k.words }) in
    keeps-along state inner rest _ (record { node_places_lem = inside.node_places_lem; event_places = inside.event_places; words = inside.words })

-- the whole walk
keeps-walk : (state : State) → Keeps state (walk state)
unfolding walk setting_out
keeps-walk state =
    keeps-along state false (ring_of state.plan) (setting_out state)
    (record { node_places_lem = refl; event_places = length-replicate 64 quiet; words = λ place below e. record { held = refl; letting = refl } })

-- a step, refused or done: a place without an event
pub step_keeps : (state : State) (place : ℕ) → place < 64 → get_or (stepping state).events place quiet ≡ None
    → Kept (get_or state.nodes place rest_node) (get_or (stepping state).state.nodes place rest_node)
unfolding stepping moving done refused next_state
step_keeps state place below = go (sound state) (eqb (step_number state) 0)
  where
    told : Bool → Bool → StepTold
    told a b = cond a (cond b (done state) (refused (step_number state) state)) (refused 13 state)

    go : (a b : Bool) → KeptAt state.nodes (told a b).state.nodes (told a b).events place
    go true true = (keeps-walk state).words place below
    go true false = λ e. record { held = refl; letting = refl }
    go false b = λ e. record { held = refl; letting = refl }
