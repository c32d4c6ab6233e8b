-- An action, refused or accepted: what of the state comes back, and that it is the same on states that are the same in every place in use.
use Prim.Native.Nat.{ℕ, ◌-◌, ◌<◌}
use mathlib.Core.Path.{◌≡◌, refl, ◌∙◌, ap, subst}
use mathlib.Core.Bool.{Bool, true, false, cond, not}
use native.Mathlib.Omega.{arith}
use lib.Dec.{eqb, leb, ltb}
use lib.ListN.{take, set}
use lib.Seq.{drop-set-lt}
use borrow.Author.Tests.{leb-true, eqb-true}
use Rattle.lists.specs.Refusal.{refused_if}
use Rattle.lists.proofs.Laws.{and_left, and_right}
use Rattle.cars.specs.Cars.{is_node}
use Rattle.plan.specs.Plan.{node_count}
use Rattle.usernode.specs.declared.Node.{Node}
use Rattle.acts.specs.declared.Action.{Action}
use Rattle.acts.specs.Actions.{node_number, acted}
use Rattle.ring.specs.declared.State.{State}
use Rattle.ring.specs.State.{Told, node_of}
use Rattle.ring.specs.Sound.{sound}
use Rattle.ring.specs.Actions.{action_number, acted_state, handed_back, acting}
use Rattle.ring.proofs.Laws.{accepted_node}
use Rattle.unused.specs.Unused.{ComesBack, Agree}
use Rattle.unused.proofs.Lists.{same_set}
use Rattle.unused.proofs.Queue.{stays}
use Rattle.unused.proofs.Passing.{like, by_lists, nodes_same, node_same, sound_same}
use Rattle.unused.proofs.Step.{all_back}

-- the place of a node of the plan is in use
place_in_use : (users node : ℕ) → is_node users node ≡ true → node - 1 < users
unfolding is_node
place_in_use users node e =
    let least = leb-true 1 node (and_left (leb 1 node) (leb node users) e) in
    let most = leb-true node users (and_right (leb 1 node) (leb node users) e) in
    omega arith

-- an action of a node on a lock
module _ (action : Action) (state : State) (node lock : ℕ) where
  -- what holds of the state as it is, and as an accepted action leaves it, holds of the answer's state
  by_answer : (P : State → Type 0) → P state → (is_node (node_count state.plan) node ≡ true → P (acted_state action state node lock))
      → P (acting action state node lock).state
  unfolding acting handed_back
  by_answer P stay act = go (sound state) (eqb number 0) refl
    where
      number : ℕ
      number = action_number action state node lock

      told : Bool → Bool → Told
      told t c = cond t (record { number = number; state = cond c (acted_state action state node lock) state }) (record { number = 13; state = state })

      go : (t c : Bool) → eqb number 0 ≡ c → P (told t c).state
      go true true e = act (accepted_node action state node lock (eqb-true number 0 e))
      go true false e = stay
      go false c e = stay

  -- what comes back
  pub act_back : ComesBack state (acting action state node lock).state
  unfolding acted_state
  act_back =
      by_answer (ComesBack state) (all_back state) (λ e. record {
        plan = refl;
        nodes = drop-set-lt (node_count state.plan) state.nodes (node - 1) _ (place_in_use _ node e);
        junctions = refl;
        queue = stays state.zeroth;
      })

  -- the zero node comes back whole
  pub act_zeroth : (acting action state node lock).state.zeroth ≡ state.zeroth
  unfolding acted_state
  act_zeroth = by_answer (λ s. s.zeroth ≡ state.zeroth) refl (λ e. refl)

-- two actions that tell the same
abbrev pub SameAct : Told → Told → Type 0
SameAct x y = (x.number ≡ y.number) × Agree x.state y.state

-- two states that are the same in every place in use
module _ (action : Action) (node lock : ℕ) (a b : State) (g : Agree a (like a b)) where
  -- the number of user nodes
  abbrev users : ℕ
  users = node_count a.plan

  -- the same node, if it is one of the plan
  own_same : is_node users node ≡ true → node_of a node ≡ node_of (like a b) node
  unfolding node_of
  own_same e = node_same a b g (node - 1) (place_in_use users node e)

  -- the same number
  number_same : action_number action a node lock ≡ action_number action (like a b) node lock
  unfolding action_number refused_if
  number_same =
      subst (λ (n : ℕ). action_number action a node lock ≡ cond (not (is_node n node)) 7 (later (node_of (like a b) node))) (nodes_same a b g)
      (go (is_node users node) refl)
    where
      later : Node → ℕ
      later u = cond (not (ltb lock a.plan.locks)) 8 (node_number a.plan.rules action u lock)

      go : (t : Bool) → is_node users node ≡ t → cond (not t) 7 (later (node_of a node)) ≡ cond (not t) 7 (later (node_of (like a b) node))
      go true e = ap later (own_same e)
      go false e = refl

  -- the same places in use where it is accepted
  acted_same : is_node users node ≡ true → Agree (acted_state action a node lock) (acted_state action (like a b) node lock)
  unfolding acted_state
  acted_same e =
      record {
        plan = g.plan;
        zeroth = g.zeroth;
        nodes = same_set users a.nodes b.nodes (node - 1) _ (place_in_use users node e) g.nodes
            ∙ ap (λ (u : Node). take users (set b.nodes (node - 1) (acted a.plan.rules action u lock))) (own_same e);
        junctions = g.junctions;
      }

  -- an action that 13 does not refuse
  answer_same : SameAct (handed_back (action_number action a node lock) (acted_state action a node lock) a)
      (handed_back (action_number action (like a b) node lock) (acted_state action (like a b) node lock) (like a b))
  unfolding handed_back
  answer_same = subst (λ (n : ℕ). SameAct (answer number a) (answer n (like a b))) number_same (refl, go (eqb number 0) refl)
    where
      number : ℕ
      number = action_number action a node lock

      answer : ℕ → State → Told
      answer n s = handed_back n (acted_state action s node lock) s

      go : (t : Bool) → eqb number 0 ≡ t → Agree (cond t (acted_state action a node lock) a) (cond t (acted_state action (like a b) node lock) (like a b))
      go true e = acted_same (accepted_node action a node lock (eqb-true _ 0 e))
      go false e = g

  -- any action
  like_same : SameAct (acting action a node lock) (acting action (like a b) node lock)
  unfolding acting
  like_same = subst (λ (t : Bool). SameAct (told (sound a) a) (told t (like a b))) (sound_same a b g) (go (sound a))
    where
      told : Bool → State → Told
      told t s = cond t (handed_back (action_number action s node lock) (acted_state action s node lock) s) (record { number = 13; state = s })

      go : (t : Bool) → SameAct (told t a) (told t (like a b))
      go true = answer_same
      go false = (refl, g)

-- an action on states that are the same in every place in use
pub act_same : (action : Action) (a b : State) (node lock : ℕ) → Agree a b → SameAct (acting action a node lock) (acting action b node lock)
act_same action a b node lock g =
    by_lists (λ s. Agree a s → SameAct (acting action a node lock) (acting action s node lock)) a b g
    (like_same action node lock a b) g
