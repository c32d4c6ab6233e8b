-- A step, refused or done: what of the state comes back, and that it is the same on states that are the same in every place in use.
use Prim.Native.Nat.{ℕ}
use mathlib.Core.Path.{◌≡◌, refl, ◌∙◌, sym, ap, ap₂, subst}
use mathlib.Core.Bool.{Bool, true, false, cond}
use lib.Dec.{eqb}
use lib.ListN.{take}
use Rattle.lists.specs.Refusal.{refused_if}
use Rattle.cars.specs.declared.Car.{Car}
use Rattle.plan.specs.Plan.{in_range, node_count, junction_count}
use Rattle.zeronode.specs.Turn.{zero_turn, overflows}
use Rattle.ring.specs.declared.State.{State}
use Rattle.ring.specs.Sound.{sound}
use Rattle.ring.specs.Walk.{Walk, walk}
use Rattle.ring.specs.Step.{StepTold, next_state, step_number, refused, done, moving, stepping}
use Rattle.ring.proofs.Laws.{sound_plan}
use Rattle.unused.specs.Unused.{ComesBack, SameZero, Agree}
use Rattle.unused.proofs.Queue.{stays, turn_back, turn_same, overflow_same}
use Rattle.unused.proofs.Passing.{like, by_lists, sound_same}
use Rattle.unused.proofs.Walks.{Reached, beside_walk}

-- what comes back of a state that stays as it is
pub all_back : (state : State) → ComesBack state state
all_back state = record { plan = refl; nodes = refl; junctions = refl; queue = stays state.zeroth }

-- a state is the same as itself in every place in use
pub agree_self : (state : State) → Agree state state
agree_self state =
    record {
      plan = record { rules = refl; locks = refl; positions = refl; values = refl; places = refl };
      zeroth = record { car = refl; count = refl; queue = refl; places = refl };
      nodes = refl;
      junctions = refl;
    }

-- what comes back from a step that is done
next_back : (state : State) → in_range state.plan ≡ true → ComesBack state (next_state state)
unfolding next_state
next_back state range =
    let w = beside_walk state state (agree_self state) range in
    record { plan = refl; nodes = w.nodes_left; junctions = w.junctions_left; queue = turn_back state.zeroth (walk state).last }

-- from any step
pub step_back : (state : State) → ComesBack state (stepping state).state
unfolding stepping moving done refused
step_back state = go (sound state) refl (eqb (step_number state) 0)
  where
    go : (t : Bool) → sound state ≡ t → (c : Bool)
        → ComesBack state (cond t (cond c (done state) (refused (step_number state) state)) (refused 13 state)).state
    go true e true = next_back state (sound_plan state e)
    go true e false = all_back state
    go false e c = all_back state

-- two steps that tell the same
abbrev pub Same : StepTold → StepTold → Type 0
Same x y = (x.number ≡ y.number) × (x.events ≡ y.events) × Agree x.state y.state

-- two states that are the same in every place in use
module _ (a b : State) (g : Agree a (like a b)) where
  -- and whose plans are in range
  module _ (range : in_range a.plan ≡ true) where
    -- their walks
    both : Reached a b g range (walk a) (walk (like a b))
    both = beside_walk a b g range

    -- the same car comes to the zero node
    last_same : (walk (like a b)).last ≡ (walk a).last
    last_same = ap (λ (w : Walk). w.last) both.same

    -- the same number
    number_same : step_number a ≡ step_number (like a b)
    unfolding step_number
    number_same =
        ap₂ (λ (full stray : Bool). refused_if full 14 (refused_if stray 15 0))
        (overflow_same a.zeroth (like a b).zeroth (walk a).last g.zeroth ∙ ap (overflows (like a b).zeroth) (sym last_same))
        (ap (λ (w : Walk). w.astray) (sym both.same))

    -- the same places in use after the step
    next_same : Agree (next_state a) (next_state (like a b))
    unfolding next_state
    next_same =
        record {
          plan = g.plan;
          zeroth = subst (λ (car : Car). SameZero (zero_turn a.zeroth (walk a).last) (zero_turn (like a b).zeroth car)) (sym last_same)
              (turn_same a.zeroth (like a b).zeroth (walk a).last g.zeroth);
          nodes = both.nodes_used ∙ ap (λ (w : Walk). take (node_count a.plan) w.nodes) (sym both.same);
          junctions = both.junctions_used ∙ ap (λ (w : Walk). take (junction_count a.plan) w.junctions) (sym both.same);
        }

    -- a step that 13 does not refuse
    moving_same : Same (moving a) (moving (like a b))
    unfolding moving done refused
    moving_same =
        subst (λ (n : ℕ). Same (moving a) (cond (eqb n 0) (done (like a b)) (refused n (like a b)))) number_same (go (eqb (step_number a) 0))
      where
        go : (t : Bool) → Same (cond t (done a) (refused (step_number a) a)) (cond t (done (like a b)) (refused (step_number a) (like a b)))
        go true = (refl, ap (λ (w : Walk). w.events) (sym both.same), next_same)
        go false = (refl, refl, g)

  -- any step
  like_same : Same (stepping a) (stepping (like a b))
  unfolding stepping refused
  like_same = subst (λ (t : Bool). Same (stepping a) (cond t (moving (like a b)) (refused 13 (like a b)))) (sound_same a b g) (go (sound a) refl)
    where
      go : (t : Bool) → sound a ≡ t → Same (cond t (moving a) (refused 13 a)) (cond t (moving (like a b)) (refused 13 (like a b)))
      go true e = moving_same (sound_plan a e)
      go false e = (refl, refl, g)

-- a step of states that are the same in every place in use
pub step_same : (a b : State) → Agree a b → Same (stepping a) (stepping b)
step_same a b g = by_lists (λ s. Agree a s → Same (stepping a) (stepping s)) a b g (like_same a b) g
