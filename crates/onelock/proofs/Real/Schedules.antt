-- Through every schedule what belongs to the train is real: so no step of a reached state rewrites a shadow.
use Prim.Native.Nat.{ℕ, suc, ◌+◌, ◌-◌, ◌<◌}
use mathlib.Core.Path.{◌≡◌, refl, sym, ap, ◌∙◌, subst}
use mathlib.Core.Bool.{Bool, true, false, true≢false}
use mathlib.Core.List.{List, [], ◌∷◌}
use native.Mathlib.Omega.{arith}
use lib.Dec.{eqb}
use lib.ListN.{get_or, length, length-replicate}
use borrow.Author.Tests.{eqb-true}
use Rattle.lists.proofs.Tests.{by_test, by_value}
use Rattle.lists.proofs.Places.{place_default}
use Rattle.positions.specs.Ring.{Ring, no_more, user_node, a_junction, nodes_in, junctions_in}
use Rattle.plan.specs.declared.Plan.{Plan}
use Rattle.plan.specs.Plan.{ring_of, in_range}
use Rattle.plan.proofs.Laws.{in_range_lem, ring_junctions_most}
use Rattle.usernode.specs.declared.Node.{Node}
use Rattle.junction.specs.declared.Junction.{Junction}
use Rattle.acts.specs.declared.Action.{Action}
use Rattle.acts.specs.Actions.{acted}
use Rattle.ring.specs.declared.State.{State}
use Rattle.ring.specs.State.{rest_node, rest_junction, node_of, start_of}
use Rattle.ring.specs.Actions.{action_number, acted_state}
use Rattle.ring.specs.Walk.{setting_out, walk}
use Rattle.ring.specs.Step.{next_state}
use Rattle.ring.proofs.Laws.{accepted_node, node_place}
use Rattle.onelock.specs.OneLock.{Item, step, act, after_item, after_all, reached}
use Rattle.onelock.specs.Shadows.{Ghosts, none_real, watched, ghosts_after, ghosts_reached}
use Rattle.onelock.proofs.Whole.Acts.{act_flag}
use Rattle.onelock.proofs.State.Through.{between_self}
use Rattle.onelock.proofs.State.Walk.{has_room}
use Rattle.onelock.proofs.State.Acts.{node_anew}
use Rattle.onelock.proofs.State.Kept.{Kept, kept_start}
use Rattle.onelock.proofs.State.Good.{good}
use Rattle.onelock.proofs.Run.Reached.{after_step_lem, after_act, kept_item, kept_reached}
use Rattle.onelock.proofs.Real.Turns.{Real, on_train}
use Rattle.onelock.proofs.Real.Along.{Right, Long, tells_self, Watches, watches}

-- what is told of the cars of a state is right
record Told (s : State) (g : Ghosts) : Type 0 where
  long : Long g
  right : Right false (ring_of s.plan) s.nodes s.junctions g 0 0

-- a flag that is clear
off : {b real : Bool} → b ≡ false → Real b real
off e z = absurd (true≢false (sym z ∙ e))

-- at the start no flag is set, no junction is in a tour, and all but the zero node send idle
right_start : (inner : Bool) (t : Ring) (nodes : List Node) (junctions : List Junction) (g : Ghosts) (i j : ℕ)
    → ((p : ℕ) → get_or nodes p rest_node ≡ rest_node) → ((p : ℕ) → get_or junctions p rest_junction ≡ rest_junction)
    → Right inner t nodes junctions g i j
unfolding rest_node rest_junction
right_start inner no_more nodes junctions g i j n m = tt
right_start inner (user_node rest) nodes junctions g i j n m =
    (off (ap (λ (u : Node). u.flag) (n i)), right_start inner rest nodes junctions g (i + 1) j n m)
right_start inner (a_junction subring rest) nodes junctions g i j n m = (
  off (ap (on_train inner) (m j) ∙ by_value (λ b. on_train b rest_junction ≡ false) inner (λ e. refl) (λ e. refl)),
  (λ e. absurd (true≢false (sym e ∙ ap (λ (x : Junction). x.tour) (m j)))),
  right_start true subring nodes junctions g i (j + 1) n m,
  right_start inner rest nodes junctions g (i + nodes_in subring) (j + 1 + junctions_in subring) n m,
)

told_start : (plan : Plan) → Told (start_of plan) none_real
unfolding start_of none_real
told_start plan =
    record {
      long = record { nodes = length-replicate 64 false; mains = length-replicate 144 false; subrings = length-replicate 144 false };
      right = right_start false (ring_of plan) _ _ none_real 0 0 (λ p. place_default (λ u. u ≡ rest_node) rest_node 64 p refl)
          (λ p. place_default (λ j. j ≡ rest_junction) rest_junction 144 p refl);
    }

-- only the nodes' flags count
right_flags : (inner : Bool) (t : Ring) (nodes other : List Node) (junctions : List Junction) (g : Ghosts) (i j : ℕ)
    → ((p : ℕ) → (get_or other p rest_node).flag ≡ (get_or nodes p rest_node).flag) → Right inner t nodes junctions g i j → Right inner t other junctions g i j
right_flags inner no_more nodes other junctions g i j same x = tt
right_flags inner (user_node rest) nodes other junctions g i j same x =
    (λ e. x.0 (sym (same i) ∙ e), right_flags inner rest nodes other junctions g (i + 1) j same x.1)
right_flags inner (a_junction subring rest) nodes other junctions g i j same x = (
  x.0,
  x.1,
  right_flags true subring nodes other junctions g i (j + 1) same x.2,
  right_flags inner rest nodes other junctions g (i + nodes_in subring) (j + 1 + junctions_in subring) same x.3,
)

-- an accepted action leaves them
told_act : (action : Action) (s : State) (node lock : ℕ) (g : Ghosts) → Kept s → action_number action s node lock ≡ 0 → Told s g
    → Told (acted_state action s node lock) g
unfolding acted_state node_of
told_act action s node lock g x a t =
    let place = node_place s.plan node (accepted_node action s node lock a) in
    let low : node - 1 < length s.nodes = omega (arith, place.0, place.1, x.formed.nodes) in
    let f : Node → Node = λ u. acted s.plan.rules action u lock in
    record {
      long = t.long;
      right = right_flags false (ring_of s.plan) s.nodes _ s.junctions g 0 0
          (λ p. ap (λ (u : Node). u.flag) (node_anew s.nodes (node - 1) f low p)
          ∙ by_test (λ (u : Node). u.flag ≡ (get_or s.nodes p rest_node).flag) (eqb (suc p) (suc (node - 1)))
          (λ e. act_flag s.plan.rules lock action (get_or s.nodes p rest_node)) (λ e. refl))
          t.right;
    }

-- a step of a state with the invariant
watches_step : (s : State) (g : Ghosts) (x : Kept s) → Told s g
    → Watches s g false (ring_of s.plan) (setting_out s) (record { real = true; rewritten = false; ghosts = g }) x.whole.last
unfolding setting_out walk
watches_step s g x t =
    watches s g false (ring_of s.plan) (setting_out s) (record { real = true; rewritten = false; ghosts = g }) x.whole.sent (λ e. refl) refl t.long
    (omega (arith, (in_range_lem s.plan x.plan).nodes_most)) (omega (arith, ring_junctions_most s.plan x.plan)) (good s x).ready
    x.whole.fit t.right

-- it leaves what belongs to the train real
told_step : (s : State) (g : Ghosts) → Kept s → Told s g → Told (next_state s) (watched s g).ghosts
unfolding next_state watched walk setting_out
told_step s g x t =
    let r = watches_step s g x t in
    record {
      long = r.long;
      right = r.right (walk s) (watched s g).ghosts (has_room s x.plan x.formed) (between_self (setting_out s) (walk s)) (tells_self _ _ _ _ _);
    }

-- so does a schedule
told_all : (items : List Item) (s : State) (g : Ghosts) → Kept s → Told s g → Told (after_all items s) (ghosts_after items s g)
unfolding after_all ghosts_after
told_all [] s g x t = t
told_all (step ∷ items) s g x t =
    told_all items (after_item step s) (watched s g).ghosts (kept_item step s x)
    (subst (λ (z : State). Told z (watched s g).ghosts) (sym (after_step_lem s (good s x))) (told_step s g x t))
told_all (act action node lock ∷ items) s g x t =
    told_all items (after_item (act action node lock) s) g (kept_item (act action node lock) s x)
    (subst (λ (z : State). Told z g) (sym (after_act action s node lock (good s x)))
    (by_test (λ (z : State). Told z g) (eqb (action_number action s node lock) 0) (λ e. told_act action s node lock g x (eqb-true _ 0 e) t) (λ e. t)))

-- so no step of a reached state rewrites a shadow
pub rewrites_none : (plan : Plan) → in_range plan ≡ true → (items : List Item) → (watched (reached plan items) (ghosts_reached plan items)).rewritten ≡ false
unfolding reached ghosts_reached watched
rewrites_none plan r items =
    (watches_step (reached plan items) (ghosts_reached plan items) (kept_reached plan r items)
    (told_all items (start_of plan) none_real (kept_start plan r) (told_start plan))).fine
