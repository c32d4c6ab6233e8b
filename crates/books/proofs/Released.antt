-- A release where it needs no idle activity: it is accepted of a node that holds the lock, which then holds it no longer and goes on with its activity.
use Prim.Native.Nat.{ℕ, ◌-◌, ◌<◌}
use mathlib.Core.Path.{◌≡◌, refl}
use mathlib.Core.Bool.{false, not, and-false}
use native.Mathlib.Omega.{arith}
use borrow.Author.Tests.{eq-eqb, ltb-true}
use Rattle.lists.specs.Refusal.{refused_if}
use Rattle.lists.proofs.Places.{place_set, place_stored}
use Rattle.words.specs.Words.{has, without_lock}
use Rattle.words.proofs.Sets.{has_none, has-without}
use Rattle.plan.proofs.Laws.{in_range_lem}
use Rattle.usernode.specs.declared.Node.{Node}
use Rattle.usernode.specs.Node.{is_idle}
use Rattle.acts.specs.Actions.{release_number, later_number, needs_idle, node_number, released, acted}
use Rattle.acts.specs.declared.Action.TheVariants.{Release}
use Rattle.ring.specs.declared.State.{State}
use Rattle.ring.specs.State.{rest_node, node_of}
use Rattle.ring.proofs.Laws.{passed}
use Rattle.ring.specs.Actions.{action_number, acted_state, handed_back, acting}
use Rattle.books.specs.Theorems.{ReleasedWhileWaiting}

-- the node that has released goes on with its activity
goes_on : (state : State) (node lock : ℕ) → (node_of (acted_state Release state node lock) node).activity ≡ (node_of state node).activity
unfolding acted_state acted released node_of
goes_on state node lock = place_set (λ (u : Node). u.activity ≡ (node_of state node).activity) rest_node state.nodes (node - 1) _ (node - 1) refl refl

-- and holds the lock no longer
holds_no_longer_lem : (state : State) (node lock : ℕ) → lock < 64 → has (node_of (acted_state Release state node lock) node).held lock ≡ false
unfolding acted_state acted released node_of rest_node
holds_no_longer_lem state node lock below =
    let held = (node_of state node).held in
    let cleared : has (without_lock held lock) lock ≡ false = simp (has-without held lock lock below, eq-eqb lock lock refl, and-false (has held lock)) in
    place_stored (λ (u : Node). has u.held lock ≡ false) rest_node state.nodes (node - 1) _ cleared (has_none lock)

pub released_while_waiting : ReleasedWhileWaiting
unfolding acting handed_back action_number refused_if node_number needs_idle later_number release_number
released_while_waiting state node lock passes free there known held =
    record {
      answer = simp (passes, there, known, held, free, and-false (not (is_idle (node_of state node).activity)));
      holds_no_longer = holds_no_longer_lem state node lock (omega (arith, ltb-true lock state.plan.locks known, (in_range_lem state.plan (passed state passes).plan).locks_most));
      goes_on = goes_on state node lock;
    }
