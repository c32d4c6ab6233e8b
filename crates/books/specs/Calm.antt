-- 02, item 4: a schedule in which no node releases a lock while its activity is not idle, and a file with another number of the rules.
use Rattle.std.specs.Prelude.{ℕ, Bool, true, not, ◌&&◌, ◌||◌, List, [], ◌∷◌, eqb, ltb, set}
use Rattle.cars.specs.Cars.{is_node}
use Rattle.plan.specs.Plan.{node_count}
use Rattle.usernode.specs.Node.{is_idle}
use Rattle.ring.specs.declared.State.{State}
use Rattle.ring.specs.State.{node_of, start_of}
use Rattle.nightfile.specs.File.{byte_at}
use Rattle.onelock.specs.OneLock.{Item, step, act, after_item, releases}
use Rattle.nightlock.specs.NightLock.{plan_in, items_in}

-- an item that is no release of a lock of the plan by a node of the plan, or whose node is idle
unfoldable pub calm_item : Item → State → Bool
calm_item step state = true
calm_item (act action node lock) state =
    not (releases action && (is_node (node_count state.plan) node && ltb lock state.plan.locks)) || is_idle (node_of state node).activity

-- each item of a schedule, from this state on
unfoldable pub calm_from : List Item → State → Bool
calm_from [] state = true
calm_from (item ∷ items) state = calm_item item state && calm_from items (after_item item state)

-- a file's schedule, from the start state of its plan
unfoldable pub calm_schedule : List ℕ → Bool
calm_schedule file = calm_from (items_in file) (start_of (plan_in file))

-- the plan's first byte, which is the file's byte 11, is 1 or 2
unfoldable pub book_of01 : List ℕ → Bool
book_of01 file = eqb (byte_at file 11) 1 || eqb (byte_at file 11) 2

-- the file with that byte changed, and no other
unfoldable pub with_rules : ℕ → List ℕ → List ℕ
with_rules rules file = set file 11 rules
