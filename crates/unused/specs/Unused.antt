-- 01: "Places for positions, nodes, junctions or queue cars beyond the plan and the count are never read and come back as they were. The queue's head is
-- at place 0, and a place that the queue gives up becomes idle." The words of it.
use Rattle.std.specs.Prelude.{ℕ, zero, suc, ◌+◌, ◌≤◌, ◌<◌, ◌≡◌, Bool, true, false, List, [], ◌∷◌, eqb, length, get_or, take, drop}
use Rattle.plan.specs.declared.Plan.{Plan}
use Rattle.plan.specs.Plan.{node_count, junction_count}
use Rattle.zeronode.specs.declared.ZeroNode.{ZeroNode}
use Rattle.zeronode.specs.Rules.{empty_slot}
use Rattle.ring.specs.declared.State.{State}

-- of a list of places: the first so many, which are in use, and those beyond them
abbrev pub in_use : {A : Type 0} → ℕ → List A → List A
in_use count places = take count places

abbrev pub beyond : {A : Type 0} → ℕ → List A → List A
beyond count places = drop count places

-- "come back as they were", of the queue. A step may change its count: beyond it is what is beyond the count before and after.
pub record QueueComesBack (before after : ZeroNode) : Type 0 where
  -- from any such place on the queue is as it was
  pub places : (place : ℕ) → before.count ≤ place → after.count ≤ place → beyond place after.queue ≡ beyond place before.queue
  -- "a place that the queue gives up becomes idle"
  pub idle : (place : ℕ) → after.count ≤ place → place < before.count → get_or after.queue place empty_slot ≡ empty_slot
  -- at most one place is taken, at most one given up
  pub taken : after.count ≤ before.count + 1
  pub given : before.count ≤ after.count + 1

-- "come back as they were", of all places. A plan out of range has no nodes and no junctions: all their places are beyond it.
pub record ComesBack (before after : State) : Type 0 where
  -- "positions": the whole plan, the values beyond its positions too
  pub plan : after.plan ≡ before.plan
  -- "nodes": those beyond the number of user nodes, U
  pub nodes : beyond (node_count before.plan) after.nodes ≡ beyond (node_count before.plan) before.nodes
  -- "junctions": those beyond the number of junctions
  pub junctions : beyond (junction_count before.plan) after.junctions ≡ beyond (junction_count before.plan) before.junctions
  -- "queue cars"
  pub queue : QueueComesBack before.zeroth after.zeroth

-- the bytes that so many positions take, by the shape alone, whatever counts, levels and rules are: after a byte of 5 (true) the next byte is a count
-- and brings so many positions more. No more than there are.
unfoldable pub values_taken : Bool → ℕ → List ℕ → ℕ
values_taken opening n [] = 0
values_taken false zero (byte ∷ bytes) = 0
values_taken false (suc n) (byte ∷ bytes) = values_taken (eqb byte 5) n bytes + 1
values_taken true n (byte ∷ bytes) = values_taken false (n + byte) bytes + 1

-- two plans that are the same but for the values beyond their positions. Both have the same number of places, in the code 352.
pub record SamePlan (a b : Plan) : Type 0 where
  pub rules : a.rules ≡ b.rules
  pub locks : a.locks ≡ b.locks
  pub positions : a.positions ≡ b.positions
  pub values : in_use (values_taken false a.positions a.values) a.values ≡ in_use (values_taken false a.positions a.values) b.values
  pub places : length a.values ≡ length b.values

-- two zero nodes that are the same but for the queue's places beyond the count. Both queues have the same number of places, in the code 65.
pub record SameZero (a b : ZeroNode) : Type 0 where
  pub car : a.car ≡ b.car
  pub count : a.count ≡ b.count
  pub queue : in_use a.count a.queue ≡ in_use a.count b.queue
  pub places : length a.queue ≡ length b.queue

-- two states that are the same in every place in use. Nothing is said of what their other places hold.
pub record Agree (a b : State) : Type 0 where
  pub plan : SamePlan a.plan b.plan
  pub zeroth : SameZero a.zeroth b.zeroth
  pub nodes : in_use (node_count a.plan) a.nodes ≡ in_use (node_count a.plan) b.nodes
  pub junctions : in_use (junction_count a.plan) a.junctions ≡ in_use (junction_count a.plan) b.junctions
