-- States that are the same in every place in use have plans with the same numbers of nodes and junctions, and 13 refuses both or neither.
use Prim.Native.Nat.{ℕ, ◌<◌}
use mathlib.Core.Path.{◌≡◌, ◌∙◌, ap, ap₂, subst}
use mathlib.Core.Bool.{Bool, cond, ◌&&◌, ◌||◌}
use lib.Dec.{eqb, leb}
use lib.ListN.{get_or}
use Rattle.lists.specs.Loops.{every}
use Rattle.lists.proofs.Laws.{every_same}
use Rattle.cars.specs.Cars.{multiring, car_names}
use Rattle.positions.specs.Ring.{Ring, nodes_in, junctions_in}
use Rattle.positions.specs.Reading.{Reading}
use Rattle.plan.specs.Plan.{heads_in_range, positions_read, ring_of, junctions_allowed, in_range, node_count, junction_count}
use Rattle.usernode.specs.Sound.{node_sound}
use Rattle.cars.specs.declared.Car.{Car}
use Rattle.zeronode.specs.Rules.{empty_slot}
use Rattle.zeronode.specs.Sound.{place_names, zero_sound}
use Rattle.junction.specs.Sound.{junction_sound}
use Rattle.ring.specs.declared.State.{State}
use Rattle.ring.specs.State.{rest_node, rest_junction}
use Rattle.ring.specs.Sound.{zero_passes, node_passes, junction_passes, sound}
use Rattle.unused.specs.Unused.{Agree}
use Rattle.unused.proofs.Lists.{same_at}
use Rattle.unused.proofs.Readings.{read_same}

-- the second state with the first one's rules, locks, positions, zero node's car and count
abbrev pub like : State → State → State
like a b =
    record {
      plan = record { rules = a.plan.rules; locks = a.plan.locks; positions = a.plan.positions; values = b.plan.values };
      zeroth = record { car = a.zeroth.car; queue = b.zeroth.queue; count = a.zeroth.count };
      nodes = b.nodes;
      junctions = b.junctions;
    }

-- what holds of that holds of the second state, where the two are the same in every place in use
pub by_lists : (P : State → Type 0) (a b : State) → Agree a b → P (like a b) → P b
by_lists P a b g holds =
    subst P (λ i. record {
      plan = record { rules = g.plan.rules i; locks = g.plan.locks i; positions = g.plan.positions i; values = b.plan.values };
      zeroth = record { car = g.zeroth.car i; queue = b.zeroth.queue; count = g.zeroth.count i };
      nodes = b.nodes;
      junctions = b.junctions;
    }) holds

-- two states that are the same in every place in use
module _ (a b : State) (g : Agree a (like a b)) where
  -- the positions are read as the same, in range or not
  pub positions_same : positions_read a.plan ≡ positions_read (like a b).plan
  unfolding positions_read
  positions_same = read_same a.plan.values b.plan.values g.plan.places a.plan.positions g.plan.values

  pub ring_same : ring_of a.plan ≡ ring_of (like a b).plan
  unfolding ring_of
  ring_same = ap (λ (read : Reading). read.ring) positions_same

  -- both plans are in range, or neither
  pub range_same : in_range a.plan ≡ in_range (like a b).plan
  unfolding in_range heads_in_range junctions_allowed ring_of
  range_same =
      ap (λ (read : Reading).
      heads_in_range a.plan && read.right && leb (nodes_in read.ring) 64 && (multiring a.plan.rules || eqb (junctions_in read.ring) 0)) positions_same

  -- as many nodes
  pub nodes_same : node_count a.plan ≡ node_count (like a b).plan
  unfolding node_count
  nodes_same = ap₂ (λ (t : Bool) (ring : Ring). cond t (nodes_in ring) 0) range_same ring_same

  -- as many junctions
  pub junctions_same : junction_count a.plan ≡ junction_count (like a b).plan
  unfolding junction_count
  junctions_same = ap₂ (λ (t : Bool) (ring : Ring). cond t (junctions_in ring) 0) range_same ring_same

  -- the same node, and junction, at each place of the plan
  pub node_same : (place : ℕ) → place < node_count a.plan → get_or a.nodes place rest_node ≡ get_or b.nodes place rest_node
  node_same = same_at rest_node (node_count a.plan) a.nodes b.nodes g.nodes

  pub junction_same : (place : ℕ) → place < junction_count a.plan → get_or a.junctions place rest_junction ≡ get_or b.junctions place rest_junction
  junction_same = same_at rest_junction (junction_count a.plan) a.junctions b.junctions g.junctions

  -- the tests of 13, of so many nodes and junctions
  abbrev passing : State → ℕ → ℕ → Bool
  passing s n j = in_range s.plan && zero_passes s n && every (node_passes s n) n && every (junction_passes s n) j

  -- the zero node passes in both, or in neither
  zero_same : (n : ℕ) → zero_passes a n ≡ zero_passes (like a b) n
  unfolding zero_passes zero_sound place_names
  zero_same n =
      ap (λ (t : Bool). leb a.zeroth.count 65 && car_names a.plan.rules n a.plan.locks a.zeroth.car && t)
      (every_same _ _ a.zeroth.count
      (λ place below. ap (λ (car : Car). car_names a.plan.rules n a.plan.locks car)
      (same_at empty_slot a.zeroth.count a.zeroth.queue b.zeroth.queue g.zeroth.queue place below)))

  -- 13 refuses both, or neither
  pub sound_same : sound a ≡ sound (like a b)
  unfolding sound node_passes junction_passes
  sound_same =
      let n = node_count a.plan in
      let j = junction_count a.plan in
      let nodes_pass : every (node_passes a n) n ≡ every (node_passes (like a b) n) n =
      every_same _ _ n (λ place below. ap (node_sound a.plan.rules n a.plan.locks) (node_same place below)) in
      let junctions_pass : every (junction_passes a n) j ≡ every (junction_passes (like a b) n) j =
      every_same _ _ j (λ place below. ap (junction_sound a.plan.rules n a.plan.locks) (junction_same place below)) in
      let parts : passing a n j ≡ passing (like a b) n j = λ i. range_same i && zero_same n i && nodes_pass i && junctions_pass i in
      parts ∙ ap₂ (passing (like a b)) nodes_same junctions_same
