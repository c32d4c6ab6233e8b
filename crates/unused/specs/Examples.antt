-- That two states agree says nothing of their other places: here one is the start state, and the other has something else in every place beyond. First
-- of a plan whose values are its positions, then of one with a junction inside a subring; and how many values plans out of range take.
use Rattle.std.specs.Prelude.{ℕ, true, List, ◌∷◌, replicate}
use Rattle.cars.specs.declared.Car.{Car}
use Rattle.cars.specs.declared.Car.TheVariants.{Token, Reqp, Dov}
use Rattle.plan.specs.declared.Plan.{Plan}
use Rattle.usernode.specs.declared.Node.{Node}
use Rattle.usernode.specs.declared.Activity.TheVariants.{ToSendDov}
use Rattle.zeronode.specs.Rules.{empty_slot}
use Rattle.junction.specs.declared.Junction.{Junction}
use Rattle.ring.specs.declared.State.{State}
use Rattle.ring.specs.State.{rest_node, rest_junction}

-- multiring rules, two locks, a junction with one node on its subring: one position, which takes one value, one node, one junction
unfoldable pub smallest : Plan
smallest = record { rules = 2; locks = 2; positions = 1; values = 1 ∷ replicate 351 0 }

-- places that 13 would refuse if they were in use: locks and nodes that the plan does not have
unfoldable pub wild_node : Node
wild_node = record { car = Token; flag = true; activity = ToSendDov 9; held = 255; letting = 255 }

unfoldable pub wild_junction : Junction
wild_junction = record { main = Token; subring = Dov (record { lock = 9; source = 9 }); train = true; tour = true; word = 255 }

unfoldable pub wild_slot : Car
wild_slot = Reqp (record { lock = 9; source = 9 })

-- the start state, but for every place beyond the plan and the count
unfoldable pub wild : State
wild =
    record {
      plan = record { rules = 2; locks = 2; positions = 1; values = 1 ∷ replicate 351 9 };
      zeroth = record { car = Token; queue = replicate 65 wild_slot; count = 0 };
      nodes = rest_node ∷ replicate 63 wild_node;
      junctions = rest_junction ∷ replicate 143 wild_junction;
    }

-- the same after three steps: the token has been round. In the second step it took place 0 of the queue, in the third the queue gave that place up
unfoldable pub wild_later : State
wild_later =
    record {
      plan = wild.plan;
      zeroth = record { car = Token; queue = empty_slot ∷ replicate 64 wild_slot; count = 0 };
      nodes = wild.nodes;
      junctions = wild.junctions;
    }

-- multiring rules, two locks, two positions, a junction and a node: on the junction's subring are a node and an inner junction with one node. The two
-- positions take five values: 5 and 2, a list of two; 0 and 1, which are the list; 0, the node. Three nodes, two junctions.
unfoldable pub nested : Plan
nested = record { rules = 2; locks = 2; positions = 2; values = 5 ∷ (2 ∷ (0 ∷ (1 ∷ (0 ∷ replicate 347 0)))) }

-- the start state, but for every place beyond: values beyond the first five, though there are two positions; nodes beyond 3; junctions beyond 2
unfoldable pub nested_wild : State
nested_wild =
    record {
      plan = record { rules = 2; locks = 2; positions = 2; values = 5 ∷ (2 ∷ (0 ∷ (1 ∷ (0 ∷ replicate 347 5)))) };
      zeroth = record { car = Token; queue = replicate 65 wild_slot; count = 0 };
      nodes = rest_node ∷ (rest_node ∷ (rest_node ∷ replicate 61 wild_node));
      junctions = rest_junction ∷ (rest_junction ∷ replicate 142 wild_junction);
    }

-- the same after four steps: the token has been past the junction and the node, and took and gave up place 0 of the queue
unfoldable pub nested_later : State
nested_later =
    record {
      plan = nested_wild.plan;
      zeroth = record { car = Token; queue = empty_slot ∷ replicate 64 wild_slot; count = 0 };
      nodes = nested_wild.nodes;
      junctions = nested_wild.junctions;
    }

-- out of range: one position, a list of 9. By the shape it takes eleven values: 5, 9 and the nine
unfoldable pub nine_listed : List ℕ
nine_listed = 5 ∷ (9 ∷ replicate 350 0)

-- out of range: lists without end. All values are taken
unfoldable pub endless : List ℕ
endless = replicate 352 5
