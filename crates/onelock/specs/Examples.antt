-- A ring that never grants would keep demand 3: for each rule book of 01 a schedule in which a lock is granted to two nodes, an ending between them.
-- Those of rules 3 and 4 are in crate books, `Waiting`. And an inner junction that meets the same reqp as a shadow and as a real car.
use Rattle.std.specs.Prelude.{ℕ, Bool, true, false, List, [], ◌∷◌, ◌++◌, get_or, replicate}
use Rattle.cars.specs.declared.Tag.{Tag}
use Rattle.cars.specs.declared.Car.{Car}
use Rattle.cars.specs.declared.Car.TheVariants.{Reqp, Failp}
use Rattle.plan.specs.declared.Plan.{Plan}
use Rattle.plan.specs.Plan.{value_places}
use Rattle.acts.specs.declared.Action.TheVariants.{Take, Release, Force}
use Rattle.onelock.specs.OneLock.{Item, step, act, after_item, reached, granted, ended, in_step, after_step, Moment, junction_at}
use Rattle.onelock.specs.Shadows.{ghosts_reached}

-- ring rules, two nodes: node 1 asks and releases, then node 2 asks
unfoldable pub ring_plan : Plan
ring_plan = record { rules = 1; locks = 1; positions = 2; values = replicate value_places 0 }

unfoldable pub ring_items : List Item
ring_items = act Take 1 0 ∷ replicate 9 step ++ (act Release 1 0 ∷ act Take 2 0 ∷ replicate 9 step)

unfoldable pub ring_history : List Moment
ring_history =
    record { time = in_step 7; deeds = granted 1 ∷ [] }
    ∷ record { time = after_step 9; deeds = ended 1 ∷ [] }
    ∷ record { time = in_step 18; deeds = granted 2 ∷ [] }
    ∷ []

-- multiring rules, a junction with two nodes and a node on the main ring: node 1 asks, node 3 forces it out, then node 2 asks
unfoldable pub multiring_plan : Plan
multiring_plan = record { rules = 2; locks = 1; positions = 2; values = 2 ∷ replicate 351 0 }

unfoldable pub multiring_items : List Item
multiring_items = act Take 1 0 ∷ replicate 16 step ++ (act Force 3 0 ∷ replicate 14 step ++ (act Take 2 0 ∷ replicate 9 step))

unfoldable pub multiring_history : List Moment
multiring_history =
    record { time = in_step 11; deeds = granted 1 ∷ [] }
    ∷ record { time = in_step 29; deeds = ended 1 ∷ [] }
    ∷ record { time = in_step 39; deeds = granted 2 ∷ [] }
    ∷ []

-- <0, [1, 0]>: node 1 on the main ring, then a junction; on its subring an inner junction with node 2, and node 3. docs/NESTED.md, "Why an inner
-- junction needs its train flag", has these two schedules: the inner junction's word has the lock, and a reqp of node 1 comes to it, once shadow and
-- once real
unfoldable pub nested_plan : Plan
nested_plan = record { rules = 2; locks = 1; positions = 2; values = 0 ∷ 5 ∷ 2 ∷ 1 ∷ 0 ∷ replicate 347 0 }

unfoldable pub shadow_items : List Item
shadow_items =
    step ∷ act Take 2 0 ∷ replicate 11 step ++ (act Take 1 0 ∷ replicate 11 step ++ (act Take 1 0 ∷ step ∷ step ∷ []))

unfoldable pub real_items : List Item
real_items =
    step ∷ act Take 2 0 ∷ replicate 11 step ++ (act Take 1 0 ∷ replicate 10 step ++ (act Take 3 0 ∷ step ∷ act Take 1 0 ∷ step ∷ step ∷ []))

-- what the inner junction meets: its word, the car that comes to it (the outer junction's subring car), whether that is real, and the car that it then
-- sends on along the subring
pub record Meeting : Type 0 where
  pub word : ℕ
  pub arrives : Car
  pub real : Bool
  pub sends : Car

unfoldable pub meeting : List Item → Meeting
meeting items =
    record {
      word = (junction_at (reached nested_plan items) 1).word;
      arrives = (junction_at (reached nested_plan items) 0).subring;
      real = get_or (ghosts_reached nested_plan items).subrings 0 false;
      sends = (junction_at (after_item step (reached nested_plan items)) 1).main;
    }

unfoldable pub of_node1 : Tag
of_node1 = record { lock = 0; source = 1 }

-- the shadow goes on as it came, the real car becomes failp
unfoldable pub shadow_meeting : Meeting
shadow_meeting = record { word = 1; arrives = Reqp of_node1; real = false; sends = Reqp of_node1 }

unfoldable pub real_meeting : Meeting
real_meeting = record { word = 1; arrives = Reqp of_node1; real = true; sends = Failp of_node1 }
