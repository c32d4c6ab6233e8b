-- Runs in plans with junctions inside subrings (docs/NESTED.md), each with everything that is seen in its steps; and what an inner
-- junction makes of a reqp whose lock is in its word, on a train and on a shadow train.
use Rattle.std.specs.Prelude.{ℕ, List, [], ◌∷◌, ◌++◌, replicate}
use Rattle.cars.specs.declared.Car.{Car}
use Rattle.cars.specs.declared.Car.TheVariants.{Reqp, Failp}
use Rattle.plan.specs.declared.Plan.{Plan}
use Rattle.acts.specs.declared.Action.TheVariants.{Take, Release}
use Rattle.turns.specs.declared.Event.TheVariants.{Granted, Failed, Sent}
use Rattle.worked.specs.Watch.{Move, steps, act, at, accepted, event, token, word, begins, ends}
use Rattle.worked.specs.Cases.{Case}

-- multiring rules, one lock, so many positions on the main ring; behind their bytes zeros, as many as there are places left
unfoldable pub nested_plan : ℕ → List ℕ → ℕ → Plan
nested_plan positions bytes left = record { rules = 2; locks = 1; positions = positions; values = bytes ++ replicate left 0 }

-- one level, <[0]>: a list of one user node. Take, and release after the tour of the grant: the junction's word is set and cleared.
unfoldable pub one_level : Case
one_level =
    record {
      plan = nested_plan 1 (5 ∷ 1 ∷ 0 ∷ []) 349;
      moves = act Take 1 0 ∷ steps 11 ∷ act Release 1 0 ∷ steps 6 ∷ [];
      sights =
          at 0 token
          ∷ at 0 accepted
          ∷ at 1 (begins 1)
          ∷ at 5 (ends 1)
          ∷ at 6 token
          ∷ at 7 (begins 1)
          ∷ at 9 (event 1 (Granted 0))
          ∷ at 10 (word 1 1)
          ∷ at 11 (ends 1)
          ∷ at 11 accepted
          ∷ at 12 token
          ∷ at 13 (begins 1)
          ∷ at 15 (event 1 (Sent 0))
          ∷ at 16 (word 1 0)
          ∷ at 17 (ends 1)
          ∷ [];
    }

-- two levels, <[1]>: junction 2 stands on the subring of junction 1. Its tours lie within those of junction 1; a gotp and a didv pass the
-- words from the inside out.
unfoldable pub two_levels : Case
two_levels =
    record {
      plan = nested_plan 1 (5 ∷ 1 ∷ 1 ∷ []) 349;
      moves = act Take 1 0 ∷ steps 15 ∷ act Release 1 0 ∷ steps 8 ∷ [];
      sights =
          at 0 token
          ∷ at 0 accepted
          ∷ at 1 (begins 1)
          ∷ at 2 (begins 2)
          ∷ at 6 (ends 2)
          ∷ at 7 (ends 1)
          ∷ at 8 token
          ∷ at 9 (begins 1)
          ∷ at 10 (begins 2)
          ∷ at 12 (event 1 (Granted 0))
          ∷ at 13 (word 2 1)
          ∷ at 14 (word 1 1)
          ∷ at 14 (ends 2)
          ∷ at 15 (ends 1)
          ∷ at 15 accepted
          ∷ at 16 token
          ∷ at 17 (begins 1)
          ∷ at 18 (begins 2)
          ∷ at 20 (event 1 (Sent 0))
          ∷ at 21 (word 2 0)
          ∷ at 22 (word 1 0)
          ∷ at 22 (ends 2)
          ∷ at 23 (ends 1)
          ∷ [];
    }

-- three levels, <[[1]]>
unfoldable pub three_levels : Case
three_levels =
    record {
      plan = nested_plan 1 (5 ∷ 1 ∷ 5 ∷ 1 ∷ 1 ∷ []) 347;
      moves = act Take 1 0 ∷ steps 19 ∷ act Release 1 0 ∷ steps 10 ∷ [];
      sights =
          at 0 token
          ∷ at 0 accepted
          ∷ at 1 (begins 1)
          ∷ at 2 (begins 2)
          ∷ at 3 (begins 3)
          ∷ at 7 (ends 3)
          ∷ at 8 (ends 2)
          ∷ at 9 (ends 1)
          ∷ at 10 token
          ∷ at 11 (begins 1)
          ∷ at 12 (begins 2)
          ∷ at 13 (begins 3)
          ∷ at 15 (event 1 (Granted 0))
          ∷ at 16 (word 3 1)
          ∷ at 17 (word 2 1)
          ∷ at 17 (ends 3)
          ∷ at 18 (word 1 1)
          ∷ at 18 (ends 2)
          ∷ at 19 (ends 1)
          ∷ at 19 accepted
          ∷ at 20 token
          ∷ at 21 (begins 1)
          ∷ at 22 (begins 2)
          ∷ at 23 (begins 3)
          ∷ at 25 (event 1 (Sent 0))
          ∷ at 26 (word 3 0)
          ∷ at 27 (word 2 0)
          ∷ at 27 (ends 3)
          ∷ at 28 (word 1 0)
          ∷ at 28 (ends 2)
          ∷ at 29 (ends 1)
          ∷ [];
    }

-- <[0, 1]>: node 2, within the inner junction, holds the lock when node 1 asks for it. The inner junction is in no tour then and its word
-- alone knows: the reqp becomes failp in step 22, and node 1 gets N in step 28, not G.
unfoldable pub saved_plan : Plan
saved_plan = nested_plan 1 (5 ∷ 2 ∷ 0 ∷ 1 ∷ []) 348

unfoldable pub saved : Case
saved =
    record {
      plan = saved_plan;
      moves = act Take 2 0 ∷ steps 18 ∷ act Take 1 0 ∷ steps 13 ∷ [];
      sights =
          at 0 token
          ∷ at 0 accepted
          ∷ at 1 (begins 1)
          ∷ at 3 (begins 2)
          ∷ at 7 (ends 2)
          ∷ at 8 (ends 1)
          ∷ at 9 token
          ∷ at 10 (begins 1)
          ∷ at 12 (begins 2)
          ∷ at 14 (event 2 (Granted 0))
          ∷ at 15 (word 2 1)
          ∷ at 16 (word 1 1)
          ∷ at 16 (ends 2)
          ∷ at 17 (ends 1)
          ∷ at 18 token
          ∷ at 18 accepted
          ∷ at 19 (begins 1)
          ∷ at 24 (ends 1)
          ∷ at 25 token
          ∷ at 26 (begins 1)
          ∷ at 28 (event 1 (Failed 0))
          ∷ at 31 (ends 1)
          ∷ [];
    }

unfoldable pub nested_cases : List Case
nested_cases = one_level ∷ two_levels ∷ three_levels ∷ saved ∷ []

-- a run and the car that junction 2 then sends along the ring on which it stands
pub record CarCase : Type 0 where
  pub plan : Plan
  pub moves : List Move
  pub car : Car

-- the run of `saved` up to step 22: "it must fail the reqp"
unfoldable pub fails_real : CarCase
fails_real =
    record {
      plan = saved_plan;
      moves = act Take 2 0 ∷ steps 18 ∷ act Take 1 0 ∷ steps 4 ∷ [];
      car = Failp (record { lock = 0; source = 1 });
    }

-- the two runs in <0, [1, 0]> in which the same inner junction meets the same reqp, with one step more: on a shadow train it goes on as it
-- came, on a train it becomes failp
unfoldable pub shadow_plan : Plan
shadow_plan = nested_plan 2 (0 ∷ 5 ∷ 2 ∷ 1 ∷ 0 ∷ []) 347

unfoldable pub passes_shadow : CarCase
passes_shadow =
    record {
      plan = shadow_plan;
      moves = steps 1 ∷ act Take 2 0 ∷ steps 11 ∷ act Take 1 0 ∷ steps 11 ∷ act Take 1 0 ∷ steps 3 ∷ [];
      car = Reqp (record { lock = 0; source = 1 });
    }

unfoldable pub fails_train : CarCase
fails_train =
    record {
      plan = shadow_plan;
      moves = steps 1 ∷ act Take 2 0 ∷ steps 11 ∷ act Take 1 0 ∷ steps 10 ∷ act Take 3 0 ∷ steps 1 ∷ act Take 1 0 ∷ steps 3 ∷ [];
      car = Failp (record { lock = 0; source = 1 });
    }

unfoldable pub car_cases : List CarCase
car_cases = fails_real ∷ passes_shadow ∷ fails_train ∷ []
