-- 01, "Runs worked by hand": P1 to P12, each with everything that is seen in its steps.
use Rattle.std.specs.Prelude.{ℕ, List, [], ◌∷◌, ◌++◌, replicate}
use Rattle.plan.specs.declared.Plan.{Plan}
use Rattle.acts.specs.declared.Action.TheVariants.{Take, Release, Force}
use Rattle.turns.specs.declared.Event.TheVariants.{Granted, Failed, Lost, Back, Sent}
use Rattle.worked.specs.Watch.{Move, steps, act, Seen, Sight, at, accepted, refusal, event, token, word, begins, ends}

-- a run and what is to be seen of it
pub record Case : Type 0 where
  pub plan : Plan
  pub moves : List Move
  pub sights : List Sight

-- "Ring, U = n", with this many locks; "Multiring, one position of value 1"
unfoldable pub ring_plan : ℕ → ℕ → Plan
ring_plan locks nodes = record { rules = 1; locks = locks; positions = nodes; values = replicate 352 0 }

unfoldable pub junction_plan : Plan
junction_plan = record { rules = 2; locks = 1; positions = 1; values = 1 ∷ replicate 351 0 }

-- a case that goes on where another ends
unfoldable pub goes_on : Case → List Move → List Sight → Case
goes_on c moves sights = record { plan = c.plan; moves = c.moves ++ moves; sights = c.sights ++ sights }

-- P1 "Ring, U = 1, no action: the zero node sends the token at the start and after steps 3 and 6."
unfoldable pub p1 : Case
p1 = record { plan = ring_plan 1 1; moves = steps 8 ∷ []; sights = at 0 token ∷ at 3 token ∷ at 6 token ∷ [] }

-- P2 "Ring, U = 1, take at the start: G in step 6."
unfoldable pub p2 : Case
p2 =
    record {
      plan = ring_plan 1 1;
      moves = act Take 1 0 ∷ steps 6 ∷ [];
      sights = at 0 token ∷ at 0 accepted ∷ at 4 token ∷ at 6 (event 1 (Granted 0)) ∷ [];
    }

-- P3 "Ring, U = 2, both take lock 0 at the start: G for node 1 in step 8, N for node 2 in step 10."
unfoldable pub p3 : Case
p3 =
    record {
      plan = ring_plan 1 2;
      moves = act Take 1 0 ∷ act Take 2 0 ∷ steps 10 ∷ [];
      sights = at 0 token ∷ at 0 accepted ∷ at 0 accepted ∷ at 6 token ∷ at 8 (event 1 (Granted 0)) ∷ at 10 (event 2 (Failed 0)) ∷ [];
    }

-- P4 "P3, then node 2 forces lock 0 after step 10: L for node 1 in 15, B for node 2 in 16."
unfoldable pub p4 : Case
p4 =
    goes_on p3 (act Force 2 0 ∷ steps 6 ∷ [])
    (at 10 accepted ∷ at 13 token ∷ at 15 (event 1 (Lost 0)) ∷ at 16 (event 2 (Back 0)) ∷ [])

-- P5 "Multiring, one position of value 1, take at the start: G in 9; word set in 10; tour ends in 11." A first tour, from 1 to 5,
-- puts the reqp on the train.
unfoldable pub p5 : Case
p5 =
    record {
      plan = junction_plan;
      moves = act Take 1 0 ∷ steps 11 ∷ [];
      sights =
          at 0 token
          ∷ at 0 accepted
          ∷ at 1 (begins 1)
          ∷ at 5 (ends 1)
          ∷ at 6 token
          ∷ at 7 (begins 1)
          ∷ at 9 (event 1 (Granted 0))
          ∷ at 10 (word 1 1)
          ∷ at 11 (ends 1)
          ∷ [];
    }

-- P6 "P5, release after 11: D in 15; word cleared in 16; tour ends in 17."
unfoldable pub p6 : Case
p6 =
    goes_on p5 (act Release 1 0 ∷ steps 6 ∷ [])
    (at 11 accepted ∷ at 12 token ∷ at 13 (begins 1) ∷ at 15 (event 1 (Sent 0)) ∷ at 16 (word 1 0) ∷ at 17 (ends 1) ∷ [])

-- P7 "P6, take of the same lock right after the release: 11."
unfoldable pub p7 : Case
p7 = goes_on p5 (act Release 1 0 ∷ act Take 1 0 ∷ []) (at 11 accepted ∷ at 11 (refusal 11) ∷ [])

-- one action at the start of a ring of one node
unfoldable pub first : ℕ → Move → Seen → Case
first locks move seen = record { plan = ring_plan locks 1; moves = move ∷ []; sights = at 0 token ∷ at 0 seen ∷ [] }

-- P8 "Take lock 63 with 64 locks accepted; with 63 locks: 8."
unfoldable pub p8 : Case
p8 = first 64 (act Take 1 63) accepted

unfoldable pub p8_missing : Case
p8_missing = first 63 (act Take 1 63) (refusal 8)

-- P9 "Two takes by one node without a step: the second 9."
unfoldable pub p9 : Case
p9 = goes_on (first 1 (act Take 1 0) accepted) (act Take 1 0 ∷ []) (at 0 (refusal 9) ∷ [])

-- P10 "Node 0: 7." P11 "Release of a lock never held: 12." P12 "Take of a held lock: 10."
unfoldable pub p10 : Case
p10 = first 1 (act Take 0 0) (refusal 7)

unfoldable pub p11 : Case
p11 = first 1 (act Release 1 0) (refusal 12)

unfoldable pub p12 : Case
p12 = goes_on p2 (act Take 1 0 ∷ []) (at 6 (refusal 10) ∷ [])

-- P1 to P12
unfoldable pub cases : List Case
cases = p1 ∷ p2 ∷ p3 ∷ p4 ∷ p5 ∷ p6 ∷ p7 ∷ p8 ∷ p8_missing ∷ p9 ∷ p10 ∷ p11 ∷ p12 ∷ []
