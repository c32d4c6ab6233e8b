-- 02, item 4: under rules 3 and 4 a node releases one lock while it waits for another, and another node then gets the released lock. The same release
-- under rules 1 and 2 is refused with 9.
use Rattle.std.specs.Prelude.{ℕ, ◌≡◌, List, [], ◌∷◌, ◌++◌, replicate}
use Rattle.plan.specs.declared.Plan.{Plan}
use Rattle.usernode.specs.declared.Activity.{Activity}
use Rattle.usernode.specs.declared.Activity.TheVariants.{ToSendReqp, WaitingReqp}
use Rattle.acts.specs.declared.Action.TheVariants.{Take, Release}
use Rattle.ring.specs.State.{node_of}
use Rattle.ring.specs.Actions.{acting}
use Rattle.onelock.specs.OneLock.{Item, step, act, reached, granted, ended, Time, in_step, after_step, Moment, history}

-- a schedule of a plan, by the number of its rules: up to a release by node 1 of lock 0, and behind it
pub record Schedule : Type 0 where
  pub plan : ℕ → Plan
  pub before : List Item
  pub behind : List Item

unfoldable pub whole : Schedule → List Item
whole s = s.before ++ (act Release 1 0 ∷ s.behind)

-- lock 0 goes from node 1 to node 2: granted in the first step, ended at this time, granted in the second step
unfoldable pub passed_on : ℕ → Time → ℕ → List Moment
passed_on first end second =
    record { time = in_step first; deeds = granted 1 ∷ [] }
    ∷ record { time = end; deeds = ended 1 ∷ [] }
    ∷ record { time = in_step second; deeds = granted 2 ∷ [] }
    ∷ []

-- lock 1 is granted to node 1 in this step, which ends its wait
unfoldable pub wait_ends : ℕ → List Moment
wait_ends number = record { time = in_step number; deeds = granted 1 ∷ [] } ∷ []

-- when the release comes node 1 is doing this; under the one rules it is accepted, and the two locks have these histories; under the others, those
-- of 01, the node is doing the same, and it is refused with 9
pub record ReleasesWaiting (s : Schedule) (rules rules01 : ℕ) (doing : Activity) (released wanted : List Moment) : Type 0 where
  pub waits : (node_of (reached (s.plan rules) s.before) 1).activity ≡ doing
  pub accepted : (acting Release (reached (s.plan rules) s.before) 1 0).number ≡ 0
  pub history0 : history (s.plan rules) (whole s) 0 ≡ released
  pub history1 : history (s.plan rules) (whole s) 1 ≡ wanted
  pub waits01 : (node_of (reached (s.plan rules01) s.before) 1).activity ≡ doing
  pub refused : (acting Release (reached (s.plan rules01) s.before) 1 0).number ≡ 9

-- ring rules, two nodes
unfoldable pub ring_of_two : ℕ → Plan
ring_of_two rules = record { rules = rules; locks = 2; positions = 2; values = replicate 16 0 }

-- node 2 asks for the lock that node 1 holds; node 1 asks for another, and while it waits for the train, its reqp still to be sent, releases this one
unfoldable pub to_send : Schedule
to_send =
    record {
      plan = ring_of_two;
      before = act Take 1 0 ∷ replicate 7 step ++ (act Take 2 0 ∷ step ∷ act Take 1 1 ∷ replicate 4 step);
      behind = replicate 7 step;
    }

-- node 2 gets the released lock 5 steps before node 1's wait ends
abbrev pub BeforeTheWaitEnds : Type 0
BeforeTheWaitEnds = ReleasesWaiting to_send 3 1 (ToSendReqp 1) (passed_on 7 (after_step 12) 14) (wait_ends 19)

-- node 1 releases it while its reqp for the other is on the train; node 2 asks at once
unfoldable pub on_the_train : Schedule
on_the_train =
    record {
      plan = ring_of_two;
      before = act Take 1 0 ∷ replicate 7 step ++ (act Take 1 1 ∷ replicate 4 step);
      behind = act Take 2 0 ∷ replicate 9 step;
    }

abbrev pub UnderRules3 : Type 0
UnderRules3 = ReleasesWaiting on_the_train 3 1 (WaitingReqp 1) (passed_on 7 (after_step 11) 20) (wait_ends 13)

-- multiring rules, a junction with both nodes on its subring: node 1 releases it while its reqp for the other is on the train, and node 2 beside it
-- asks at once
unfoldable pub on_a_subring : Schedule
on_a_subring =
    record {
      plan = λ rules. record { rules = rules; locks = 2; positions = 1; values = 2 ∷ replicate 15 0 };
      before = act Take 1 0 ∷ replicate 13 step ++ (act Take 1 1 ∷ replicate 6 step);
      behind = act Take 2 0 ∷ replicate 15 step;
    }

-- node 1 lets the lock go from step 19 on; its didv goes right after its grant of the other one, and then node 2 gets it
abbrev pub UnderRules4 : Type 0
UnderRules4 = ReleasesWaiting on_a_subring 4 2 (WaitingReqp 1) (passed_on 10 (in_step 25) 34) (wait_ends 24)
