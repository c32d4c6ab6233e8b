-- P1 to P12 hold of the definitions: what each run shows is what its case says, by computation.
use Prim.Native.Nat.{ℕ}
use mathlib.Core.Path.{◌≡◌, refl}
use mathlib.Core.List.{List, map}
use Rattle.worked.specs.Cases.{Case, cases, ring_plan, junction_plan, goes_on, p1, p2, p3, p4, p5, p6, p7, first, p8, p8_missing, p9, p10, p11, p12}
use Rattle.cars.specs.Kinds.{is_token_car}
use Rattle.worked.specs.Watch.{Sight, at, sight, happened, events, changes, junction_changes, in_step, watch_steps, answer, watch, run}
use Rattle.ring.proofs.Opened.{of_lists, of_words, of_cars, of_plan, of_usernode, of_zeronode, of_junction, of_ring}

-- the definitions of what is seen, opened together; and those of the cases
unfoldable pub of_watch : ℕ
unfolding at sight is_token_car happened events changes junction_changes in_step watch_steps answer watch run
of_watch = 0

unfoldable of_cases : ℕ
unfolding ring_plan junction_plan goes_on p1 p2 p3 p4 p5 p6 p7 first p8 p8_missing p9 p10 p11 p12 cases
of_cases = 0

-- what is seen of a case's run, and what is to be seen
abbrev pub got : Case → List Sight
got c = run c.plan c.moves

abbrev pub wanted : Case → List Sight
wanted c = c.sights

pub worked : map got cases ≡ map wanted cases
unfolding of_lists of_words of_cars of_plan of_usernode of_zeronode of_junction of_ring of_watch of_cases
worked = refl
