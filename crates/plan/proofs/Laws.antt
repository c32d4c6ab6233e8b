-- Laws of a plan: what being in range says field by field, and how many user nodes and junctions there are.
use Prim.Native.Nat.{ℕ, ◌≤◌}
use mathlib.Core.Path.{◌≡◌, refl}
use mathlib.Core.Bool.{Bool, true, false, cond, ◌&&◌, ◌||◌}
use native.Mathlib.Omega.{arith}
use lib.Dec.{eqb, leb}
use borrow.Author.Tests.{leb-true}
use Rattle.lists.proofs.Laws.{and_left, and_right}
use Rattle.cars.specs.Cars.{multiring}
use Rattle.std.specs.Prelude.{Option, Some, None, option_and_then}
use Rattle.positions.specs.declared.Survey.{Survey}
use Rattle.positions.specs.Ring.{nodes_in, junctions_in}
use Rattle.positions.specs.Reading.{main_ring, survey_of}
use Rattle.plan.specs.declared.Plan.{Plan}
use Rattle.plan.specs.Plan.{heads_in_range, positions_read, ring_of, junctions_allowed, in_range, node_count, junction_count, plan_survey}
use Rattle.plan.specs.Theorems.{AtMost64Nodes, AtMost144Junctions}
use Rattle.positions.proofs.Theorems.{at_most_144_junctions}

-- six tests that hold together hold each
all_six : (a b c d e f : Bool) → (a && b && c && d && e && f) ≡ true →
    (a ≡ true) × (b ≡ true) × (c ≡ true) × (d ≡ true) × (e ≡ true) × (f ≡ true)
all_six a b c d e f six =
    let five = and_left (a && b && c && d && e) f six in
    let four = and_left (a && b && c && d) e five in
    let three = and_left (a && b && c) d four in
    let two = and_left (a && b) c three in (
      and_left a b two,
      and_right a b two,
      and_right (a && b) c three,
      and_right (a && b && c) d four,
      and_right (a && b && c && d) e five,
      and_right (a && b && c && d && e) f six,
    )

-- the heads in range, each by itself
pub heads-in_range : (plan : Plan) → heads_in_range plan ≡ true →
    (1 ≤ plan.rules) × (plan.rules ≤ 4) × (1 ≤ plan.locks) × (plan.locks ≤ 64) × (1 ≤ plan.positions) × (plan.positions ≤ 16)
unfolding heads_in_range
heads-in_range plan e =
    let each = all_six (leb 1 plan.rules) (leb plan.rules 4) (leb 1 plan.locks) (leb plan.locks 64)
    (leb 1 plan.positions) (leb plan.positions 16) e in
    (leb-true _ _ each.0, leb-true _ _ each.1, leb-true _ _ each.2, leb-true _ _ each.3, leb-true _ _ each.4, leb-true _ _ each.5)

-- what a plan in range says of each of its values
pub record Range (plan : Plan) : Type 0 where
  pub rules_least : 1 ≤ plan.rules
  pub rules_most : plan.rules ≤ 4
  pub locks_least : 1 ≤ plan.locks
  pub locks_most : plan.locks ≤ 64
  pub positions-least : 1 ≤ plan.positions
  pub positions_most : plan.positions ≤ 16
  pub right : (positions_read plan).right ≡ true
  pub nodes_most : nodes_in (ring_of plan) ≤ 64
  pub allowed : junctions_allowed plan ≡ true

pub in_range_lem : (plan : Plan) → in_range plan ≡ true → Range plan
unfolding in_range
in_range_lem plan e =
    let three = and_left (heads_in_range plan && (positions_read plan).right && leb (nodes_in (ring_of plan)) 64) (junctions_allowed plan) e in
    let two = and_left (heads_in_range plan && (positions_read plan).right) (leb (nodes_in (ring_of plan)) 64) three in
    let heads = heads-in_range plan (and_left (heads_in_range plan) (positions_read plan).right two) in
    record {
      rules_least = heads.0;
      rules_most = heads.1;
      locks_least = heads.2;
      locks_most = heads.3;
      positions-least = heads.4;
      positions_most = heads.5;
      right = and_right (heads_in_range plan) (positions_read plan).right two;
      nodes_most = leb-true _ _ (and_right (heads_in_range plan && (positions_read plan).right) (leb (nodes_in (ring_of plan)) 64) three);
      allowed = and_right (heads_in_range plan && (positions_read plan).right && leb (nodes_in (ring_of plan)) 64) (junctions_allowed plan) e;
    }

-- a plan in range has the nodes and the junctions of its ring
pub counted : (plan : Plan) → in_range plan ≡ true → node_count plan ≡ nodes_in (ring_of plan)
unfolding node_count
counted plan e = rw e

pub junctions_counted : (plan : Plan) → in_range plan ≡ true → junction_count plan ≡ junctions_in (ring_of plan)
unfolding junction_count
junctions_counted plan e = rw e

-- and room for them
pub ring_junctions_most : (plan : Plan) → in_range plan ≡ true → junctions_in (ring_of plan) ≤ 144
unfolding ring_of positions_read
ring_junctions_most plan e =
    let range = in_range_lem plan e in
    at_most_144_junctions plan.values plan.positions range.right range.positions_most range.nodes_most

pub nodes_count_most : AtMost64Nodes
nodes_count_most plan e = omega (arith, counted plan e, (in_range_lem plan e).nodes_most)

pub junctions_count_most : AtMost144Junctions
junctions_count_most plan e = omega (arith, junctions_counted plan e, ring_junctions_most plan e)

-- what is 0 unless a test holds is bounded by its bound where the test holds
bounded : (b : Bool) (n most : ℕ) → (b ≡ true → cond b n 0 ≤ most) → cond b n 0 ≤ most
bounded true n most holds = holds refl
bounded false n most holds = omega arith

-- any plan has at most 64 user nodes and 144 junctions: one out of range has none
pub nodes_most : (plan : Plan) → node_count plan ≤ 64
unfolding node_count
nodes_most plan = bounded (in_range plan) _ 64 (nodes_count_most plan)

pub junctions_most : (plan : Plan) → junction_count plan ≤ 144
unfolding junction_count
junctions_most plan = bounded (in_range plan) _ 144 (junctions_count_most plan)

-- what the survey of a plan says, by its parts
abbrev told : Bool → ℕ → ℕ → Option Survey
told right nodes junctions = cond right (Some (record { nodes = nodes; junctions = junctions })) None

-- the survey of a plan: of its heads, then of its positions, then of its numbers
survey_of_heads : (plan : Plan) → heads_in_range plan ≡ true → (found : Option Survey) → found ≡ survey_of (main_ring plan.values plan.positions)
    → option_and_then (λ (s : Survey). cond (leb s.nodes 64 && (multiring plan.rules || eqb s.junctions 0)) (Some s) None) found ≡ plan_survey plan
unfolding plan_survey node_count junction_count in_range junctions_allowed ring_of positions_read survey_of
survey_of_heads plan h found e =
    let read = main_ring plan.values plan.positions in
    rw e (rw h (go read.right (nodes_in read.ring) (junctions_in read.ring) (multiring plan.rules)))
  where
    one : (b : Bool) (n j : ℕ) → told b n j ≡ told b (cond b n 0) (cond b j 0)
    one true n j = refl
    one false n j = refl

    go : (right : Bool) (n j : ℕ) (m : Bool)
        → option_and_then (λ (s : Survey). cond (leb s.nodes 64 && (m || eqb s.junctions 0)) (Some s) None) (told right n j)
        ≡ (let b : Bool = true && right && leb n 64 && (m || eqb j 0) in told b (cond b n 0) (cond b j 0))
    go true n j m = one (leb n 64 && (m || eqb j 0)) n j
    go false n j m = refl

-- by what was found: nothing, more than is allowed, or what is allowed
pub survey_wrong : (plan : Plan) → heads_in_range plan ≡ true → None ≡ survey_of (main_ring plan.values plan.positions) → None ≡ plan_survey plan
survey_wrong plan h e = survey_of_heads plan h None e

pub survey_right : (plan : Plan) {survey : Survey} → heads_in_range plan ≡ true → Some survey ≡ survey_of (main_ring plan.values plan.positions)
    → (leb survey.nodes 64 && (multiring plan.rules || eqb survey.junctions 0)) ≡ true → Some survey ≡ plan_survey plan
survey_right plan {survey} h e allowed = rw allowed at (survey_of_heads plan h (Some survey) e)

pub survey_forbidden : (plan : Plan) {survey : Survey} → heads_in_range plan ≡ true → Some survey ≡ survey_of (main_ring plan.values plan.positions)
    → (leb survey.nodes 64 && (multiring plan.rules || eqb survey.junctions 0)) ≡ false → None ≡ plan_survey plan
survey_forbidden plan {survey} h e allowed = rw allowed at (survey_of_heads plan h (Some survey) e)

pub survey_of_none : (plan : Plan) → heads_in_range plan ≡ false → None ≡ plan_survey plan
unfolding plan_survey in_range
survey_of_none plan h = rw h refl

-- what the survey of a plan says of it: it is in range and has so many user nodes and junctions, or it is not in range
pub survey_some : (plan : Plan) {survey : Survey} → Some survey ≡ plan_survey plan
    → (in_range plan ≡ true) × (survey.nodes ≡ node_count plan) × (survey.junctions ≡ junction_count plan)
unfolding plan_survey
survey_some plan {survey} e = go (in_range plan) refl e
  where
    go : (b : Bool) → in_range plan ≡ b → Some survey ≡ told b (node_count plan) (junction_count plan)
        → (in_range plan ≡ true) × (survey.nodes ≡ node_count plan) × (survey.junctions ≡ junction_count plan)
    go true right e = (right, cc, cc)
    go false right e = absurd (cc)

pub survey_none : (plan : Plan) → None ≡ plan_survey plan → in_range plan ≡ false
unfolding plan_survey
survey_none plan e = go (in_range plan) e
  where
    go : (b : Bool) → None ≡ told b (node_count plan) (junction_count plan) → b ≡ false
    go true e = absurd (cc)
    go false e = refl
