-- Whether a route fits, from what the survey of its positions tells.
use Prim.Native.Nat.{ℕ, ◌+◌, ◌*◌, ◌≤◌, ◌<◌}
use mathlib.Core.Path.{◌≡◌, refl, ap, ◌∙◌}
use mathlib.Core.Bool.{Bool, true, false, cond, ◌&&◌}
use mathlib.Core.List.{List, []}
use native.Mathlib.Omega.{arith}
use borrow.Author.Tests.{le-leb, lt-leb, leb-true}
use lib.Dec.{leb}
use lib.ListN.{length, take}
use lib.Seq.{sets}
use Rattle.std.specs.Prelude.{Option, Some, None}
use Rattle.positions.specs.declared.Survey.{Survey}
use Rattle.positions.specs.Ring.{nodes_in, junctions_in}
use Rattle.positions.specs.Reading.{Reading, main_ring, survey_of}
use Rattle.positions.proofs.InRange.{right_reads}
use Rattle.positions.proofs.Counts.{reads_within, reads_nodes, reads_junctions}
use Rattle.route.specs.Route.{route_of, laid_in}
use Rattle.route.specs.Laying.{legs_in, Layable}
use Rattle.route.proofs.Stores.{taken_back}
use Rattle.route.proofs.Routes.{legs}

-- what the survey tells of positions in range, and that it tells nothing of others
abbrev told_of : Reading → Bool → Option Survey
told_of read right = cond right (Some (record { nodes = nodes_in read.ring; junctions = junctions_in read.ring })) None

told_some : (read : Reading) {survey : Survey} → Some survey ≡ survey_of read
    → (read.right ≡ true) × (survey ≡ record { nodes = nodes_in read.ring; junctions = junctions_in read.ring })
unfolding survey_of
told_some read {survey} e = by_right read.right refl e
  where
    by_right : (b : Bool) → read.right ≡ b → Some survey ≡ told_of read b
        → (read.right ≡ true) × (survey ≡ record { nodes = nodes_in read.ring; junctions = junctions_in read.ring })
    by_right true right e = (right, cc)
    by_right false right e = absurd (cc)

told_none : (read : Reading) → None ≡ survey_of read → read.right ≡ false
unfolding survey_of
told_none read e = by_right read.right e
  where
    by_right : (b : Bool) → None ≡ told_of read b → b ≡ false
    by_right true e = absurd (cc)
    by_right false e = refl

-- positions in range of at most 352 bytes have at most 1,408 user nodes and 352 junctions
few_told : (values : List ℕ) (count : ℕ) → length values ≡ 352 → (main_ring values count).right ≡ true
    → (nodes_in (main_ring values count).ring ≤ 1408) × (junctions_in (main_ring values count).ring ≤ 352)
unfolding main_ring
few_told values count long right =
    let reads = right_reads values 3 count 0 right in
    let within = reads_within reads (omega arith) in
    (omega (arith, within, long, reads_nodes reads), omega (arith, within, long, reads_junctions reads))

module _ (values : List ℕ) (count : ℕ) where
  pub route_long : length (route_of values count) ≡ nodes_in (main_ring values count).ring + 2 * junctions_in (main_ring values count).ring
  unfolding route_of
  route_long = legs false (main_ring values count).ring 0 0

module _ (values : List ℕ) (count room : ℕ) where
  chosen : (right fits : Bool) → (main_ring values count).right ≡ right → leb (length (route_of values count)) room ≡ fits
      → laid_in room values count ≡ cond (right && fits) (route_of values count) []
  unfolding laid_in
  chosen right fits e f =
      ap (λ (b : Bool). cond (b && leb (length (route_of values count)) room) (route_of values count) []) e
      ∙ ap (λ (b : Bool). cond (right && b) (route_of values count) []) f

  -- by the survey: not in range, no room, or all of it
  pub laid_wrong : None ≡ survey_of (main_ring values count) → laid_in room values count ≡ []
  laid_wrong none = chosen false (leb (length (route_of values count)) room) (told_none (main_ring values count) none) refl

  module _ {survey : Survey} (told : Some survey ≡ survey_of (main_ring values count)) {many : ℕ} (e : many ≡ survey.nodes + 2 * survey.junctions) where
    legs_told : length (route_of values count) ≡ many
    legs_told =
        let all = (told_some (main_ring values count) told).1 in
        let nodes : survey.nodes ≡ nodes_in (main_ring values count).ring = ap (λ (s : Survey). s.nodes) all in
        let junctions : survey.junctions ≡ junctions_in (main_ring values count).ring = ap (λ (s : Survey). s.junctions) all in
        omega (arith, route_long values count, nodes, junctions, e)

    pub laid_short : room < many → laid_in room values count ≡ []
    laid_short short =
        chosen true false (told_some (main_ring values count) told).0 (lt-leb (length (route_of values count)) room (omega (arith, legs_told, short)))

    pub laid_fits : many ≤ room → laid_in room values count ≡ route_of values count
    laid_fits fits =
        chosen true true (told_some (main_ring values count) told).0 (le-leb (length (route_of values count)) room (omega (arith, legs_told, fits)))

    pub fits_layable : length values ≡ 352 → many ≤ room → Layable (length values) room (main_ring values count) 0 0 0
    unfolding legs_in
    fits_layable long fits =
        let right = (told_some (main_ring values count) told).0 in
        let few = few_told values count long right in
        record {
          in_range = right;
          few = omega (arith, long);
          fits = omega (arith, route_long values count, legs_told, fits);
          few_nodes = omega (arith, few.0);
          few_junctions = omega (arith, few.1);
        }

-- what is laid has room, and is found again where it was laid
pub laid_in_room : (room : ℕ) (values : List ℕ) (count : ℕ) → length (laid_in room values count) ≤ room
unfolding laid_in
laid_in_room room values count = by_tests (main_ring values count).right (leb (length (route_of values count)) room) refl
  where
    by_tests : (right fits : Bool) → leb (length (route_of values count)) room ≡ fits → length (cond (right && fits) (route_of values count) []) ≤ room
    by_tests true true e = leb-true (length (route_of values count)) room e
    by_tests true false e = omega arith
    by_tests false fits e = omega arith

pub laid_taken : (row values : List ℕ) (count : ℕ)
    → take (length (laid_in (length row) values count)) (sets row 0 (laid_in (length row) values count)) ≡ laid_in (length row) values count
laid_taken row values count = taken_back row (laid_in (length row) values count) (laid_in_room (length row) values count)

-- 352 numbers are room for the route of 64 user nodes and 144 junctions
pub route_short : (values : List ℕ) (count : ℕ) → nodes_in (main_ring values count).ring ≤ 64 → junctions_in (main_ring values count).ring ≤ 144
    → length (route_of values count) ≤ 352
route_short values count n j = omega (arith, route_long values count, n, j)

pub laid_route : (room : ℕ) (values : List ℕ) (count : ℕ) → (main_ring values count).right ≡ true → nodes_in (main_ring values count).ring ≤ 64
    → junctions_in (main_ring values count).ring ≤ 144 → 352 ≤ room → laid_in room values count ≡ route_of values count
laid_route room values count right n j enough =
    chosen values count room true true right (le-leb (length (route_of values count)) room (omega (arith, route_short values count n j, enough)))
