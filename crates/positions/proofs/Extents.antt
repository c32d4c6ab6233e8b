-- How a survey goes on: what is still to be read gives, with what is counted, what all of it gives.
use Prim.Native.Nat.{ℕ, zero, suc, ◌+◌, ◌-◌, ◌*◌, ◌≤◌, ◌<◌}
use mathlib.Core.Path.{◌≡◌, refl, sym, ap, ap₂, subst, ◌∙◌}
use mathlib.Core.Bool.{Bool, true, false, cond}
use mathlib.Core.List.{List}
use native.Mathlib.Nat.{zero-add}
use native.Mathlib.Omega.{arith}
use lib.Dec.{ltb}
use borrow.Author.Tests.{ltb-true}
use lib.ListN.{length}
use Rattle.std.specs.Prelude.{Option, Some, None, option_and_then}
use Rattle.positions.specs.declared.Position.{Position}
use Rattle.positions.specs.declared.Position.TheVariants.{Node, Users, Listed}
use Rattle.positions.specs.declared.surveying.Extent.{Extent}
use Rattle.positions.specs.Ring.{Ring, nodes_in, junctions_in, users_only}
use Rattle.positions.specs.Reading.{Reading, wrong, behind_user, behind_junction, position_at, onward, reading, survey_of}
use Rattle.positions.specs.Extent.{extent_of}
use Rattle.positions.proofs.Places.{Stands, a_node, some_users, a_list, stands, deeper_is, list_at, reading-more}
use Rattle.positions.proofs.InRange.{right_reads}
use Rattle.positions.proofs.Counts.{users_nodes, users_no_junction, reads_within, reads_nodes, reads_junctions}

-- an extent by its parts: equal counts make equal extents
abbrev pub extent : Bool → ℕ → ℕ → ℕ → Option Extent
extent right place nodes junctions = cond right (Some (record { place = place; nodes = nodes; junctions = junctions })) None

-- a user node and what is read behind it
behind_user_lem : (read : Reading) (nodes junctions : ℕ) → extent_of (behind_user read) nodes junctions ≡ extent_of read (nodes + 1) junctions
unfolding extent_of behind_user nodes_in junctions_in
behind_user_lem read nodes junctions = ap₂ (extent read.right read.place) (omega arith) refl

-- a junction and what is read behind it
behind_junction_lem : (subring : Ring) (read : Reading) (nodes junctions : ℕ)
    → extent_of (behind_junction subring read) nodes junctions ≡ extent_of read (nodes + nodes_in subring) (junctions + 1 + junctions_in subring)
unfolding extent_of behind_junction nodes_in junctions_in
behind_junction_lem subring read nodes junctions = ap₂ (extent read.right read.place) (omega arith) (omega arith)

-- a list that is not in range
behind_wrong : (right : Bool) (read : Reading) (nodes junctions : ℕ) → right ≡ false → extent_of (cond right read wrong) nodes junctions ≡ None
unfolding extent_of wrong
behind_wrong right read nodes junctions e = rw e

module _ (values : List ℕ) (depth left place nodes junctions : ℕ) where
  -- one position more, by what stands there
  abbrev Going : Option Position → Type 0
  Going position = extent_of (reading depth values (suc left) place) nodes junctions
      ≡ extent_of (onward (list_at values depth) (λ next. reading depth values left next) place position) nodes junctions

  pub going : {position : Option Position} → position ≡ position_at (ltb 0 depth) values place → Going position
  going e = rw (e, ← deeper_is depth) (ap (λ read. extent_of read nodes junctions) (reading-more values depth left place))

  pub going_node : Some Node ≡ position_at (ltb 0 depth) values place
      → extent_of (reading depth values (suc left) place) nodes junctions ≡ extent_of (reading depth values left (place + 1)) (nodes + 1) junctions
  unfolding onward
  going_node e = going e ∙ behind_user_lem (reading depth values left (place + 1)) nodes junctions

  pub going_users : (value : ℕ) → Some (Users value) ≡ position_at (ltb 0 depth) values place
      → extent_of (reading depth values (suc left) place) nodes junctions
      ≡ extent_of (reading depth values left (place + 1)) (nodes + value) (junctions + 1)
  unfolding onward
  going_users value e =
      let u : nodes + nodes_in (users_only value) ≡ nodes + value = ap (λ n. nodes + n) (users_nodes value) in
      let none = users_no_junction value in
      let v : junctions + 1 + junctions_in (users_only value) ≡ junctions + 1 = omega (arith, none) in
      going e ∙ behind_junction_lem (users_only value) (reading depth values left (place + 1)) nodes junctions
      ∙ ap₂ (λ n j. extent_of (reading depth values left (place + 1)) n j) u v

  pub going-wrong : None ≡ position_at (ltb 0 depth) values place → extent_of (reading depth values (suc left) place) nodes junctions ≡ None
  unfolding onward extent_of wrong
  going-wrong e = going e

-- what stands at a place has its bytes
module _ (values : List ℕ) (place : ℕ) (deeper : Bool) where
  there : {position : Option Position} → position ≡ position_at deeper values place → Stands values place deeper position
  there e = subst (Stands values place deeper) (sym e) (stands values place deeper)

  pub node_there : Some Node ≡ position_at deeper values place → place < length values
  node_there e = go (there e)
    where
      go : {d : Bool} → Stands values place d (Some Node) → place < length values
      go (a_node d h none) = h

  pub users_there : {value : ℕ} → Some (Users value) ≡ position_at deeper values place → (place < length values) × (value ≤ 4)
  users_there {value} e = go (there e)
    where
      go : {d : Bool} → Stands values place d (Some (Users value)) → (place < length values) × (value ≤ 4)
      go (some_users h same some small) = (h, small)

  pub list_there : {many : ℕ} → Some (Listed many) ≡ position_at deeper values place → (place + 1 < length values) × (deeper ≡ true)
  list_there {many} e = go (there e)
    where
      go : {d : Bool} → Stands values place d (Some (Listed many)) → (place + 1 < length values) × (d ≡ true)
      go (a_list h five same least most) = (h, refl)

-- an extent is of positions in range and has their counts
pub extent_some : (read : Reading) (nodes junctions : ℕ) {counted : Extent} → Some counted ≡ extent_of read nodes junctions
    → (read.right ≡ true)
    × (counted ≡ record { place = read.place; nodes = nodes + nodes_in read.ring; junctions = junctions + junctions_in read.ring })
unfolding extent_of
extent_some read nodes junctions {counted} e = go read.right refl e
  where
    go : (b : Bool) → read.right ≡ b → Some counted ≡ extent b read.place (nodes + nodes_in read.ring) (junctions + junctions_in read.ring)
        → (read.right ≡ true)
        × (counted ≡ record { place = read.place; nodes = nodes + nodes_in read.ring; junctions = junctions + junctions_in read.ring })
    go true right e = (right, cc)
    go false right e = absurd (cc)

-- and where there is none they are not
pub extent_none : (read : Reading) (nodes junctions : ℕ) → None ≡ extent_of read nodes junctions → read.right ≡ false
unfolding extent_of
extent_none read nodes junctions e = go read.right e
  where
    go : (b : Bool) → None ≡ extent b read.place (nodes + nodes_in read.ring) (junctions + junctions_in read.ring) → b ≡ false
    go true e = absurd (cc)
    go false e = refl

-- what so many positions give behind an extent
abbrev pub behind : List ℕ → ℕ → ℕ → Extent → Option Extent
behind values depth left extent = extent_of (reading depth values left extent.place) extent.nodes extent.junctions

-- a list: its own survey has one level less; where it is in range, what it has counted goes on behind it
list_onward : (values : List ℕ) (depth left place nodes junctions many : ℕ) (found : Option Extent)
    → found ≡ extent_of (reading depth values many (place + 2)) nodes (junctions + 1)
    → extent_of (onward (list_at values (suc depth)) (λ next. reading (suc depth) values left next) place (Some (Listed many))) nodes junctions
    ≡ option_and_then (behind values (suc depth) left) found
unfolding onward
list_onward values depth left place nodes junctions many (Some within) e =
    let list = reading depth values many (place + 2) in
    let counted = extent_some list nodes (junctions + 1) e in
    let all = behind_junction list.ring (reading (suc depth) values left list.place) in
    ap (λ b. extent_of (cond b all wrong) nodes junctions) counted.0
    ∙ behind_junction_lem list.ring (reading (suc depth) values left list.place) nodes junctions
    ∙ ap (behind values (suc depth) left) (sym counted.1)
list_onward values depth left place nodes junctions many None e =
    let list = reading depth values many (place + 2) in
    behind_wrong list.right (behind_junction list.ring (reading (suc depth) values left list.place)) nodes junctions
    (extent_none list nodes (junctions + 1) e)

-- a list stands only where a level is left, and has its count
pub list_deeper : (values : List ℕ) (depth place : ℕ) {many : ℕ} {position : Position} → position ≡ Listed many
    → Some position ≡ position_at (ltb 0 depth) values place → (0 < depth) × (place + 1 < length values)
list_deeper values depth place is found =
    let room = list_there values place (ltb 0 depth) (sym (ap Some is) ∙ found) in (ltb-true 0 depth room.1, room.0)

pub going_list : (values : List ℕ) (depth left place nodes junctions many : ℕ) (found : Option Extent)
    → Some (Listed many) ≡ position_at (ltb 0 depth) values place
    → found ≡ extent_of (reading (depth - 1) values many (place + 2)) nodes (junctions + 1)
    → extent_of (reading depth values (suc left) place) nodes junctions ≡ option_and_then (behind values depth left) found
going_list values zero left place nodes junctions many found e called =
    let none = (list_deeper values zero place refl e).0 in absurd (omega (arith, none))
going_list values (suc depth) left place nodes junctions many found e called =
    let lower : suc depth - 1 ≡ depth = omega arith in
    going values (suc depth) left place nodes junctions e
    ∙ list_onward values depth left place nodes junctions many found
    (subst (λ d. found ≡ extent_of (reading d values many (place + 2)) nodes (junctions + 1)) lower called)

-- what it has counted keeps within its bytes
pub record Within (values : List ℕ) (within : Extent) : Type 0 where
  pub place_fits : within.place ≤ length values
  pub nodes_fit : within.nodes ≤ 4 * within.place
  pub junctions_fit : within.junctions ≤ within.place

pub list_within : (values : List ℕ) (depth place nodes junctions many : ℕ) (within : Extent)
    → Some within ≡ extent_of (reading depth values many (place + 2)) nodes (junctions + 1)
    → place + 1 < length values → nodes ≤ 4 * place → junctions ≤ place → Within values within
list_within values depth place nodes junctions many within e room nodes_fit junctions_fit =
    let counted = extent_some (reading depth values many (place + 2)) nodes (junctions + 1) e in
    let reads = right_reads values depth many (place + 2) counted.0 in
    let bytes = reads_within reads (omega (arith, room)) in
    let most = reads_nodes reads in
    let each = reads_junctions reads in
    subst (Within values) (sym counted.1)
    (record { place_fits = bytes; nodes_fit = omega (arith, most, nodes_fit); junctions_fit = omega (arith, each, junctions_fit) })

-- a survey of all positions, from nothing on
pub survey_some : (read : Reading) {all : Extent} → Some all ≡ extent_of read 0 0 → Some (record { nodes = all.nodes; junctions = all.junctions }) ≡ survey_of read
unfolding survey_of
survey_some read e =
    let counted = extent_some read 0 0 e in
    rw (counted.0, counted.1, zero-add (nodes_in read.ring), zero-add (junctions_in read.ring)) refl

pub survey_none : (read : Reading) → None ≡ extent_of read 0 0 → None ≡ survey_of read
unfolding survey_of
survey_none read e = rw (extent_none read 0 0 e) refl
