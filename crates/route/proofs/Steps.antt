-- The laying of a route, step by step: what is still to be laid, with what is laid, is what all of it is.
use Prim.Native.Nat.{ℕ, zero, suc, ◌+◌, ◌-◌, ◌*◌, ◌≤◌, ◌<◌}
use mathlib.Core.Path.{◌≡◌, refl, sym, ap, ◌∙◌, subst}
use mathlib.Core.Bool.{Bool, true, false}
use mathlib.Core.List.{List, [], ◌∷◌, ◌++◌, append_assoc}
use native.Mathlib.Omega.{arith}
use lib.Dec.{ltb}
use lib.ListN.{length, set, length-set, length-append}
use lib.Seq.{sets, length-sets}
use Rattle.std.specs.Option.{IsSome}
use Rattle.std.specs.Prelude.{Option, Some, None}
use Rattle.positions.specs.Ring.{Ring, nodes_in, junctions_in, users_only}
use Rattle.positions.specs.declared.Position.{Position}
use Rattle.positions.specs.declared.Position.TheVariants.{Node, Users, Listed}
use Rattle.positions.specs.Reading.{Reading, reading, position_at, behind_user, behind_junction, main_ring}
use Rattle.positions.proofs.Places.{reading_none}
use Rattle.positions.proofs.Extents.{node_there, users_there, list_there}
use Rattle.positions.proofs.Counts.{users_nodes, users_no_junction}
use Rattle.route.specs.declared.laying.Laid.{Laid}
use Rattle.route.specs.Route.{into_number, out_number, route_at, route_of}
use Rattle.route.specs.Laying.{nodes_from, legs_in, Layable, laid_after}
use Rattle.route.proofs.Next.{next_node, next_users, next_listed, next_wrong, Lists}
use Rattle.route.proofs.Stores.{sets-append}
use Rattle.route.proofs.Routes.{legs_in_lem, users_route, users_legs}

-- user nodes in order: those that are left, with one that is put
pub nodes_more : (row : List ℕ) (at node count done : ℕ) → done < count
    → sets (set row (at + done) (node + done)) (at + (done + 1)) (nodes_from (node + (done + 1)) (count - (done + 1)))
    ≡ sets row (at + done) (nodes_from (node + done) (count - done))
unfolding nodes_from
nodes_more row at node count done some =
    let left : count - done ≡ suc (count - (done + 1)) = omega (arith, some) in
    let next : at + (done + 1) ≡ suc (at + done) = omega arith in
    let behind : node + (done + 1) ≡ node + done + 1 = omega arith in
    rw (left, next, behind) refl

-- and none left
pub nodes_none : (row : List ℕ) (at node : ℕ) {left : ℕ} → left ≡ 0 → sets row at (nodes_from node left) ≡ row
unfolding nodes_from
nodes_none row at node none = rw none refl

pub nodes_long : (node count : ℕ) → length (nodes_from node count) ≡ count
unfolding nodes_from
nodes_long node zero = refl
nodes_long node (suc count) = ap suc (nodes_long (node + 1) count)

-- a first number, numbers behind it, a last one
pub three : (row : List ℕ) (at first last : ℕ) (numbers : List ℕ)
    → set (sets (set row at first) (at + 1) numbers) (at + 1 + length numbers) last ≡ sets row at (first ∷ (numbers ++ (last ∷ [])))
three row at first last numbers =
    let next : at + 1 ≡ suc at = omega arith in
    rw next (sym (sets-append numbers (last ∷ []) (set row at first) (suc at)))

laid_same : {a b p q n m j k : ℕ} → a ≡ b → p ≡ q → n ≡ m → j ≡ k
    → ◌≡◌ {A = Laid} (record { at = a; place = p; nodes = n; junctions = j }) (record { at = b; place = q; nodes = m; junctions = k })
laid_same a p n j = λ i. record { at = a i; place = p i; nodes = n i; junctions = j i }

-- from one place of the laying to another: both lead to the same row and to the same end
pub record Goes (inner : Bool) (row : List ℕ) (at nodes junctions : ℕ) (read : Reading) (row₁ : List ℕ) (at₁ nodes₁ junctions₁ : ℕ) (read₁ : Reading) : Type 0 where
  pub same : sets row₁ at₁ (route_at inner read₁.ring nodes₁ junctions₁) ≡ sets row at (route_at inner read.ring nodes junctions)
  pub answer : laid_after read₁ at₁ nodes₁ junctions₁ ≡ laid_after read at nodes junctions
  pub long : length row₁ ≡ length row

pub goes_then : {inner : Bool} {row row₁ row₂ : List ℕ} {at at₁ at₂ nodes nodes₁ nodes₂ junctions junctions₁ junctions₂ : ℕ} {read read₁ read₂ : Reading}
    → Goes inner row at nodes junctions read row₁ at₁ nodes₁ junctions₁ read₁
    → Goes inner row₁ at₁ nodes₁ junctions₁ read₁ row₂ at₂ nodes₂ junctions₂ read₂
    → Goes inner row at nodes junctions read row₂ at₂ nodes₂ junctions₂ read₂
goes_then g h = record { same = h.same ∙ g.same; answer = h.answer ∙ g.answer; long = h.long ∙ g.long }

-- a place from which the rest can be laid, and which leads to the same
pub record Step (bytes : ℕ) (inner : Bool) (row : List ℕ) (at nodes junctions : ℕ) (read : Reading) (row₁ : List ℕ) (at₁ nodes₁ junctions₁ : ℕ) (read₁ : Reading) : Type 0 where
  pub layable : Layable bytes (length row₁) read₁ at₁ nodes₁ junctions₁
  pub goes : Goes inner row at nodes junctions read row₁ at₁ nodes₁ junctions₁ read₁

pub step_then : {bytes : ℕ} {inner : Bool} {row row₁ row₂ : List ℕ} {at at₁ at₂ nodes nodes₁ nodes₂ junctions junctions₁ junctions₂ : ℕ} {read read₁ read₂ : Reading}
    → Step bytes inner row at nodes junctions read row₁ at₁ nodes₁ junctions₁ read₁
    → Step bytes inner row₁ at₁ nodes₁ junctions₁ read₁ row₂ at₂ nodes₂ junctions₂ read₂
    → Step bytes inner row at nodes junctions read row₂ at₂ nodes₂ junctions₂ read₂
step_then s t = record { layable = t.layable; goes = goes_then s.goes t.goes }

-- a user node
node_room : (bytes room : ℕ) (rest : Reading) {whole : Reading} (at nodes junctions : ℕ) → whole ≡ behind_user rest
    → Layable bytes room whole at nodes junctions → (at + 1 ≤ room) × (nodes + 1 ≤ 1408)
unfolding behind_user legs_in nodes_in junctions_in
node_room bytes room rest at nodes junctions e l =
    let m : Layable bytes room (behind_user rest) at nodes junctions = subst (λ (r : Reading). Layable bytes room r at nodes junctions) e l in
    (omega (arith, m.fits), omega (arith, m.few_nodes))

node_step : (bytes : ℕ) (inner : Bool) (rest : Reading) {whole : Reading} (row : List ℕ) (at nodes junctions : ℕ) → whole ≡ behind_user rest
    → Layable bytes (length row) whole at nodes junctions → Step bytes inner row at nodes junctions whole (set row at nodes) (at + 1) (nodes + 1) junctions rest
unfolding behind_user legs_in nodes_in junctions_in route_at laid_after
node_step bytes inner rest row at nodes junctions e l =
    let next : at + 1 ≡ suc at = omega arith in
    let m : Layable bytes (length row) (behind_user rest) at nodes junctions = subst (λ (r : Reading). Layable bytes (length row) r at nodes junctions) e l in
    rw e
    (record {
      layable = record {
        in_range = m.in_range;
        few = m.few;
        fits = rw (length-set row at nodes) (omega (arith, m.fits));
        few_nodes = omega (arith, m.few_nodes);
        few_junctions = m.few_junctions;
      };
      goes = record {
        same = rw next refl;
        answer = laid_same (omega arith) refl (omega arith) refl;
        long = length-set row at nodes;
      };
    })

-- a junction
pub record Room (bytes room : ℕ) (subring : Ring) (at nodes junctions : ℕ) : Type 0 where
  pub fits : at + legs_in subring + 2 ≤ room
  pub few : bytes ≤ 352
  pub few_nodes : nodes + nodes_in subring ≤ 1408
  pub few_junctions : junctions + 1 + junctions_in subring ≤ 352

pub junction_room : (bytes room : ℕ) (subring : Ring) (rest : Reading) {whole : Reading} (at nodes junctions : ℕ) → whole ≡ behind_junction subring rest
    → Layable bytes room whole at nodes junctions → Room bytes room subring at nodes junctions
unfolding behind_junction legs_in nodes_in junctions_in
junction_room bytes room subring rest at nodes junctions e l =
    let m : Layable bytes room (behind_junction subring rest) at nodes junctions = subst (λ (r : Reading). Layable bytes room r at nodes junctions) e l in
    record { fits = omega (arith, m.fits); few = m.few; few_nodes = omega (arith, m.few_nodes); few_junctions = omega (arith, m.few_junctions) }

-- what is put for a junction whose subring's route is known
abbrev pub around : Bool → Ring → ℕ → ℕ → List ℕ
around inner subring nodes junctions =
    into_number junctions ∷ (route_at true subring nodes (junctions + 1) ++ (out_number inner junctions ∷ []))

junction_goes : (bytes : ℕ) (inner : Bool) (subring : Ring) (rest : Reading) (row : List ℕ) (at nodes junctions : ℕ)
    → Layable bytes (length row) (behind_junction subring rest) at nodes junctions
    → Step bytes inner row at nodes junctions (behind_junction subring rest) (sets row at (around inner subring nodes junctions))
    (at + legs_in subring + 2) (nodes + nodes_in subring) (junctions + 1 + junctions_in subring) rest
unfolding behind_junction legs_in nodes_in junctions_in route_at laid_after
junction_goes bytes inner subring rest row at nodes junctions l =
    let put : List ℕ = around inner subring nodes junctions in
    let inside : List ℕ = route_at true subring nodes (junctions + 1) in
    let out : ℕ = out_number inner junctions in
    let more : List ℕ = route_at inner rest.ring (nodes + nodes_in subring) (junctions + 1 + junctions_in subring) in
    let last : at + length put ≡ at + (nodes_in subring + 2 * junctions_in subring) + 2 =
    omega (arith, legs_in_lem true subring nodes (junctions + 1), length-append inside (out ∷ [])) in
    let joins : into_number junctions ∷ (inside ++ (out ∷ more)) ≡ put ++ more =
    ap (λ (l : List ℕ). into_number junctions ∷ l) (sym (append_assoc inside (out ∷ []) more)) in
    record {
      layable = record {
        in_range = l.in_range;
        few = l.few;
        fits = rw (length-sets row at put) (omega (arith, l.fits));
        few_nodes = omega (arith, l.few_nodes);
        few_junctions = omega (arith, l.few_junctions);
      };
      goes = record {
        same = rw (joins, sets-append put more row at, last) refl;
        answer = laid_same (omega arith) refl (omega arith) (omega arith);
        long = length-sets row at put;
      };
    }

pub junction_step : (bytes : ℕ) (inner : Bool) (subring : Ring) (rest : Reading) {whole : Reading} (row : List ℕ) (at nodes junctions : ℕ)
    {row₁ : List ℕ} {at₁ nodes₁ junctions₁ : ℕ}
    → whole ≡ behind_junction subring rest → Layable bytes (length row) whole at nodes junctions → at₁ ≡ at + legs_in subring + 2
    → nodes₁ ≡ nodes + nodes_in subring → junctions₁ ≡ junctions + 1 + junctions_in subring → row₁ ≡ sets row at (around inner subring nodes junctions)
    → Step bytes inner row at nodes junctions whole row₁ at₁ nodes₁ junctions₁ rest
junction_step bytes inner subring rest row at nodes junctions e l f g h k =
    rw (e, f, g, h, k) (junction_goes bytes inner subring rest row at nodes junctions (subst (λ (r : Reading). Layable bytes (length row) r at nodes junctions) e l))

-- what the laying of positions promises, of where it stands at its end
abbrev pub Ends : Bool → List ℕ → Laid → Reading → List ℕ → Laid → Type 0
Ends inner row start read row₁ end =
    (end ≡ laid_after read start.at start.nodes start.junctions)
    × ((row₁ ≡ sets row start.at (route_at inner read.ring start.nodes start.junctions)) × (length row₁ ≡ length row))

-- where the laying of so many positions stands in its loop: those that are left can be laid behind what is laid, and lead to the same
pub record Laying (values : List ℕ) (inner : Bool) (depth count : ℕ) (row₀ : List ℕ) (start : Laid) (left : ℕ) (row : List ℕ) (laid : Laid) : Type 0 where
  pub step : Step (length values) inner row₀ start.at start.nodes start.junctions (reading depth values count start.place) row laid.at laid.nodes laid.junctions
      (reading depth values left laid.place)

-- nothing is left to be laid
pub laid_done : {values row₀ row : List ℕ} {inner : Bool} {depth count left : ℕ} {start laid : Laid} → Laying values inner depth count row₀ start left row laid
    → left ≡ 0 → Ends inner row₀ start (reading depth values count start.place) row laid
unfolding laid_after legs_in nodes_in junctions_in route_at
laid_done {values} {row₀} {row} {inner} {depth} {count} {start = start} {laid} so none =
    let goes =
    subst
    (λ (r : Reading). Goes inner row₀ start.at start.nodes start.junctions (reading depth values count start.place) row laid.at laid.nodes laid.junctions r)
    (ap (λ (n : ℕ). reading depth values n laid.place) none ∙ reading_none values depth laid.place) so.step.goes in
    (laid_same (omega arith) refl (omega arith) (omega arith) ∙ goes.answer, (goes.same, goes.long))

-- what is known where a position has been found, by what it is
module _ {values row₀ row : List ℕ} {inner : Bool} {depth count done : ℕ} {start laid : Laid}
    (so : Laying values inner depth count row₀ start (count - done) row laid) (some : done < count)
    {found : Option Position} (found_there : found ≡ position_at (ltb 0 depth) values laid.place) where
  -- the positions that are left, with the one that is found
  with_one : Step (length values) inner row₀ start.at start.nodes start.junctions (reading depth values count start.place) row laid.at laid.nodes laid.junctions
      (reading depth values (suc (count - (done + 1))) laid.place)
  with_one =
      let more : count - done ≡ suc (count - (done + 1)) = omega (arith, some) in
      subst
      (λ (n : ℕ). Step (length values) inner row₀ start.at start.nodes start.junctions (reading depth values count start.place) row laid.at laid.nodes laid.junctions (reading depth values n laid.place))
      more so.step

  abbrev rest : Reading
  rest = reading depth values (count - (done + 1)) (laid.place + 1)

  -- a position is found
  pub one_here : IsSome found
  one_here = by_found found found_there
    where
      by_found : (o : Option Position) → o ≡ position_at (ltb 0 depth) values laid.place → IsSome o
      by_found (Some position) e = refl
      by_found None e = absurd (next_wrong depth values (count - (done + 1)) laid.place e with_one.layable.in_range)

  -- a user node: there is room for it
  pub node_here : found ≡ Some Node → (laid.place < 352) × (laid.at < length row) × (laid.nodes + 1 ≤ 1408)
  node_here is =
      let here = sym is ∙ found_there in
      let early = node_there values laid.place (ltb 0 depth) here in
      let l = with_one.layable in
      let room = node_room (length values) (length row) rest laid.at laid.nodes laid.junctions (next_node depth values (count - (done + 1)) laid.place here) l in
      (omega (arith, early, l.few), omega (arith, room.0), room.1)

  -- and it is laid
  pub node_laid : found ≡ Some Node → Laying values inner depth count row₀ start (count - (done + 1)) (set row laid.at laid.nodes)
      (record { at = laid.at + 1; place = laid.place + 1; nodes = laid.nodes + 1; junctions = laid.junctions })
  node_laid is =
      record {
        step = step_then with_one
            (node_step (length values) inner rest row laid.at laid.nodes laid.junctions
            (next_node depth values (count - (done + 1)) laid.place (sym is ∙ found_there)) with_one.layable);
      }

  -- a junction with user nodes only
  pub users_here : {size : ℕ} → found ≡ Some (Users size)
      → (laid.place < 352) × (laid.at + size + 2 ≤ length row) × (laid.nodes + size ≤ 1408) × (laid.junctions + 1 ≤ 352)
  users_here {size} is =
      let here = sym is ∙ found_there in
      let early = (users_there values laid.place (ltb 0 depth) here).0 in
      let l = with_one.layable in
      let room = junction_room (length values) (length row) (users_only size) rest laid.at laid.nodes laid.junctions
      (next_users depth values (count - (done + 1)) laid.place size here) l in
      (omega (arith, early, l.few), omega (arith, room.fits, users_legs size), omega (arith, room.few_nodes, users_nodes size), omega (arith, room.few_junctions))

  pub users_laid : {size : ℕ} → found ≡ Some (Users size) → Laying values inner depth count row₀ start (count - (done + 1))
      (sets row laid.at (into_number laid.junctions ∷ (nodes_from laid.nodes size ++ (out_number inner laid.junctions ∷ []))))
      (record { at = laid.at + size + 2; place = laid.place + 1; nodes = laid.nodes + size; junctions = laid.junctions + 1 })
  users_laid {size} is =
      record {
        step = step_then with_one
            (junction_step (length values) inner (users_only size) rest row laid.at laid.nodes laid.junctions
            (next_users depth values (count - (done + 1)) laid.place size (sym is ∙ found_there)) with_one.layable
            (omega (arith, users_legs size)) (omega (arith, users_nodes size)) (omega (arith, users_no_junction size))
            (rw (users_route true size laid.nodes (laid.junctions + 1)) refl));
      }

  -- a junction with a list
  abbrev list : ℕ → Reading
  list size = reading (depth - 1) values size (laid.place + 2)

  lists_here : (size : ℕ) → found ≡ Some (Listed size) → Lists depth values (count - (done + 1)) laid.place size
  lists_here size is = next_listed depth values (count - (done + 1)) laid.place size (sym is ∙ found_there) with_one.layable.in_range

  list_room : (size : ℕ) → found ≡ Some (Listed size) → Room (length values) (length row) (list size).ring laid.at laid.nodes laid.junctions
  list_room size is =
      junction_room (length values) (length row) (list size).ring (reading depth values (count - (done + 1)) (list size).place) laid.at laid.nodes laid.junctions
      (lists_here size is).reads with_one.layable

  pub listed_here : {size : ℕ} → found ≡ Some (Listed size) → (laid.place < 352) × (laid.at < length row) × (laid.junctions + 1 ≤ 352) × (1 ≤ depth)
  listed_here {size} is =
      let early = (list_there values laid.place (ltb 0 depth) (sym is ∙ found_there)).0 in
      let room = list_room size is in
      (omega (arith, early, room.few), omega (arith, room.fits), omega (arith, room.few_junctions), (lists_here size is).deep)

  -- can be laid behind the leg into its junction
  pub listed_layable : {size : ℕ} → found ≡ Some (Listed size) → {room : ℕ} → room ≡ length row
      → Layable (length values) room (list size) (laid.at + 1) laid.nodes (laid.junctions + 1)
  listed_layable {size} is e =
      let room = list_room size is in
      record {
        in_range = (lists_here size is).in_range;
        few = room.few;
        fits = omega (arith, room.fits, e);
        few_nodes = room.few_nodes;
        few_junctions = room.few_junctions;
      }

  -- with room for the leg out of it
  pub listed_room : {size : ℕ} → found ≡ Some (Listed size) → {behind : Laid} → behind ≡ laid_after (list size) (laid.at + 1) laid.nodes (laid.junctions + 1)
      → behind.at < length row
  unfolding laid_after
  listed_room {size} is e = omega (arith, (list_room size is).fits, ap (λ (r : Laid). r.at) e)

  pub listed_laid : {size : ℕ} → found ≡ Some (Listed size) → {into : ℕ} {row₁ : List ℕ} {behind : Laid} → into ≡ into_number laid.junctions
      → Ends true (set row laid.at into) (record { at = laid.at + 1; place = laid.place + 2; nodes = laid.nodes; junctions = laid.junctions + 1 }) (list size) row₁ behind
      → Laying values inner depth count row₀ start (count - (done + 1)) (set row₁ behind.at (out_number inner laid.junctions))
      (record { at = behind.at + 1; place = behind.place; nodes = behind.nodes; junctions = behind.junctions })
  unfolding laid_after
  listed_laid {size} is {into} {row₁} {behind} e within =
      let ring = (list size).ring in
      let a : behind.at ≡ laid.at + 1 + legs_in ring = ap (λ (r : Laid). r.at) within.0 in
      let p : behind.place ≡ (list size).place = ap (λ (r : Laid). r.place) within.0 in
      let n : behind.nodes ≡ laid.nodes + nodes_in ring = ap (λ (r : Laid). r.nodes) within.0 in
      let j : behind.junctions ≡ laid.junctions + 1 + junctions_in ring = ap (λ (r : Laid). r.junctions) within.0 in
      let long = legs_in_lem true ring laid.nodes (laid.junctions + 1) in
      let put : set row₁ behind.at (out_number inner laid.junctions) ≡ sets row laid.at (around inner ring laid.nodes laid.junctions) =
      rw (within.1.0, a, ← long, e) (three row laid.at (into_number laid.junctions) (out_number inner laid.junctions) (route_at true ring laid.nodes (laid.junctions + 1))) in
      record {
        step = step_then with_one
            (junction_step (length values) inner ring (reading depth values (count - (done + 1)) behind.place) row laid.at laid.nodes laid.junctions
            ((lists_here size is).reads ∙ ap (λ (q : ℕ). behind_junction ring (reading depth values (count - (done + 1)) q)) (sym p)) with_one.layable
            (omega (arith, a)) n j put);
      }

-- the main ring laid from the start on
pub laid_all : (values : List ℕ) (count : ℕ) (row : List ℕ) {row₁ : List ℕ} {laid : Laid} → laid ≡ laid_after (reading 3 values count 0) 0 0 0
    → row₁ ≡ sets row 0 (route_at false (reading 3 values count 0).ring 0 0)
    → (laid.at ≡ length (route_of values count)) × (row₁ ≡ sets row 0 (route_of values count))
unfolding laid_after route_of main_ring
laid_all values count row e f =
    let a = ap (λ (r : Laid). r.at) e in
    (omega (arith, a, legs_in_lem false (reading 3 values count 0).ring 0 0), f)
