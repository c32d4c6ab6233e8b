-- A survey in its loop: so many positions are left, and what they give with what is counted is what all positions give.
use Prim.Native.Nat.{ℕ, suc, ◌+◌, ◌-◌, ◌*◌, ◌≤◌, ◌<◌}
use mathlib.Core.Path.{◌≡◌, sym, ap, ap₂, ◌∙◌}
use mathlib.Core.List.{List}
use native.Mathlib.Omega.{arith}
use lib.Dec.{ltb}
use lib.ListN.{length}
use Rattle.std.specs.Prelude.{Some, None}
use Rattle.positions.specs.declared.Position.{Position}
use Rattle.positions.specs.declared.Position.TheVariants.{Node, Users, Listed}
use Rattle.positions.specs.declared.surveying.Extent.{Extent}
use Rattle.positions.specs.Ring.{nodes_in, junctions_in}
use Rattle.positions.specs.Reading.{position_at, reading}
use Rattle.positions.specs.Extent.{extent_of}
use Rattle.positions.proofs.Places.{reading_none}
use Rattle.positions.proofs.Extents.{behind, going_node, going_users, going_list, going-wrong, node_there, users_there, list_there, list_within}

-- where a survey stands in its list: so many positions are left behind an extent
pub record Counting (values : List ℕ) (depth count : ℕ) (start : Extent) (left : ℕ) (extent : Extent) : Type 0 where
  pub bytes_fit : length values ≤ 352
  pub place_fits : extent.place ≤ length values
  pub nodes_fit : extent.nodes ≤ 4 * extent.place
  pub junctions_fit : extent.junctions ≤ extent.place
  pub same : behind values depth left extent ≡ behind values depth count start

-- the number of positions left, with the one that is read
one_more : {count done : ℕ} → done < count → count - done ≡ suc (count - (done + 1))
one_more some = omega (arith, some)

module _ {values : List ℕ} {depth count : ℕ} {start : Extent} {extent : Extent} {done : ℕ} where
  all_same : Counting values depth count start (count - done) extent → done < count
      → behind values depth (suc (count - (done + 1))) extent ≡ behind values depth count start
  all_same so some = ap (λ left. behind values depth left extent) (sym (one_more some)) ∙ so.same

  pub counting_node : Counting values depth count start (count - done) extent → done < count → {position : Position} → position ≡ Node
      → Some position ≡ position_at (ltb 0 depth) values extent.place
      → Counting values depth count start (count - (done + 1)) (record { place = extent.place + 1; nodes = extent.nodes + 1; junctions = extent.junctions })
  counting_node so some is found =
      let e = sym (ap Some is) ∙ found in
      let room = node_there values extent.place (ltb 0 depth) e in
      record {
        bytes_fit = so.bytes_fit;
        place_fits = omega (arith, room);
        nodes_fit = omega (arith, so.nodes_fit);
        junctions_fit = omega (arith, so.junctions_fit);
        same = sym (going_node values depth (count - (done + 1)) extent.place extent.nodes extent.junctions e) ∙ all_same so some;
      }

  pub counting_users : {size : ℕ} → Counting values depth count start (count - done) extent → done < count → {position : Position} → position ≡ Users size
      → Some position ≡ position_at (ltb 0 depth) values extent.place
      → Counting values depth count start (count - (done + 1)) (record { place = extent.place + 1; nodes = extent.nodes + size; junctions = extent.junctions + 1 })
  counting_users {size} so some is found =
      let e = sym (ap Some is) ∙ found in
      let room = users_there values extent.place (ltb 0 depth) e in
      record {
        bytes_fit = so.bytes_fit;
        place_fits = omega (arith, room.0);
        nodes_fit = omega (arith, so.nodes_fit, room.1);
        junctions_fit = omega (arith, so.junctions_fit);
        same = sym (going_users values depth (count - (done + 1)) extent.place extent.nodes extent.junctions size e) ∙ all_same so some;
      }

  -- a list, by the extent behind it
  pub counting_list : {many : ℕ} {within : Extent} → Counting values depth count start (count - done) extent → done < count → {position : Position} → position ≡ Listed many
      → Some position ≡ position_at (ltb 0 depth) values extent.place
      → Some within ≡ extent_of (reading (depth - 1) values many (extent.place + 2)) extent.nodes (extent.junctions + 1)
      → Counting values depth count start (count - (done + 1)) within
  counting_list {many} {within} so some is found called =
      let e = sym (ap Some is) ∙ found in
      let room = (list_there values extent.place (ltb 0 depth) e).0 in
      let fits = list_within values (depth - 1) extent.place extent.nodes extent.junctions many within called room so.nodes_fit so.junctions_fit in
      record {
        bytes_fit = so.bytes_fit;
        place_fits = fits.place_fits;
        nodes_fit = fits.nodes_fit;
        junctions_fit = fits.junctions_fit;
        same = sym (going_list values depth (count - (done + 1)) extent.place extent.nodes extent.junctions many (Some within) e called) ∙ all_same so some;
      }

  -- where a list is not in range, or nothing that is, the whole is not
  pub counted_list_wrong : {many : ℕ} → Counting values depth count start (count - done) extent → done < count → {position : Position} → position ≡ Listed many
      → Some position ≡ position_at (ltb 0 depth) values extent.place
      → None ≡ extent_of (reading (depth - 1) values many (extent.place + 2)) extent.nodes (extent.junctions + 1)
      → None ≡ behind values depth count start
  counted_list_wrong {many} so some is found called =
      let e = sym (ap Some is) ∙ found in
      sym (going_list values depth (count - (done + 1)) extent.place extent.nodes extent.junctions many None e called) ∙ all_same so some

  pub counted_wrong : Counting values depth count start (count - done) extent → done < count → None ≡ position_at (ltb 0 depth) values extent.place
      → None ≡ behind values depth count start
  counted_wrong so some e = sym (going-wrong values depth (count - (done + 1)) extent.place extent.nodes extent.junctions e) ∙ all_same so some

-- where no position is left, all are counted
pub counted_all : {values : List ℕ} {depth count left : ℕ} {start extent : Extent} → Counting values depth count start left extent → left ≡ 0
    → Some extent ≡ behind values depth count start
unfolding extent_of nodes_in junctions_in
counted_all {values} {depth} {extent = extent} so none =
    ap₂ (λ n j. Some (record { place = extent.place; nodes = n; junctions = j })) (omega arith) (omega arith)
    ∙ sym (ap (λ read. extent_of read extent.nodes extent.junctions) (reading_none values depth extent.place))
    ∙ sym (ap (λ n. behind values depth n extent) none) ∙ so.same
