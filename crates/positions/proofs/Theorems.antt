-- The theorems of specs/Theorems.
use Prim.Native.Nat.{ℕ}
use mathlib.Core.Path.{◌≡◌, sym, ap, ap₂, subst, ◌∙◌}
use mathlib.Core.Bool.{true, false}
use mathlib.Core.List.{List, [], ◌++◌, append-nil}
use native.Mathlib.Nat.{add-zero, zero-add, sub-zero}
use native.Mathlib.Omega.{arith}
use lib.ListN.{length, take, drop, length-drop}
use Rattle.positions.specs.Reading.{reading, main_ring}
use Rattle.positions.specs.Written.{positions_on, Writes}
use Rattle.positions.specs.Shape.{ends_at}
use Rattle.positions.specs.Theorems.{AtMost144Junctions, AtMost352Bytes, NoEmptyPosition, EndsWhereItIsRead, NothingBehindIsRead, EveryRingIsRead, NothingElseIsRead, EndsWithItsPositions}
use Rattle.positions.proofs.InRange.{Reads, right_reads, reads_reading}
use Rattle.positions.proofs.Counts.{reads_within, reads_bytes, reads_some, third_most}
use Rattle.positions.proofs.Ends.{reads_shape, none_ends, ends_none}
use Rattle.positions.proofs.Padded.{reads_padded, body_only}
use Rattle.positions.proofs.Shapes.{shaped_ends, ends_shaped}
use Rattle.positions.proofs.ReadBack.{writes_reads}
use Rattle.positions.proofs.NothingElse.{reads_positions, reads_form, reads_writes}

-- the main ring, as positions in range
pub main_reads : (values : List ℕ) (count : ℕ) → (main_ring values count).right ≡ true
    → Reads values 3 count 0 (main_ring values count).place (main_ring values count).ring
unfolding main_ring
main_reads values count right = right_reads values 3 count 0 right

pub at_most_144_junctions : AtMost144Junctions
at_most_144_junctions values count right few nodes =
    let most = third_most values (main_reads values count right) in omega (arith, most, few, nodes)

pub at_most_352_bytes : AtMost352Bytes
at_most_352_bytes values count right few nodes =
    let junctions = at_most_144_junctions values count right few nodes in
    let bytes = reads_bytes (main_reads values count right) in omega (arith, bytes, junctions, nodes)

pub no_empty_position : NoEmptyPosition
no_empty_position values count right = reads_some (main_reads values count right)

pub ends_where_it_is_read : EndsWhereItIsRead
ends_where_it_is_read values count right =
    let reads = main_reads values count right in
    let behind = (main_ring values count).place in
    let shape : ends_at false count values ≡ ends_at false 0 (drop behind values) =
    ap (λ n. ends_at false n values) (sym (add-zero count)) ∙ reads_shape 0 reads in
    let fits = reads_within reads (omega arith) in
    let left = length-drop behind values in (
      (λ ends. let none = none_ends (drop behind values) (sym shape ∙ ends) in omega (arith, none, fits, left)),
      (λ all. shape ∙ ends_none (drop behind values) (omega (arith, all, left))),
    )

pub nothing_behind_is_read : NothingBehindIsRead
unfolding main_ring
nothing_behind_is_read values more count ends = (
  (λ right. let padded = right_reads (values ++ more) 3 count 0 right in
      let body = body_only values more 0 padded (ap (λ n. ends_at false n values) (add-zero count) ∙ ends) in
      reads_reading values body.reads ∙ sym (reads_reading (values ++ more) padded)),
  (λ right. let reads = right_reads values 3 count 0 right in
      reads_reading (values ++ more) (reads_padded values more reads) ∙ sym (reads_reading values reads)),
)

pub every_ring_is_read : EveryRingIsRead
unfolding main_ring
every_ring_is_read ring bytes form writes =
    let reads = writes_reads bytes 3 0 [] writes form (sym (append-nil bytes)) in
    subst (λ behind. reading 3 bytes (positions_on ring) 0 ≡ record { right = true; place = behind; ring = ring }) (zero-add (length bytes))
    (reads_reading bytes reads)

pub nothing_else_is_read : NothingElseIsRead
nothing_else_is_read values count right =
    let reads = main_reads values count right in
    let place = (main_ring values count).place in (
      reads_form reads,
      reads_positions reads,
      subst (λ n. Writes (main_ring values count).ring (take n values)) (sub-zero place) (reads_writes values reads),
    )

pub ends_with_its_positions : EndsWithItsPositions
unfolding ends_at
ends_with_its_positions count bytes = (
  (λ shaped. ap₂ (λ n l. ends_at false n l) (sym (add-zero count)) (sym (append-nil bytes)) ∙ shaped_ends 0 [] shaped),
  (λ ends. ends_shaped count bytes ends),
)
