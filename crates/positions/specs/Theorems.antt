-- What proofs/ proves over the definitions, as sentences.
use Rattle.std.specs.Prelude.{ℕ, ◌≤◌, ◌≡◌, true, false, List, ◌++◌, length, take}
use Rattle.positions.specs.Ring.{Ring, nodes_in, junctions_in}
use Rattle.positions.specs.Reading.{main_ring}
use Rattle.positions.specs.Shape.{ends_at}
use Rattle.positions.specs.Shaped.{Shaped}
use Rattle.positions.specs.Written.{positions_on, in_form, Writes}

-- a ring that is read in range, of at most 16 positions with at most 64 user nodes, has at most 144 junctions
abbrev pub AtMost144Junctions : Type 0
AtMost144Junctions =
    (values : List ℕ) (count : ℕ) → (main_ring values count).right ≡ true → count ≤ 16 → nodes_in (main_ring values count).ring ≤ 64
    → junctions_in (main_ring values count).ring ≤ 144

-- and at most 352 bytes
abbrev pub AtMost352Bytes : Type 0
AtMost352Bytes =
    (values : List ℕ) (count : ℕ) → (main_ring values count).right ≡ true → count ≤ 16 → nodes_in (main_ring values count).ring ≤ 64
    → (main_ring values count).place ≤ 352

-- every position has at least one user node within
abbrev pub NoEmptyPosition : Type 0
NoEmptyPosition = (values : List ℕ) (count : ℕ) → (main_ring values count).right ≡ true → count ≤ nodes_in (main_ring values count).ring

-- bytes that are read in range end exactly (3) where the reading does, and only there
abbrev pub EndsWhereItIsRead : Type 0
EndsWhereItIsRead =
    (values : List ℕ) (count : ℕ) → (main_ring values count).right ≡ true
    → (ends_at false count values ≡ true → (main_ring values count).place ≡ length values)
    × ((main_ring values count).place ≡ length values → ends_at false count values ≡ true)

-- what stands behind the bytes of a plan does not matter: bytes that end exactly are in range with anything behind them where they are by
-- themselves, and read as the same
abbrev pub NothingBehindIsRead : Type 0
NothingBehindIsRead =
    (values more : List ℕ) (count : ℕ) → ends_at false count values ≡ true
    → ((main_ring (values ++ more) count).right ≡ true → main_ring values count ≡ main_ring (values ++ more) count)
    × ((main_ring values count).right ≡ true → main_ring (values ++ more) count ≡ main_ring values count)

-- every ring of at most three levels, with 1 to 4 positions on each subring, is in range and read back from any bytes that write it
abbrev pub EveryRingIsRead : Type 0
EveryRingIsRead =
    (ring : Ring) (bytes : List ℕ) → in_form 3 ring ≡ true → Writes ring bytes
    → main_ring bytes (positions_on ring) ≡ record { right = true; place = length bytes; ring = ring }

-- and nothing else is read in range: no other ring, no other number of positions, no other bytes
abbrev pub NothingElseIsRead : Type 0
NothingElseIsRead =
    (values : List ℕ) (count : ℕ) → (main_ring values count).right ≡ true
    → (in_form 3 (main_ring values count).ring ≡ true)
    × (positions_on (main_ring values count).ring ≡ count)
    × Writes (main_ring values count).ring (take (main_ring values count).place values)

-- bytes end exactly (3) where they are the bytes of so many positions, lists within lists, and only there
abbrev pub EndsWithItsPositions : Type 0
EndsWithItsPositions =
    (count : ℕ) (bytes : List ℕ) → (Shaped count bytes → ends_at false count bytes ≡ true) × (ends_at false count bytes ≡ true → Shaped count bytes)
