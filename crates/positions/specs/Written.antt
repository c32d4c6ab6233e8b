-- A ring written as bytes: what the reading is to read back, and nothing else.
use Rattle.std.specs.Prelude.{ℕ, zero, suc, ◌+◌, ◌≤◌, Bool, true, false, ◌&&◌, List, [], ◌∷◌, ◌++◌, leb}
use Rattle.positions.specs.Ring.{Ring, no_more, user_node, a_junction, users_only}

-- its positions, those within its junctions not among them
unfoldable pub positions_on : Ring → ℕ
positions_on no_more = 0
positions_on (user_node rest) = positions_on rest + 1
positions_on (a_junction subring rest) = positions_on rest + 1

-- "at most three junction levels", and on each subring 1 to 4 positions
unfoldable pub in_form : ℕ → Ring → Bool
in_form levels no_more = true
in_form levels (user_node rest) = in_form levels rest
in_form zero (a_junction subring rest) = false
in_form (suc levels) (a_junction subring rest) =
    leb 1 (positions_on subring) && leb (positions_on subring) 4 && in_form levels subring && in_form (suc levels) rest

-- the bytes by which a ring may be written: "0, a user node"; "1 to 4, a junction with that many user nodes"; "5, then a count .., then that many positions"
pub data Writes : Ring → List ℕ → Type 0 where
  no_byte : Writes no_more []
  a_zero : {rest : Ring} {bytes : List ℕ} → Writes rest bytes → Writes (user_node rest) (0 ∷ bytes)
  a_number : {value : ℕ} {rest : Ring} {bytes : List ℕ} → 1 ≤ value → value ≤ 4 → Writes rest bytes
      → Writes (a_junction (users_only value) rest) (value ∷ bytes)
  a_five : {subring rest : Ring} {list bytes : List ℕ} → Writes subring list → Writes rest bytes
      → Writes (a_junction subring rest) (5 ∷ (positions_on subring ∷ (list ++ bytes)))
