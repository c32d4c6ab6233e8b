-- docs/NESTED.md, number 3, without a counter: the bytes of so many positions; "any byte is a position by itself, but after a byte of 5 a count byte follows and brings that many
-- positions more".
use Rattle.std.specs.Prelude.{ℕ, suc, ◌≡◌, List, [], ◌∷◌, ◌++◌}

pub data Shaped : ℕ → List ℕ → Type 0 where
  no_position : Shaped 0 []
  one_byte : {byte count : ℕ} {bytes : List ℕ} → (byte ≡ 5 → ⊥) → Shaped count bytes → Shaped (suc count) (byte ∷ bytes)
  a_list : {many count : ℕ} {list bytes : List ℕ} → Shaped many list → Shaped count bytes
      → Shaped (suc count) (5 ∷ (many ∷ (list ++ bytes)))
