-- docs/NESTED.md, number 3: whether bytes end exactly where their positions do, whatever counts, depth and rules say.
use Rattle.std.specs.Prelude.{ℕ, zero, suc, ◌+◌, Bool, true, false, List, [], ◌∷◌, eqb}

-- so many positions are still to come; after a byte of 5 (true) the next byte is a count and brings so many more
unfoldable pub ends_at : Bool → ℕ → List ℕ → Bool
ends_at false zero [] = true
ends_at false (suc n) [] = false
ends_at true n [] = false
ends_at false zero (byte ∷ bytes) = false
ends_at false (suc n) (byte ∷ bytes) = ends_at (eqb byte 5) n bytes
ends_at true n (byte ∷ bytes) = ends_at false (n + byte) bytes
