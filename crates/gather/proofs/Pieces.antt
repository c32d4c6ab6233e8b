-- A text in pieces: what is gathered after two pieces, one after the other.
use Prim.Native.Nat.{ℕ}
use mathlib.Core.Path.{◌≡◌, refl, ◌∙◌}
use mathlib.Core.List.{List, [], ◌∷◌}
use lib.ListN.{length}
use Rattle.gather.specs.declared.Gather.{Gather}
use Rattle.gather.specs.Gathering.{after_byte, rows_after_byte, after_all, rows_after_all}
use Rattle.gather.proofs.Laws.{byte_long}
use Rattle.gather.specs.Theorems.{ThePiecesDoNotMatter}

pub pieces : ThePiecesDoNotMatter
unfolding after_all rows_after_all
pieces state [] rest rows = record { stands = refl; gathered = refl }
pieces state (byte ∷ piece) rest rows =
    let on = pieces (after_byte state byte) piece rest (rows_after_byte state byte rows) in
    record { stands = on.stands; gathered = on.gathered }

-- no row is added and none is lost
pub rows_long : (state : Gather) (text rows : List ℕ) → length (rows_after_all state text rows) ≡ length rows
unfolding rows_after_all
rows_long state [] rows = refl
rows_long state (byte ∷ rest) rows = rows_long (after_byte state byte) rest (rows_after_byte state byte rows) ∙ byte_long state byte rows
