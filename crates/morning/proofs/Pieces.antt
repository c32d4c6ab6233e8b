-- A text in pieces: what is read after two pieces, one after the other.
use Prim.Native.Nat.{ℕ}
use mathlib.Core.Path.{◌≡◌, refl, ap, ◌∙◌}
use mathlib.Core.List.{List, [], ◌∷◌, ◌++◌}
use lib.ListN.{length}
use Rattle.morning.specs.declared.Night.{Night}
use Rattle.morning.specs.declared.Entry.{Entry}
use Rattle.morning.specs.Reading.{after_byte, rows_after_byte, names_after_byte, after_all, rows_after_all, names_after_all}
use Rattle.morning.specs.Theorems.{ThePiecesDoNotMatter}
use Rattle.morning.proofs.Laws.{byte_long, byte_names_long}

-- ---- two pieces, where the rows have so many numbers and the names so many bytes

stands_pieces : (room name-room : ℕ) (night : Night) (piece rest : List ℕ)
    → after_all room name-room night (piece ++ rest) ≡ after_all room name-room (after_all room name-room night piece) rest
unfolding after_all
stands_pieces room name-room night [] rest = refl
stands_pieces room name-room night (byte ∷ piece) rest = stands_pieces room name-room (after_byte room name-room night byte) piece rest

-- the rows stay as long, so the room stays the same
rows_pieces : (name-room : ℕ) (night : Night) (piece rest : List ℕ) (rows : List Entry) {room : ℕ} → length rows ≡ room
    → rows_after_all name-room night (piece ++ rest) rows
    ≡ rows_after_all name-room (after_all room name-room night piece) rest (rows_after_all name-room night piece rows)
unfolding rows_after_all after_all
rows_pieces name-room night [] rest rows e = refl
rows_pieces name-room night (byte ∷ piece) rest rows {room = room} e =
    rows_pieces name-room (after_byte (length rows) name-room night byte) piece rest (rows_after_byte night byte rows) (byte_long night byte rows ∙ e)
    ∙ ap (λ (n : ℕ). rows_after_all name-room (after_all room name-room (after_byte n name-room night byte) piece) rest (rows_after_all name-room (after_byte (length rows) name-room night byte) piece (rows_after_byte night byte rows))) e

names_pieces : (room : ℕ) (night : Night) (piece rest names : List ℕ) {name-room : ℕ} → length names ≡ name-room
    → names_after_all room night (piece ++ rest) names
    ≡ names_after_all room (after_all room name-room night piece) rest (names_after_all room night piece names)
unfolding names_after_all after_all
names_pieces room night [] rest names e = refl
names_pieces room night (byte ∷ piece) rest names {name-room = name-room} e =
    names_pieces room (after_byte room (length names) night byte) piece rest (names_after_byte night byte names) (byte_names_long night byte names ∙ e)
    ∙ ap (λ (n : ℕ). names_after_all room (after_all room name-room (after_byte room n night byte) piece) rest (names_after_all room (after_byte room (length names) night byte) piece (names_after_byte night byte names))) e

pub the_pieces_do_not_matter : ThePiecesDoNotMatter
the_pieces_do_not_matter night piece rest rows names =
    record {
      stands = stands_pieces (length rows) (length names) night piece rest;
      told = rows_pieces (length names) night piece rest rows refl;
      named = names_pieces (length rows) night piece rest names refl;
    }
