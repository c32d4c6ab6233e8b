-- A night's text taken in: how the night then stands, the rows and the names, which stay as long as they were. In whatever pieces a text comes, it is taken in.
use Rattle.std.specs.Prelude.{ℕ, ◌≡◌, List, [], ◌++◌, length, refl}
use Rattle.std.proofs.Common.{sym, ap, ap₂, ◌∙◌}
use Rattle.morning.specs.declared.Night.{Night}
use Rattle.morning.specs.declared.Entry.{Entry}
use Rattle.morning.specs.Reading.{after_all, rows_after_all, names_after_all}
use Rattle.morning.proofs.Pieces.{the_pieces_do_not_matter}

pub record Taken (before : Night) (rows : List Entry) (names text : List ℕ) (after : Night) (rows_after : List Entry) (names_after : List ℕ) : Type 0 where
  pub rows_long : length rows_after ≡ length rows
  pub names_long : length names_after ≡ length names
  pub stands : after ≡ after_all (length rows) (length names) before text
  pub told : rows_after ≡ rows_after_all (length names) before text rows
  pub named : names_after ≡ names_after_all (length rows) before text names

pub taken_none : (night : Night) (rows : List Entry) (names : List ℕ) → Taken night rows names [] night rows names
unfolding after_all rows_after_all names_after_all
taken_none night rows names = record { rows_long = refl; names_long = refl; stands = refl; told = refl; named = refl }

pub taken_more : (one two three : Night) (rows₁ rows₂ rows₃ : List Entry) (names₁ names₂ names₃ text more : List ℕ) → Taken one rows₁ names₁ text two rows₂ names₂
    → Taken two rows₂ names₂ more three rows₃ names₃ → Taken one rows₁ names₁ (text ++ more) three rows₃ names₃
taken_more one two three rows₁ rows₂ rows₃ names₁ names₂ names₃ text more first second =
    let both = the_pieces_do_not_matter one text more rows₁ names₁ in
    record {
      rows_long = second.rows_long ∙ first.rows_long;
      names_long = second.names_long ∙ first.names_long;
      stands = second.stands ∙ ap₂ (λ (n k : ℕ). after_all n k two more) first.rows_long first.names_long
          ∙ ap (λ (night : Night). after_all (length rows₁) (length names₁) night more) first.stands ∙ sym both.stands;
      told = second.told ∙ ap (λ (k : ℕ). rows_after_all k two more rows₂) first.names_long
          ∙ ap₂ (λ (night : Night) (rows : List Entry). rows_after_all (length names₁) night more rows) first.stands first.told ∙ sym both.told;
      named = second.named ∙ ap (λ (n : ℕ). names_after_all n two more names₂) first.rows_long
          ∙ ap₂ (λ (night : Night) (names : List ℕ). names_after_all (length rows₁) night more names) first.stands first.named ∙ sym both.named;
    }
