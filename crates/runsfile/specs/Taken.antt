-- A text taken in by the gathering: how it then stands, and the rows. In whatever pieces a text comes, it is taken in.
use Rattle.std.specs.Prelude.{ℕ, ◌≡◌, List, [], ◌++◌, refl}
use Rattle.std.proofs.Common.{sym, ap, ◌∙◌}
use Rattle.gather.specs.declared.Gather.{Gather}
use Rattle.gather.specs.Gathering.{after_all, rows_after_all}
use Rattle.gather.proofs.Pieces.{pieces}

pub record Taken (before : Gather) (rows_before text : List ℕ) (after : Gather) (rows_after : List ℕ) : Type 0 where
  pub stands : after ≡ after_all before text
  pub gathered : rows_after ≡ rows_after_all before text rows_before

pub taken_none : (state : Gather) (rows : List ℕ) → Taken state rows [] state rows
unfolding after_all rows_after_all
taken_none state rows = record { stands = refl; gathered = refl }

pub taken_more : (one two three : Gather) (rows₁ rows₂ rows₃ text more : List ℕ) → Taken one rows₁ text two rows₂ → Taken two rows₂ more three rows₃
    → Taken one rows₁ (text ++ more) three rows₃
taken_more one two three rows₁ rows₂ rows₃ text more first second =
    let both = pieces one text more rows₁ in
    record {
      stands = second.stands ∙ ap (λ (g : Gather). after_all g more) first.stands ∙ sym both.stands;
      gathered = second.gathered ∙ ap (λ (g : Gather). rows_after_all g more rows₂) first.stands
          ∙ ap (rows_after_all (after_all one text) more) first.gathered ∙ sym both.gathered;
    }
