-- `gather::gather_text` meets its contract. Each turn of the loop takes one byte of those that are left; at the end none is.
use Prim.Native.Nat.{ℕ, ◌+◌}
use mathlib.Core.Path.{sym, ap, ap₂, ◌∙◌}
use mathlib.Core.List.{List}
use lib.ListN.{drop}
use Rattle.std.proofs.lemmas.List.{at_drop_more, at_drop_all}
use Rattle.gather.specs.declared.Gather.{Gather}
use Rattle.gather.specs.Gathering.{after_all, rows_after_all}
use Rattle.gather.proofs.gather_text.Goals as goal

pub loop-byte-preserved : goal.loop-byte-preserved
unfolding after_all rows_after_all
loop-byte-preserved c =
    let turn = c.loop-byte in
    let text : List ℕ = c.args.text.now in
    let rest : List ℕ = drop (turn.byte-index + 1) text in (
      ap (λ (g : Gather). after_all g rest) c.gather_byte-state.ensures.value
          ∙ sym (at_drop_more (after_all turn.state) text turn.byte-index 0 c.loop-byte-test.true) ∙ turn.invariant.0,
      ap₂ (λ (g : Gather) (rows : List ℕ). rows_after_all g rest rows) c.gather_byte-state.ensures.value c.gather_byte-state.ensures.rows_after
          ∙ sym (at_drop_more (λ (l : List ℕ). rows_after_all turn.state l turn.rows) text turn.byte-index 0 c.loop-byte-test.true) ∙ turn.invariant.1,
    )

pub returns : goal.returns
unfolding after_all rows_after_all
returns c =
    let end = c.loop-byte in
    record {
      value = sym (at_drop_all (after_all end.state) c.args.text.now end.byte-index c.loop-byte-test.false) ∙ end.invariant.0;
      rows_after = sym (at_drop_all (λ (l : List ℕ). rows_after_all end.state l end.rows) c.args.text.now end.byte-index c.loop-byte-test.false) ∙ end.invariant.1;
    }
