-- `morning::night_text` meets its contract. Each turn of the loop takes one byte of those that are left; at the end none is.
use Prim.Native.Nat.{ℕ, ◌+◌}
use mathlib.Core.Path.{sym, ap, ap₂, ◌∙◌}
use mathlib.Core.List.{List}
use lib.ListN.{length, get_or, drop}
use Rattle.std.proofs.lemmas.List.{at_drop_more, at_drop_all}
use Rattle.morning.specs.declared.Night.{Night}
use Rattle.morning.specs.declared.Entry.{Entry}
use Rattle.morning.specs.Reading.{after_byte, after_all, rows_after_all, names_after_all}
use Rattle.morning.proofs.night_text.Goals as goal

pub loop-byte-preserved : goal.loop-byte-preserved
unfolding after_all rows_after_all names_after_all
loop-byte-preserved c =
    let turn = c.loop-byte in
    let told = c.night_byte.ensures in
    let text : List ℕ = c.args.text.now in
    let byte : ℕ = get_or text turn.byte-index 0 in
    let rest : List ℕ = drop (turn.byte-index + 1) text in
    let room : ℕ = length c.args.rows.now in
    let name_room : ℕ = length c.args.names.now in
    record {
      stands = ap (λ (night : Night). after_all room name_room night rest)
          (told.night_after ∙ ap₂ (λ (n k : ℕ). after_byte n k turn.state byte) turn.auto.rows turn.auto.names)
          ∙ sym (at_drop_more (after_all room name_room turn.state) text turn.byte-index 0 c.loop-byte-test.true) ∙ turn.invariant.stands;
      told = ap₂ (λ (night : Night) (rows : List Entry). rows_after_all name_room night rest rows)
          (told.night_after ∙ ap (λ (k : ℕ). after_byte (length turn.rows) k turn.state byte) turn.auto.names) told.rows_after
          ∙ sym (at_drop_more (λ (l : List ℕ). rows_after_all name_room turn.state l turn.rows) text turn.byte-index 0 c.loop-byte-test.true) ∙ turn.invariant.told;
      named = ap₂ (λ (night : Night) (names : List ℕ). names_after_all room night rest names)
          (told.night_after ∙ ap (λ (n : ℕ). after_byte n (length turn.names) turn.state byte) turn.auto.rows) told.names_after
          ∙ sym (at_drop_more (λ (l : List ℕ). names_after_all room turn.state l turn.names) text turn.byte-index 0 c.loop-byte-test.true) ∙ turn.invariant.named;
    }

pub returns : goal.returns
unfolding after_all rows_after_all names_after_all
returns c =
    let end = c.loop-byte in
    let text : List ℕ = c.args.text.now in
    let room : ℕ = length c.args.rows.now in
    let name_room : ℕ = length c.args.names.now in
    record {
      value = sym (at_drop_all (after_all room name_room end.state) text end.byte-index c.loop-byte-test.false) ∙ end.invariant.stands;
      rows_after = sym (at_drop_all (λ (l : List ℕ). rows_after_all name_room end.state l end.rows) text end.byte-index c.loop-byte-test.false) ∙ end.invariant.told;
      names_after = sym (at_drop_all (λ (l : List ℕ). names_after_all room end.state l end.names) text end.byte-index c.loop-byte-test.false) ∙ end.invariant.named;
    }
