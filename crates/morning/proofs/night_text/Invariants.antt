-- The invariant of the loop in `morning::night_text`: the bytes that are left give, with what is told, what all bytes give.
use mathlib.Core.Path.{◌≡◌}
use lib.ListN.{length, drop}
use Rattle.morning.specs.Reading.{after_all, rows_after_all, names_after_all}
use Rattle.morning.proofs.night_text.Given as goal

abbrev pub invariant-loop-byte : goal.invariant-loop-byte
invariant-loop-byte l =
    let rest = drop l.byte-index l.text in
    let first = l.initial in
    record {
      stands : after_all (length first.rows) (length first.names) l.state rest ≡ after_all (length first.rows) (length first.names) first.state l.text;
      told : rows_after_all (length first.names) l.state rest l.rows ≡ rows_after_all (length first.names) first.state l.text first.rows;
      named : names_after_all (length first.rows) l.state rest l.names ≡ names_after_all (length first.rows) first.state l.text first.names;
    }
