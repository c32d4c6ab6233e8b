-- The invariant of the loop in `gather::gather_text`: the bytes that are left give, with what is gathered, what all bytes give.
use mathlib.Core.Path.{◌≡◌}
use lib.ListN.{drop}
use Rattle.gather.specs.Gathering.{after_all, rows_after_all}
use Rattle.gather.proofs.gather_text.Given as goal

abbrev pub invariant-loop-byte : goal.invariant-loop-byte
invariant-loop-byte l =
    (after_all l.state (drop l.byte-index l.text) ≡ after_all l.initial.state l.text)
    × (rows_after_all l.state (drop l.byte-index l.text) l.rows ≡ rows_after_all l.initial.state l.text l.initial.rows)
