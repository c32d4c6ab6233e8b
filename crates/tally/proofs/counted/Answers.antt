-- The count of a lock that has a place; the others stay.
use mathlib.Core.Path.{◌∙◌, sym, ap}
use native.Mathlib.Omega.{arith}
use lib.ListN.{set}
use lib.Seq.{set_out}
use Rattle.tally.specs.Tally.{counted}
use Rattle.tally.proofs.Times.{more_is}
use Rattle.tally.proofs.counted.Goals as goal

pub returns-then-lock-lt64 : goal.returns-then-lock-lt64
unfolding counted
returns-then-lock-lt64 c = ap (set c.args.counts c.args.lock) (c.saturating_add.ensures ∙ sym (more_is _ c.if-lock-lt64.element_fits.fits))

pub returns-else-lock-lt64 : goal.returns-else-lock-lt64
unfolding counted
returns-else-lock-lt64 c = sym (set_out c.args.counts _ _ (omega arith))
