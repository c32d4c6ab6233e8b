-- The measure is the number: what is left without its last digit is less.
use Rattle.lines.proofs.+width.Given as goal

abbrev pub decreases-width : goal.decreases-width
decreases-width l = l.number
