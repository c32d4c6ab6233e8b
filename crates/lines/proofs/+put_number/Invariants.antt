-- The measure is the number: what is left without its last digit is less.
use Rattle.lines.proofs.+put_number.Given as goal

abbrev pub decreases-put_number : goal.decreases-put_number
decreases-put_number l = l.number
