-- The invariant of the loop: the numbers up to the place reached are put, with room for the others.
use Rattle.std.proofs.Common.{take}
use Rattle.lines.specs.Line.{spaced}
use Rattle.lines.proofs.Laws.{Put}
use Rattle.lines.proofs.put_numbers.Given as goal

abbrev pub invariant-loop-number : goal.invariant-loop-number
invariant-loop-number l = Put l.initial.buffer l.at (spaced (take l.number-index l.numbers)) l.buffer l.end
