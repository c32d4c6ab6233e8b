-- The invariant of the loop: what is left of the room, what stands in front and the numbers up to the place reached are the room.
use Rattle.std.proofs.Common.{◌≡◌, ◌+◌, length, take}
use Rattle.lines.specs.Line.{spaced}
use Rattle.lines.proofs.has_room.Given as goal

abbrev pub invariant-loop-number : goal.invariant-loop-number
invariant-loop-number l = l.left + (l.front + length (spaced (take l.number-index l.numbers))) ≡ l.room
