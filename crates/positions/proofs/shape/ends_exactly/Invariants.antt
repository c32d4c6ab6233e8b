-- `ends_exactly` gives `ends_at`: in the loop, what is still to come ends with the bytes from the place on as all of them with all bytes.
use Rattle.std.proofs.Common.{◌≡◌, false, drop}
use Rattle.positions.specs.Shape.{ends_at}
use Rattle.positions.proofs.shape.ends_exactly.Given as goal

abbrev pub invariant-loop-byte : goal.invariant-loop-byte
invariant-loop-byte l = ends_at l.opening l.coming (drop l.byte-index l.bytes) ≡ ends_at false l.count l.bytes
