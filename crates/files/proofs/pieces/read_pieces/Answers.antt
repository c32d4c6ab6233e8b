-- At first nothing has come. What a turn reads is taken in behind what has come before.
use Rattle.std.proofs.Common.{[], ◌++◌, take}
use Rattle.std.proofs.KnownBytes.{Consumes-nil, Consumes-trans}
use Rattle.files.proofs.pieces.read_pieces.Goals as goal

pub loop-init : goal.loop-init
loop-init g c = ([], Consumes-nil _, g.met.T.Intake.taken_none _)

pub loop-preserved : goal.loop-preserved
loop-preserved g c =
    let (come, given, so) = c.loop.invariant in
    let more = take c.in_ok-count.count c.read.new.buf in (
      come ++ more,
      Consumes-trans _ _ _ _ _ given c.in_ok-count.ensures.bytes.0,
      g.met.T.Intake.taken_more _ _ _ come more so c.take.ensures,
    )
