-- `verdict::watch_byte` meets its contract: nothing was wrong so far, and the line is whole.
use mathlib.Core.Path.{◌≡◌}
use mathlib.Core.Bool.{true}
use Rattle.std.proofs.Common.{rules}
use Rattle.gather.specs.Gathering.{is_fine}
use Rattle.verdict.specs.Verdicts.{is_whole_line, watch_part, watch_byte}
use Rattle.verdict.proofs.watch_byte.Goals as goal

pub returns-in-Whole : goal.returns-in-Whole
unfolding watch_byte watch_part is_whole_line is_fine
returns-in-Whole c =
    let fine : is_fine c.args.watch.gather.fault ≡ true = search rules in
    simp (c.line_watched.ensures, c.after_part-gather.ensures, ← c.scan_byte-scan.ensures, c.in-Whole.is, fine)
