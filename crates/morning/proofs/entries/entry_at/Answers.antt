-- `morning::entries::entry_at` meets its contract: what `get` gives, or else what no row says.
use mathlib.Core.Path.{ap, ◌∙◌}
use native.Mathlib.Omega.{arith}
use Rattle.std.specs.Prelude.{Option, unwrap_or}
use Rattle.verdict.specs.Verdicts.{no_notes}
use Rattle.morning.specs.declared.Entry.{Entry}
use Rattle.morning.specs.Order.{no_entry, entry_at}
use Rattle.morning.proofs.entries.entry_at.Goals as goal

pub returns : goal.returns
unfolding no_notes no_entry entry_at
returns c =
    c.unwrap_or.ensures ∙ ap (λ (o : Option Entry). unwrap_or o no_entry) c.copied.ensures
    ∙ c.get.ensures.lookup.4 (omega arith) no_entry
