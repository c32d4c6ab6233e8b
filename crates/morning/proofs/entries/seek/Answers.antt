-- `morning::entries::seek` meets its contract. Each turn of the loop takes one verdict, the next better one behind it; at the end none is left.
use mathlib.Core.Path.{sym, ◌∙◌}
use borrow.Author.Rules.{rules}
use native.Mathlib.Omega.{arith}
use lib.ListN.{length}
use Rattle.morning.proofs.Places.{seek_none, seek_found, seek_missed}
use Rattle.morning.proofs.entries.seek.Goals as goal

pub returns-in-Some : goal.returns-in-Some
returns-in-Some c =
    let rows = c.args.rows.now in
    let turn = c.loop-verdict in
    seek_found rows (length rows) turn.verdict turn.next (omega arith) c.next_place.ensures c.in-Some.is ∙ turn.invariant.left

pub loop-verdict-preserved : goal.loop-verdict-preserved
loop-verdict-preserved c =
    let rows = c.args.rows.now in
    let turn = c.loop-verdict in
    record {
      within = omega arith;
      left = seek_missed rows (length rows) turn.verdict turn.next (omega arith) c.next_place.ensures c.in_default.is (search rules) ∙ turn.invariant.left;
    }

pub returns : goal.returns
returns c =
    let rows = c.args.rows.now in
    let end = c.loop-verdict in
    sym (seek_none rows (length rows) end.verdict end.next (omega arith)) ∙ end.invariant.left
