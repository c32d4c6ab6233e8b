-- `morning::entries::next_entry` meets its contract: it is sought in the rows of the listed schedules.
use Prim.Native.Nat.{ℕ, ◌+◌}
use mathlib.Core.Path.{◌≡◌, ap, ◌∙◌}
use mathlib.Core.Bool.{cond}
use mathlib.Core.List.{List}
use native.Mathlib.Omega.{arith}
use lib.Dec.{ltb}
use lib.ListN.{length, length-take}
use borrow.Author.Tests.{ltb-true, ltb-false}
use Rattle.lists.proofs.Tests.{by_value}
use Rattle.morning.specs.declared.Entry.{Entry}
use Rattle.morning.specs.Order.{places_in, seek, next_entry}
use Rattle.morning.proofs.Places.{seek_cut}
use Rattle.morning.proofs.entries.next_entry.Goals as goal

pub returns : goal.returns
unfolding places_in next_entry
returns c =
    let rows : List Entry = c.args.rows.now in
    let places : ℕ = places_in rows c.args.listed in
    let cursor = c.args.cursor in
    let long : length c.listed_rows-rows.result.now ≡ places = ap length c.listed_rows-rows.ensures ∙ length-take places rows ∙ omega arith in
    c.seek.ensures ∙ seek_cut rows places cursor.verdict c.min.result c.listed_rows-rows.ensures (omega arith) (omega arith)
    ∙ by_value
    (λ b. seek rows places cursor.verdict c.min.result ≡ cond b (seek rows places cursor.verdict (cursor.place + 1)) (seek rows places cursor.verdict places))
    (ltb cursor.place places)
    (λ t. ap (seek rows places cursor.verdict) (omega (arith, ltb-true cursor.place places t)))
    (λ t. ap (seek rows places cursor.verdict) (omega (arith, ltb-false cursor.place places t)))
