-- `morning::entries::next_place` meets its contract: the place behind the one to begin at that the library finds, if it finds one.
use Prim.Native.Nat.{ℕ, ◌+◌}
use mathlib.Core.Path.{sym, ap, ◌∙◌}
use native.Mathlib.Omega.{arith}
use lib.ListN.{length}
use Rattle.std.proofs.Common.{rules, tests}
use Rattle.std.proofs.lemmas.Iterator.{YieldsList-from_slice}
use Rattle.std.proofs.lemmas.Iterator.Search.{position_from_yields_List}
use Rattle.std.specs.Prelude.{option_map}
use Rattle.morning.specs.Order.{is_with}
use Rattle.morning.proofs.Places.{next_found}
use Rattle.morning.proofs.entries.next_place.Goals as goal

pub returns-in_err-behind : goal.returns-in_err-behind
unfolding is_with
returns-in_err-behind c =
    let a = c.args in
    let found = position_from_yields_List (is_with a.verdict) _ _ c.position.result c.position.ensures.ran
    (YieldsList-from_slice _ c.iter.ensures.rest) (λ x b q k. search (rules, tests)) in
    c.from_residual.ensures ∙ ap (option_map (λ (k : ℕ). a.from + k)) (sym c.in_err-behind.was)
    ∙ next_found a.rows.now (length a.rows.now) a.verdict a.from c.requires (omega arith) found

pub returns : goal.returns
unfolding is_with
returns c =
    let a = c.args in
    let found = position_from_yields_List (is_with a.verdict) _ _ c.position.result c.position.ensures.ran
    (YieldsList-from_slice _ c.iter.ensures.rest) (λ x b q k. search (rules, tests)) in
    ap (option_map (λ (k : ℕ). a.from + k)) (sym c.in_ok-behind.was) ∙ next_found a.rows.now (length a.rows.now) a.verdict a.from c.requires (omega arith) found
