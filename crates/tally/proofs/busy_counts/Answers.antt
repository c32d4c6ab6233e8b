-- No lock yet, and one more, busy or not.
use mathlib.Core.Path.{◌≡◌, ◌∙◌, sym, ap}
use Prim.Native.Nat.{ℕ}
use native.Mathlib.Omega.{arith}
use lib.ListN.{set}
use Rattle.lists.specs.Loops.{in_order}
use Rattle.lists.proofs.Laws.{in_order_none}
use Rattle.tally.proofs.Laws.{word_lock, word_more, word_busy}
use Rattle.tally.proofs.Times.{more-times}
use Rattle.tally.proofs.busy_counts.Goals as goal
use Rattle.tally.proofs.busy_counts.Goals.{then-has, else-has}

pub loop-lock-init : goal.loop-lock-init
loop-lock-init c = sym (in_order_none _ _)

pub loop-lock-preserved : goal.loop-lock-preserved
loop-lock-preserved c =
    elim c.if-has.branch [
      | then-has w ↦ word_more _ _ _ _ _ _ c.loop-lock.invariant
          (rw (sym c.has.ensures ∙ w.if-has.true) (w.counts-is ∙ ap (set c.loop-lock.counts c.loop-lock.lock)
          (w.saturating_add.ensures ∙ sym (more-times c.args.steps _ (omega (arith, w.if-has.element_fits.fits))))))
      | else-has w ↦ word_more _ _ _ _ _ _ c.loop-lock.invariant (rw (sym c.has.ensures ∙ w.if-has.false) w.counts-is)
    ]

pub returns : goal.returns
returns c =
    let done : c.loop-lock.lock ≡ c.args.locks = omega arith in
    c.loop-lock.invariant
    ∙ ap (λ (n : ℕ). in_order (word_lock c.had_by_some-word.result c.args.steps) n c.args.counts) done
    ∙ word_busy _ _ _ c.had_by_some-word.ensures _ _ _
