-- A car goes on past nodes none of which is its source: past a user node, or past a junction with its whole subring.
use Prim.Native.Nat.{ℕ, ◌≤◌, ◌<◌}
use mathlib.Core.Path.{◌≡◌, refl, sym, ap, ◌∙◌, subst}
use mathlib.Core.Bool.{true, true≢false}
use mathlib.Core.Logic.{inl, inr, ⊎_elim}
use native.Mathlib.Omega.{arith}
use Rattle.cars.specs.declared.Tag.{Tag}
use Rattle.cars.specs.declared.Car.{Car}
use Rattle.cars.specs.declared.Car.TheVariants.{Reqp, Failp}
use Rattle.usernode.specs.declared.Node.{Node}
use Rattle.usernode.specs.declared.Activity.{Activity}
use Rattle.usernode.specs.declared.Activity.TheVariants.{WaitingReqp}
use Rattle.usernode.specs.Node.{had}
use Rattle.lists.proofs.Tests.{at_most_or_above}
use Rattle.onelock.proofs.Train.Cells.{asks, request, noticed, bit, home, Visits}
use Rattle.onelock.proofs.Train.HomeLaws.{home_new, home_old}
use Rattle.onelock.proofs.Train.CarMoves.{Goes}

-- the car a goes from place k past the nodes k + 1 to h
module _ (n : ℕ) (A : ℕ → Node) (k h : ℕ) (wide : k ≤ h) (top : h ≤ n) (a : Car)
    (outer : (act : Activity) (s : ℕ) → request a ≡ asks act s → k < s → s ≤ h → ⊥) where
  -- its home is the same behind them and before them
  home_past : (act : Activity) (s : ℕ) → request a ≡ asks act s → home n h s ≡ home n k s
  home_past act s r =
      ⊎_elim (λ high. home_new n h s (omega arith) ∙ sym (home_new n k s high))
      (λ low. home_old n h s (omega (arith, outer act s r low)) ∙ sym (home_old n k s low)) (at_most_or_above s k)

  -- a node that is none of them is still to visit behind them if it was before them
  visit_past : (q g : ℕ) → (k < q → q ≤ h → ⊥) → Visits n q k g → Visits n q h g
  visit_past q g far v = ⊎_elim (λ z. inl (omega (arith, far z.0), z.1)) (λ z. inr z) v

  -- it goes on, where none of them has the lock that it asks for
  pub goes_past : noticed a ≤ k → ((t : Tag) → a ≡ Reqp t → (q : ℕ) → k < q → q ≤ h → had (A q) t.lock ≡ true → ⊥) → Goes n A k a h a
  goes_past note free =
      record {
        on = wide;
        top = top;
        asked = λ act s r. r;
        homes = home_past;
        reqp = λ t r. r;
        visits = λ t r q g v.
            subst (Visits n q h) (sym (home_past (WaitingReqp t.lock) t.source (ap request r)))
            (visit_past q (home n k t.source) (λ low high. free t r q low high g) v);
        note = omega arith;
        bits = λ lo hi lock b. refl;
        did = λ x r. r;
      }

  -- it is a reqp, and fails on its way
  pub goes_failed : (t : Tag) → a ≡ Reqp t → Goes n A k a h (Failp t)
  goes_failed t e =
      record {
        on = wide;
        top = top;
        asked = λ act s r. ap request e ∙ r;
        homes = λ act s r. home_past act s (ap request e ∙ r);
        reqp = λ t r. cc;
        visits = λ t r. absurd (true≢false (cc));
        note = omega arith;
        bits = λ lo hi lock b. ap (λ (c : Car). bit lo hi lock c b) (sym e);
        did = λ x r. cc;
      }
