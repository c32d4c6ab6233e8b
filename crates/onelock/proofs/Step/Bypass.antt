-- A junction outside a tour: its turn as one of three cases, and a car that goes past it as a move of the train.
use Prim.Native.Nat.{ℕ, ◌≤◌, ◌<◌}
use mathlib.Core.Path.{◌≡◌, refl, sym, ◌∙◌, subst}
use mathlib.Core.Bool.{Bool, true, false, cond, true≢false}
use mathlib.Core.List.{List, ◌∷◌, ◌++◌}
use native.Mathlib.Omega.{arith}
use Rattle.words.specs.Words.{has}
use Rattle.cars.specs.declared.Tag.{Tag}
use Rattle.cars.specs.declared.Car.{Car}
use Rattle.cars.specs.declared.Car.TheVariants.{Idle, Token, Null, Reqp, Failp, Dov, Gotp, Didv}
use Rattle.usernode.specs.declared.Node.{Node}
use Rattle.usernode.specs.declared.Activity.{Activity}
use Rattle.usernode.specs.Node.{had}
use Rattle.junction.specs.declared.Junction.{Junction}
use Rattle.tours.specs.declared.JunctionRule.TheVariants.{GoesOn, FailsReqp}
use Rattle.tours.specs.Rules.{outside, in_tour}
use Rattle.junction.specs.Turn.{failing, junction_rule, shadow, joins, junction_apply, train_after, trained, junction_turn}
use Rattle.onelock.proofs.Train.Cells.{Cell, cell, gate, All, Gates, Bare, asks, request, noticed}
use Rattle.onelock.proofs.Train.CellLaws.{all_right, all_both, all_join, all_bare, words_right, fold_far}
use Rattle.onelock.proofs.Train.Invariant.{Ok, Inv}
use Rattle.onelock.proofs.Train.CarMoves.{Goes, goes, passes}
use Rattle.onelock.proofs.Train.Passing.{goes_past, goes_failed}
use Rattle.onelock.proofs.Line.Phases.{token, kind}

-- what a junction outside a tour becomes, by the car that comes to it; w says whether it is an inner one
pub data Passing (w : Bool) (j : Junction) (wants : Bool) (a : Car) : Junction → Type 0 where
  goes_by : (kind a ≡ token → wants ≡ false) → ((t : Tag) → a ≡ Reqp t → has (failing w j) t.lock ≡ false)
      → Passing w j wants a (joins a (shadow a) (train_after w a j.train j.train) j.tour j.word)
  fails_by : (t : Tag) → a ≡ Reqp t
      → Passing w j wants a (joins (Failp t) (shadow a) (train_after w (Failp t) j.train j.train) j.tour j.word)
  begins : a ≡ Token → wants ≡ true → Passing w j wants a (joins Idle Token (train_after w Idle j.train j.train) true j.word)

module _ (w : Bool) (j : Junction) (y : Car) where
  -- a car that is neither the token nor a reqp goes by
  plain_by : (wants : Bool) (a : Car) → (kind a ≡ token → ⊥) → ((t : Tag) → a ≡ Reqp t → ⊥)
      → Passing w j wants a (joins a (shadow a) (train_after w a j.train j.train) j.tour j.word)
  plain_by wants a no_token no-reqp = goes_by (λ e. absurd (no_token e)) (λ t e. absurd (no-reqp t e))

  -- by the rule outside a tour it is one of the three
  by_rule : (wants : Bool) (a : Car) → Passing w j wants a (trained w j.train (junction_apply a y j (outside (failing w j) wants a)))
  unfolding junction_apply outside shadow trained joins
  by_rule wants Idle = plain_by wants Idle (λ e. true≢false (cc)) (λ t e. true≢false (cc))
  by_rule true Token = begins refl refl
  by_rule false Token = goes_by (λ e. refl) (λ t e. (cc))
  by_rule wants Null = plain_by wants Null (λ e. true≢false (cc)) (λ t e. true≢false (cc))
  by_rule wants (Reqp t) = go (has (failing w j) t.lock) refl
    where
      go : (b : Bool) → has (failing w j) t.lock ≡ b
          → Passing w j wants (Reqp t) (trained w j.train (junction_apply (Reqp t) y j (cond b (FailsReqp t) GoesOn)))
      go true e = fails_by t refl
      go false e = goes_by (λ z. absurd (true≢false (cc))) (λ t' z. (cc))
  by_rule wants (Failp t) = plain_by wants (Failp t) (λ e. true≢false (cc)) (λ t e. true≢false (cc))
  by_rule wants (Dov t) = plain_by wants (Dov t) (λ e. true≢false (cc)) (λ t e. true≢false (cc))
  by_rule wants (Gotp x) = plain_by wants (Gotp x) (λ e. true≢false (cc)) (λ t e. true≢false (cc))
  by_rule wants (Didv x) = plain_by wants (Didv x) (λ e. true≢false (cc)) (λ t e. true≢false (cc))

  -- so is every turn outside a tour
  pub passing : (lo hi : ℕ) (wants : Bool) (a : Car) → j.tour ≡ false → Passing w j wants a (junction_turn w lo hi wants a y j)
  unfolding junction_turn junction_rule
  passing lo hi wants a out =
      subst (λ (b : Bool). Passing w j wants a
      (trained w j.train (junction_apply a y j (cond b (in_tour j.train lo hi y) (outside (failing w j) wants a))))) (sym out) (by_rule wants a)

-- a junction with nodes k + 1 to h that is passed by: H are the gates of its subring, B is what is behind
pub record Side (n k h : ℕ) (H B : List Cell) : Type 0 where
  pub wide : k ≤ h
  pub top : h ≤ n
  pub bare : Bare H
  pub gates : Gates (λ lo hi. k ≤ lo) H
  pub behind : All (λ p c. p ≤ k) B

module _ {n k h : ℕ} (w : ℕ) (X : List Cell) {H B : List Cell} {A : ℕ → Node} {e : ℕ} (x : Side n k h H B) (a : Car)
    (i : Inv n e (X ++ (gate k h w ∷ (H ++ (cell k a ∷ B)))) A) (outer : (act : Activity) (s : ℕ) → request a ≡ asks act s → k < s → s ≤ h → ⊥) where
  -- what holds of all that is behind the junction
  behind_ok : All (Ok n A e) (H ++ (cell k a ∷ B))
  behind_ok = all_right (Ok n A e) X (gate k h w ∷ (H ++ (cell k a ∷ B))) i.all

  -- what holds of the car
  pub car_ok : Ok n A e k a
  car_ok = (all_right (Ok n A e) H (cell k a ∷ B) behind_ok).0

  -- a lock that one of its nodes has is in the word
  in_word : (lock q : ℕ) → k < q → q ≤ h → had (A q) lock ≡ true → has w lock ≡ true
  in_word lock q low high had-it =
      sym (fold_far k h lock (has w lock) (H ++ (cell k a ∷ B)) quiet)
      ∙ (words_right A X (gate k h w ∷ (H ++ (cell k a ∷ B))) i.words).0.from lock q low high had-it
    where
      quiet : All (λ p c. noticed c ≤ k) (H ++ (cell k a ∷ B))
      quiet =
          all_join _ H (cell k a ∷ B) (all_bare _ H x.bare)
          (car_ok.note, all_both B (λ p c l ok. omega (arith, ok.note)) x.behind (all_right (Ok n A e) H (cell k a ∷ B) behind_ok).1)

  -- the car goes past the junction, whose word has not its lock
  pub by_goes : ((t : Tag) → a ≡ Reqp t → has w t.lock ≡ false) → Goes n A k a h a
  by_goes free =
      goes_past n A k h x.wide x.top a outer car_ok.note
      (λ t r q low high had-it. true≢false (sym (in_word t.lock q low high had-it) ∙ free t r))

  -- a reqp past the junction that fails it
  pub by_fails : (t : Tag) → a ≡ Reqp t → Goes n A k a h (Failp t)
  by_fails = goes_failed n A k h x.wide x.top a outer

  -- the car past the junction: the junction's gates are behind it then
  pub past_move : (c : Car) → Goes n A k a h c → Inv n e (X ++ (cell h c ∷ (gate k h w ∷ (H ++ B)))) A
  past_move c g = goes n X (gate k h w ∷ (H ++ B)) g (passes n X (gate k h w ∷ H) B k a x.bare (omega arith, x.gates) i)
