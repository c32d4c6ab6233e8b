-- From the invariant: the queue has at most the token and a request of each node.
use Prim.Native.Nat.{ℕ, ◌+◌, ◌≤◌, ◌<◌}
use mathlib.Core.Path.{◌≡◌, refl, sym, ap, ◌∙◌, subst}
use mathlib.Core.Bool.{true, true≢false}
use mathlib.Core.List.{List, [], ◌∷◌, ◌++◌, append_assoc, append-nil}
use native.Mathlib.Omega.{arith}
use lib.ListN.{length, length-append}
use Rattle.cars.specs.declared.Car.{Car}
use Rattle.cars.specs.declared.Car.TheVariants.{Idle, Token, Null, Reqp, Failp, Dov, Gotp, Didv}
use Rattle.usernode.specs.declared.Node.{Node}
use Rattle.usernode.specs.declared.Activity.{Activity}
use Rattle.usernode.specs.declared.Activity.TheVariants.{WaitingReqp, WaitingDov}
use Rattle.zeronode.specs.Rules.{keeps}
use Rattle.onelock.proofs.Train.Cells.{Cell, cell, asks, request, home, at}
use Rattle.onelock.proofs.Train.Invariant.{Ok, Rises, r_cell, Inv}
use Rattle.onelock.proofs.Train.CellLaws.{all_right}
use Rattle.onelock.proofs.Train.HomeLaws.{home_new, rises_le, rises_split}
use Rattle.onelock.proofs.Line.Ring.{Line}
use Rattle.onelock.proofs.Line.Phases.{Phase, car, kind}
use Rattle.onelock.proofs.Line.Fit.{cells}
use Rattle.onelock.proofs.Whole.Zero.{Requests, start_phase, Ends, token_out, token_in}
use Rattle.onelock.proofs.Whole.Step.{Whole}

-- what a request asks
record Asks (c : Car) : Type 0 where
  act : Activity
  source : ℕ
  asked : request c ≡ asks act source

-- a car that the zero node keeps, and not the token, is a request
kept_asks : (c : Car) → kind c ≡ car → keeps c ≡ true → Asks c
unfolding keeps
kept_asks Idle e h = absurd (true≢false (cc))
kept_asks Token e h = absurd (true≢false (cc))
kept_asks Null e h = absurd (true≢false (cc))
kept_asks (Reqp t) e h = record { act = WaitingReqp t.lock; source = t.source; asked = refl }
kept_asks (Failp t) e h = record { act = WaitingReqp t.lock; source = t.source; asked = refl }
kept_asks (Dov t) e h = record { act = WaitingDov t.lock; source = t.source; asked = refl }
kept_asks (Gotp t) e h = absurd (true≢false (cc))
kept_asks (Didv t) e h = absurd (true≢false (cc))

module _ (n : ℕ) where
  -- homes rise by one at least with each request, before cells over which they rise by k
  rises_count : (p k : ℕ) (Q : List Car) (Y : List Cell) {b d : ℕ} → Requests Q → ((a : ℕ) → Rises n a Y d → a + k ≤ d)
      → Rises n b (at p Q ++ Y) d → b + length Q + k ≤ d
  rises_count p k [] Y {b} {d} asking f r = omega (arith, f b r)
  rises_count p k (c ∷ Q) Y {b} {d} asking f (r_cell b₁ u r) =
      let a = kept_asks c asking.0 asking.1 in
      omega (arith, u.over a.act a.source a.asked, u.under a.act a.source a.asked, rises_count p k Q Y asking.2 f r)

  -- and with each request at the end of a list
  rises_tail_count : (p : ℕ) (X : List Cell) (Q : List Car) {b d : ℕ} → Requests Q → Rises n b (X ++ at p Q) d → b + length Q ≤ d
  rises_tail_count p X Q {b} {d} asking r =
      let s = rises_split n X (at p Q) r in
      let alone = subst (λ (L : List Cell). Rises n s.mid L d) (sym (append-nil (at p Q))) s.back in
      omega (arith, s.on, rises_count p 0 Q [] asking (λ a e. omega (arith, rises_le n e)) alone)

  -- homes rise from n on where a request at place n, which has passed its source, is the first
  rises_high : {b d e : ℕ} {A : ℕ → Node} (c : Car) (Y : List Cell) → Asks c → Ok n A e n c → Rises n b (cell n c ∷ Y) d → Rises n n (cell n c ∷ Y) d
  rises_high c Y a ok (r_cell b₁ u r) =
      let most : n ≤ b₁ = omega (arith, over a.act a.source a.asked, u.under a.act a.source a.asked) in
      r_cell b₁ (record { on = most; over = over; under = u.under }) r
    where
      over : (act : Activity) (s : ℕ) → request c ≡ asks act s → n < home n n s
      over act s e = omega (arith, home_new n n s (ok.high act s e), ok.low act s e)

  -- what still has to be sent is at most a request of each node
  sent_short : {e : ℕ} {A : ℕ → Node} (X : List Cell) (Q : List Car) → Requests Q → Inv n e (X ++ at 0 Q) A → length Q ≤ n
  sent_short X [] asking i = omega arith
  sent_short {e} {A} X (c ∷ Q) asking i =
      omega (arith, (all_right (Ok n A e) X (at 0 (c ∷ Q)) i.all).0.rear, rises_tail_count 0 X (c ∷ Q) asking i.order)

  -- and so it is with what is collected behind the token
  both_short : {e : ℕ} {A : ℕ → Node} (X : List Cell) (Q R : List Car) → Requests Q → Requests R
      → Inv n e (cell n Token ∷ (at n R ++ (X ++ at 0 Q))) A → length R + length Q ≤ n
  both_short X Q [] asking kept i = omega (arith, sent_short (cell n Token ∷ X) Q asking i)
  both_short X Q (c ∷ R) asking kept i =
      let collected = (rises_split n (cell n Token ∷ []) (at n (c ∷ R) ++ (X ++ at 0 Q)) i.order).back in
      omega (
        arith,
        i.all.0.rear,
        rises_count n (length Q) (c ∷ R) (X ++ at 0 Q) kept (λ a r. rises_tail_count 0 X Q asking r)
            (rises_high c (at n R ++ (X ++ at 0 Q)) (kept_asks c kept.0 kept.1) i.all.1.0 collected),
      )

  -- so the queue is short, the token in it or not
  queue_short : {e : ℕ} {A : ℕ → Node} {o : Phase} (X : List Cell) (Q R : List Car) → Requests Q → Ends o R
      → Inv n e (at n R ++ (X ++ at 0 Q)) A → length R + length Q ≤ n + 1
  queue_short X Q R asking token_out i = omega (arith, sent_short X Q asking i)
  queue_short X Q R asking (token_in {collected = C} late kept) i = omega (arith, both_short X Q C asking kept i)

module _ (m n : ℕ) (z : Car) (queue : List Car) (l : Line) (x : Whole m n z queue l) where
  -- the queue of the whole ring
  pub whole_queue : length queue ≤ n + 1
  whole_queue =
      omega (
        arith,
        ap length x.split ∙ length-append x.tail x.rest,
        queue_short n (x.front ++ first) x.tail x.rest x.asking x.ends
            (subst (λ (L : List Cell). Inv n x.rear (at n x.rest ++ L) x.ring.nodes) (sym (append_assoc x.front first (at 0 x.tail))) x.inv),
      )
    where
      first : List Cell
      first = cells (start_phase x.tail) 0 z
