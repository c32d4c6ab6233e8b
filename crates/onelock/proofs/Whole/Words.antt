-- From the invariant: the word of a junction outside a tour has exactly the locks that its nodes have.
use Prim.Native.Nat.{ℕ, suc, ◌+◌, ◌≤◌, ◌<◌}
use mathlib.Core.Path.{◌≡◌, refl, sym, ◌∙◌, subst}
use mathlib.Core.Bool.{Bool, true, false, true≢false}
use mathlib.Core.List.{List, ◌∷◌, ◌++◌, append_assoc}
use native.Mathlib.Omega.{arith}
use Rattle.words.specs.Words.{has}
use Rattle.cars.specs.declared.Car.{Car}
use Rattle.usernode.specs.declared.Node.{Node}
use Rattle.usernode.specs.Node.{had}
use Rattle.junction.specs.declared.Junction.{Junction}
use Rattle.onelock.proofs.Train.Cells.{Cell, gate, All, noticed, at}
use Rattle.onelock.proofs.Train.Invariant.{Ok, Some, Exact, Words}
use Rattle.onelock.proofs.Train.CellLaws.{all_right, all_join, all_map, all_both, all_bare, words_right, all_split, fold_far, at_all}
use Rattle.onelock.proofs.Line.Ring.{Line, size}
use Rattle.onelock.proofs.Line.Numbers.{Junctions}
use Rattle.onelock.proofs.Line.Phases.{Phase}
use Rattle.onelock.proofs.Line.Fit.{cells, Fit, f_end, f_user, f_past, f_tour}
use Rattle.onelock.proofs.Line.FitLaws.{cells_all, shaded, fit_places}
use Rattle.onelock.proofs.Whole.Zero.{start_phase}
use Rattle.onelock.proofs.Whole.Step.{Whole}

-- a junction outside a tour has exactly the locks that its nodes have
pub record TrueWord (A : ℕ → Node) (k : ℕ) (j : Junction) (s : Line) : Type 0 where
  pub to : j.tour ≡ false → (lock : ℕ) → has j.word lock ≡ true → Some A k (k + size s) lock
  pub from : j.tour ≡ false → (lock i : ℕ) → k < i → i ≤ k + size s → had (A i) lock ≡ true → has j.word lock ≡ true

-- so the word is true where its gate is exact and only such notices are behind it
true_word : (A : ℕ → Node) (k : ℕ) (j : Junction) (s : Line) (Y : List Cell) → All (λ p c. noticed c ≤ k) Y
    → Exact A k (k + size s) j.word Y → TrueWord A k j s
true_word A k j s Y far exact =
    record {
      to = λ out lock h. exact.to lock (fold_far k (k + size s) lock (has j.word lock) Y far ∙ h);
      from = λ out lock i low high h. sym (fold_far k (k + size s) lock (has j.word lock) Y far) ∙ exact.from lock i low high h;
    }

-- in a tour nothing is said of the word
touring_word : (A : ℕ → Node) (k : ℕ) (j : Junction) (s : Line) → j.tour ≡ true → TrueWord A k j s
touring_word A k j s tour =
    record { to = λ out lock h. absurd (true≢false (sym tour ∙ out)); from = λ out lock i low high h. absurd (true≢false (sym tour ∙ out)) }

-- cells up to a place, before cells up to a lower one, tell only of nodes up to that place
far_join : (k h : ℕ) (X R : List Cell) → k ≤ h → All (λ p c. p ≤ h) X → All (λ p c. noticed c ≤ p) X → All (λ p c. noticed c ≤ k) R
    → All (λ p c. noticed c ≤ h) (X ++ R)
far_join k h X R le places told far =
    all_join (λ p c. noticed c ≤ h) X R (all_both X (λ p c a b. omega arith) places told)
    (all_map R (λ p c a. omega arith) far)

-- at a junction: what the induction needs of the cells G before it, of its main cells C, its gate and the cells I inside it, with R behind them
record AtGate (A : ℕ → Node) (k h w : ℕ) (G C I R : List Cell) : Type 0 where
  told : All (λ p c. noticed c ≤ p) G
  far : All (λ p c. noticed c ≤ h) ((C ++ (gate k h w ∷ I)) ++ R)
  words : Words A (G ++ ((C ++ (gate k h w ∷ I)) ++ R))
  told_inside : All (λ p c. noticed c ≤ p) I
  exact : Exact A k h w (I ++ R)
  words_inside : Words A (I ++ R)

-- a junction has that
at_gate : (A : ℕ → Node) (k h w : ℕ) (G C I R : List Cell) → k ≤ h → All (λ p c. p ≤ h) C → All (λ p c. p ≤ h) I
    → All (λ p c. noticed c ≤ p) (G ++ (C ++ (gate k h w ∷ I))) → All (λ p c. noticed c ≤ k) R → Words A ((G ++ (C ++ (gate k h w ∷ I))) ++ R)
    → AtGate A k h w G C I R
at_gate A k h w G C I R le main inner told far words =
    let parts = all_split (λ p c. noticed c ≤ p) G (C ++ (gate k h w ∷ I)) told in
    let behind = subst (Words A) (append_assoc G (C ++ (gate k h w ∷ I)) R) words in
    let after = subst (Words A) (append_assoc C (gate k h w ∷ I) R) (words_right A G ((C ++ (gate k h w ∷ I)) ++ R) behind) in
    let here = words_right A C (gate k h w ∷ (I ++ R)) after in
    record {
      told = parts.0;
      far = far_join k h (C ++ (gate k h w ∷ I)) R le (all_join (λ p c. p ≤ h) C (gate k h w ∷ I) main inner) parts.1 far;
      words = behind;
      told_inside = all_right (λ p c. noticed c ≤ p) C (gate k h w ∷ I) parts.1;
      exact = here.0;
      words_inside = here.1;
    }

-- the words of a line's junctions are true where what is behind the line tells only of nodes before it
words_line : (A : ℕ → Node) {w : Bool} {p o : Phase} {lo hi k : ℕ} {l : Line} {G : List Cell} (R : List Cell) → Fit w lo hi p k l o G
    → All (λ p c. noticed c ≤ p) G → All (λ p c. noticed c ≤ k) R → Words A (G ++ R) → Junctions (TrueWord A) k l
words_line A R f_end told far words = tt
words_line A R (f_user {p = p} {k = k} {u = u} {G = G} one clean rest) told far words =
    let C = cells p (suc k) u.car in
    let parts = all_split (λ p c. noticed c ≤ p) G C told in
    words_line A (C ++ R) rest parts.0 (far_join k (suc k) C R (omega arith) (cells_all (λ p c. p ≤ suc k) p (suc k) u.car (omega arith)) parts.1 far)
    (subst (Words A) (append_assoc G C R) words)
words_line A R (f_past {p = p} {k = k} {j = j} {s = s} {G = G} {H = H} tour train sub clean_sub inner calm main clean rest) told far words =
    let h = k + size s in
    let C = cells p h j.main in
    let x = at_gate A k h j.word G C H R (omega arith) (cells_all (λ p c. p ≤ h) p h j.main (omega arith)) (fit_places inner).high told far words in (
      true_word A k j s (H ++ R) (all_join (λ p c. noticed c ≤ k) H R (all_bare (λ p c. noticed c ≤ k) H (shaded inner refl).bare) far) x.exact,
      words_line A R inner x.told_inside far x.words_inside,
      words_line A ((C ++ (gate k h j.word ∷ H)) ++ R) rest x.told x.far x.words,
    )
words_line A R (f_tour {p = p} {p₂ = p₂} {k = k} {j = j} {s = s} {G = G} {H = H} tour live sub inner out main rest) told far words =
    let h = k + size s in
    let C = cells p₂ h j.main in
    let S = cells p k j.subring in
    let x = at_gate A k h j.word G C (H ++ S) R (omega arith) (cells_all (λ p c. p ≤ h) p₂ h j.main (omega arith))
    (all_join (λ p c. p ≤ h) H S (fit_places inner).high (cells_all (λ p c. p ≤ h) p k j.subring (omega arith))) told far words in
    let parts = all_split (λ p c. noticed c ≤ p) H S x.told_inside in (
      touring_word A k j s tour,
      words_line A (S ++ R) inner parts.0 (far_join k k S R (omega arith) (cells_all (λ p c. p ≤ k) p k j.subring (omega arith)) parts.1 far)
          (subst (Words A) (append_assoc H S R) x.words_inside),
      words_line A ((C ++ (gate k h j.word ∷ (H ++ S))) ++ R) rest x.told x.far x.words,
    )

module _ (m n : ℕ) (z : Car) (queue : List Car) (l : Line) (x : Whole m n z queue l) where
  -- the word of each of the ring's junctions is true
  pub whole_words : Junctions (TrueWord x.ring.nodes) 0 l
  whole_words =
      words_line A sent x.fit line.0 (all_both sent (λ p c a b. omega arith) near line.1)
      (words_right A (at n x.rest) (x.front ++ sent) x.inv.words)
    where
      A : ℕ → Node
      A = x.ring.nodes

      first : List Cell
      first = cells (start_phase x.tail) 0 z

      sent : List Cell
      sent = first ++ at 0 x.tail

      near : All (λ p c. p ≤ 0) sent
      near =
          all_join (λ p c. p ≤ 0) first (at 0 x.tail) (cells_all (λ p c. p ≤ 0) (start_phase x.tail) 0 z (omega arith))
          (at_all (λ p c. p ≤ 0) 0 (λ c. omega arith) x.tail)

      line : All (λ p c. noticed c ≤ p) x.front × All (λ p c. noticed c ≤ p) sent
      line =
          all_split (λ p c. noticed c ≤ p) x.front sent
          (all_map (x.front ++ sent) (λ p c o. o.note)
          (all_right (Ok n A x.rear) (at n x.rest) (x.front ++ sent) x.inv.all))
