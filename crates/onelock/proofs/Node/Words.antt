-- A user node's words after each of its rules: which locks it has then, and that its words and its activity keep apart.
use Prim.Native.Nat.{ℕ, ◌<◌}
use mathlib.Core.Path.{◌≡◌, refl, sym, ap, ◌∙◌}
use mathlib.Core.Bool.{Bool, true, false, cond, not, ◌&&◌, ◌||◌, true≢false, and-true, and-false, or-true, or-false}
use Rattle.lists.proofs.Laws.{and_left, and_right}
use lib.Dec.{eqb}
use borrow.Author.Tests.{eqb-true, eq-eqb, ne_eqb}
use Rattle.words.specs.Words.{has, with_lock, without_lock}
use Rattle.words.proofs.Sets.{has_with, has-without}
use Rattle.cars.specs.Cars.{multiring}
use Rattle.cars.specs.declared.Car.{Car}
use Rattle.usernode.specs.declared.Node.{Node}
use Rattle.usernode.specs.declared.Activity.{Activity}
use Rattle.usernode.specs.declared.Activity.TheVariants.{Idle as Resting}
use Rattle.usernode.specs.Node.{had}
use Rattle.usernode.specs.Node.{let_go}
use Rattle.turns.specs.Turn.{becomes}
use Rattle.lists.proofs.Tests.{or_by_first, or_by_second, by_value, or_left, or_right, or_first}
use Rattle.onelock.proofs.Train.Cells.{Names, Apart}

-- a node with the same words has the same locks
pub same_words : (u : Node) (c : Car) (act : Activity) (lock : ℕ) → had (becomes u c act u.held u.letting) lock ≡ had u lock
unfolding becomes had
same_words u c act lock = refl

-- a node with the same words keeps apart if its activity names no lock that it has
pub same_apart : (u : Node) (c : Car) (act : Activity) → ((lock : ℕ) → Names act lock → had u lock ≡ false) → Apart u
    → Apart (becomes u c act u.held u.letting)
unfolding becomes had
same_apart u c act names x = record { words = λ lock h. x.words lock h; wish = λ lock n. names lock n }

-- a lock that is being let go is not held
pub letting_only : (u : Node) (lock : ℕ) → Apart u → has u.letting lock ≡ true → has u.held lock ≡ false
letting_only u lock x l = by_value (λ b. b ≡ false) (has u.held lock) (λ e. absurd (true≢false (sym l ∙ x.words lock e))) (λ e. refl)

module _ (u : Node) (c : Car) (act : Activity) (own : ℕ) (small : own < 64) where
  -- the lock granted is had
  pub granted_has : had (becomes u c act (with_lock u.held own) u.letting) own ≡ true
  unfolding becomes had
  granted_has = rw (has_with u.held own own small, eq-eqb own own refl, or-true (has u.held own))

  -- a grant leaves the having of every other lock
  pub granted_other : (lock : ℕ) → (lock ≡ own → ⊥) → had (becomes u c act (with_lock u.held own) u.letting) lock ≡ had u lock
  unfolding becomes had
  granted_other lock other = rw (has_with u.held own lock small, ne_eqb lock own other, or-false (has u.held lock))

  -- the lock of the didv is had no longer
  pub told_lost : Apart u → has u.letting own ≡ true → had (becomes u c act u.held (without_lock u.letting own)) own ≡ false
  unfolding becomes had
  told_lost x l = rw (has-without u.letting own own small, eq-eqb own own refl, letting_only u own x l, and-false (has u.letting own))

  -- a didv sent leaves the having of every other lock
  pub told_other : (lock : ℕ) → (lock ≡ own → ⊥) → had (becomes u c act u.held (without_lock u.letting own)) lock ≡ had u lock
  unfolding becomes had
  told_other lock other = rw (has-without u.letting own lock small, ne_eqb lock own other, and-true (has u.letting lock))

  -- a lock lost to a dov or released is being let go under multiring rules: it is still had
  pub moved_same : (m : ℕ) → multiring m ≡ true → has u.held own ≡ true → (lock : ℕ)
      → had (becomes u c act (without_lock u.held own) (let_go m u.letting own)) lock ≡ had u lock
  unfolding becomes had let_go
  moved_same m multi h lock =
      rw (multi, has-without u.held own lock small, has_with u.letting own lock small) (go (eqb lock own) refl)
    where
      go : (b : Bool) → eqb lock own ≡ b
          → ((has u.held lock && not b) || (has u.letting lock || b)) ≡ (has u.held lock || has u.letting lock)
      go true e = rw (and-false (has u.held lock), or-true (has u.letting lock), ap (has u.held) (eqb-true lock own e) ∙ h)
      go false e = rw (and-true (has u.held lock), or-false (has u.letting lock))

  -- under ring rules no lock is had anew then
  pub moved_fewer : (m : ℕ) → multiring m ≡ false → (lock : ℕ)
      → had (becomes u c act (without_lock u.held own) (let_go m u.letting own)) lock ≡ true → had u lock ≡ true
  unfolding becomes had let_go
  moved_fewer m ring lock h =
      go (has u.held lock) (has u.letting lock) (not (eqb lock own)) (rw (ring, has-without u.held own lock small) at h)
    where
      go : (a b z : Bool) → ((a && z) || b) ≡ true → (a || b) ≡ true
      go true b z e = refl
      go false true z e = refl
      go false false z e = e

  -- under ring rules a lock lost to a dov or released is had no longer
  pub moved_lost : (m : ℕ) → multiring m ≡ false → Apart u → has u.held own ≡ true
      → had (becomes u c act (without_lock u.held own) (let_go m u.letting own)) own ≡ false
  unfolding becomes had let_go
  moved_lost m ring x h = rw (ring, has-without u.held own own small, eq-eqb own own refl, x.words own h, and-false (has u.held own))

  -- and every other lock as before
  pub moved_other : (m : ℕ) → multiring m ≡ false → (lock : ℕ) → (lock ≡ own → ⊥)
      → had (becomes u c act (without_lock u.held own) (let_go m u.letting own)) lock ≡ had u lock
  unfolding becomes had let_go
  moved_other m ring lock other = rw (ring, has-without u.held own lock small, ne_eqb lock own other, and-true (has u.held lock))

  -- under both rules the words stay apart then
  pub moved_words : (m : ℕ) → Apart u → (lock : ℕ) → has (without_lock u.held own) lock ≡ true → has (let_go m u.letting own) lock ≡ false
  unfolding let_go
  moved_words m x lock h = go (multiring m) (eqb lock own) refl (rw (has-without u.held own lock small) at h)
    where
      not_it : (b : Bool) → not b ≡ true → b ≡ false
      not_it true e = sym e
      not_it false e = refl

      go : (m b : Bool) → eqb lock own ≡ b → (has u.held lock && not b) ≡ true → has (cond m (with_lock u.letting own) u.letting) lock ≡ false
      go true b e k =
          has_with u.letting own lock small
          ∙ rw (e, not_it b (and_right (has u.held lock) (not b) k), x.words lock (and_left (has u.held lock) (not b) k))
      go false b e k = x.words lock (and_left (has u.held lock) (not b) k)

  -- a node that is granted a lock that it did not have, and rests, keeps apart
  pub granted_apart : Apart u → had u own ≡ false → Apart (becomes u c Resting (with_lock u.held own) u.letting)
  unfolding becomes had
  granted_apart x free =
      record { words = λ lock h. go lock (eqb lock own) refl (rw (has_with u.held own lock small) at h); wish = λ lock w. absurd w }
    where
      go : (lock : ℕ) (b : Bool) → eqb lock own ≡ b → (has u.held lock || b) ≡ true → has u.letting lock ≡ false
      go lock true e k = ap (has u.letting) (eqb-true lock own e) ∙ or_right (has u.held own) (has u.letting own) free
      go lock false e k = x.words lock (or_first (has u.held lock) false k refl)

  -- a node that has sent a didv keeps apart
  pub told_apart : Apart u → has u.letting own ≡ true → Apart (becomes u c u.activity u.held (without_lock u.letting own))
  unfolding becomes had
  told_apart x l = record { words = λ lock h. words lock h; wish = λ lock w. wish lock (x.wish lock w) }
    where
      words : (lock : ℕ) → has u.held lock ≡ true → has (without_lock u.letting own) lock ≡ false
      words lock h = has-without u.letting own lock small ∙ rw (x.words lock h)

      wish : (lock : ℕ) → (has u.held lock || has u.letting lock) ≡ false → (has u.held lock || has (without_lock u.letting own) lock) ≡ false
      wish lock e =
          rw (
            has-without u.letting own lock small,
            or_left (has u.held lock) (has u.letting lock) e,
            or_right (has u.held lock) (has u.letting lock) e,
          )

-- a lock that is being let go is had
pub letting_had : (u : Node) (lock : ℕ) → has u.letting lock ≡ true → had u lock ≡ true
unfolding had
letting_had u lock l = or_by_second (has u.held lock) (has u.letting lock) l

-- a lock that is held is had
pub held_had : (u : Node) (lock : ℕ) → has u.held lock ≡ true → had u lock ≡ true
unfolding had
held_had u lock h = or_by_first (has u.held lock) (has u.letting lock) h
