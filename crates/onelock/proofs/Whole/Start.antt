-- The ring at the start fits: nothing is asked, held or sent but the token, and the train is still to come everywhere.
use Prim.Native.Nat.{ℕ, suc, ◌+◌, ◌≤◌}
use mathlib.Core.Path.{◌≡◌, refl, sym, ◌∙◌, subst}
use mathlib.Core.Bool.{Bool, true, false, true≢false}
use mathlib.Core.Logic.{◌⊎◌, inl}
use mathlib.Core.List.{List, [], ◌∷◌, ◌++◌, append-nil}
use native.Mathlib.Omega.{arith}
use Rattle.words.proofs.Sets.{has_none}
use Rattle.cars.specs.Cars.{multiring}
use Rattle.cars.specs.declared.Car.TheVariants.{Token}
use Rattle.usernode.specs.declared.Node.{Node}
use Rattle.usernode.specs.Node.{had}
use Rattle.ring.specs.State.{rest_node, rest_junction}
use Rattle.onelock.proofs.Train.Cells.{Cell, cell, gate, Bare, Apart}
use Rattle.onelock.proofs.Train.Invariant.{Ok, Up, Rises, r_cell, r_nil, Exact, Words, Inv}
use Rattle.onelock.proofs.Train.CellLaws.{all_join, all_bare, fold_bare, words_alike}
use Rattle.onelock.proofs.Train.HomeLaws.{rises_before}
use Rattle.onelock.proofs.Line.Ring.{Line, end, user, junction, size}
use Rattle.onelock.proofs.Line.Numbers.{Users, Agrees, Parts}
use Rattle.onelock.proofs.Line.Phases.{before, alone, coming}
use Rattle.onelock.proofs.Line.Fit.{Fit, f_end, f_user, f_past}
use Rattle.onelock.proofs.Line.FitLaws.{none_train, gap_clean}
use Rattle.onelock.proofs.Whole.Step.{Whole}
use Rattle.onelock.proofs.Whole.Zero.{token_out}

-- a line at the start: nothing is asked, held or sent
abbrev pub Fresh : Line → Type 0
Fresh = Parts (λ u. u ≡ rest_node) (λ j. j ≡ rest_junction)

-- the nodes at the start
abbrev resting : ℕ → Node
resting i = rest_node

-- a node at rest has no lock
pub rest_none : (lock : ℕ) → had rest_node lock ≡ false
unfolding had rest_node
rest_none lock = rw (has_none lock)

-- so none of them has a lock
rest_had : (k lock : ℕ) → had (resting k) lock ≡ true → ⊥
rest_had k lock h = true≢false (sym h ∙ rest_none lock)

-- a node at rest keeps apart
rest_apart : Apart rest_node
unfolding rest_node
rest_apart = record { words = λ lock h. has_none lock; wish = λ lock n. absurd n }

-- such nodes agree with a line at the start
fresh_agrees : (k : ℕ) (l : Line) → Fresh l → Agrees resting k l
fresh_agrees k end x = tt
fresh_agrees k (user u r) x = (sym x.0, fresh_agrees (suc k) r x.1)
fresh_agrees k (junction j s r) x = (fresh_agrees k s x.1, fresh_agrees (k + size s) r x.2)

-- an empty word at a gate is exact: no node has a lock, and no notice is behind it
empty_exact : (lo hi : ℕ) (H : List Cell) → Bare H → Exact resting lo hi 0 H
empty_exact lo hi H b =
    record {
      to = λ lock e. absurd (true≢false (sym e ∙ fold_bare H lo hi lock _ b ∙ has_none lock));
      from = λ lock k l h e. absurd (rest_had k lock e);
    }

-- words behind gates without cars
words_behind : (A : ℕ → Node) (G Y : List Cell) → Bare Y → Words A Y → Words A G → Words A (G ++ Y)
words_behind A G Y b y g =
    words_alike A G [] Y (λ lo hi lock z. fold_bare Y lo hi lock z b) (λ w. y) (subst (Words A) (sym (append-nil G)) g)

-- a line at the start fits where the train is still to come; its gates' words are exact
record Still (k : ℕ) (l : Line) : Type 0 where
  front : List Cell
  fit : (w : Bool) (lo hi : ℕ) → Fit w lo hi before k l before front
  bare : Bare front
  words : Words resting front

-- every line at the start is so
still : (k : ℕ) (l : Line) → Fresh l → Still k l
unfolding rest_node rest_junction
still k end x = record { front = []; fit = λ w lo hi. f_end; bare = tt; words = tt }
still k (user u r) x =
    let on = still (suc k) r x.1 in
    subst (λ v. Still k (user v r)) (sym x.0)
    (record {
      front = on.front ++ [];
      fit = λ w lo hi. f_user coming (gap_clean lo hi before rest_node.car refl) (on.fit w lo hi);
      bare = all_join (λ p c. ⊥) on.front [] on.bare tt;
      words = words_behind resting on.front [] tt tt on.words;
    })
still k (junction j s r) x =
    let sub = still k s x.1 in
    let on = still (k + size s) r x.2 in
    subst (λ i. Still k (junction i s r)) (sym x.0)
    (record {
      front = on.front ++ (gate k (k + size s) 0 ∷ sub.front);
      fit = λ w lo hi. f_past refl (none_train w) coming (gap_clean k (k + size s) before rest_junction.subring refl) (sub.fit true k (k + size s))
          (λ e. absurd (true≢false (cc))) coming (gap_clean lo hi before rest_junction.main refl) (on.fit w lo hi);
      bare = all_join (λ p c. ⊥) on.front _ on.bare sub.bare;
      words =
          words_behind resting on.front (gate k (k + size s) 0 ∷ sub.front) sub.bare
          (empty_exact k (k + size s) sub.front sub.bare, sub.words)
          on.words;
    })

module _ (m n : ℕ) where
  -- the token alone is on its way
  token_ok : Ok n resting 0 0 Token
  token_ok =
      record {
        rear = omega arith;
        top = omega arith;
        low = λ act s r. absurd (true≢false (cc));
        high = λ act s r. absurd (true≢false (cc));
        waits = λ act s r. absurd (true≢false (cc));
        way = λ t r. absurd (true≢false (cc));
        note = omega arith;
      }

  -- homes rise: the token is no request
  token_rises : Rises n 0 (cell 0 Token ∷ []) (n + 0)
  token_rises =
      let below : 0 ≤ n + 0 = omega arith in
      let up : Up n 0 0 Token 0 =
      record { on = omega arith; over = λ act s r. absurd (true≢false (cc)); under = λ act s r. absurd (true≢false (cc)) } in
      r_cell 0 up (r_nil below)

  -- the invariant holds of the token behind all gates
  start_inv : (G : List Cell) → Bare G → Words resting G → Inv n 0 (G ++ (cell 0 Token ∷ [])) resting
  start_inv G b w =
      record {
        all = all_join (Ok n resting 0) G (cell 0 Token ∷ []) (all_bare (Ok n resting 0) G b) (token_ok, tt);
        order = rises_before n G (cell 0 Token ∷ []) b token_rises;
        low = λ k lock h. absurd (rest_had k lock h);
        high = λ k lock h. absurd (rest_had k lock h);
        apart = λ k. rest_apart;
        one = λ lock i k h g. absurd (rest_had i lock h);
        did = λ lock. inl (all_join _ G (cell 0 Token ∷ []) (all_bare _ G b) (λ x r e. true≢false (cc), tt));
        words = words_alike resting G [] (cell 0 Token ∷ []) (λ lo hi lock z. refl) (λ v. tt) (subst (Words resting) (sym (append-nil G)) w);
      }

  -- the whole ring fits at the start
  pub whole_start : (l : Line) → Fresh l → size l ≡ n → (multiring m ≡ true) ⊎ Users l → Whole m n Token [] l
  whole_start l fresh total mode =
      let x = still 0 l fresh in
      record {
        tail = [];
        rest = [];
        split = refl;
        asking = tt;
        flag = true;
        first = before;
        sent = alone;
        last = before;
        front = x.front;
        fit = x.fit false 0 n;
        ends = token_out;
        ring = record { nodes = resting; agrees = fresh_agrees 0 l fresh; total = total; mode = mode };
        rear = 0;
        inv = start_inv x.front x.bare x.words;
      }
