-- The places of the rows that an H line and a last line change, and those that they leave.
use Prim.Native.Nat.{ℕ, ◌+◌, ◌*◌, ◌≤◌, ◌<◌}
use mathlib.Core.Path.{◌≡◌, refl, sym, subst, ◌∙◌}
use mathlib.Core.Bool.{Bool, cond, ◌&&◌}
use mathlib.Core.List.{List}
use native.Mathlib.Omega.{arith}
use lib.Dec.{ltb}
use lib.ListN.{length, get_or}
use lib.Seq.{get_or-set_same, get_or-set_other}
use borrow.Author.Tests.{lt-ltb, ltb-true}
use Rattle.lists.proofs.Laws.{and_right}
use Rattle.lists.proofs.Tests.{by_test, and_both}
use Rattle.sums.specs.Sheet.{number_at}
use Rattle.gather.specs.Gathering.{put, lock_rows, last_rows}
use Rattle.gather.proofs.Laws.{put_long}

-- ---- one number

put_kept : (run place number : ℕ) (rows : List ℕ) (j : ℕ) → (j ≡ run * 194 + place → ⊥) → get_or (put run place number rows) j 0 ≡ get_or rows j 0
unfolding put
put_kept run place number rows j apart = get_or-set_other rows (run * 194 + place) j number 0 apart

put_here : (run place number : ℕ) (rows : List ℕ) → run < 401 → place < 194 → length rows ≡ 401 * 194 → number_at (put run place number rows) place run ≡ number
unfolding put number_at
put_here run place number rows a b long = get_or-set_same rows (run * 194 + place) number 0 (omega (arith, a, b, long))

-- another place of the row
put_other : (run place number : ℕ) (rows : List ℕ) (other : ℕ) → (other ≡ place → ⊥) → number_at (put run place number rows) other run ≡ number_at rows other run
unfolding number_at
put_other run place number rows other apart = put_kept run place number rows (run * 194 + other) (λ e. apart (omega (arith, e)))

-- ---- an H line

-- the numbers of a lock's line at their places
pub record LockAt (rows : List ℕ) (run lock : ℕ) (numbers : List ℕ) : Type 0 where
  pub busy : number_at rows (2 + lock) run ≡ get_or numbers 1 0
  pub grants : number_at rows (66 + lock) run ≡ get_or numbers 2 0
  pub failed : number_at rows (130 + lock) run ≡ get_or numbers 3 0

pub lock_here : (numbers : List ℕ) (run lock : ℕ) (rows : List ℕ) → run < 401 → lock < 64 → length rows ≡ 401 * 194
    → LockAt (lock_rows numbers run lock rows) run lock numbers
unfolding lock_rows
lock_here numbers run lock rows a b long =
    let one : List ℕ = put run (2 + lock) (get_or numbers 1 0) rows in
    let two : List ℕ = put run (66 + lock) (get_or numbers 2 0) one in
    let three : List ℕ = put run (130 + lock) (get_or numbers 3 0) two in
    let one_long : length one ≡ 401 * 194 = put_long run (2 + lock) (get_or numbers 1 0) rows ∙ long in
    let two_long : length two ≡ 401 * 194 = put_long run (66 + lock) (get_or numbers 2 0) one ∙ one_long in
    let told : LockAt three run lock numbers =
    record {
      busy = put_other run (130 + lock) (get_or numbers 3 0) two (2 + lock) (λ e. omega (arith, e))
          ∙ put_other run (66 + lock) (get_or numbers 2 0) one (2 + lock) (λ e. omega (arith, e))
          ∙ put_here run (2 + lock) (get_or numbers 1 0) rows a (omega (arith, b)) long;
      grants = put_other run (130 + lock) (get_or numbers 3 0) two (66 + lock) (λ e. omega (arith, e))
          ∙ put_here run (66 + lock) (get_or numbers 2 0) one a (omega (arith, b)) one_long;
      failed = put_here run (130 + lock) (get_or numbers 3 0) two a (omega (arith, b)) two_long;
    } in
    subst (λ (t : Bool). LockAt (cond t three rows) run lock numbers) (sym (and_both (lt-ltb run 401 a) (lt-ltb lock 64 b))) told

-- the places of the rows of earlier runs, and of the locks before this one
pub data Settled (run lock j : ℕ) : Type 0 where
  low : j < run * 194 + (2 + lock) → Settled run lock j
  middle : run * 194 + 66 ≤ j → j < run * 194 + (66 + lock) → Settled run lock j
  high : run * 194 + 130 ≤ j → j < run * 194 + (130 + lock) → Settled run lock j

-- a lock's line leaves them
pub lock_kept : (numbers : List ℕ) (run lock : ℕ) (rows : List ℕ) (j : ℕ) → Settled run lock j → get_or (lock_rows numbers run lock rows) j 0 ≡ get_or rows j 0
unfolding lock_rows
lock_kept numbers run lock rows j settled =
    by_test (λ (l : List ℕ). get_or l j 0 ≡ get_or rows j 0) (ltb run 401 && ltb lock 64)
    (λ e.
    let below : lock < 64 = ltb-true lock 64 (and_right (ltb run 401) (ltb lock 64) e) in
    put_kept run (130 + lock) (get_or numbers 3 0) (put run (66 + lock) (get_or numbers 2 0) (put run (2 + lock) (get_or numbers 1 0) rows)) j (not_failed below settled)
    ∙ put_kept run (66 + lock) (get_or numbers 2 0) (put run (2 + lock) (get_or numbers 1 0) rows) j (not_grants below settled)
    ∙ put_kept run (2 + lock) (get_or numbers 1 0) rows j (not-busy below settled))
    (λ e. refl)
  where
    not-busy : lock < 64 → Settled run lock j → j ≡ run * 194 + (2 + lock) → ⊥
    not-busy below (low a) e = omega (arith, below, a, e)
    not-busy below (middle a b) e = omega (arith, below, a, b, e)
    not-busy below (high a b) e = omega (arith, below, a, b, e)

    not_grants : lock < 64 → Settled run lock j → j ≡ run * 194 + (66 + lock) → ⊥
    not_grants below (low a) e = omega (arith, below, a, e)
    not_grants below (middle a b) e = omega (arith, below, a, b, e)
    not_grants below (high a b) e = omega (arith, below, a, b, e)

    not_failed : lock < 64 → Settled run lock j → j ≡ run * 194 + (130 + lock) → ⊥
    not_failed below (low a) e = omega (arith, below, a, e)
    not_failed below (middle a b) e = omega (arith, below, a, b, e)
    not_failed below (high a b) e = omega (arith, below, a, b, e)

pub settled_more : {run lock j : ℕ} → Settled run lock j → Settled run (lock + 1) j
settled_more (low a) = low (omega (arith, a))
settled_more (middle a b) = middle a (omega (arith, b))
settled_more (high a b) = high a (omega (arith, b))

-- a lock's numbers are left where the places up to it are
pub lock_stays : (rows after : List ℕ) (run lock : ℕ) (numbers : List ℕ)
    → ((j : ℕ) → Settled run (lock + 1) j → get_or after j 0 ≡ get_or rows j 0) → LockAt rows run lock numbers → LockAt after run lock numbers
unfolding number_at
lock_stays rows after run lock numbers kept told =
    record {
      busy = kept (run * 194 + (2 + lock)) (low (omega arith)) ∙ told.busy;
      grants = kept (run * 194 + (66 + lock)) (middle (omega arith) (omega arith)) ∙ told.grants;
      failed = kept (run * 194 + (130 + lock)) (high (omega arith) (omega arith)) ∙ told.failed;
    }

-- ---- a last line

pub last_kept : (steps run locks : ℕ) (rows : List ℕ) (j : ℕ) → (j ≡ run * 194 + 0 → ⊥) → (j ≡ run * 194 + 1 → ⊥)
    → get_or (last_rows steps run locks rows) j 0 ≡ get_or rows j 0
unfolding last_rows
last_kept steps run locks rows j a b =
    by_test (λ (l : List ℕ). get_or l j 0 ≡ get_or rows j 0) (ltb run 401)
    (λ e. put_kept run 1 locks (put run 0 steps rows) j b ∙ put_kept run 0 steps rows j a)
    (λ e. refl)

pub record LastAt (rows : List ℕ) (run steps locks : ℕ) : Type 0 where
  pub steps_there : number_at rows 0 run ≡ steps
  pub locks_there : number_at rows 1 run ≡ locks

pub last_here : (steps run locks : ℕ) (rows : List ℕ) → run < 401 → length rows ≡ 401 * 194 → LastAt (last_rows steps run locks rows) run steps locks
unfolding last_rows
last_here steps run locks rows a long =
    let told : LastAt (put run 1 locks (put run 0 steps rows)) run steps locks =
    record {
      steps_there = put_other run 1 locks (put run 0 steps rows) 0 (λ e. omega (arith, e)) ∙ put_here run 0 steps rows a (omega arith) long;
      locks_there = put_here run 1 locks (put run 0 steps rows) a (omega arith) (put_long run 0 steps rows ∙ long);
    } in
    subst (λ (t : Bool). LastAt (cond t (put run 1 locks (put run 0 steps rows)) rows) run steps locks) (sym (lt-ltb run 401 a)) told
