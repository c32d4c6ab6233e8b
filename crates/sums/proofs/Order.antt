-- Two runs change places, as far as they are read: the same number is told, and the same sheet.
use Prim.Native.Nat.{ℕ, ◌+◌, ◌*◌, ◌/◌, ◌%◌, ◌≤◌, ◌<◌}
use mathlib.Core.Path.{◌≡◌, refl, sym, ap, ap₂, ◌∙◌}
use mathlib.Core.Bool.{Bool, true, false, cond, not, ◌&&◌, true≢false}
use mathlib.Core.List.{List, [], ◌∷◌}
use mathlib.Core.Logic.{⊎_elim}
use native.Mathlib.Omega.{arith}
use lib.Dec.{eqb, ltb, leb}
use lib.ListN.{length}
use borrow.Author.Tests.{eqb-true, ne_eqb}
use Rattle.lists.specs.Loops.{every, total}
use Rattle.lists.specs.Refusal.{refused_if}
use Rattle.lists.proofs.Laws.{and_left, and_right, every-at, every_same}
use Rattle.lists.proofs.Tests.{and_both, at_most_or_above}
use Rattle.lists.proofs.Exchanged.{Exchanged, total_exchanged, each_exchanged, every_exchanged, both_ways}
use Rattle.sums.specs.declared.Sheet.{Sheet}
use Rattle.sums.specs.Sheet.{run_width, steps_place, locks_place, busy_place, grants_place, failed_place, run_count, number_at, sheet_locks, too_many_runs, locks_alike, locks_right, lock_in_range, run_in_range, runs_in_range, sheet_number, over_runs, share_of, lock_row, rows_of, sheet_of, empty_sheet, making}
use Rattle.sums.specs.Theorems.{SameRun, ChangedPlaces, Reordered}
use Rattle.sums.specs.Theorems.Reordered.{same, changed, then}
use Rattle.sums.proofs.Laws.{rows_same}
use Rattle.sums.proofs.Ranges.{locks_few, run_locks}
use Rattle.sums.proofs.Accepted.{tests}

-- the change the other way round
same_back : (one other : List ℕ) (i j : ℕ) → SameRun one i other j → SameRun other j one i
same_back one other i j s =
    record {
      steps = sym s.steps;
      locks = sym s.locks;
      busy = λ lock below room. sym (s.busy lock (omega (arith, s.locks)) room);
      grants = λ lock below room. sym (s.grants lock (omega (arith, s.locks)) room);
      failed = λ lock below room. sym (s.failed lock (omega (arith, s.locks)) room);
    }

count_same : (one other : List ℕ) → length one ≡ length other → run_count one ≡ run_count other
unfolding run_count
count_same one other e = ap (λ (n : ℕ). n / run_width) e

changed_back : (one other : List ℕ) → ChangedPlaces one other → ChangedPlaces other one
changed_back one other x =
    let count = count_same one other x.long in
    record {
      long = sym x.long;
      i = x.i;
      j = x.j;
      i_below = omega (arith, x.i_below, count);
      j_below = omega (arith, x.j_below, count);
      there = same_back one other x.j x.i x.back;
      back = same_back one other x.i x.j x.there;
      others = λ run below p q. same_back one other run run (x.others run (omega (arith, below, count)) p q);
    }

-- a lock count is 1 to 64, and this one
abbrev right : ℕ → ℕ → Bool
right these locks = ltb 0 locks && leb locks 64 && eqb locks these

module _ (one other : List ℕ) (x : ChangedPlaces one other) where
  count : run_count one ≡ run_count other
  count = count_same one other x.long

  -- what is read of a run changes places with it
  read_of : {A : Type 0} (f g : ℕ → A) → ((a b : ℕ) → a < run_count one → SameRun one a other b → f a ≡ g b) → Exchanged f g (run_count one) x.i x.j
  read_of f g read =
      record {
        i_below = x.i_below;
        j_below = x.j_below;
        there = read x.i x.j x.i_below x.there;
        back = read x.j x.i x.j_below x.back;
        others = λ run below p q. read run run below (x.others run below p q);
      }

  -- the locks are right there where they are right here, and the same
  alike_here : locks_right one ≡ true → every (locks_alike one) (run_count one) ≡ true
  unfolding locks_right
  alike_here e = and_right (eqb (length one % 194) 0) (every (locks_alike one) (run_count one)) e

  each_right : locks_right one ≡ true → every (λ run. right (sheet_locks one) (number_at other locks_place run)) (run_count one) ≡ true
  unfolding locks_alike
  each_right e =
      each_exchanged
      (λ run. right (sheet_locks one) (number_at one locks_place run))
      (λ run. right (sheet_locks one) (number_at other locks_place run))
      (run_count one)
      x.i
      x.j
      (read_of
      (λ run. right (sheet_locks one) (number_at one locks_place run))
      (λ run. right (sheet_locks one) (number_at other locks_place run))
      (λ a b below s. ap (right (sheet_locks one)) s.locks))
      (alike_here e)

  locks_same : locks_right one ≡ true → sheet_locks other ≡ sheet_locks one
  unfolding sheet_locks
  locks_same e =
      let locks = number_at other locks_place 0 in
      let first = every-at (λ run. right (sheet_locks one) (number_at other locks_place run)) (run_count one) 0 (each_right e) (omega (arith, x.i_below)) in
      eqb-true _ _ (and_right (ltb 0 locks && leb locks 64) (eqb locks (sheet_locks one)) first)

  locks_there : locks_right one ≡ true → locks_right other ≡ true
  unfolding locks_right locks_alike
  locks_there e =
      and_both
      (ap (λ (n : ℕ). eqb (n % 194) 0) (sym x.long) ∙ and_left (eqb (length one % 194) 0) (every (locks_alike one) (run_count one)) e)
      (ap (every (locks_alike other)) (sym count)
      ∙ ap (λ (these : ℕ). every (λ run. right these (number_at other locks_place run)) (run_count one)) (locks_same e)
      ∙ each_right e)

-- of right locks, each of the sheet's is a lock of each run
module _ (one : List ℕ) (e : locks_right one ≡ true) (lock : ℕ) (below : lock < sheet_locks one) where
  room : lock < 64
  room = omega (arith, locks_few one e)

  in_run : (run : ℕ) → run < run_count one → lock < number_at one locks_place run
  in_run run l = omega (arith, run_locks one run e l)

-- so that the sums stay as they are
module _ (one other : List ℕ) (x : ChangedPlaces one other) where
  sum_same : (place : ℕ) → ((a b : ℕ) → a < run_count one → SameRun one a other b → number_at one place a ≡ number_at other place b)
      → over_runs one place ≡ over_runs other place
  unfolding over_runs
  sum_same place read =
      total_exchanged (number_at one place) (number_at other place) (run_count one) x.i x.j (read_of one other x (number_at one place) (number_at other place) read)
      ∙ ap (total (number_at other place)) (count one other x)

  steps_same : over_runs one steps_place ≡ over_runs other steps_place
  steps_same = sum_same steps_place (λ a b l s. s.steps)

module _ (one other : List ℕ) (x : ChangedPlaces one other) (e : locks_right one ≡ true) (lock : ℕ) (below : lock < sheet_locks one) where
  busy_same : over_runs one (busy_place + lock) ≡ over_runs other (busy_place + lock)
  busy_same = sum_same one other x (busy_place + lock) (λ a b l s. s.busy lock (in_run one e lock below a l) (room one e lock below))

  grants_same : over_runs one (grants_place + lock) ≡ over_runs other (grants_place + lock)
  grants_same = sum_same one other x (grants_place + lock) (λ a b l s. s.grants lock (in_run one e lock below a l) (room one e lock below))

  failed_same : over_runs one (failed_place + lock) ≡ over_runs other (failed_place + lock)
  failed_same = sum_same one other x (failed_place + lock) (λ a b l s. s.failed lock (in_run one e lock below a l) (room one e lock below))

-- a run in range here is in range there
lock_same : (one other : List ℕ) (i j lock : ℕ) → SameRun one i other j → lock < number_at one locks_place i → lock < 64
    → lock_in_range one i lock ≡ lock_in_range other j lock
unfolding lock_in_range
lock_same one other i j lock s below room =
    let steps = s.steps in
    let busy = s.busy lock below room in
    let grants = s.grants lock below room in
    let failed = s.failed lock below room in
    λ k. leb (busy k) (steps k) && leb (grants k) (64 * steps k) && leb (failed k) (64 * steps k)

run_same : (one other : List ℕ) (i j : ℕ) → locks_right one ≡ true → sheet_locks other ≡ sheet_locks one → i < run_count one → SameRun one i other j
    → run_in_range one i ≡ run_in_range other j
unfolding run_in_range
run_same one other i j e locks l s =
    ap₂ (λ (a b : Bool). a && b)
    (ap (λ (n : ℕ). leb n 1000000) s.steps)
    (every_same (lock_in_range one i) (lock_in_range other j) (sheet_locks one)
    (λ lock below. lock_same one other i j lock s (in_run one e lock below i l) (room one e lock below))
    ∙ ap (every (lock_in_range other j)) (sym locks))

-- where the third test counts, it is the same
numbers_same : (many these : Bool) (range other : Bool) → (these ≡ true → range ≡ other)
    → refused_if many 24 (refused_if (not these) 25 (refused_if (not range) 26 0)) ≡ refused_if many 24 (refused_if (not these) 25 (refused_if (not other) 26 0))
unfolding refused_if
numbers_same many true range other e = ap (λ (b : Bool). cond many 24 (cond (not b) 26 0)) (e refl)
numbers_same many false range other e = refl

-- where the first of two values counts, it is the same
first_same : (b : Bool) (x y z : Sheet) → (b ≡ true → x ≡ y) → cond b x z ≡ cond b y z
first_same true x y z e = e refl
first_same false x y z e = refl

-- so the same is told, if what counts is the same: the third test where the second holds, the sheet where nothing is refused
module _ (one other : List ℕ) (long : length one ≡ length other) (rights : locks_right one ≡ locks_right other)
    (ranges : locks_right one ≡ true → runs_in_range one ≡ runs_in_range other) where
  number_same : sheet_number one ≡ sheet_number other
  unfolding sheet_number too_many_runs
  number_same =
      numbers_same (too_many_runs one) (locks_right one) (runs_in_range one) (runs_in_range other) ranges
      ∙ (λ i. refused_if (ltb 77600 (long i)) 24 (refused_if (not (rights i)) 25 (refused_if (not (runs_in_range other)) 26 0)))

  told_same : (locks_right one ≡ true → sheet_of one ≡ sheet_of other) → making one ≡ making other
  unfolding making
  told_same sheet =
      let sheets : cond (eqb (sheet_number one) 0) (sheet_of one) empty_sheet ≡ cond (eqb (sheet_number other) 0) (sheet_of other) empty_sheet =
      first_same (eqb (sheet_number one) 0) (sheet_of one) (sheet_of other) empty_sheet (λ e. sheet (tests one (eqb-true (sheet_number one) 0 e)).locks_right_lem)
      ∙ ap (λ (n : ℕ). cond (eqb n 0) (sheet_of other) empty_sheet) number_same in
      λ i. record { number = number_same i; sheet = sheets i }

-- ---- two runs changed places

module _ (one other : List ℕ) (x : ChangedPlaces one other) where
  right_same : locks_right one ≡ locks_right other
  right_same = both_ways (locks_right one) (locks_right other) (locks_there one other x) (locks_there other one (changed_back one other x))

  range_same : locks_right one ≡ true → runs_in_range one ≡ runs_in_range other
  unfolding runs_in_range
  range_same e =
      every_exchanged (run_in_range one) (run_in_range other) (run_count one) x.i x.j
      (read_of one other x (run_in_range one) (run_in_range other) (λ a b below s. run_same one other a b e (locks_same one other x e) below s))
      ∙ ap (every (run_in_range other)) (count one other x)

  -- the same sheet is made
  row_same : locks_right one ≡ true → (lock : ℕ) → lock < sheet_locks one → lock_row one lock ≡ lock_row other lock
  unfolding lock_row
  row_same e lock below =
      let busy = busy_same one other x e lock below in
      let grants = grants_same one other x e lock below in
      let failed = failed_same one other x e lock below in
      λ i. record { busy = busy i; grants = grants i; failed = failed i; share = share_of (busy i) (steps_same one other x i) }

  sheet_same : locks_right one ≡ true → sheet_of one ≡ sheet_of other
  unfolding sheet_of
  sheet_same e =
      let locks = sym (locks_same one other x e) in
      let rows = rows_same (lock_row one) (lock_row other) (sheet_locks one) (row_same e) in
      λ i. record { locks = locks i; rows = (rows ∙ ap (rows_of (lock_row other)) locks) i }

  changed_same : making one ≡ making other
  changed_same = told_same one other x.long right_same range_same sheet_same

-- any change of the order
pub reordered_same : {one other : List ℕ} → Reordered one other → making one ≡ making other
reordered_same same = refl
reordered_same (changed {one} {other} x) = changed_same one other x
reordered_same (then p q) = reordered_same p ∙ reordered_same q

-- ---- each run is the same as far as it is read

-- no number, the same input
none_same : (one other : List ℕ) → length one ≡ 0 → length other ≡ 0 → one ≡ other
none_same [] [] p q = refl
none_same [] (n ∷ other) p q = absurd (omega (arith, q))
none_same (n ∷ one) other p q = absurd (omega (arith, p))

-- a rest alone is refused with 25
rest_wrong : (numbers : List ℕ) → 0 < length numbers → run_count numbers ≤ 0 → locks_right numbers ≡ false
unfolding locks_right run_count
rest_wrong numbers some none = simp (ne_eqb (length numbers % 194) 0 (λ e. omega (arith, e, some, none)))

-- without a whole row there is nothing, or a rest
no_row : (one other : List ℕ) → length one ≡ length other → run_count one ≤ 0 → making one ≡ making other
no_row one other long none =
    ⊎_elim
    (λ short. ap making (none_same one other (omega (arith, short)) (omega (arith, short, long))))
    (λ some. let wrong = rest_wrong one some none in
    told_same one other long (wrong ∙ sym (rest_wrong other (omega (arith, some, long)) (omega (arith, none, count_same one other long))))
    (λ e. absurd (true≢false (sym e ∙ wrong))) (λ e. absurd (true≢false (sym e ∙ wrong))))
    (at_most_or_above (length one) 0)

-- else the first run changes places with itself
pub nothing_else : (one other : List ℕ) → length one ≡ length other → ((run : ℕ) → run < run_count one → SameRun one run other run) → making one ≡ making other
nothing_else one other long each =
    ⊎_elim
    (no_row one other long)
    (λ some. changed_same one other (record {
      long = long;
      i = 0;
      j = 0;
      i_below = some;
      j_below = some;
      there = each 0 some;
      back = each 0 some;
      others = λ run below p q. each run below;
    }))
    (at_most_or_above (run_count one) 0)
