-- A small sheet that can be checked with a pencil (README has it too): two runs with one lock.
use Rattle.std.specs.Prelude.{ℕ, ◌≡◌, List, [], ◌∷◌, ◌++◌, replicate}
use Rattle.sums.specs.Sheet.{making}
use Rattle.sums.specs.Text.{sheet_rows}

-- the row of a run with one lock: its steps, the lock's busy steps, grants and N events
unfoldable pub one_lock : ℕ → ℕ → ℕ → ℕ → List ℕ
one_lock steps busy grants failed =
    steps ∷ 1 ∷ ((busy ∷ replicate 63 0) ++ ((grants ∷ replicate 63 0) ++ (failed ∷ replicate 63 0)))

-- "9 H 0 1 1 0" and "9 E 1 0"; "20 H 0 13 1 1" and "20 E 1 1"
unfoldable pub two_runs : List ℕ
two_runs = one_lock 9 1 1 0 ++ one_lock 20 13 1 1

-- "0 14 2 1 482758": 1 + 13 busy steps, 1 + 1 grants, 0 + 1 N events, and 14 * 1000000 / (9 + 20) rounded down
abbrev pub ThePencilSheet : Type 0
ThePencilSheet =
    sheet_rows (making two_runs).sheet (making two_runs).sheet.locks
    ≡ 48 ∷ 32 ∷ 49 ∷ 52 ∷ 32 ∷ 50 ∷ 32 ∷ 49 ∷ 32 ∷ 52 ∷ 56 ∷ 50 ∷ 55 ∷ 53 ∷ 56 ∷ 10 ∷ []
