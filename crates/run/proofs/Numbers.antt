-- A line has at most four numbers.
use Rattle.std.specs.Prelude.{Option, Some, None}
use Prim.Native.Nat.{ℕ, ◌≤◌}
use mathlib.Core.List.{◌∷◌}
use lib.Dec.{lit≤}
use lib.ListN.{length}
use Rattle.wording.specs.declared.Line.{Line}
use Rattle.wording.specs.Wording.{more_of, numbers_of}

pub numbers_four : (l : Line) → length (numbers_of l) ≤ 4
unfolding numbers_of more_of
numbers_four l = go l.more
  where
    go : (more : Option (ℕ × ℕ)) → length (l.first ∷ l.second ∷ more_of more) ≤ 4
    go None = lit≤ tt
    go (Some more) = lit≤ tt
