-- Busy steps, counted by a file's items and the states that they lead to, and not by the run's own tally (crate tally). 02, item 1: "A lock is busy after
-- a step if some node holds it or is letting it go"; before it was busy if "some node holds it".
use Rattle.std.specs.Prelude.{ℕ, zero, suc, ◌+◌, Bool, true, false, cond, List, [], ◌∷◌, ◌++◌, eqb, get_or, Option, Some, None, is_some, ◌≡◌}
use Rattle.lists.specs.Loops.{some}
use Rattle.words.specs.Words.{has}
use Rattle.plan.specs.Plan.{node_count}
use Rattle.usernode.specs.Node.{had}
use Rattle.ring.specs.declared.State.{State}
use Rattle.ring.specs.State.{rest_node, start_of}
use Rattle.wording.specs.declared.Line.{Line}
use Rattle.wording.specs.Wording.{text, lock_says}
use Rattle.course.specs.declared.Run.{Run}
use Rattle.course.specs.Whole.{Said}
use Rattle.onelock.specs.OneLock.{Item, step, act, after_item, Lock, free, held_by, broken}
use Rattle.nightlock.specs.NightLock.{plan_in, items_in}

-- "some node holds it or is letting it go"
unfoldable pub some_has : ℕ → State → Bool
some_has lock state = some (λ place. had (get_or state.nodes place rest_node) lock) (node_count state.plan)

-- "some node holds it"
unfoldable pub some_holds : ℕ → State → Bool
some_holds lock state = some (λ place. has (get_or state.nodes place rest_node).held lock) (node_count state.plan)

-- of the first so many steps among the items, those after which it is so of the state
unfoldable pub steps_after_which : (State → Bool) → ℕ → List Item → State → ℕ
steps_after_which so steps [] state = 0
steps_after_which so zero (step ∷ items) state = 0
steps_after_which so (suc steps) (step ∷ items) state =
    cond (so (after_item step state)) 1 0 + steps_after_which so steps items (after_item step state)
steps_after_which so steps (act action node lock ∷ items) state = steps_after_which so steps items (after_item (act action node lock) state)

-- of the first so many steps of a file, those after which it is so of a lock
unfoldable pub file_steps : (ℕ → State → Bool) → List ℕ → ℕ → ℕ → ℕ
file_steps so file steps lock = steps_after_which (so lock) steps (items_in file) (start_of (plan_in file))

-- the third and the fourth number of a line, 0 and 0 where it has two numbers
unfoldable pub third_and_fourth : Option (ℕ × ℕ) → ℕ × ℕ
third_and_fourth None = (0, 0)
third_and_fourth (Some more) = more

-- an H line with its busy steps by another count, of the steps done and the lock that it names, and with four numbers whatever the line had; every other
-- line as it is
unfoldable pub recounted : (ℕ → ℕ → ℕ) → Line → Line
recounted count line =
    cond (eqb line.letter 72)
    (lock_says line.steps line.first (count line.steps line.first) (third_and_fourth line.more).0 (third_and_fourth line.more).1) line

-- so an H line counted anew has four numbers, also one that was made up with two
abbrev pub CountedAnewItHasFour : Type 0
CountedAnewItHasFour = (count : ℕ → ℕ → ℕ) (line : Line) → line.letter ≡ 72 → is_some (recounted count line).more ≡ true

-- the lines so, as they are written
unfoldable pub text_by : (ℕ → ℕ → ℕ) → List Said → List ℕ
text_by count [] = []
text_by count (said ∷ rest) = text (recounted count said.line) ++ text_by count rest

-- whether a plain lock has a holder
unfoldable pub is_held : Lock → Bool
is_held free = false
is_held (held_by node) = true
is_held broken = false

-- a run with other busy counts
unfoldable pub with_busy : List ℕ → Run → Run
with_busy counts run =
    record {
      reached = record {
        state = run.reached.state;
        tally = record { busy = counts; grants = run.reached.tally.grants; failed = run.reached.tally.failed };
        steps = run.reached.steps;
      };
      at = run.at;
      left = run.left;
      events = run.events;
      next = run.next;
      phase = run.phase;
      over = run.over;
    }
