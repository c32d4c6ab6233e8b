-- 01, "The run and its lines": the words of each line. "Each line: steps done, letter, two numbers"; 02, item 13: "Each H line must end with
-- two more numbers".
use Rattle.std.specs.Prelude.{ℕ, ◌+◌, Bool, cond, List, [], ◌∷◌, Option, Some, None}
use Rattle.acts.specs.declared.Action.{Action}
use Rattle.acts.specs.declared.Action.TheVariants.{Take, Release, Force}
use Rattle.turns.specs.declared.Event.{Event}
use Rattle.turns.specs.Turn.{event_letter, event_lock}
use Rattle.lines.specs.Line.{line}
use Rattle.wording.specs.declared.Line.{Line}

-- the line with this letter and these two numbers, after so many steps
unfoldable pub line_of : ℕ → ℕ → ℕ → ℕ → Line
line_of steps letter first second =
    record { steps = steps; letter = letter; first = first; second = second; more = None }

-- the numbers that a long line has more
unfoldable pub more_of : Option (ℕ × ℕ) → List ℕ
more_of None = []
more_of (Some more) = more.0 ∷ more.1 ∷ []

-- a line's numbers in order: two, or four of a long one
unfoldable pub numbers_of : Line → List ℕ
numbers_of l = l.first ∷ l.second ∷ more_of l.more

-- a line as it is written
unfoldable pub text : Line → List ℕ
text l = line l.steps l.letter (numbers_of l)

-- "T, R, F: accepted take, release, force, with node and lock."
unfoldable pub action_letter : Action → ℕ
action_letter Take = 84
action_letter Release = 82
action_letter Force = 70

unfoldable pub action_says : ℕ → Action → ℕ → ℕ → Line
action_says steps action node lock = line_of steps (action_letter action) node lock

-- "X: a refused action, with its number and the item's place from 0"
unfoldable pub refused_says : ℕ → ℕ → ℕ → Line
refused_says steps number place = line_of steps 88 number place

-- "Events bear their step's number, .. with node and lock: G granted, N failp returned, L lost to a dov, B own dov back, D didv sent."
unfoldable pub event_says : ℕ → ℕ → Option Event → Line
event_says steps place event = line_of steps (event_letter event) (place + 1) (event_lock event)

-- "one H line a lock ascending: lock and busy steps"; 02: "two more numbers, the lock's grants and N events"
unfoldable pub lock_says : ℕ → ℕ → ℕ → ℕ → ℕ → Line
lock_says steps lock busy grants failed =
    record { steps = steps; letter = 72; first = lock; second = busy; more = Some (grants, failed) }

-- "Last E, or C where the schedule's sum is above the ceiling: grants and N events."
unfoldable pub end_letter : Bool → ℕ
end_letter cut = cond cut 67 69

unfoldable pub last_says : ℕ → Bool → ℕ → ℕ → Line
last_says steps cut grants failed = line_of steps (end_letter cut) grants failed

-- "A refused file gives only "0 Q number 0"."; 02, item 3: "The Q line's last number becomes that place for 6"
unfoldable pub refusal_says : ℕ → ℕ → ℕ → Line
refusal_says steps number place = line_of steps 81 number place
