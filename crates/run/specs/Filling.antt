-- A buffer filled with the lines of a run: as many whole lines as fit, from its start on; "no other byte changes".
use Rattle.std.specs.Prelude.{ℕ, ◌-◌, cond, List, [], ◌∷◌, ◌++◌, leb, length, drop}
use Rattle.course.specs.declared.Run.{Run}
use Rattle.run.specs.declared.Filled.{Filled}
use Rattle.wording.specs.Wording.{text}
use Rattle.course.specs.Whole.{Said, Course, course}

-- the lines as they are written, one after the other
unfoldable pub texts : List Said → List ℕ
texts [] = []
texts (said ∷ rest) = text said.line ++ texts rest

-- as many lines as fit into so many bytes
unfoldable pub fitting : ℕ → List Said → List Said
fitting room [] = []
fitting room (said ∷ rest) =
    cond (leb (length (text said.line)) room) (said ∷ fitting (room - length (text said.line)) rest) []

-- the run before the first line that does not fit, or when all is said
unfoldable pub stops_at : ℕ → List Said → Run → Run
stops_at room [] end = end
stops_at room (said ∷ rest) end =
    cond (leb (length (text said.line)) room) (stops_at (room - length (text said.line)) rest end) said.before

-- the bytes that a run writes into a buffer of so many
unfoldable pub written : ℕ → Course → List ℕ
written room course = texts (fitting room course.lines)

-- the answer, and the buffer afterwards
unfoldable pub filling : ℕ → Course → Filled
filling room course = record { run = stops_at room course.lines course.end; used = length (written room course) }

unfoldable pub filled_buffer : List ℕ → Course → List ℕ
filled_buffer buffer course = written (length buffer) course ++ drop (length (written (length buffer) course)) buffer

-- buffers filled one after the other: what they hold, and the run after the last
unfoldable pub in_buffers : ℕ → List ℕ → List ℕ → Run → List ℕ
in_buffers ceiling schedule [] run = []
in_buffers ceiling schedule (room ∷ rooms) run =
    written room (course ceiling schedule run) ++ in_buffers ceiling schedule rooms (filling room (course ceiling schedule run)).run

unfoldable pub after_buffers : ℕ → List ℕ → List ℕ → Run → Run
after_buffers ceiling schedule [] run = run
after_buffers ceiling schedule (room ∷ rooms) run = after_buffers ceiling schedule rooms (filling room (course ceiling schedule run)).run
