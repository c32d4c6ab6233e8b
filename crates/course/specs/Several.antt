-- Several steps of an item at once, up to the first that has an event. Only a private function's promise names them: the run itself goes
-- step by step (Standing, Whole), and proofs/Several has that its course is the same.
use Rattle.std.specs.Prelude.{ℕ, ◌+◌, ◌-◌, ◌≤◌}
use Rattle.ring.specs.declared.Advanced.{Advanced}
use Rattle.ring.specs.Advance.{advancing}
use Rattle.tally.specs.declared.Tally.{Tally}
use Rattle.tally.specs.Tally.{step_tally, silent_tally}
use Rattle.course.specs.declared.Run.{Run}
use Rattle.course.specs.Standing.{nodes_of, locks_of}

-- so many steps may be done at once: at least one, at most as many as are left, and no more than up to a ceiling
pub record AtOnce (ceiling steps left number : ℕ) : Type 0 where
  pub some : 1 ≤ number
  pub most : number ≤ left
  pub room : steps + number ≤ ceiling

-- what is counted after them: those before the last without an event, over the nodes before all of them; then the last, over the
-- nodes after it
unfoldable pub several_tally : Advanced → Run → Tally
several_tally advanced run =
    step_tally advanced.state.nodes advanced.events (nodes_of run) (locks_of run)
    (silent_tally run.reached.state.nodes (nodes_of run) (locks_of run) (advanced.done - 1) run.reached.tally)

-- so many fewer are left, and the events of the last are to be told from the first node on
unfoldable pub after_steps : Advanced → Run → Run
after_steps advanced run =
    record {
      reached = record { state = advanced.state; tally = several_tally advanced run; steps = run.reached.steps + advanced.done };
      at = run.at;
      left = run.left - advanced.done;
      events = advanced.events;
      next = 0;
      phase = run.phase;
      over = run.over;
    }

-- at most so many steps
unfoldable pub several_steps : ℕ → Run → Run
several_steps limit run = after_steps (advancing limit run.reached.state) run
