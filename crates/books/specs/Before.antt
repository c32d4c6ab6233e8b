-- 01 as it stood before 02, item 4: two rule books, and 9 for every action. What that item moved stands here once more in 01's words, and the run of
-- a file by it; the rest of a run is the model's own.
use Rattle.std.specs.Prelude.{ℕ, ◌+◌, Bool, cond, not, ◌&&◌, List, [], ◌∷◌, eqb, ltb, leb}
use Rattle.lists.specs.Refusal.{refused_if}
use Rattle.cars.specs.Cars.{is_node}
use Rattle.plan.specs.declared.Plan.{Plan}
use Rattle.positions.specs.Ring.{nodes_in}
use Rattle.plan.specs.Plan.{positions_read, ring_of, junctions_allowed, node_count}
use Rattle.usernode.specs.declared.Node.{Node}
use Rattle.usernode.specs.Node.{is_idle}
use Rattle.acts.specs.declared.Action.{Action}
use Rattle.acts.specs.Actions.{later_number}
use Rattle.ring.specs.declared.State.{State}
use Rattle.ring.specs.State.{Told, node_of}
use Rattle.ring.specs.Sound.{sound}
use Rattle.ring.specs.Actions.{acted_state, handed_back}
use Rattle.nightfile.specs.File.{length_wrong, contents_right, plan_body, schedule_body, plan_length_wrong, plan_of, schedule_number, number_and_place, schedule_part}
use Rattle.lines.specs.Line.{line}
use Rattle.items.specs.declared.Item.{Item}
use Rattle.items.specs.declared.Item.TheVariants.{Steps, Act}
use Rattle.items.specs.Items.{place_at}
use Rattle.wording.specs.declared.Line.{Line}
use Rattle.wording.specs.Wording.{action_says, refused_says}
use Rattle.course.specs.declared.Run.{Run}
use Rattle.course.specs.declared.Phase.TheVariants.{Ended}
use Rattle.course.specs.Standing.{beginning, steps_item, at_end}
use Rattle.course.specs.Whole.{Course, says, closing_all, many_steps, items_from}
use Rattle.run.specs.declared.Outcome.{Outcome}
use Rattle.run.specs.Filling.{texts}
use Rattle.run.specs.Outcomes.{outcome_of}

-- "rules (1 ring, 2 multiring)"
unfoldable pub multiring01 : ℕ → Bool
multiring01 rules = eqb rules 2

-- 4, of the heads of a plan: the rules are 1 or 2
unfoldable pub heads_in_range01 : Plan → Bool
heads_in_range01 plan =
    leb 1 plan.rules
    && leb plan.rules 2
    && leb 1 plan.locks
    && leb plan.locks 64
    && leb 1 plan.positions
    && leb plan.positions 16

unfoldable pub in_range01 : Plan → Bool
in_range01 plan = heads_in_range01 plan && (positions_read plan).right && leb (nodes_in (ring_of plan)) 64 && junctions_allowed plan

-- "For a file, 1 to 6: the lowest that applies", with that range
unfoldable pub bodies_number01 : List ℕ → List ℕ → ℕ
bodies_number01 plan schedule =
    refused_if (plan_length_wrong plan) 3 (refused_if (not (in_range01 (plan_of plan))) 4 (schedule_number schedule))

unfoldable pub file_number01 : List ℕ → ℕ
file_number01 file =
    refused_if (length_wrong file) 1 (refused_if (not (contents_right file)) 2 (bodies_number01 (plan_body file) (schedule_body file)))

-- 02, item 3: the place beside it
unfoldable pub file_place01 : List ℕ → ℕ
file_place01 file = (number_and_place (file_number01 file) (schedule_body file)).place

-- 9 "action: node's activity not idle", whatever the action, then 10 to 12
unfoldable pub node_number01 : Action → Node → ℕ → ℕ
node_number01 action node lock = cond (is_idle node.activity) (later_number action node lock) 9

-- 7 "node not 1 to U", 8 "lock not in the plan", then 9 to 12
unfoldable pub action_number01 : Action → State → ℕ → ℕ → ℕ
action_number01 action state node lock =
    refused_if (not (is_node (node_count state.plan) node)) 7
    (refused_if (not (ltb lock state.plan.locks)) 8 (node_number01 action (node_of state node) lock))

-- "For actions 13 comes first, then 7 to 12."
unfoldable pub acting01 : Action → State → ℕ → ℕ → Told
acting01 action state node lock =
    cond (sound state) (handed_back (action_number01 action state node lock) (acted_state action state node lock) state)
    (record { number = 13; state = state })

-- the run after such an action, and the line that it has
unfoldable pub action_item01 : Action → ℕ → ℕ → Run → Run
action_item01 action node lock run =
    record {
      reached = record { state = (acting01 action run.reached.state node lock).state; tally = run.reached.tally; steps = run.reached.steps };
      at = run.at + 3;
      left = run.left;
      events = run.events;
      next = run.next;
      phase = run.phase;
      over = run.over;
    }

unfoldable pub action_line01 : Action → ℕ → ℕ → Run → Line
action_line01 action node lock run =
    cond (eqb (acting01 action run.reached.state node lock).number 0)
    (action_says run.reached.steps action node lock)
    (refused_says run.reached.steps (acting01 action run.reached.state node lock).number (place_at run.at))

-- the items of the schedule, in order
unfoldable pub items01 : ℕ → List Item → Run → Course
items01 ceiling [] run = closing_all (at_end Ended run)
items01 ceiling (Steps n ∷ rest) run = many_steps ceiling n (steps_item n run) (items01 ceiling rest)
items01 ceiling (Act action node lock ∷ rest) run =
    says (action_line01 action node lock run) run (action_item01 action node lock run) (items01 ceiling rest (action_item01 action node lock run))

-- the run of an accepted file
unfoldable pub file_course01 : ℕ → List ℕ → Course
file_course01 ceiling file = items01 ceiling (items_from (schedule_part file) 0) (beginning file)

-- what is written of a file; of a refused one the line "0 Q number place"
unfoldable pub file_text01 : ℕ → List ℕ → List ℕ
file_text01 ceiling file =
    cond (eqb (file_number01 file) 0) (texts (file_course01 ceiling file).lines) (line 0 81 (file_number01 file ∷ file_place01 file ∷ []))

-- the result of an accepted file
unfoldable pub file_outcome01 : ℕ → List ℕ → Outcome
file_outcome01 ceiling file = outcome_of (file_course01 ceiling file).end
