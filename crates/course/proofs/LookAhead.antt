-- What lies ahead of a run in its schedule, and the turn of the loop that goes past an item of steps.
use Prim.Native.Nat.{ℕ, ◌≤◌, ◌<◌}
use mathlib.Core.Path.{◌≡◌, refl, sym, ap, ◌∙◌}
use mathlib.Core.Bool.{true}
use mathlib.Core.List.{List, []}
use Rattle.std.specs.Option.{is_some}
use Rattle.std.specs.Result.{result_unwrap_or}
use Rattle.std.specs.Prelude.{Option, Some, None, Result, Ok, Err}
use Rattle.turns.specs.declared.Event.{Event}
use Rattle.turns.specs.declared.Event.TheVariants.{Granted, Failed, Lost, Back, Sent}
use Rattle.turns.specs.Turn.{event_letter}
use Rattle.acts.specs.declared.Action.{Action}
use Rattle.items.specs.declared.Item.{Item}
use Rattle.items.specs.declared.Item.TheVariants.{Steps, Act}
use Rattle.items.specs.declared.ItemRefusal.{ItemRefusal}
use Rattle.items.specs.declared.Reading.{Reading}
use Rattle.items.specs.Items.{read_at}
use Rattle.course.specs.declared.Run.{Run}
use Rattle.course.specs.Standing.{steps_item}
use Rattle.course.specs.Wording.{is_event}
use Rattle.course.specs.Whole.{and_others}
use Rattle.course.specs.Ready.{is_act, is_action}
use Rattle.course.proofs.Found.{found_moves}
use Rattle.course.proofs.Way.{Way, to_go, way_steps, steps_nearer}

-- something happened where there is an event
pub event_here_lem : (event : Option Event) → is_event event ≡ is_some event
unfolding is_event event_letter
event_here_lem None = refl
event_here_lem (Some (Granted lock)) = refl
event_here_lem (Some (Failed lock)) = refl
event_here_lem (Some (Lost lock)) = refl
event_here_lem (Some (Back lock)) = refl
event_here_lem (Some (Sent lock)) = refl

-- what is read at a run's place
module _ (schedule : List ℕ) (at : ℕ) {reading : Reading} (read : reading ≡ read_at schedule at) where
  pub item_here : {item : Item} → Some item ≡ result_unwrap_or reading.answer None → (read_at schedule at).answer ≡ Ok (Some item)
  item_here {item} e = ap (λ (r : Reading). r.answer) (sym read) ∙ go reading.answer e
    where
      go : (answer : Result (Option Item) ItemRefusal) → Some item ≡ result_unwrap_or answer None → answer ≡ Ok (Some item)
      go (Ok found) e = ap (λ (o : Option Item). Ok o) (sym e)
      go (Err refusal) e = absurd (cc)

  -- an action
  pub action_here : {item : Item} {action : Action} {node lock : ℕ} → Some item ≡ result_unwrap_or reading.answer None → item ≡ Act action node lock
      → is_action (read_at schedule at).answer ≡ true
  unfolding is_action is_act
  action_here e act = rw (item_here e, act) refl

  -- nothing
  pub none_here : None ≡ result_unwrap_or reading.answer None → (others : List Item) → and_others (read_at schedule at).answer others ≡ []
  unfolding and_others
  none_here e others = ap (λ (r : Reading). and_others r.answer others) (sym read) ∙ go reading.answer e
    where
      go : (answer : Result (Option Item) ItemRefusal) → None ≡ result_unwrap_or answer None → and_others answer others ≡ []
      go (Ok None) e = refl
      go (Ok (Some item)) e = absurd (cc)
      go (Err refusal) e = refl

-- so many steps to do, at a place
unfoldable pub steps_to : ℕ → ℕ → Run → Run
steps_to steps at run = record { reached = run.reached; at = at; left = steps; events = run.events; next = run.next; phase = run.phase; over = run.over }

module _ (schedule : List ℕ) (run : Run) {reading : Reading} (read : reading ≡ read_at schedule run.at) {item : Item}
    (found : Some item ≡ result_unwrap_or reading.answer None) {steps : ℕ} (are : item ≡ Steps steps) where
  steps_here : (read_at schedule run.at).answer ≡ Ok (Some (Steps steps))
  steps_here = item_here schedule run.at read found ∙ ap (λ (i : Item). Ok (Some i)) are

  past_steps : steps_to steps reading.at run ≡ steps_item steps run
  unfolding steps_to steps_item
  past_steps =
      ap (λ (r : Reading). steps_to steps r.at run) read ∙ ap (λ (at : ℕ). steps_to steps at run) (found_moves schedule run.at _ steps_here).0

  pub way_ahead : (ceiling nodes : ℕ) (start : Run) → Way ceiling schedule nodes start run → nodes ≤ run.next → run.left ≤ 0
      → Way ceiling schedule nodes start (steps_to steps reading.at run)
  way_ahead ceiling nodes start w told left = rw past_steps (way_steps ceiling schedule nodes start run steps w told left steps_here)

  pub ahead_nearer : (nodes : ℕ) → run.left ≤ 0 → to_go schedule nodes (steps_to steps reading.at run) < to_go schedule nodes run
  ahead_nearer nodes left = rw past_steps (steps_nearer schedule nodes run steps left steps_here)
