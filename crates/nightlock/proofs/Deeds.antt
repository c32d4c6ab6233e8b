-- What the lines of a step and of an action report of a lock is what the step and the action do to it, at its time; the other lines report nothing.
use Rattle.std.specs.Prelude.{Option, None, Some}
use Prim.Native.Nat.{ℕ, zero, suc, ◌+◌, ◌≤◌}
use mathlib.Core.Path.{◌≡◌, refl, ◌∙◌, ap, sym}
use mathlib.Core.Bool.{Bool, true, false, cond, not, ◌&&◌, and-true, and-false, true≢false}
use mathlib.Core.List.{List, [], ◌∷◌, ◌++◌, append-nil, append_assoc}
use native.Mathlib.Numerals.{add-one}
use native.Mathlib.Omega.{arith}
use lib.Dec.{eqb}
use lib.ListN.{get_or, length, replicate}
use Rattle.cars.specs.Cars.{multiring}
use Rattle.acts.specs.declared.Action.{Action}
use Rattle.acts.specs.declared.Action.TheVariants.{Take, Release, Force}
use Rattle.turns.specs.declared.Event.{Event}
use Rattle.turns.specs.declared.Event.TheVariants.{Granted, Failed, Lost, Back, Sent}
use Rattle.turns.specs.Turn.{event_letter, event_lock}
use Rattle.ring.specs.Actions.{acting}
use Rattle.ring.specs.Walk.{quiet}
use Rattle.course.specs.declared.Run.{Run}
use Rattle.wording.specs.Wording.{line_of, action_letter, action_says, refused_says, event_says, lock_says, end_letter, last_says}
use Rattle.course.specs.Wording.{event_here, is_event, is_cut, event_line, action_refusal, action_line, lock_line, last_line}
use Rattle.onelock.specs.OneLock.{act, Deed, granted, ended, deed_if, deed_of, deeds_in, deeds_of, releases, Time, in_step, after_step, Moment, noted}
use Rattle.nightlock.specs.NightLock.{deeds_of_line, time_of_line, reports}

-- deeds of one time, each as a moment of its own
unfoldable pub apart : Time → List Deed → List Moment
apart time [] = []
apart time (deed ∷ deeds) = record { time = time; deeds = deed ∷ [] } ∷ apart time deeds

pub apart_more : (time : Time) (deeds more : List Deed) → apart time (deeds ++ more) ≡ apart time deeds ++ apart time more
unfolding apart
apart_more time [] more = refl
apart_more time (deed ∷ deeds) more = ap (λ (rest : List Moment). record { time = time; deeds = deed ∷ [] } ∷ rest) (apart_more time deeds more)

-- where there is at most one, that is the moment
pub apart_one : (time : Time) (deeds : List Deed) → length deeds ≤ 1 → apart time deeds ≡ noted time deeds []
unfolding apart noted
apart_one time [] one = refl
apart_one time (deed ∷ []) one = refl
apart_one time (deed ∷ other ∷ deeds) one = absurd (omega arith)

apart_if : (time : Time) (test : Bool) (deed : Deed) → noted time (deed_if test deed) [] ≡ apart time (deed_if test deed)
unfolding apart noted deed_if
apart_if time true deed = refl
apart_if time false deed = refl

-- the deeds of so many nodes from a place on
unfoldable pub tells : ℕ → ℕ → List (Option Event) → ℕ → ℕ → List Deed
tells rules lock events next zero = []
tells rules lock events next (suc n) = deed_of rules lock (next + 1) (get_or events next quiet) ++ tells rules lock events (next + 1) n

-- those of the first nodes and those of the next are those of all
deeds_more : (rules lock : ℕ) (events : List (Option Event)) (n : ℕ)
    → deeds_in rules lock events (n + 1) ≡ deeds_in rules lock events n ++ deed_of rules lock (n + 1) (get_or events n quiet)
unfolding deeds_in
deeds_more rules lock events n = rw add-one

tells_more : (rules lock : ℕ) (events : List (Option Event)) (next n all : ℕ) → all ≡ next + n
    → deeds_in rules lock events next ++ tells rules lock events next n ≡ deeds_in rules lock events all
unfolding tells
tells_more rules lock events next zero all e =
    let none : next ≡ all = omega arith in
    append-nil (deeds_in rules lock events next) ∙ ap (deeds_in rules lock events) none
tells_more rules lock events next (suc n) all e =
    let one : all ≡ next + 1 + n = omega arith in
    sym (append_assoc (deeds_in rules lock events next) _ _)
    ∙ ap (λ (first : List Deed). first ++ tells rules lock events (next + 1) n) (sym (deeds_more rules lock events next))
    ∙ tells_more rules lock events (next + 1) n all one

pub tells_all : (rules lock : ℕ) (events : List (Option Event)) (n : ℕ) → tells rules lock events 0 n ≡ deeds_in rules lock events n
unfolding deeds_in
tells_all rules lock events n = let all : n ≡ 0 + n = omega arith in tells_more rules lock events 0 n n all

-- where nothing happens there are none
quiet_here : (n k : ℕ) → get_or (replicate n quiet) k quiet ≡ quiet
quiet_here zero k = refl
quiet_here (suc n) zero = refl
quiet_here (suc n) (suc k) = quiet_here n k

pub tells_none : (rules lock places next n : ℕ) → tells rules lock (replicate places quiet) next n ≡ []
unfolding tells deed_of quiet
tells_none rules lock places next zero = refl
tells_none rules lock places next (suc n) =
    ap (λ (h : Option Event). deed_of rules lock (next + 1) h ++ tells rules lock (replicate places quiet) (next + 1) n) (quiet_here places next)
    ∙ tells_none rules lock places (next + 1) n

-- a line says the steps that are done
line-says : (steps letter first second : ℕ)
    → line_of steps letter first second ≡ record { steps = steps; letter = letter; first = first; second = second; more = None }
unfolding line_of
line-says steps letter first second = refl

-- an event's line reports its deed, in the step whose number it bears
line-reports : (rules lock steps node : ℕ) (event : Option Event)
    → reports rules lock (record { steps = steps; letter = event_letter event; first = node; second = event_lock event; more = None })
    ≡ apart (in_step steps) (deed_of rules lock node event)
unfolding reports time_of_line deeds_of_line noted deed_of event_letter event_lock apart
line-reports rules lock steps node None = refl
line-reports rules lock steps node (Some (Granted own)) = apart_if (in_step steps) (eqb own lock) (granted node)
line-reports rules lock steps node (Some (Failed own)) = refl
line-reports rules lock steps node (Some (Lost own)) = apart_if (in_step steps) (not (multiring rules) && eqb own lock) (ended node)
line-reports rules lock steps node (Some (Back own)) = refl
line-reports rules lock steps node (Some (Sent own)) = apart_if (in_step steps) (multiring rules && eqb own lock) (ended node)

pub event_reports : (rules lock : ℕ) (run : Run)
    → reports rules lock (event_line run) ≡ apart (in_step run.reached.steps) (deed_of rules lock (run.next + 1) (event_here run))
unfolding event_line event_says
event_reports rules lock run =
    ap (reports rules lock) (line-says run.reached.steps _ _ _) ∙ line-reports rules lock run.reached.steps (run.next + 1) (event_here run)

-- without a letter it is no grant and no ending
pub no_event_lem : (rules lock node : ℕ) (event : Option Event) → is_event event ≡ false → deed_of rules lock node event ≡ []
unfolding deed_of is_event event_letter
no_event_lem rules lock node None e = refl
no_event_lem rules lock node (Some (Granted own)) e = absurd (true≢false e)
no_event_lem rules lock node (Some (Failed own)) e = refl
no_event_lem rules lock node (Some (Lost own)) e = absurd (true≢false e)
no_event_lem rules lock node (Some (Back own)) e = refl
no_event_lem rules lock node (Some (Sent own)) e = absurd (true≢false e)

-- an action's line reports an ending, after the steps done, where it is an accepted release under ring rules
accepted_reports : (rules lock steps node own : ℕ) (action : Action)
    → reports rules lock (record { steps = steps; letter = action_letter action; first = node; second = own; more = None })
    ≡ noted (after_step steps) (deed_if (releases action && not (multiring rules) && eqb own lock) (ended node)) []
unfolding reports time_of_line deeds_of_line noted action_letter releases deed_if
accepted_reports rules lock steps node own Take = refl
accepted_reports rules lock steps node own Release = refl
accepted_reports rules lock steps node own Force = refl

act_line : (rules lock node own : ℕ) (action : Action) (run : Run) (taken : Bool) (number place : ℕ)
    → reports rules lock (cond taken (action_says run.reached.steps action node own) (refused_says run.reached.steps number place))
    ≡ noted (after_step run.reached.steps) (deed_if (releases action && not (multiring rules) && eqb own lock && taken) (ended node)) []
unfolding reports deeds_of_line noted action_says refused_says line_of deed_if
act_line rules lock node own action run true number place =
    ap (reports rules lock) (line-says run.reached.steps (action_letter action) node own)
    ∙ accepted_reports rules lock run.reached.steps node own action
    ∙ ap (λ (test : Bool). noted (after_step run.reached.steps) (deed_if test (ended node)) [])
    (sym (and-true (releases action && not (multiring rules) && eqb own lock)))
act_line rules lock node own action run false number place =
    ap (λ (test : Bool). noted (after_step run.reached.steps) (deed_if test (ended node)) [])
    (sym (and-false (releases action && not (multiring rules) && eqb own lock)))

pub action_reports : (action : Action) (node own lock : ℕ) (run : Run)
    → reports run.reached.state.plan.rules lock (action_line action node own run)
    ≡ noted (after_step run.reached.steps) (deeds_of lock (act action node own) run.reached.state) []
unfolding action_line action_refusal deeds_of
action_reports action node own lock run =
    act_line run.reached.state.plan.rules lock node own action run (eqb (acting action run.reached.state node own).number 0) _ _

-- a lock's line and the last line report nothing
pub lock_reports : (rules lock : ℕ) (run : Run) → reports rules lock (lock_line run) ≡ []
unfolding reports deeds_of_line noted lock_line lock_says
lock_reports rules lock run = refl

end_reports : (rules lock steps first second : ℕ) (cut : Bool) → reports rules lock (last_says steps cut first second) ≡ []
unfolding reports deeds_of_line noted end_letter last_says line_of
end_reports rules lock steps first second true = refl
end_reports rules lock steps first second false = refl

pub last_reports : (rules lock : ℕ) (run : Run) → reports rules lock (last_line run) ≡ []
unfolding last_line
last_reports rules lock run = end_reports rules lock _ _ _ (is_cut run.phase)
