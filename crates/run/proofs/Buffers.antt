-- The buffers filled one after the other hold exactly the definition's lines.
use Rattle.std.specs.Prelude.{Option, Some, None, Result, Ok, Err}
use Prim.Native.Nat.{ℕ, zero, suc, ◌-◌, ◌≤◌, ◌<◌}
use mathlib.Core.Path.{◌≡◌, refl, ◌∙◌, sym, ap, subst}
use mathlib.Core.Bool.{Bool, true, false}
use mathlib.Core.List.{List, [], ◌∷◌, ◌++◌, append-nil, append_assoc}
use native.Mathlib.Omega.{arith}
use lib.Dec.{T, leb, ltb}
use lib.ListN.{length}
use borrow.Author.Tests.{ltb-true, ltb-false, leb-true, leb-false}
use Rattle.lines.proofs.Laws.{line-length_most}
use Rattle.items.specs.declared.Item.{Item}
use Rattle.items.specs.declared.Item.TheVariants.{Steps, Act}
use Rattle.items.specs.declared.ItemRefusal.{ItemRefusal}
use Rattle.items.specs.Items.{read_at}
use Rattle.wording.specs.declared.Line.{Line}
use Rattle.course.specs.declared.Run.{Run}
use Rattle.course.specs.declared.Phase.{Phase}
use Rattle.course.specs.declared.Phase.TheVariants.{Items, Ended, Cut, Refused}
use Rattle.course.specs.Standing.{nodes_of, past, steps_item, at_end}
use Rattle.wording.specs.Wording.{numbers_of, text}
use Rattle.course.specs.Wording.{event_here, is_event}
use Rattle.course.specs.Whole.{Course, says, silence, course, and_others}
use Rattle.course.specs.Ready.{is_act, is_action, ready_in, ready}
use Rattle.course.specs.Several.{AtOnce, several_steps}
use Rattle.run.specs.Current.{Saying, saying_now}
use Rattle.run.specs.Filling.{texts, fitting, stops_at, written, filling, in_buffers, after_buffers}
use Rattle.run.specs.Theorems.{HeldAndStillToSay, TheBuffersHoldTheLines}
use Rattle.run.proofs.Numbers.{numbers_four}
use Rattle.run.proofs.Ready.{Goes, ready_goes, course_over}
use Rattle.course.proofs.Way.{Way, to_go, sets_out, way_past, way_several, way_steps, past_nearer, several_nearer, steps_nearer, at_event, at_action, at_ceiling, at-items_end}
use Rattle.run.proofs.Fills.{stops_in, stops_fits, stops_full, written_fits, written_full}

-- the run at its next line: the course is the same
pub data Next (ceiling : ℕ) (schedule : List ℕ) (start : Run) : Type 0 where
  next : (run : Run) → course ceiling schedule run ≡ course ceiling schedule start → ready schedule run ≡ true → Next ceiling schedule start

abbrev Again : ℕ → List ℕ → ℕ → Run → Run → Type 0
Again ceiling schedule nodes start run = (r : Run) → Way ceiling schedule nodes start r → to_go schedule nodes r < to_go schedule nodes run → Next ceiling schedule start

at_node_lem : (ceiling : ℕ) (schedule : List ℕ) (nodes : ℕ) (start run : Run) (event : Bool) → Way ceiling schedule nodes start run → Again ceiling schedule nodes start run
    → run.next < nodes → is_event (event_here run) ≡ event → Next ceiling schedule start
at_node_lem ceiling schedule nodes start run true w again below e = let a = at_event ceiling schedule nodes start run w below e in next run a.0 a.1
at_node_lem ceiling schedule nodes start run false w again below e =
    again (past run) (way_past ceiling schedule nodes start run w below e) (past_nearer schedule nodes run below)

at_step : (ceiling : ℕ) (schedule : List ℕ) (nodes : ℕ) (start run : Run) (room : Bool) → Way ceiling schedule nodes start run → Again ceiling schedule nodes start run
    → nodes ≤ run.next → 0 < run.left → ltb run.reached.steps ceiling ≡ room → Next ceiling schedule start
at_step ceiling schedule nodes start run true w again told left e =
    let o : AtOnce ceiling run.reached.steps run.left 1 = record { some = omega arith; most = left; room = omega (arith, ltb-true run.reached.steps ceiling e) } in
    again (several_steps 1 run) (way_several ceiling schedule nodes start run 1 w told o) (several_nearer ceiling schedule nodes run 1 w.most told o)
at_step ceiling schedule nodes start run false w again told left e =
    let a = at_ceiling ceiling schedule nodes start run w told left (ltb-false _ _ e) in next (at_end Cut run) a.0 a.1

at_none : (ceiling : ℕ) (schedule : List ℕ) (nodes : ℕ) (start run : Run) → Way ceiling schedule nodes start run → nodes ≤ run.next → run.left ≤ 0
    → ((others : List Item) → and_others (read_at schedule run.at).answer others ≡ []) → Next ceiling schedule start
at_none ceiling schedule nodes start run w told left none =
    let a = at-items_end ceiling schedule nodes start run w told left none in next (at_end Ended run) a.0 a.1

at_item : (ceiling : ℕ) (schedule : List ℕ) (nodes : ℕ) (start run : Run) (answer : Result (Option Item) ItemRefusal) → Way ceiling schedule nodes start run → Again ceiling schedule nodes start run
    → nodes ≤ run.next → run.left ≤ 0 → (read_at schedule run.at).answer ≡ answer → Next ceiling schedule start
unfolding and_others is_action is_act
at_item ceiling schedule nodes start run (Ok None) w again told left e =
    at_none ceiling schedule nodes start run w told left (λ others. ap (λ a. and_others a others) e)
at_item ceiling schedule nodes start run (Ok (Some (Steps n))) w again told left e =
    again (steps_item n run) (way_steps ceiling schedule nodes start run n w told left e) (steps_nearer schedule nodes run n left e)
at_item ceiling schedule nodes start run (Ok (Some (Act action node lock))) w again told left e =
    let a = at_action ceiling schedule nodes start run w told left (ap is_action e) in next run a.0 a.1
at_item ceiling schedule nodes start run (Err refusal) w again told left e =
    at_none ceiling schedule nodes start run w told left (λ others. ap (λ a. and_others a others) e)

at_left : (ceiling : ℕ) (schedule : List ℕ) (nodes : ℕ) (start run : Run) (none : Bool) → Way ceiling schedule nodes start run → Again ceiling schedule nodes start run
    → nodes ≤ run.next → leb run.left 0 ≡ none → Next ceiling schedule start
at_left ceiling schedule nodes start run true w again told e =
    at_item ceiling schedule nodes start run (read_at schedule run.at).answer w again told (leb-true _ _ e) refl
at_left ceiling schedule nodes start run false w again told e =
    at_step ceiling schedule nodes start run (ltb run.reached.steps ceiling) w again told (leb-false _ _ e) refl

at_any : (ceiling : ℕ) (schedule : List ℕ) (nodes : ℕ) (start run : Run) (below : Bool) → Way ceiling schedule nodes start run → Again ceiling schedule nodes start run
    → ltb run.next nodes ≡ below → Next ceiling schedule start
at_any ceiling schedule nodes start run true w again e =
    at_node_lem ceiling schedule nodes start run (is_event (event_here run)) w again (ltb-true _ _ e) refl
at_any ceiling schedule nodes start run false w again e =
    at_left ceiling schedule nodes start run (leb run.left 0) w again (ltb-false _ _ e) refl

within : (n ceiling : ℕ) (schedule : List ℕ) (nodes : ℕ) (start run : Run) → Way ceiling schedule nodes start run → to_go schedule nodes run < n → Next ceiling schedule start
within zero ceiling schedule nodes start run w p = absurd (omega arith)
within (suc n) ceiling schedule nodes start run w p =
    at_any ceiling schedule nodes start run (ltb run.next nodes) w
    (λ r v less. let q : to_go schedule nodes r < n = omega arith in within n ceiling schedule nodes start r v q) refl

next_in : (ceiling : ℕ) (schedule : List ℕ) (run : Run) (phase : Phase) → run.over ≡ false → run.phase ≡ phase → Next ceiling schedule run
unfolding ready ready_in
next_in ceiling schedule run Items o p =
    let q : to_go schedule (nodes_of run) run < suc (to_go schedule (nodes_of run) run) = omega arith in
    within (suc (to_go schedule (nodes_of run) run)) ceiling schedule (nodes_of run) run run (sets_out ceiling schedule (nodes_of run) run o p refl) q
next_in ceiling schedule run Ended o p = next run refl (simp (o, p))
next_in ceiling schedule run Cut o p = next run refl (simp (o, p))
next_in ceiling schedule run (Refused number place) o p = next run refl (simp (o, p))

next_by : (ceiling : ℕ) (schedule : List ℕ) (run : Run) (over : Bool) → run.over ≡ over → Next ceiling schedule run
unfolding ready
next_by ceiling schedule run true o = next run refl (simp o)
next_by ceiling schedule run false o = next_in ceiling schedule run run.phase o refl

pub arrives : (ceiling : ℕ) (schedule : List ℕ) (run : Run) → Next ceiling schedule run
arrives ceiling schedule run = next_by ceiling schedule run run.over refl

-- what one buffer leaves: the lines that it holds and those left are all lines, and the end is the same; a buffer with room for any
-- line holds one, unless the run is over
pub record Leaves (ceiling : ℕ) (schedule : List ℕ) (room : ℕ) (whole : Course) : Type 0 where
  pub all_lines : written room whole ++ texts (course ceiling schedule (stops_in room whole)).lines ≡ texts whole.lines
  pub no_more : length (course ceiling schedule (stops_in room whole)).lines ≤ length whole.lines
  pub fewer : 107 ≤ room → (stops_in room whole).over ≡ false → length (course ceiling schedule (stops_in room whole)).lines < length whole.lines

not_both : {A : Type 0} → (b : Bool) → b ≡ true → b ≡ false → A
not_both b t f = absurd (subst T (sym t ∙ f) tt)

-- nothing is left
leaves-silence : (ceiling : ℕ) (schedule : List ℕ) (room : ℕ) (run : Run) → run.over ≡ true → Leaves ceiling schedule room (silence run)
unfolding silence stops_at written fitting texts
leaves-silence ceiling schedule room run o =
    let none : (course ceiling schedule run).lines ≡ [] = ap (λ (c : Course). c.lines) (course_over ceiling schedule run o) in
    record {
      all_lines = ap texts none;
      no_more = rw none (omega arith);
      fewer = λ enough f. not_both run.over o f;
    }

-- a line that does not fit, and one that does
leaves_full : (ceiling : ℕ) (schedule : List ℕ) (room : ℕ) (l : Line) (run after : Run) (rest : Course) → course ceiling schedule run ≡ says l run after rest
    → room < length (text l) → Leaves ceiling schedule room (says l run after rest)
unfolding text
leaves_full ceiling schedule room l run after rest e full =
    let stop = stops_full room l run after rest full in
    record {
      all_lines = rw (stop, written_full room l run after rest full, e) refl;
      no_more = rw (stop, e) (omega arith);
      fewer = λ enough f. absurd (omega (arith, enough, full, line-length_most l.steps l.letter (numbers_of l) (numbers_four l)));
    }

leaves_fits : (ceiling : ℕ) (schedule : List ℕ) (room : ℕ) (l : Line) (run after : Run) (rest : Course) → Leaves ceiling schedule (room - length (text l)) rest
    → length (text l) ≤ room → Leaves ceiling schedule room (says l run after rest)
unfolding says texts
leaves_fits ceiling schedule room l run after rest i fits =
    let stop = stops_fits room l run after rest fits in
    record {
      all_lines =
          rw (stop, written_fits room l run after rest fits)
          (append_assoc (text l) (written (room - length (text l)) rest) _ ∙ ap (λ (t : List ℕ). text l ++ t) i.all_lines);
      no_more = rw stop (omega (arith, i.no_more));
      fewer = λ enough f. rw stop (omega (arith, i.no_more));
    }

leaves-line : (ceiling : ℕ) (schedule : List ℕ) (room : ℕ) (l : Line) (run after : Run) (fits : Bool) → course ceiling schedule run ≡ says l run after (course ceiling schedule after)
    → ((less : ℕ) → Leaves ceiling schedule less (course ceiling schedule after)) → leb (length (text l)) room ≡ fits
    → Leaves ceiling schedule room (says l run after (course ceiling schedule after))
leaves-line ceiling schedule room l run after true e again f = leaves_fits ceiling schedule room l run after _ (again _) (leb-true _ _ f)
leaves-line ceiling schedule room l run after false e again f = leaves_full ceiling schedule room l run after _ e (leb-false _ _ f)

abbrev Shorter : ℕ → List ℕ → Run → Type 0
Shorter ceiling schedule run =
    (room : ℕ) (after : Run) → length (course ceiling schedule after).lines < length (course ceiling schedule run).lines → Leaves ceiling schedule room (course ceiling schedule after)

-- what is said of a run that is not over leaves fewer lines
leaves_said : (ceiling : ℕ) (schedule : List ℕ) (room : ℕ) (run : Run) (said : Option Saying) → Shorter ceiling schedule run → Goes ceiling schedule run said
    → Leaves ceiling schedule room (course ceiling schedule run)
unfolding says
leaves_said ceiling schedule room run None again goes = absurd goes
leaves_said ceiling schedule room run (Some said) again goes =
    let fewer : length (course ceiling schedule said.run).lines < length (course ceiling schedule run).lines =
    omega (arith, ap (λ (c : Course). length c.lines) goes) in
    subst (Leaves ceiling schedule room) (sym goes) (leaves-line ceiling schedule room said.line run said.run _ goes (λ less. again less said.run fewer) refl)

leaves_at : (ceiling : ℕ) (schedule : List ℕ) (room : ℕ) (run : Run) (over : Bool) → ready schedule run ≡ true → Shorter ceiling schedule run → run.over ≡ over
    → Leaves ceiling schedule room (course ceiling schedule run)
leaves_at ceiling schedule room run true r again o = rw (course_over ceiling schedule run o) (leaves-silence ceiling schedule room run o)
leaves_at ceiling schedule room run false r again o =
    leaves_said ceiling schedule room run (saying_now schedule run) again (ready_goes ceiling schedule run r o)

leaves_next : (ceiling : ℕ) (schedule : List ℕ) (room : ℕ) (run : Run) → Next ceiling schedule run → Shorter ceiling schedule run
    → Leaves ceiling schedule room (course ceiling schedule run)
leaves_next ceiling schedule room run (next at e r) again =
    subst (Leaves ceiling schedule room) e
    (leaves_at ceiling schedule room at at.over r (λ less after p. again less after (rw (sym e) p)) refl)

leaves-within : (n ceiling : ℕ) (schedule : List ℕ) (room : ℕ) (run : Run) → length (course ceiling schedule run).lines < n
    → Leaves ceiling schedule room (course ceiling schedule run)
leaves-within zero ceiling schedule room run p = absurd (omega arith)
leaves-within (suc n) ceiling schedule room run p =
    leaves_next ceiling schedule room run (arrives ceiling schedule run)
    (λ less after q. let s : length (course ceiling schedule after).lines < n = omega arith in leaves-within n ceiling schedule less after s)

pub leaves : (ceiling : ℕ) (schedule : List ℕ) (room : ℕ) (run : Run) → Leaves ceiling schedule room (course ceiling schedule run)
leaves ceiling schedule room run =
    let p : length (course ceiling schedule run).lines < suc (length (course ceiling schedule run).lines) = omega arith in
    leaves-within (suc (length (course ceiling schedule run).lines)) ceiling schedule room run p

-- any buffers, one after the other: what they hold and what is still to be said are the definition's lines
pub buffers_hold : HeldAndStillToSay
unfolding in_buffers after_buffers filling
buffers_hold ceiling schedule [] run = refl
buffers_hold ceiling schedule (room ∷ rooms) run =
    append_assoc (written room (course ceiling schedule run)) _ _
    ∙ ap (λ (t : List ℕ). written room (course ceiling schedule run) ++ t) (buffers_hold ceiling schedule rooms (stops_in room (course ceiling schedule run)))
    ∙ (leaves ceiling schedule room run).all_lines

-- once the run is over they hold exactly those lines
pub buffers_hold_all : TheBuffersHoldTheLines
unfolding silence texts
buffers_hold_all ceiling schedule rooms run o =
    sym (append-nil (in_buffers ceiling schedule rooms run))
    ∙ ap (λ (c : Course). in_buffers ceiling schedule rooms run ++ texts c.lines) (sym (course_over ceiling schedule (after_buffers ceiling schedule rooms run) o))
    ∙ buffers_hold ceiling schedule rooms run

-- a buffer of 107 bytes or more brings a run nearer to its end: the measure of a loop that fills buffers
pub buffer_nearer : (ceiling : ℕ) (schedule : List ℕ) (room : ℕ) (run : Run) → 107 ≤ room → (filling room (course ceiling schedule run)).run.over ≡ false
    → length (course ceiling schedule (filling room (course ceiling schedule run)).run).lines < length (course ceiling schedule run).lines
unfolding filling
buffer_nearer ceiling schedule room run enough o = (leaves ceiling schedule room run).fewer enough o
