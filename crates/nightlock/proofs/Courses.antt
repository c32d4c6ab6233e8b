-- What is known of a course of a run that stands where a first part of its file's items has brought it: every line stands at such a place, what the
-- lines report of a lock is the history of what the items do to it, and the busy steps are those after which some node has the lock.
use Rattle.std.specs.Prelude.{Option}
use Prim.Native.Nat.{ℕ, zero, suc, ◌+◌, ◌-◌, ◌^◌, ◌≤◌, ◌<◌, min}
use mathlib.Core.Path.{◌≡◌, refl, ◌∙◌, ap, ap₂, sym, subst}
use mathlib.Core.Bool.{Bool, true, false, cond, true≢false}
use mathlib.Core.List.{List, [], ◌∷◌, ◌++◌, append-nil, append_assoc}
use native.Mathlib.Numerals.{add-one}
use native.Mathlib.Omega.{arith}
use lib.Dec.{ltb}
use lib.ListN.{get_or, length}
use lib.Seq.{append_snoc}
use Rattle.lists.specs.Loops.{some}
use Rattle.usernode.specs.Node.{had}
use Rattle.plan.specs.declared.Plan.{Plan}
use Rattle.plan.specs.Plan.{in_range, node_count}
use Rattle.plan.proofs.Laws.{in_range_lem}
use Rattle.acts.specs.declared.Action.{Action}
use Rattle.ring.specs.declared.State.{State}
use Rattle.turns.specs.declared.Event.{Event}
use Rattle.ring.specs.State.{rest_node, start_of}
use Rattle.plan.proofs.Laws.{nodes_most as count_most}
use Rattle.ring.proofs.Laws.{stepping_plan}
use Rattle.ring.specs.Actions.{acting}
use Rattle.ring.specs.Step.{stepping}
use Rattle.tally.specs.Tally.{busy}
use Rattle.tally.proofs.Exact.{step_places, step_exact}
use Rattle.items.specs.declared.Item.{Item as FileItem}
use Rattle.items.specs.declared.Item.TheVariants.{Steps, Act}
use Rattle.course.specs.declared.Reached.{Reached}
use Rattle.course.specs.declared.Run.{Run}
use Rattle.wording.specs.declared.Line.{Line}
use Rattle.course.specs.declared.Phase.{Phase}
use Rattle.course.specs.declared.Phase.TheVariants.{Ended, Cut}
use Rattle.course.specs.Standing.{nodes_of, locks_of, reached_next, one_step, past, steps_item, action_item, at_end, all_said}
use Rattle.course.specs.Wording.{event_here, is_event, is_cut, event_line, action_line, lock_line, last_line}
use Rattle.course.specs.Whole.{Said, Course, says, silence, telling, telling_all, closing, closing_all, many_steps, items}
use Rattle.course.proofs.Moves.{with_next, step_nodes}
use Rattle.onelock.specs.OneLock.{Item, step, act, after_item, reached, Deed, deed_of, deeds_of, deeds_in, in_step, after_step, Moment, time_of, done_after, noted}
use Rattle.onelock.specs.OneLock.{history_from, steps_among}
use Rattle.onelock.proofs.Run.Reached.{plan_reached}
use Rattle.onelock.proofs.Run.Parts.{reached-more, among_more, noted_more}
use Rattle.onelock.proofs.Theorems.{one_deed_at_a_time}
use Rattle.nightlock.specs.NightLock.{plan_in, many_steps as item_steps, as_items, items_in, Stands, EachSaid, reports, reported}
use Rattle.nightlock.specs.Busy.{some_has, steps_after_which, file_steps, recounted}
use Rattle.nightlock.proofs.Counting.{one_after}
use Rattle.nightlock.proofs.Recounted.{lock_recounted, event_recounted, action_recounted, last_recounted}
use Rattle.nightlock.proofs.Deeds.{apart, apart_more, apart_one, tells, tells_all, event_reports, no_event_lem, action_reports, lock_reports, last_reports}

-- the busy steps of a lock after so many steps of a file, as they are counted: a count of 64 bits stays at its top
abbrev pub busy_steps : List ℕ → ℕ → ℕ → ℕ
busy_steps file steps lock = min (file_steps some_has file steps lock) (2 ^ 64 - 1)

-- what is reached has counted them
pub record Counted (file : List ℕ) (reached : Reached) : Type 0 where
  pub places : length reached.tally.busy ≡ 64
  pub busy : (lock : ℕ) → lock < (plan_in file).locks → get_or reached.tally.busy lock 0 ≡ busy_steps file reached.steps lock

-- a run that has done these items, with those left
pub record At (file : List ℕ) (done left : List Item) (run : Run) : Type 0 where
  pub split : items_in file ≡ done ++ left
  pub state : run.reached.state ≡ reached (plan_in file) done
  pub steps : run.reached.steps ≡ steps_among done
  pub counted : Counted file run.reached

-- so it stands, as the statements say it
abbrev pub standing : {file : List ℕ} {done left : List Item} {run : Run} → At file done left run → Stands file run
standing {done} {left} a = record { done = done; left = left; split = a.split; state = a.state; steps = a.steps }

-- what is reached is all that this looks at
pub at_same : {file : List ℕ} {done left : List Item} {run : Run} (other : Run) → other.reached ≡ run.reached → At file done left run → At file done left other
at_same {file} other e a =
    record {
      split = a.split;
      state = ap (λ (x : Reached). x.state) e ∙ a.state;
      steps = ap (λ (x : Reached). x.steps) e ∙ a.steps;
      counted = subst (Counted file) (sym e) a.counted;
    }

-- a line that is said where the run so stands
abbrev pub BothStand : List ℕ → Said → Type 0
BothStand file said = Stands file said.before × Stands file said.after

-- a line says the busy steps that are counted so, if it says any
abbrev pub SaysBusy : List ℕ → Line → Type 0
SaysBusy file line = recounted (busy_steps file) line ≡ line

-- a run at the end that has done some items more, all of them where it is not cut
pub record Onward (file : List ℕ) (done : List Item) (end : Run) : Type 0 where
  pub more : List Item
  pub all : List Item
  pub left : List Item
  pub sum : all ≡ done ++ more
  pub ends : At file all left end
  pub whole : is_cut end.phase ≡ false → left ≡ []

-- a course after these items: it reports of each lock what is still to be told, and then the history of the items that it does more
pub record Goes (file : List ℕ) (to_tell : ℕ → List Moment) (done : List Item) (c : Course) : Type 0 where
  pub way : Onward file done c.end
  pub each : EachSaid (BothStand file) c.lines
  pub busy : EachSaid (λ said. SaysBusy file said.line) c.lines
  pub lines : (lock : ℕ)
      → reported (plan_in file).rules lock c.lines ≡ to_tell lock ++ history_from lock way.more (steps_among done) (reached (plan_in file) done)

-- a node's event is to be told, in the last step done
abbrev pub event_moments : ℕ → Run → ℕ → List Moment
event_moments rules run lock = apart (in_step run.reached.steps) (deed_of rules lock (run.next + 1) (event_here run))

-- what an item does to a lock is to be told, at its time
abbrev pub item_moment : List ℕ → List Item → Item → ℕ → List Moment
item_moment file done item lock = noted (time_of item (steps_among done)) (deeds_of lock item (reached (plan_in file) done)) []

-- nothing to tell
abbrev pub none : ℕ → List Moment
none lock = []

-- who is counted as busy after a step: some node has the lock then
abbrev busy_after : State → ℕ → Bool
busy_after state lock = busy (stepping state).state.nodes (min (node_count state.plan) 64) lock

busy-after : (state : State) (lock : ℕ) → busy_after state lock ≡ some_has lock (stepping state).state
unfolding busy some_has
busy-after state lock =
    let count : min (node_count state.plan) 64 ≡ node_count (stepping state).state.plan =
    omega (arith, count_most state.plan, ap node_count (stepping_plan state)) in
    ap (some (λ place. had (get_or (stepping state).state.nodes place rest_node) lock)) count

module _ {file : List ℕ} where
  -- a line more
  goes_says : (first to_tell : ℕ → List Moment) (line : Line) (before after : Run) {done : List Item} {c : Course} → Stands file before → Stands file after
      → ((lock : ℕ) → reports (plan_in file).rules lock line ≡ first lock) → SaysBusy file line → Goes file to_tell done c
      → Goes file (λ lock. first lock ++ to_tell lock) done (says line before after c)
  unfolding says EachSaid reported
  goes_says first to_tell line before after {done} {c} b a e same g =
      let rules = (plan_in file).rules in
      record {
        way = g.way;
        each = ((b, a), g.each);
        busy = (same, g.busy);
        lines = λ lock. ap (λ (now : List Moment). now ++ reported rules lock c.lines) (e lock)
            ∙ ap (λ (rest : List Moment). first lock ++ rest) (g.lines lock) ∙ sym (append_assoc (first lock) (to_tell lock) _);
      }

  -- what is to be told, said in another way
  pub goes_same : (to_tell other : ℕ → List Moment) {done : List Item} {c : Course} → ((lock : ℕ) → to_tell lock ≡ other lock)
      → Goes file to_tell done c → Goes file other done c
  goes_same to_tell other {done} e g =
      record {
        way = g.way;
        each = g.each;
        busy = g.busy;
        lines = λ lock. g.lines lock
            ∙ ap (λ (first : List Moment). first ++ history_from lock g.way.more (steps_among done) (reached (plan_in file) done)) (e lock);
      }

  -- what was told is what an item did
  goes_item : {done : List Item} {c : Course} (item : Item) → Goes file (item_moment file done item) (done ++ (item ∷ [])) c → Goes file none done c
  unfolding history_from
  goes_item {done} item g =
      let w = g.way in
      record {
        way = record {
          more = item ∷ w.more;
          all = w.all;
          left = w.left;
          sum = w.sum ∙ append_snoc done item w.more;
          ends = w.ends;
          whole = w.whole;
        };
        each = g.each;
        busy = g.busy;
        lines = λ lock. g.lines lock
            ∙ ap (λ (n : ℕ). item_moment file done item lock ++ history_from lock w.more n (reached (plan_in file) (done ++ (item ∷ [])))) (among_more done item)
            ∙ ap (λ (s : State). item_moment file done item lock ++ history_from lock w.more (done_after item (steps_among done)) s)
            (reached-more (plan_in file) done item)
            ∙ sym (noted_more (time_of item (steps_among done)) (deeds_of lock item (reached (plan_in file) done)) [] _);
      }

  -- all is said
  goes_silence : {done left : List Item} (run : Run) → At file done left run → (is_cut run.phase ≡ false → left ≡ []) → Goes file none done (silence run)
  unfolding silence EachSaid reported history_from
  goes_silence {done} {left} run a w =
      record {
        way = record { more = []; all = done; left = left; sum = sym (append-nil done); ends = a; whole = w };
        each = tt;
        busy = tt;
        lines = λ lock. refl;
      }

  -- the lines of the end
  goes_closing : {done left : List Item} (n : ℕ) (run : Run) → run.next + n ≤ (plan_in file).locks → At file done left run
      → (is_cut run.phase ≡ false → left ≡ []) → Goes file none done (closing n run)
  unfolding closing past all_said lock_line
  goes_closing zero run m a w =
      let b = at_same (all_said run) refl a in
      goes_says none none (last_line run) run (all_said run) (standing a) (standing b) (λ lock. last_reports _ lock run) (last_recounted (busy_steps file) run)
      (goes_silence (all_said run) b w)
  goes_closing (suc n) run m a w =
      let b = at_same (past run) refl a in
      goes_says none none (lock_line run) run (past run) (standing a) (standing b) (λ lock. lock_reports _ lock run)
      (lock_recounted (busy_steps file) _ run.next _ _ _ (a.counted.busy run.next (omega arith))) (goes_closing n (past run) (omega arith) b w)

  -- a node's event, told or not
  goes_event : (test : Bool) (to_tell : ℕ → List Moment) {done left : List Item} (run : Run) {c : Course} → is_event (event_here run) ≡ test → At file done left run
      → Goes file to_tell done c → Goes file (λ lock. event_moments (plan_in file).rules run lock ++ to_tell lock) done (cond test (says (event_line run) run (past run) c) c)
  unfolding past apart
  goes_event true to_tell run e a g =
      goes_says (event_moments (plan_in file).rules run) to_tell (event_line run) run (past run)
      (standing a) (standing (at_same (past run) refl a)) (λ lock. event_reports _ lock run) (event_recounted (busy_steps file) run) g
  goes_event false to_tell run e a g =
      goes_same to_tell _ (λ lock. ap (λ (deeds : List Deed). apart (in_step run.reached.steps) deeds ++ to_tell lock)
      (sym (no_event_lem _ lock (run.next + 1) (event_here run) e))) g

  -- the events of so many nodes from the next on
  pub goes_telling : {done left : List Item} (n : ℕ) (run : Run) (then : Run → Course) → At file done left run
      → ((next : ℕ) → Goes file none done (then (with_next run next)))
      → Goes file (λ lock. apart (in_step run.reached.steps) (tells (plan_in file).rules lock run.events run.next n)) done (telling n run then)
  unfolding telling tells past event_here apart
  goes_telling zero run then a g = g run.next
  goes_telling (suc n) run then a g =
      let rules = (plan_in file).rules in
      goes_same _ _ (λ lock. sym (apart_more (in_step run.reached.steps) (deed_of rules lock (run.next + 1) (event_here run))
      (tells rules lock run.events (run.next + 1) n)))
      (goes_event (is_event (event_here run)) _ run refl a (goes_telling n (past run) then (at_same (past run) refl a) g))

module _ (file : List ℕ) (r : in_range (plan_in file) ≡ true) where
  -- the plan that it started from
  plan_at : {done left : List Item} (run : Run) → At file done left run → run.reached.state.plan ≡ plan_in file
  plan_at {done} run a = ap (λ (t : State). t.plan) a.state ∙ plan_reached (plan_in file) r done

  -- one step more of the file: that step, if some node has the lock after it
  step_busy : {done left : List Item} (run : Run) → At file done (step ∷ left) run → (lock : ℕ)
      → file_steps some_has file run.reached.steps lock + cond (busy_after run.reached.state lock) 1 0 ≡ file_steps some_has file (run.reached.steps + 1) lock
  unfolding file_steps after_item reached
  step_busy {done} {left} run a lock =
      let start = start_of (plan_in file) in
      let after : ℕ → List Item → ℕ = λ n items. steps_after_which (some_has lock) n items start in
      ap₂ (λ (sum one : ℕ). sum + one) (ap₂ after a.steps a.split)
      (ap (λ (b : Bool). cond b 1 0) (busy-after run.reached.state lock ∙ ap (λ (s : State). some_has lock (stepping s).state) a.state))
      ∙ sym (one_after (some_has lock) done left start)
      ∙ sym (ap₂ after (ap (λ (n : ℕ). n + 1) a.steps ∙ add-one (steps_among done)) a.split)

  -- so it is counted
  step_counted : {done left : List Item} (run : Run) → At file done (step ∷ left) run → Counted file (one_step run).reached
  unfolding one_step reached_next
  step_counted run a =
      let tally = run.reached.tally in
      let most = (in_range_lem (plan_in file) r).locks_most in
      let locks : run.reached.state.plan.locks ≡ (plan_in file).locks = ap (λ (p : Plan). p.locks) (plan_at run a) in
      record {
        places = step_places _ _ _ _ tally ∙ a.counted.places;
        busy = λ lock below.
            step_exact _ _ _ _ tally lock (file_steps some_has file run.reached.steps lock) (omega (arith, locks, most)) (omega (arith, a.counted.places, most))
            (a.counted.busy lock below)
            ∙ ap (λ (m : ℕ). min m (2 ^ 64 - 1)) (step_busy run a lock);
      }

  -- a step, and what it has done
  step_stands : {done left : List Item} (run : Run) → At file done (step ∷ left) run → At file (done ++ (step ∷ [])) left (one_step run)
  unfolding one_step reached_next after_item done_after
  step_stands {done} {left} run a =
      record {
        split = a.split ∙ sym (append_snoc done step left);
        state = ap (λ (s : State). (stepping s).state) a.state ∙ sym (reached-more (plan_in file) done step);
        steps = ap (λ (n : ℕ). n + 1) a.steps ∙ add-one (steps_among done) ∙ sym (among_more done step);
        counted = step_counted run a;
      }

  -- its events are what it does
  step_deeds : {done left : List Item} (run : Run) → At file done (step ∷ left) run → (lock : ℕ)
      → tells (plan_in file).rules lock (one_step run).events 0 (nodes_of (one_step run) - 0) ≡ deeds_of lock step (reached (plan_in file) done)
  unfolding one_step nodes_of deeds_of
  step_deeds {done} run a lock =
      let s = reached (plan_in file) done in
      let now : List (Option Event) = (stepping s).events in
      let rules = (plan_in file).rules in
      let count : nodes_of (one_step run) ≡ node_count s.plan = step_nodes run ∙ ap (λ (t : State). node_count t.plan) a.state in
      let nodes : nodes_of (one_step run) - 0 ≡ node_count s.plan = omega (arith, count) in
      ap (λ (t : State). tells rules lock (stepping t).events 0 (nodes_of (one_step run) - 0)) a.state
      ∙ ap (tells rules lock now 0) nodes
      ∙ tells_all rules lock now (node_count s.plan)
      ∙ ap (λ (p : Plan). deeds_in p.rules lock now (node_count s.plan)) (sym (plan_reached (plan_in file) r done))

  -- and they are told at its time: at most one of them is a deed of this lock
  step_tells : {done left : List Item} (run : Run) → At file done (step ∷ left) run → (lock : ℕ)
      → apart (in_step (one_step run).reached.steps) (tells (plan_in file).rules lock (one_step run).events 0 (nodes_of (one_step run) - 0))
      ≡ item_moment file done step lock
  unfolding time_of done_after
  step_tells {done} run a lock =
      ap (apart (in_step (one_step run).reached.steps)) (step_deeds run a lock)
      ∙ ap (λ (n : ℕ). apart (in_step n) (deeds_of lock step (reached (plan_in file) done))) ((step_stands run a).steps ∙ among_more done step)
      ∙ apart_one _ _ (one_deed_at_a_time (plan_in file) r done step lock)

  -- an action, and what it has done
  act_stands : {done left : List Item} (action : Action) (node lock : ℕ) (run : Run) → At file done (act action node lock ∷ left) run
      → At file (done ++ (act action node lock ∷ [])) left (action_item action node lock run)
  unfolding action_item after_item done_after
  act_stands {done} {left} action node lock run a =
      record {
        split = a.split ∙ sym (append_snoc done (act action node lock) left);
        state = ap (λ (s : State). (acting action s node lock).state) a.state ∙ sym (reached-more (plan_in file) done (act action node lock));
        steps = a.steps ∙ sym (among_more done (act action node lock));
        counted = record { places = a.counted.places; busy = a.counted.busy };
      }

  -- and its line reports what it does
  act_tells : {done left : List Item} (action : Action) (node own : ℕ) (run : Run) → At file done (act action node own ∷ left) run → (lock : ℕ)
      → reports (plan_in file).rules lock (action_line action node own run) ≡ item_moment file done (act action node own) lock
  unfolding time_of
  act_tells {done} action node own run a lock =
      ap (λ (p : Plan). reports p.rules lock (action_line action node own run)) (sym (plan_at run a))
      ∙ action_reports action node own lock run
      ∙ ap (λ (n : ℕ). noted (after_step n) (deeds_of lock (act action node own) run.reached.state) []) a.steps
      ∙ ap (λ (t : State). noted (after_step (steps_among done)) (deeds_of lock (act action node own) t) []) a.state

  -- the lines of the end, in either way
  goes_end : {done left : List Item} (phase : Phase) (run : Run) → At file done left run → (is_cut phase ≡ false → left ≡ [])
      → Goes file none done (closing_all (at_end phase run))
  unfolding closing_all at_end locks_of
  goes_end phase run a w = goes_closing _ (at_end phase run) (omega (arith, ap (λ (p : Plan). p.locks) (plan_at run a))) (at_same _ refl a) w

  module _ (ceiling : ℕ) where
    -- a step and then the rest, or the end before it
    goes_step : {done left : List Item} (room : Bool) (run : Run) (then : Run → Course) → At file done (step ∷ left) run
        → ((next : Run) → At file (done ++ (step ∷ [])) left next → Goes file none (done ++ (step ∷ [])) (then next))
        → Goes file none done (cond room (telling_all (one_step run) then) (closing_all (at_end Cut run)))
    unfolding telling_all closing_all is_cut at_end one_step
    goes_step true run then a again =
        let b = step_stands run a in
        goes_item step (goes_same _ _ (step_tells run a) (goes_telling _ (one_step run) then b (λ next. again (with_next (one_step run) next) (at_same _ refl b))))
    goes_step false run then a again = goes_end Cut run a (λ e. absurd (true≢false e))

    -- so many steps, and then the rest
    goes_steps : {done left : List Item} (n : ℕ) (run : Run) (then : Run → Course) → At file done (item_steps n left) run
        → ((next : Run) (d : List Item) → At file d left next → Goes file none d (then next)) → Goes file none done (many_steps ceiling n run then)
    unfolding many_steps item_steps
    goes_steps {done} zero run then a again = again run done a
    goes_steps (suc n) run then a again =
        goes_step (ltb run.reached.steps ceiling) run (λ next. many_steps ceiling n next then) a (λ next b. goes_steps n next then b again)

    -- all items
    pub goes_items : {done : List Item} (l : List FileItem) (run : Run) → At file done (as_items l) run → Goes file none done (items ceiling l run)
    unfolding items as_items closing_all at_end steps_item
    goes_items [] run a = goes_end Ended run a (λ e. refl)
    goes_items (Steps n ∷ rest) run a =
        goes_steps n (steps_item n run) (items ceiling rest) (at_same _ refl a) (λ next d b. goes_items rest next b)
    goes_items (Act action node lock ∷ rest) run a =
        let b = act_stands action node lock run a in
        goes_item (act action node lock) (goes_same _ _ (λ own. append-nil _)
        (goes_says _ none (action_line action node lock run) run (action_item action node lock run) (standing a) (standing b) (act_tells action node lock run a)
        (action_recounted (busy_steps file) action node lock run) (goes_items rest (action_item action node lock run) b)))
