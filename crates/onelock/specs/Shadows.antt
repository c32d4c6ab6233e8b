-- docs/NESTED.md: "No car on a shadow train is rewritten." Here of every car by itself: beside a schedule it is told of each sender whether the car that
-- it sends is real or shadow, by where that car comes from alone. No node and no junction ever sends another car in the place of a shadow.
use Rattle.std.specs.Prelude.{ℕ, ◌+◌, ◌≡◌, Bool, true, false, not, ◌&&◌, ◌||◌, List, [], ◌∷◌, get_or, set, replicate}
use Rattle.positions.specs.Ring.{Ring, no_more, user_node, a_junction, nodes_in}
use Rattle.plan.specs.declared.Plan.{Plan}
use Rattle.plan.specs.Plan.{node_places, junction_places, ring_of, in_range}
use Rattle.usernode.specs.declared.Rule.{Rule}
use Rattle.usernode.specs.declared.Rule.TheVariants.{Passes, SendsReqp, SendsDov, SendsDidv, OwnReqp, OwnFailp, FailsReqp, OwnDov, LosesLock}
use Rattle.usernode.specs.Rules.{rule}
use Rattle.tours.specs.declared.JunctionRule.{JunctionRule}
use Rattle.tours.specs.declared.JunctionRule.TheVariants.{GoesOn, FailsReqp as Fails, Begins, Drops, TokenOut, CarOut, SetsBit, ClearsBit, Ends}
use Rattle.junction.specs.Turn.{junction_rule}
use Rattle.ring.specs.declared.State.{State}
use Rattle.ring.specs.State.{start_of}
use Rattle.ring.specs.Walk.{Walk, node_here, junction_here, on_node, wanted, enters, leaves, along, setting_out}
use Rattle.onelock.specs.OneLock.{Item, step, act, after_item, reached}

-- of each sender whether the car that it sends is real (true) or shadow: the user node at a place; the junction at a place, along the ring on which it
-- stands and to its subring. The zero node's car is always real
pub record Ghosts : Type 0 where
  pub nodes : List Bool
  pub mains : List Bool
  pub subrings : List Bool

-- at the start nothing else is real
unfoldable pub none_real : Ghosts
none_real = record { nodes = replicate node_places false; mains = replicate junction_places false; subrings = replicate junction_places false }

-- what a user node sends, by its rule and by whether the arrival was real: a car that it puts on the train itself (rules 1 to 3) is real, all else is
-- what the arrival was
unfoldable pub node_sends_real : Rule → Bool → Bool
node_sends_real Passes came = came
node_sends_real (SendsReqp lock) came = true
node_sends_real (SendsDov lock) came = true
node_sends_real (SendsDidv lock) came = true
node_sends_real (OwnReqp lock) came = came
node_sends_real (OwnFailp lock) came = came
node_sends_real (FailsReqp tag) came = came
node_sends_real (OwnDov lock) came = came
node_sends_real (LosesLock tag) came = came

-- what a junction sends along its ring, by its sentence and by whether the arrival and what came out of the subring were real. Outside a tour: what
-- the arrival was; where the tour begins, and for a car that it drops, an idle that is shadow; in a tour: what came out was
unfoldable pub main_sends_real : JunctionRule → Bool → Bool → Bool
main_sends_real GoesOn came out = came
main_sends_real (Fails tag) came out = came
main_sends_real Begins came out = false
main_sends_real Drops came out = false
main_sends_real TokenOut came out = out
main_sends_real CarOut came out = out
main_sends_real (SetsBit lock) came out = out
main_sends_real (ClearsBit lock) came out = out
main_sends_real Ends came out = out

-- what it sends to its subring: outside a tour a shadow; where the tour begins, and in the tour, what the arrival was
unfoldable pub subring_sends_real : JunctionRule → Bool → Bool
subring_sends_real GoesOn came = false
subring_sends_real (Fails tag) came = false
subring_sends_real Begins came = came
subring_sends_real Drops came = came
subring_sends_real TokenOut came = came
subring_sends_real CarOut came = came
subring_sends_real (SetsBit lock) came = came
subring_sends_real (ClearsBit lock) came = came
subring_sends_real Ends came = came

-- the rules, and the sentence, that send another car in the place of the one that came: a node's own car that comes home becomes null or gotp, a reqp
-- becomes failp. Rules 1 to 3 put a car where idle came, and rule 8 sends the dov on
unfoldable pub node_rewrites : Rule → Bool
node_rewrites Passes = false
node_rewrites (SendsReqp lock) = false
node_rewrites (SendsDov lock) = false
node_rewrites (SendsDidv lock) = false
node_rewrites (OwnReqp lock) = true
node_rewrites (OwnFailp lock) = true
node_rewrites (FailsReqp tag) = true
node_rewrites (OwnDov lock) = true
node_rewrites (LosesLock tag) = false

unfoldable pub junction_rewrites : JunctionRule → Bool
junction_rewrites GoesOn = false
junction_rewrites (Fails tag) = true
junction_rewrites Begins = false
junction_rewrites Drops = false
junction_rewrites TokenOut = false
junction_rewrites CarOut = false
junction_rewrites (SetsBit lock) = false
junction_rewrites (ClearsBit lock) = false
junction_rewrites Ends = false

-- beside the model's walk: whether the car sent by the last sender met is real, whether a shadow was rewritten, and what the senders passed send then
pub record Watch : Type 0 where
  pub real : Bool
  pub rewritten : Bool
  pub ghosts : Ghosts

-- the rule of the user node that the walk comes to, and the sentence of the junction at which it was before and that it leaves now
unfoldable pub rule_here : State → Walk → Rule
rule_here state walk = rule (node_here state walk) (walk.passed + 1) walk.last

unfoldable pub sentence_here : State → Bool → ℕ → Walk → Walk → JunctionRule
sentence_here state inner size before inside =
    junction_rule inner before.passed (before.passed + size) (wanted state before.passed size) before.last inside.last (junction_here state before)

-- past a user node; `ghosts` is what the senders sent before the step
unfoldable pub watch_node : State → Ghosts → Walk → Watch → Watch
watch_node state ghosts walk watch =
    record {
      real = get_or ghosts.nodes walk.passed false;
      rewritten = watch.rewritten || (node_rewrites (rule_here state walk) && not watch.real);
      ghosts = record {
        nodes = set watch.ghosts.nodes walk.passed (node_sends_real (rule_here state walk) watch.real);
        mains = watch.ghosts.mains;
        subrings = watch.ghosts.subrings;
      };
    }

-- into a junction
unfoldable pub watch_into : Ghosts → Walk → Watch → Watch
watch_into ghosts walk watch =
    record { real = get_or ghosts.subrings walk.turned false; rewritten = watch.rewritten; ghosts = watch.ghosts }

-- out of it: `came` is the watch at its main side, `out` the watch at its subring's end
unfoldable pub watch_out : State → Ghosts → Bool → ℕ → Walk → Walk → Watch → Watch → Watch
watch_out state ghosts inner size before inside came out =
    record {
      real = get_or ghosts.mains before.turned false;
      rewritten = out.rewritten || (junction_rewrites (sentence_here state inner size before inside) && not came.real);
      ghosts = record {
        nodes = out.ghosts.nodes;
        mains = set out.ghosts.mains before.turned (main_sends_real (sentence_here state inner size before inside) came.real out.real);
        subrings = set out.ghosts.subrings before.turned (subring_sends_real (sentence_here state inner size before inside) came.real);
      };
    }

-- along a ring, beside the model's walk (`along`)
unfoldable pub watch_along : State → Ghosts → Bool → Ring → Walk → Watch → Watch
watch_along state ghosts inner no_more walk watch = watch
watch_along state ghosts inner (user_node rest) walk watch =
    watch_along state ghosts inner rest (on_node state walk) (watch_node state ghosts walk watch)
watch_along state ghosts inner (a_junction subring rest) walk watch =
    watch_along state ghosts inner rest (leaves state inner (nodes_in subring) walk (along state true subring (enters state walk)))
    (watch_out state ghosts inner (nodes_in subring) walk (along state true subring (enters state walk)) watch
    (watch_along state ghosts true subring (enters state walk) (watch_into ghosts walk watch)))

-- the step of a state, with what its senders sent before it: the first position takes the zero node's car, which is real
unfoldable pub watched : State → Ghosts → Watch
watched state ghosts =
    watch_along state ghosts false (ring_of state.plan) (setting_out state) (record { real = true; rewritten = false; ghosts = ghosts })

-- what the senders send after a schedule; an action changes no car
unfoldable pub ghosts_after : List Item → State → Ghosts → Ghosts
ghosts_after [] state ghosts = ghosts
ghosts_after (step ∷ items) state ghosts = ghosts_after items (after_item step state) (watched state ghosts).ghosts
ghosts_after (act action node lock ∷ items) state ghosts = ghosts_after items (after_item (act action node lock) state) ghosts

unfoldable pub ghosts_reached : Plan → List Item → Ghosts
ghosts_reached plan items = ghosts_after items (start_of plan) none_real

-- in the step of any reached state no node and no junction, at any level, sends another car in the place of a shadow
abbrev pub OnlyRealCarsAreRewritten : Type 0
OnlyRealCarsAreRewritten =
    (plan : Plan) → in_range plan ≡ true → (items : List Item) → (watched (reached plan items) (ghosts_reached plan items)).rewritten ≡ false
