-- The model's walk along a part of the line, from any walk on: what it ends with, and what it leaves of the part's nodes and junctions. A junction is
-- put anew when its subring has been walked along, so a later walk is asked only for what lies between two walks.
use Prim.Native.Nat.{ℕ, zero, suc, ◌+◌, ◌-◌, ◌≤◌, ◌<◌}
use mathlib.Core.Path.{◌≡◌, refl, ◌∙◌, sym, ap, ap₂, subst, subst₂}
use mathlib.Core.Bool.{Bool, true, or-false, ◌||◌, or_assoc}
use mathlib.Core.List.{List}
use native.Mathlib.Nat.{add-zero}
use native.Mathlib.Numerals.{add-one}
use native.Mathlib.Omega.{arith}
use lib.ListN.{get_or, set, length, length-set}
use lib.Seq.{get_or-set_same, get_or-set_other}
use Rattle.lists.specs.Loops.{some}
use Rattle.cars.specs.declared.Car.{Car}
use Rattle.positions.specs.Ring.{Ring, no_more, user_node, a_junction, nodes_in, junctions_in}
use Rattle.usernode.specs.declared.Node.{Node}
use Rattle.turns.specs.declared.Turn.{Turn}
use Rattle.usernode.specs.Node.{wants_train}
use Rattle.turns.specs.Turn.{turn}
use Rattle.usernode.specs.Astray.{astray}
use Rattle.junction.specs.declared.Junction.{Junction}
use Rattle.junction.specs.Turn.{junction_turn}
use Rattle.ring.specs.declared.State.{State}
use Rattle.ring.specs.State.{rest_node, rest_junction}
use Rattle.ring.specs.Walk.{Walk, quiet, node_here, junction_here, turn_here, on_node, wanted, enters, leaves, along}
use Rattle.ring.proofs.Routed.{along_passed, along_turned}
use Rattle.onelock.proofs.Line.Ring.{Line, end, user, junction, size, out, wanting, step_line}
use Rattle.onelock.proofs.Line.Meets.{Meets}
use Rattle.onelock.proofs.State.AsLine.{line_at, strays}

-- a walk that went on from another: what is behind the other one is as it was, and the lists keep their places
pub record Later (w v : Walk) : Type 0 where
  pub further : w.passed ≤ v.passed
  pub turned : w.turned ≤ v.turned
  pub nodes : (n : ℕ) → n < w.passed → get_or v.nodes n rest_node ≡ get_or w.nodes n rest_node
  pub events : (n : ℕ) → n < w.passed → get_or v.events n quiet ≡ get_or w.events n quiet
  pub junctions : (n : ℕ) → n < w.turned → get_or v.junctions n rest_junction ≡ get_or w.junctions n rest_junction
  pub node_places_lem : length v.nodes ≡ length w.nodes
  pub event_places : length v.events ≡ length w.events
  pub junction_places_lem : length v.junctions ≡ length w.junctions

-- a walk that stays
pub later_self : (w : Walk) → Later w w
later_self w =
    record {
      further = omega arith;
      turned = omega arith;
      nodes = λ n l. refl;
      events = λ n l. refl;
      junctions = λ n l. refl;
      node_places_lem = refl;
      event_places = refl;
      junction_places_lem = refl;
    }

-- a walk that went on and on again
later_then : (w v x : Walk) → Later w v → Later v x → Later w x
later_then w v x a b =
    record {
      further = omega (arith, a.further, b.further);
      turned = omega (arith, a.turned, b.turned);
      nodes = λ n l. b.nodes n (omega (arith, a.further)) ∙ a.nodes n l;
      events = λ n l. b.events n (omega (arith, a.further)) ∙ a.events n l;
      junctions = λ n l. b.junctions n (omega (arith, a.turned)) ∙ a.junctions n l;
      node_places_lem = b.node_places_lem ∙ a.node_places_lem;
      event_places = b.event_places ∙ a.event_places;
      junction_places_lem = b.junction_places_lem ∙ a.junction_places_lem;
    }

-- a walk that has what v left in the places that v passed since w
pub record Between (w v x : Walk) : Type 0 where
  pub nodes : (n : ℕ) → w.passed ≤ n → n < v.passed → get_or x.nodes n rest_node ≡ get_or v.nodes n rest_node
  pub events : (n : ℕ) → w.passed ≤ n → n < v.passed → get_or x.events n quiet ≡ get_or v.events n quiet
  pub junctions : (n : ℕ) → w.turned ≤ n → n < v.turned → get_or x.junctions n rest_junction ≡ get_or v.junctions n rest_junction

-- v itself has it
pub between_self : (w v : Walk) → Between w v v
between_self w v = record { nodes = λ n l h. refl; events = λ n l h. refl; junctions = λ n l h. refl }

-- what has it since w and to z has it since v, where v is between them
pub between_first : (w v z x : Walk) → Later w v → Between w z x → Between v z x
between_first w v z x l b =
    record {
      nodes = λ n low high. b.nodes n (omega (arith, l.further)) high;
      events = λ n low high. b.events n (omega (arith, l.further)) high;
      junctions = λ n low high. b.junctions n (omega (arith, l.turned)) high;
    }

-- the lists have places for all that a walk has passed
pub record Room (w : Walk) : Type 0 where
  pub nodes : w.passed ≤ length w.nodes
  pub events : w.passed ≤ length w.events
  pub junctions : w.turned ≤ length w.junctions

-- what a user node was before the step, and what the walk made of it
pub record Made (s : State) (w : Walk) (number : ℕ) (arrival : Car) (u : Node) : Type 0 where
  pub old : get_or s.nodes (number - 1) rest_node ≡ u
  pub new : get_or w.nodes (number - 1) rest_node ≡ (turn s.plan.rules number arrival u).node
  pub event : get_or w.events (number - 1) quiet ≡ (turn s.plan.rules number arrival u).event

-- a part of a line, of the lists in which its nodes and junctions stand
abbrev pub Part : Type 0
Part = List Node → List Junction → Line

-- what a walk x has of a part that the walk w came to; inner says whether the part stands on a subring
pub record Steps (s : State) (inner : Bool) (part : Part) (w x : Walk) : Type 0 where
  pub line : part x.nodes x.junctions ≡ step_line s.plan.rules inner w.passed w.last (part s.nodes s.junctions)
  pub acts : Meets (Made s x) w.passed w.last (part s.nodes s.junctions)

-- the walk w goes along a part and is then v
pub record Goes (s : State) (inner : Bool) (part : Part) (w v : Walk) : Type 0 where
  pub last : v.last ≡ out w.last (part s.nodes s.junctions)
  pub astray : v.astray ≡ (w.astray || strays w.passed w.last (part s.nodes s.junctions))
  pub passed : v.passed ≡ w.passed + size (part s.nodes s.junctions)
  pub later : Later w v
  pub after : (x : Walk) → Room v → Between w v x → Steps s inner part w x

-- along the empty part
goes_end : (s : State) (inner : Bool) (w : Walk) → Goes s inner (λ ns js. end) w w
goes_end s inner w =
    record {
      last = refl;
      astray = sym (or-false w.astray);
      passed = sym (add-zero w.passed);
      later = later_self w;
      after = λ x f b. record { line = refl; acts = tt };
    }

-- the user node that a walk comes to
abbrev pub came : State → Walk → Node
came s w = get_or s.nodes w.passed rest_node

-- that node's turn
abbrev pub its_turn : State → Walk → Turn
its_turn s w = turn s.plan.rules (suc w.passed) w.last (came s w)

-- the walk past it
abbrev pub past_node : State → Walk → Walk
past_node s w =
    record {
      passed = suc w.passed;
      turned = w.turned;
      last = (came s w).car;
      astray = w.astray || astray (came s w) (suc w.passed) w.last;
      nodes = set w.nodes w.passed (its_turn s w).node;
      events = set w.events w.passed (its_turn s w).event;
      junctions = w.junctions;
    }

-- the walk past a node is the model's
pub past_node_lem : (s : State) (w : Walk) → on_node s w ≡ past_node s w
unfolding on_node turn_here node_here
past_node_lem s w = simp add-one

-- it leaves what is behind the node
later_node : (s : State) (w : Walk) → Later w (past_node s w)
later_node s w =
    record {
      further = omega arith;
      turned = omega arith;
      nodes = λ n l. get_or-set_other w.nodes w.passed n _ rest_node (omega arith);
      events = λ n l. get_or-set_other w.events w.passed n _ quiet (omega arith);
      junctions = λ n l. refl;
      node_places_lem = length-set w.nodes w.passed _;
      event_places = length-set w.events w.passed _;
      junction_places_lem = refl;
    }

-- past the node and on to z: what a walk that has what z left has of that node
pub node_after : (s : State) (w z x : Walk) → Room z → Later (past_node s w) z → Between w z x → get_or x.nodes w.passed rest_node ≡ (its_turn s w).node
node_after s w z x f l b =
    b.nodes w.passed (omega arith) (omega (arith, l.further))
    ∙ l.nodes w.passed (omega arith)
    ∙ get_or-set_same w.nodes w.passed _ rest_node (omega (arith, l.further, f.nodes, l.node_places_lem, (later_node s w).node_places_lem))

-- and what it made of that node
made_node : (s : State) (w z x : Walk) → Room z → Later (past_node s w) z → Between w z x → Made s x (suc w.passed) w.last (came s w)
made_node s w z x f l b =
    let e : suc w.passed - 1 ≡ w.passed = omega arith in
    record {
      old = ap (λ (n : ℕ). get_or s.nodes n rest_node) e;
      new = ap (λ (n : ℕ). get_or x.nodes n rest_node) e ∙ node_after s w z x f l b;
      event = ap (λ (n : ℕ). get_or x.events n quiet) e
          ∙ b.events w.passed (omega arith) (omega (arith, l.further))
          ∙ l.events w.passed (omega arith)
          ∙ get_or-set_same w.events w.passed _ quiet (omega (arith, l.further, f.events, l.event_places, (later_node s w).event_places));
    }

-- along a user node and what is behind it
goes_node : (s : State) (inner : Bool) (rest : Part) (w z : Walk) → Goes s inner rest (past_node s w) z
    → Goes s inner (λ ns js. user (get_or ns w.passed rest_node) (rest ns js)) w z
goes_node s inner rest w z t =
    record {
      last = t.last;
      astray = t.astray ∙ or_assoc w.astray _ _;
      passed = omega (arith, t.passed);
      later = later_then w (past_node s w) z (later_node s w) t.later;
      after = λ x f b.
          let o = t.after x f (between_first w (past_node s w) z x (later_node s w) b) in
          record {
            line = ap₂ user (node_after s w z x f t.later b) o.line;
            acts = (made_node s w z x f t.later b, o.acts);
          };
    }

-- a ring's line has the ring's nodes
pub line_nodes : (t : Ring) (nodes : List Node) (junctions : List Junction) (i j : ℕ) → size (line_at t nodes junctions i j) ≡ nodes_in t
unfolding nodes_in
line_nodes no_more nodes junctions i j = refl
line_nodes (user_node rest) nodes junctions i j = omega (arith, line_nodes rest nodes junctions (suc i) j)
line_nodes (a_junction subring rest) nodes junctions i j =
    ap₂ (λ (m n : ℕ). m + n) (line_nodes subring nodes junctions i (j + 1))
    (line_nodes rest nodes junctions (i + nodes_in subring) (j + 1 + junctions_in subring))

-- some node of two rows of nodes, one behind the other, wants a train: one of the first or one of the second
wanted_both : (s : State) (i m n : ℕ) → wanted s i (m + n) ≡ (wanted s i m || wanted s (i + m) n)
unfolding wanted some
wanted_both s i m zero = ap (wanted s i) (add-zero m) ∙ sym (or-false (wanted s i m))
wanted_both s i m (suc n) =
    let e : m + suc n ≡ suc (m + n) = omega arith in
    let p : i + (m + n) ≡ i + m + n = omega arith in
    ap (wanted s i) e
    ∙ ap₂ (λ (b : Bool) (k : ℕ). b || wants_train (get_or s.nodes k rest_node)) (wanted_both s i m n) p
    ∙ or_assoc (wanted s i m) _ _

-- some node of a ring wants a train, as the model asks it
wanted-line : (s : State) (t : Ring) (i j : ℕ) → wanted s i (nodes_in t) ≡ wanting (line_at t s.nodes s.junctions i j)
unfolding nodes_in wanted some
wanted-line s no_more i j = refl
wanted-line s (user_node rest) i j =
    let e : nodes_in rest + 1 ≡ 1 + nodes_in rest = omega arith in
    ap (wanted s i) e ∙ wanted_both s i 1 (nodes_in rest)
    ∙ ap₂ (λ (p q : ℕ). wants_train (get_or s.nodes p rest_node) || wanted s q (nodes_in rest)) (add-zero i) (add-one i)
    ∙ ap (λ (b : Bool). wants_train (get_or s.nodes i rest_node) || b) (wanted-line s rest (suc i) j)
wanted-line s (a_junction subring rest) i j =
    wanted_both s i (nodes_in subring) (nodes_in rest)
    ∙ ap₂ (λ (a b : Bool). a || b) (wanted-line s subring i (j + 1)) (wanted-line s rest (i + nodes_in subring) (j + 1 + junctions_in subring))

-- past a junction, by how the walk goes along its subring
module _ (s : State) (inner : Bool) (subring : Ring) (w : Walk) where
  -- the walk at the subring's end
  abbrev pub within : Walk
  within = along s true subring (enters s w)

  -- the walk behind the junction
  abbrev pub behind : Walk
  behind = leaves s inner (nodes_in subring) w within

  -- the junction
  abbrev pub here : Junction
  here = get_or s.junctions w.turned rest_junction

  -- its subring's line
  abbrev users : Line
  users = line_at subring s.nodes s.junctions w.passed (w.turned + 1)

  -- its turn, as the model has it
  abbrev pub model_turn : Junction
  model_turn =
      junction_turn inner w.passed (w.passed + nodes_in subring) (wanted s w.passed (nodes_in subring)) w.last within.last here

  -- its turn, as the line has it
  abbrev turns : Junction
  turns = junction_turn inner w.passed (w.passed + size users) (wanting users) w.last (out here.subring users) here

  module _ (g : Goes s true (λ ns js. line_at subring ns js w.passed (w.turned + 1)) (enters s w) within) where
    -- it leaves what is behind the junction
    pub later_junction : Later w behind
    unfolding enters leaves
    later_junction =
        let i = g.later in
        record {
          further = i.further;
          turned = omega (arith, i.turned);
          nodes = i.nodes;
          events = i.events;
          junctions = λ n l. get_or-set_other within.junctions w.turned n _ rest_junction (omega arith) ∙ i.junctions n (omega arith);
          node_places_lem = i.node_places_lem;
          event_places = i.event_places;
          junction_places_lem = length-set within.junctions w.turned _ ∙ i.junction_places_lem;
        }

    -- and it is behind it
    behind_turned : w.turned < behind.turned
    unfolding enters leaves
    behind_turned = omega (arith, g.later.turned)

    -- what has what z left since the junction has what the walk left at the subring's end
    pub between_within : (z x : Walk) → Later behind z → Between w z x → Between (enters s w) within x
    unfolding enters leaves
    between_within z x l b =
        record {
          nodes = λ n low high. b.nodes n low (omega (arith, l.further)) ∙ l.nodes n high;
          events = λ n low high. b.events n low (omega (arith, l.further)) ∙ l.events n high;
          junctions = λ n low high.
              b.junctions n (omega arith) (omega (arith, l.turned)) ∙ l.junctions n high
              ∙ get_or-set_other within.junctions w.turned n _ rest_junction (omega arith);
        }

    -- there is room at the subring's end where there is room behind
    pub room_within : (z : Walk) → Later behind z → Room z → Room within
    unfolding leaves
    room_within z l f =
        let same : length behind.junctions ≡ length within.junctions = length-set within.junctions w.turned _ in
        record {
          nodes = omega (arith, l.further, f.nodes, l.node_places_lem);
          events = omega (arith, l.further, f.events, l.event_places);
          junctions = omega (arith, l.turned, f.junctions, l.junction_places_lem);
        }

    -- the turn that the model takes is the line's
    its_turn_lem : model_turn ≡ turns
    unfolding enters junction_here
    its_turn_lem =
        ap₂ (λ (n : ℕ) (b : Bool). junction_turn inner w.passed (w.passed + n) b w.last within.last here)
        (sym (line_nodes subring s.nodes s.junctions w.passed (w.turned + 1))) (wanted-line s subring w.passed (w.turned + 1))
        ∙ ap (λ (c : Car). junction_turn inner w.passed (w.passed + size users) (wanting users) w.last c here) g.last

    -- what a walk that has what z left has of the junction
    pub junction_after : (z x : Walk) → Room z → Later behind z → Between w z x → get_or x.junctions w.turned rest_junction ≡ model_turn
    unfolding leaves junction_here
    junction_after z x f l b =
        b.junctions w.turned (omega arith) (omega (arith, behind_turned, l.turned))
        ∙ l.junctions w.turned behind_turned
        ∙ get_or-set_same within.junctions w.turned _ rest_junction (omega (arith, behind_turned, (room_within z l f).junctions))

    -- along the junction and what is behind it
    goes_junction : (rest : Part) (z : Walk) → Goes s inner rest behind z
        → Goes s inner (λ ns js. junction (get_or js w.turned rest_junction) (line_at subring ns js w.passed (w.turned + 1)) (rest ns js)) w z
    unfolding enters leaves junction_here
    goes_junction rest z t =
        let m : ℕ = s.plan.rules in
        let r : Line = rest s.nodes s.junctions in
        record {
          last = t.last;
          astray = t.astray ∙ ap₂ (λ (b : Bool) (k : ℕ). b || strays k here.main r) g.astray g.passed ∙ or_assoc w.astray _ _;
          passed = omega (arith, t.passed, g.passed);
          later = later_then w behind z later_junction t.later;
          after = λ x f b.
              let i = g.after x (room_within z t.later f) (between_within z x t.later b) in
              let o = t.after x f (between_first w behind z x later_junction b) in
              record {
                line = ap₂ (λ (j : Junction) (q : Line). junction j q (rest x.nodes x.junctions)) (junction_after z x f t.later b ∙ its_turn_lem) i.line
                    ∙ ap (λ (q : Line). junction turns (step_line m true w.passed here.subring users) q)
                    (o.line ∙ ap (λ (k : ℕ). step_line m inner k here.main r) g.passed);
                acts = (i.acts, subst (λ (k : ℕ). Meets (Made s x) k here.main r) g.passed o.acts);
              };
        }

-- along a ring: the walk goes along the ring's line
pub goes_along : (s : State) (inner : Bool) (t : Ring) (w : Walk) → Goes s inner (λ ns js. line_at t ns js w.passed w.turned) w (along s inner t w)
unfolding along enters leaves
goes_along s inner no_more w = goes_end s inner w
goes_along s inner (user_node rest) w =
    subst (λ (v : Walk). Goes s inner (λ ns js. line_at (user_node rest) ns js w.passed w.turned) w (along s inner rest v)) (sym (past_node_lem s w))
    (goes_node s inner (λ ns js. line_at rest ns js (suc w.passed) w.turned) w _ (goes_along s inner rest (past_node s w)))
goes_along s inner (a_junction subring rest) w =
    let v = behind s inner subring w in
    goes_junction s inner subring w (goes_along s true subring (enters s w))
    (λ ns js. line_at rest ns js (w.passed + nodes_in subring) (w.turned + 1 + junctions_in subring)) (along s inner rest v)
    (subst₂ (λ (i j : ℕ). Goes s inner (λ ns js. line_at rest ns js i j) v (along s inner rest v))
    (along_passed s true subring (enters s w)) (along_turned s true subring (enters s w)) (goes_along s inner rest v))
