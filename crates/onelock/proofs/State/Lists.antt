-- A state's line, seen on the state's lists: what holds of every place of a list holds along the line; and there are no junctions under ring rules.
use Prim.Native.Nat.{ℕ, suc, ◌+◌, ◌≤◌, ◌<◌}
use mathlib.Core.Path.{◌≡◌, refl, sym, ap, ◌∙◌}
use mathlib.Core.Bool.{Bool, true, false, ◌||◌}
use mathlib.Core.Logic.{◌⊎◌, inl, inr, ⊎_elim}
use mathlib.Core.List.{List}
use native.Mathlib.Nat.{lt_of_lt_of_le}
use native.Mathlib.Omega.{arith}
use lib.Dec.{eqb}
use lib.ListN.{get_or}
use lib.Pow.{pow_mono}
use borrow.Author.Tests.{ltb-true, eqb-true}
use Rattle.lists.proofs.Laws.{and_right}
use Rattle.lists.proofs.Places.{place_default}
use Rattle.cars.specs.declared.Car.{Car}
use Rattle.cars.specs.Cars.{multiring, names, notice_names, car_names}
use Rattle.plan.specs.declared.Plan.{Plan}
use Rattle.positions.specs.Ring.{Ring, no_more, user_node, a_junction, nodes_in, junctions_in}
use Rattle.plan.specs.Plan.{ring_of, junctions_allowed, in_range, node_count}
use Rattle.plan.proofs.Laws.{in_range_lem, counted, junctions_counted}
use Rattle.usernode.specs.declared.Node.{Node}
use Rattle.usernode.specs.declared.Activity.{Activity}
use Rattle.usernode.specs.declared.Activity.TheVariants.{Idle as Resting, ToSendReqp, WaitingReqp, ToSendDov, WaitingDov}
use Rattle.usernode.specs.Sound.{activity_names, node_sound}
use Rattle.junction.specs.declared.Junction.{Junction}
use Rattle.ring.specs.declared.State.{State}
use Rattle.ring.specs.State.{rest_node, rest_junction, start_of}
use Rattle.ring.specs.Sound.{sound}
use Rattle.ring.proofs.Laws.{sound_plan, node_passes_lem, junction_passes_lem}
use Rattle.ring.proofs.Sound.Node.{names_lock, sound_car, in_plan}
use Rattle.ring.proofs.Sound.Junction.{junction_in_plan}
use Rattle.onelock.proofs.Train.Cells.{Names}
use Rattle.onelock.proofs.Line.Numbers.{Nodes, Cars, Users, Parts, parts_nodes}
use Rattle.onelock.proofs.Node.Rules.{Small, LowNotice}
use Rattle.onelock.proofs.Whole.Start.{Fresh}
use Rattle.onelock.proofs.State.AsLine.{line_at, line_of}

-- what holds of every place in use of the lists of nodes and of junctions holds of each node and junction of the line
module _ (P : Node → Type 0) (Q : Junction → Type 0) (nodes : List Node) (junctions : List Junction) (n m : ℕ)
    (each-node : (i : ℕ) → i < n → P (get_or nodes i rest_node)) (each-junction : (j : ℕ) → j < m → Q (get_or junctions j rest_junction)) where
  -- along a ring
  ring_parts : (t : Ring) (i j : ℕ) → i + nodes_in t ≤ n → j + junctions_in t ≤ m → Parts P Q (line_at t nodes junctions i j)
  unfolding nodes_in junctions_in
  ring_parts no_more i j l k = tt
  ring_parts (user_node rest) i j l k = (each-node i (omega (arith, l)), ring_parts rest (suc i) j (omega (arith, l)) k)
  ring_parts (a_junction subring rest) i j l k = (
    each-junction j (omega (arith, k)),
    ring_parts subring i (j + 1) (omega (arith, l)) (omega (arith, k)),
    ring_parts rest (i + nodes_in subring) (j + 1 + junctions_in subring) (omega (arith, l)) (omega (arith, k)),
  )

-- what holds of every place of the lists that a plan uses
line_parts : (P : Node → Type 0) (Q : Junction → Type 0) (plan : Plan) (nodes : List Node) (junctions : List Junction)
    → ((i : ℕ) → i < nodes_in (ring_of plan) → P (get_or nodes i rest_node)) → ((j : ℕ) → j < junctions_in (ring_of plan) → Q (get_or junctions j rest_junction))
    → Parts P Q (line_at (ring_of plan) nodes junctions 0 0)
line_parts P Q plan nodes junctions each-node each-junction =
    ring_parts P Q nodes junctions (nodes_in (ring_of plan)) (junctions_in (ring_of plan)) each-node each-junction (ring_of plan) 0 0 (omega arith) (omega arith)

-- the lock of an activity that 13 does not refuse is one of the plan
activity_lock : (locks lock : ℕ) (act : Activity) → activity_names locks act ≡ true → Names act lock → lock < locks
unfolding activity_names
activity_lock locks lock Resting n e = absurd e
activity_lock locks lock (ToSendReqp own) n e = omega (arith, ltb-true own locks n)
activity_lock locks lock (WaitingReqp own) n e = omega (arith, ltb-true own locks n)
activity_lock locks lock (ToSendDov own) n e = omega (arith, ltb-true own locks n)
activity_lock locks lock (WaitingDov own) n e = omega (arith, ltb-true own locks n)

-- a node that 13 does not refuse is small
pub small_node : (rules nodes locks : ℕ) (u : Node) → locks ≤ 64 → node_sound rules nodes locks u ≡ true → Small u
small_node rules nodes locks u most e =
    let f = in_plan rules nodes locks u e in
    record {
      held = lt_of_lt_of_le f.held (pow_mono most);
      letting = lt_of_lt_of_le f.letting (pow_mono most);
      wish = λ lock n. omega (arith, activity_lock locks lock u.activity f.activity n);
    }

-- so the nodes of a line are small where 13 does not refuse the state
pub line_small : (s : State) → sound s ≡ true → Nodes Small (line_of s)
line_small s e =
    let most = (in_range_lem s.plan (sound_plan s e)).locks_most in
    parts_nodes Small (λ j. Unit) (line_of s)
    (line_parts Small (λ j. Unit) s.plan s.nodes s.junctions
    (λ i l. small_node s.plan.rules (node_count s.plan) s.plan.locks _ most (node_passes_lem s e i (omega (arith, l, counted s.plan (sound_plan s e)))))
    (λ i l. tt))

-- the lock of a notice that 13 does not refuse is below 64
notice_lock : (rules nodes locks : ℕ) (c : Car) → locks ≤ 64 → car_names rules nodes locks c ≡ true → LowNotice c
unfolding car_names notice_names
notice_lock rules nodes locks c most e x is =
    let named : notice_names rules nodes locks x ≡ true =
    ⊎_elim (λ z. ap (car_names rules nodes locks) (sym z) ∙ e) (λ z. ap (car_names rules nodes locks) (sym z) ∙ e) is in
    omega (arith, names_lock nodes locks x.lock x.source (and_right (multiring rules) (names nodes locks x.lock x.source) named))

-- so a line's notices name locks below 64 where 13 does not refuse the state
pub line_cars : (s : State) → sound s ≡ true → Cars LowNotice (line_of s)
line_cars s e =
    let range = sound_plan s e in
    let most = (in_range_lem s.plan range).locks_most in
    let rules = s.plan.rules in
    let nodes = node_count s.plan in
    let locks = s.plan.locks in
    line_parts (λ u. LowNotice u.car) (λ j. LowNotice j.subring × LowNotice j.main) s.plan s.nodes s.junctions
    (λ i l. notice_lock rules nodes locks _ most (sound_car rules nodes locks _ (node_passes_lem s e i (omega (arith, l, counted s.plan range)))))
    (λ i l.
    let f = junction_in_plan rules nodes locks _ (junction_passes_lem s e i (omega (arith, l, junctions_counted s.plan range))) in
    (notice_lock rules nodes locks _ most f.1, notice_lock rules nodes locks _ most f.0))

-- a ring without junctions has a line without junctions
none_users : (t : Ring) (nodes : List Node) (junctions : List Junction) (i j : ℕ) → junctions_in t ≡ 0 → Users (line_at t nodes junctions i j)
unfolding junctions_in
none_users no_more nodes junctions i j e = tt
none_users (user_node rest) nodes junctions i j e = none_users rest nodes junctions (suc i) j e
none_users (a_junction subring rest) nodes junctions i j e = absurd (omega (arith, e))

-- so a line under ring rules has no junctions
pub line_mode : (s : State) → in_range s.plan ≡ true → (multiring s.plan.rules ≡ true) ⊎ Users (line_of s)
unfolding junctions_allowed
line_mode s r = go (multiring s.plan.rules) (in_range_lem s.plan r).allowed
  where
    ring : Ring
    ring = ring_of s.plan

    go : (b : Bool) → (b || eqb (junctions_in ring) 0) ≡ true → (b ≡ true) ⊎ Users (line_of s)
    go true e = inl refl
    go false e = inr (none_users ring s.nodes s.junctions 0 0 (eqb-true (junctions_in ring) 0 e))

-- the line at the start is fresh
pub line_fresh : (plan : Plan) → Fresh (line_of (start_of plan))
unfolding start_of
line_fresh plan =
    line_parts _ _ plan _ _ (λ i l. place_default (λ u. u ≡ rest_node) rest_node 64 i refl) (λ i l. place_default (λ j. j ≡ rest_junction) rest_junction 144 i refl)
