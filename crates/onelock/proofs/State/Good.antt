-- What the theorems need of every state that a schedule reaches from the start, drawn from the invariant and said of the model's state alone.
use Prim.Native.Nat.{ℕ, suc, ◌+◌, ◌-◌, ◌≤◌, ◌<◌}
use mathlib.Core.Path.{◌≡◌, refl, sym, ap, ◌∙◌, subst}
use mathlib.Core.Bool.{Bool, true, false, ◌&&◌}
use native.Mathlib.Nat.{zero-add}
use native.Mathlib.Omega.{arith}
use lib.Dec.{leb, ltb}
use lib.ListN.{get_or}
use borrow.Author.Tests.{ltb-true, leb-true}
use Rattle.lists.proofs.Laws.{and_left, and_right, some_at, some_found}
use Rattle.lists.proofs.Places.{place_default}
use Rattle.words.specs.Words.{has}
use Rattle.cars.specs.declared.Car.{Car}
use Rattle.plan.specs.declared.Plan.{Plan}
use Rattle.positions.specs.Ring.{Ring, junctions_in}
use Rattle.plan.specs.Plan.{node_places, ring_of, in_range, node_count, junction_count}
use Rattle.plan.proofs.Laws.{counted, junctions_counted}
use Rattle.usernode.specs.declared.Node.{Node}
use Rattle.usernode.specs.Node.{had}
use Rattle.zeronode.specs.Turn.{overflows}
use Rattle.ring.specs.declared.State.{State}
use Rattle.ring.specs.State.{rest_node, rest_junction, node_of, start_of}
use Rattle.ring.specs.Sound.{sound}
use Rattle.ring.specs.Walk.{walk}
use Rattle.onelock.specs.OneLock.{Within as Nodes, within, junction_at, somebody_within_has, is_within, stands_around}
use Rattle.onelock.proofs.Train.Cells.{Apart}
use Rattle.onelock.proofs.Line.Ring.{Line, end, user, junction, size}
use Rattle.onelock.proofs.Line.Meets.{Meets, meets_all}
use Rattle.onelock.proofs.Line.Numbers.{Upto}
use Rattle.onelock.proofs.Line.Nested.{Aside, TourWithin, tours_nest}
use Rattle.onelock.proofs.Whole.Ready.{Ready, whole_ready, Awaited}
use Rattle.onelock.proofs.Whole.Words.{TrueWord, whole_words}
use Rattle.onelock.proofs.Whole.Queue.{whole_queue}
use Rattle.onelock.proofs.Whole.Start.{rest_none}
use Rattle.onelock.proofs.State.AsLine.{line_at, line_of, queue_of, strays, Formed}
use Rattle.onelock.proofs.State.Through.{line_nodes}
use Rattle.onelock.proofs.State.Walk.{walk-astray}
use Rattle.onelock.proofs.State.Zero.{queue_length}
use Rattle.onelock.proofs.State.Within.{within_at, Holds, junction_holds, node_part}
use Rattle.onelock.proofs.State.Around.{ring_filled, among, junction_within}
use Rattle.onelock.proofs.State.Kept.{Kept, kept_count, kept_room, kept_node}

-- a node of the state, by its number
abbrev pub Within : State → ℕ → Type 0
Within s node = Upto (node_count s.plan) node

-- nobody has the lock in a state
abbrev pub NobodyHas : State → ℕ → Type 0
NobodyHas s lock = (k : ℕ) → Within s k → had (node_of s k) lock ≡ true → ⊥

-- what the theorems need of a state
pub record Good (s : State) : Type 0 where
  pub plan : in_range s.plan ≡ true
  pub formed : Formed s
  pub pass : sound s ≡ true
  pub short : s.zeroth.count ≤ node_count s.plan + 1
  pub room : overflows s.zeroth (walk s).last ≡ false
  pub ready : (walk s).astray ≡ false
  pub one : (lock i k : ℕ) → Within s i → Within s k → had (node_of s i) lock ≡ true → had (node_of s k) lock ≡ true → i ≡ k
  pub apart : (k : ℕ) → Within s k → Apart (node_of s k)
  pub back : Meets (Awaited (NobodyHas s)) 0 s.zeroth.car (line_of s)
  pub words : (place : ℕ) → place < junction_count s.plan → (junction_at s place).tour ≡ false
      → (lock : ℕ) → has (junction_at s place).word lock ≡ somebody_within_has s place lock
  pub flags : (place number : ℕ) → place < junction_count s.plan → is_within s.plan place number ≡ true → (junction_at s place).tour ≡ false
      → (node_of s number).flag ≡ false
  pub aside : (outer inner : ℕ) → inner < junction_count s.plan → stands_around s.plan outer inner ≡ true → (junction_at s outer).tour ≡ false
      → Aside (junction_at s inner)

-- at the start no node has a lock
pub rest_has_none : (plan : Plan) (node lock : ℕ) → had (node_of (start_of plan) node) lock ≡ false
unfolding start_of node_of
rest_has_none plan node lock = rw (place_default (λ u. u ≡ rest_node) rest_node node_places (node - 1) refl) (rest_none lock)

-- where each node is ready for its car, no node of the line is astray
none_strays : (A : ℕ → Node) (k : ℕ) (a : Car) (l : Line) → Meets (Ready A) k a l → strays k a l ≡ false
none_strays A k a end x = refl
none_strays A k a (user u r) x = simp (x.0.there, none_strays A (suc k) _ r x.1)
none_strays A k a (junction j s r) x = simp (none_strays A _ _ s x.0, none_strays A _ _ r x.1)

-- two tests that hold of each other are one
same_test : (a b : Bool) → (a ≡ true → b ≡ true) → (b ≡ true → a ≡ true) → a ≡ b
same_test true b f g = sym (f refl)
same_test false true f g = g refl
same_test false false f g = refl

module _ (s : State) (x : Kept s) where
  -- the invariant's nodes
  abbrev A : ℕ → Node
  A = x.whole.ring.nodes

  -- a node of the state has a lock where the invariant's node has it
  had_kept : (k lock : ℕ) → Within s k → had (A k) lock ≡ had (node_of s k) lock
  had_kept k lock u = ap (λ (v : Node). had v lock) (kept_node s x k u)

  -- the plan's ring
  abbrev ring : Ring
  ring = ring_of s.plan

  -- the nodes within the junction at a place
  abbrev around : ℕ → Nodes
  around place = within_at ring 0 place

  -- each node is ready for its car
  each_ready : Meets (Ready A) 0 s.zeroth.car (line_of s)
  each_ready = whole_ready s.plan.rules (node_count s.plan) s.zeroth.car (queue_of s.zeroth) (line_of s) x.whole

  -- a node within a junction, by its place there, has a lock where the invariant's node has it
  within-had : (place q lock : ℕ) → place < junctions_in ring → q < (around place).many
      → had (A (suc ((around place).low + q))) lock ≡ had (get_or s.nodes ((around place).low + q) rest_node) lock
  unfolding node_of
  within-had place q lock below inside =
      let number = (around place).low + q in
      let most : suc number ≤ node_count s.plan =
      omega (arith, (among ring 0 place (ring_filled s.plan x.plan) below).high, counted s.plan x.plan) in
      let here : suc number - 1 ≡ number = omega arith in
      had_kept (suc number) lock (record { low = omega arith; high = most }) ∙ ap (λ (i : ℕ). had (get_or s.nodes i rest_node) lock) here

  -- a junction's word is true of the nodes within it
  true_word : (place : ℕ) → place < junction_count s.plan → (junction_at s place).tour ≡ false
      → (lock : ℕ) → has (junction_at s place).word lock ≡ somebody_within_has s place lock
  unfolding junction_at somebody_within_has within
  true_word place below tour lock =
      same_test _ _
      (λ h.
      let w = word.holds.to tour lock h in
      let q = w.who - suc k in
      let inside : q < v = omega (arith, w.above, w.upto, long) in
      let number : w.who ≡ suc (k + q) = omega (arith, w.above) in
      some_at f v q inside (sym (within-had place q lock low inside) ∙ ap (λ (i : ℕ). had (A i) lock) (sym number) ∙ w.has_it))
      (λ h.
      let w = some_found f v h in
      word.holds.from tour lock (suc (k + w.place)) (omega arith) (omega (arith, w.below, long)) (within-had place w.place lock low w.below ∙ w.holds))
    where
      k : ℕ
      k = (around place).low

      v : ℕ
      v = (around place).many

      f : ℕ → Bool
      f q = had (get_or s.nodes (k + q) rest_node) lock

      low : place < junctions_in ring
      low = omega (arith, below, junctions_counted s.plan x.plan)

      word : Holds s.nodes s.junctions (TrueWord A) (around place) place
      word =
          subst (Holds s.nodes s.junctions (TrueWord A) (around place)) (zero-add place)
          (junction_holds s.nodes s.junctions (TrueWord A) ring 0 0 place low
          (whole_words s.plan.rules (node_count s.plan) s.zeroth.car (queue_of s.zeroth) (line_of s) x.whole))

      long : size (line_at word.subring s.nodes s.junctions k (place + 1)) ≡ v
      long = line_nodes word.subring s.nodes s.junctions k (place + 1) ∙ sym word.many

  -- within a junction outside a tour every node's flag is clear
  clear_flag : (place number : ℕ) → place < junction_count s.plan → is_within s.plan place number ≡ true → (junction_at s place).tour ≡ false
      → (node_of s number).flag ≡ false
  unfolding junction_at is_within within node_of
  clear_flag place number below inside tour =
      let low : place < junctions_in ring = omega (arith, below, junctions_counted s.plan x.plan) in
      let w = around place in
      let above = ltb-true w.low number (and_left _ (leb number (w.low + w.many)) inside) in
      let upto = leb-true number (w.low + w.many) (and_right (ltb w.low number) _ inside) in
      let here = junction_holds s.nodes s.junctions TourWithin ring 0 0 place low (tours_nest x.whole.fit) in
      let clear = here.holds (ap (λ (p : ℕ). (get_or s.junctions p rest_junction).tour) (zero-add place) ∙ tour) in
      node_part s.nodes s.junctions (λ u. u.flag ≡ false) Aside here.subring w.low (0 + place + 1) (number - 1) clear (omega (arith, above))
      (omega (arith, above, upto, here.many))

  -- and every junction is outside a tour, its train flag clear
  stands_aside : (outer inner : ℕ) → inner < junction_count s.plan → stands_around s.plan outer inner ≡ true → (junction_at s outer).tour ≡ false
      → Aside (junction_at s inner)
  unfolding junction_at stands_around within
  stands_aside outer inner below stands tour =
      let low : inner < junctions_in ring = omega (arith, below, junctions_counted s.plan x.plan) in
      let v = around outer in
      let w = around inner in
      let first = ltb outer inner && leb v.low w.low in
      let last = leb (w.low + w.many) (v.low + v.many) in
      let later = ltb-true outer inner (and_left _ (leb v.low w.low) (and_left first last stands)) in
      let upto = leb-true (w.low + w.many) (v.low + v.many) (and_right first last stands) in
      subst (λ (p : ℕ). Aside (get_or s.junctions p rest_junction)) (zero-add inner)
      (junction_within s.nodes s.junctions (λ j. j.tour ≡ false) (λ u. u.flag ≡ false) Aside ring 0 0 outer inner
      (ring_filled s.plan x.plan) (tours_nest x.whole.fit) later low upto
      (ap (λ (p : ℕ). (get_or s.junctions p rest_junction).tour) (zero-add outer) ∙ tour))

  -- a state with the invariant is good
  pub good : Good s
  good =
      record {
        plan = x.plan;
        formed = x.formed;
        pass = x.pass;
        short = omega (
          arith,
          whole_queue s.plan.rules (node_count s.plan) s.zeroth.car (queue_of s.zeroth) (line_of s) x.whole,
          queue_length s.zeroth (omega (arith, kept_count s x, x.formed.queue)),
        );
        room = kept_room s x;
        ready = walk-astray s ∙ none_strays A 0 s.zeroth.car (line_of s) each_ready;
        one = λ lock i k u v h g. x.whole.inv.one lock i k (had_kept i lock u ∙ h) (had_kept k lock v ∙ g);
        apart = λ k u. subst Apart (kept_node s x k u) (x.whole.inv.apart k);
        back = meets_all (Ready A) (Awaited (NobodyHas s))
            (λ n a u ready t e source. let b = ready.back t e source in (b.0, λ k w h. b.1 k (had_kept k t.lock w ∙ h)))
            0 s.zeroth.car (line_of s) each_ready;
        words = true_word;
        flags = clear_flag;
        aside = stands_aside;
      }
