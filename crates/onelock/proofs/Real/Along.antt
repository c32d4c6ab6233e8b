-- A step along a ring, and whether cars are real: where what belongs to the train is real before the step, it is after it, and no shadow is rewritten.
use Prim.Native.Nat.{ℕ, suc, ◌+◌, ◌≤◌, ◌<◌}
use mathlib.Core.Path.{◌≡◌, refl, sym, ap, ◌∙◌, subst, subst₂}
use mathlib.Core.Bool.{Bool, true, false, ◌||◌, true≢false}
use mathlib.Core.List.{List}
use native.Mathlib.Numerals.{add-one}
use native.Mathlib.Omega.{arith}
use lib.ListN.{get_or, length, length-set}
use lib.Seq.{get_or-set_same, get_or-set_other}
use Rattle.lists.proofs.Tests.{or_left, or_right}
use Rattle.positions.specs.Ring.{Ring, no_more, user_node, a_junction, nodes_in, junctions_in}
use Rattle.usernode.specs.declared.Node.{Node}
use Rattle.usernode.specs.Astray.{astray}
use Rattle.turns.specs.Turn.{turn}
use Rattle.junction.specs.declared.Junction.{Junction}
use Rattle.ring.specs.declared.State.{State}
use Rattle.ring.specs.State.{rest_node, rest_junction}
use Rattle.ring.specs.Walk.{Walk, node_here, junction_here, on_node, wanted, enters, leaves, along}
use Rattle.ring.proofs.Routed.{along_passed, along_turned}
use Rattle.onelock.specs.Shadows.{Ghosts, Watch, node_sends_real, rule_here}
use Rattle.onelock.specs.Shadows.{sentence_here, watch_node, watch_into, watch_out, watch_along}
use Rattle.onelock.proofs.Train.Cells.{Cell}
use Rattle.onelock.proofs.Line.Ring.{size}
use Rattle.onelock.proofs.Line.Phases.{Phase, kind, One}
use Rattle.onelock.proofs.Line.PhaseLaws.{allow}
use Rattle.onelock.proofs.Line.Fit.{Fit, f_end, f_user, f_past, f_tour}
use Rattle.onelock.proofs.State.AsLine.{line_at, strays}
use Rattle.onelock.proofs.State.Through.{Later, Between, between_first, Room, past_node_lem, past_node, node_after, line_nodes, goes_along}
use Rattle.onelock.proofs.State.Through.{within, behind, here, later_junction, between_within, room_within, junction_after}
use Rattle.onelock.proofs.Real.Turns.{Real, moves, on_train, JunctionFine, node_fine, past_fine, tour_fine, turn_fine, main_past, main_tour, subring_tour}

-- what belongs to the train along a ring is real: what a node sends with its flag set, what a junction sends along its ring, and to its subring in a tour
abbrev pub Right : Bool → Ring → List Node → List Junction → Ghosts → ℕ → ℕ → Type 0
Right inner no_more nodes junctions g i j = Unit
Right inner (user_node rest) nodes junctions g i j =
    Real (get_or nodes i rest_node).flag (get_or g.nodes i false) × Right inner rest nodes junctions g (i + 1) j
Right inner (a_junction subring rest) nodes junctions g i j =
    Real (on_train inner (get_or junctions j rest_junction)) (get_or g.mains j false)
    × ((get_or junctions j rest_junction).tour ≡ true → Real (moves (get_or junctions j rest_junction).subring) (get_or g.subrings j false))
    × Right true subring nodes junctions g i (j + 1)
    × Right inner rest nodes junctions g (i + nodes_in subring) (j + 1 + junctions_in subring)

-- the lists have their places
pub record Long (g : Ghosts) : Type 0 where
  pub nodes : length g.nodes ≡ 64
  pub mains : length g.mains ≡ 144
  pub subrings : length g.subrings ≡ 144

-- what is told of the first nodes and junctions stays
pub record Stays (n j : ℕ) (g h : Ghosts) : Type 0 where
  pub nodes : (p : ℕ) → p < n → get_or h.nodes p false ≡ get_or g.nodes p false
  pub mains : (p : ℕ) → p < j → get_or h.mains p false ≡ get_or g.mains p false
  pub subrings : (p : ℕ) → p < j → get_or h.subrings p false ≡ get_or g.subrings p false

-- y tells what h tells of the nodes from n up to m, and of the junctions from j up to k
pub record Tells (n m j k : ℕ) (h y : Ghosts) : Type 0 where
  pub nodes : (p : ℕ) → n ≤ p → p < m → get_or y.nodes p false ≡ get_or h.nodes p false
  pub mains : (p : ℕ) → j ≤ p → p < k → get_or y.mains p false ≡ get_or h.mains p false
  pub subrings : (p : ℕ) → j ≤ p → p < k → get_or y.subrings p false ≡ get_or h.subrings p false

pub tells_self : (n m j k : ℕ) (h : Ghosts) → Tells n m j k h h
tells_self n m j k h = record { nodes = λ p l b. refl; mains = λ p l b. refl; subrings = λ p l b. refl }

-- two tests that fail
neither : {a b : Bool} → a ≡ false → b ≡ false → (a || b) ≡ false
neither {a} {b} e f = ap (λ (c : Bool). c || b) e ∙ f

module _ (s : State) (old : Ghosts) where
  -- the watch at the end of a ring
  abbrev pub seen : Bool → Ring → Walk → Watch → Watch
  seen inner t w v = watch_along s old inner t w v

  -- the watch along a ring: no shadow was rewritten; the last car, and that it is real where it belongs to the train; what is told of senders before
  -- the ring stays; and what belongs to the train after the step is real
  pub record Watches (inner : Bool) (t : Ring) (w : Walk) (v : Watch) (o : Phase) : Type 0 where
    pub fine : (seen inner t w v).rewritten ≡ false
    pub phase : Phase
    pub flag : Bool
    pub last : One inner phase (kind (along s inner t w).last) flag o
    pub real : Real flag (seen inner t w v).real
    pub long : Long (seen inner t w v).ghosts
    pub stays : Stays w.passed w.turned v.ghosts (seen inner t w v).ghosts
    pub right : (x : Walk) (y : Ghosts) → Room (along s inner t w) → Between w (along s inner t w) x
        → Tells w.passed (along s inner t w).passed w.turned (along s inner t w).turned (seen inner t w v).ghosts y
        → Right inner t x.nodes x.junctions y w.passed w.turned

  -- past a user node, which is fine, and on along the rest
  node_watches : (inner : Bool) (rest : Ring) (w : Walk) (v : Watch) {o : Phase} → w.passed < 64 → Long v.ghosts
      → Real (turn s.plan.rules (w.passed + 1) w.last (node_here s w)).node.flag (node_sends_real (rule_here s w) v.real)
      → Watches inner rest (on_node s w) (watch_node s old w v) o → Watches inner (user_node rest) w v o
  unfolding watch_along watch_node along on_node node_here
  node_watches inner rest w v below long fine r =
      let z = along s inner rest (on_node s w) in
      let later = (goes_along s inner rest (on_node s w)).later in
      let past : Later (past_node s w) z = subst (λ (x : Walk). Later x z) (past_node_lem s w) later in
      let further : w.passed + 1 ≤ z.passed = later.further in
      record {
        fine = r.fine;
        phase = r.phase;
        flag = r.flag;
        last = r.last;
        real = r.real;
        long = r.long;
        stays = record {
          nodes = λ p l. r.stays.nodes p (omega (arith, l)) ∙ get_or-set_other v.ghosts.nodes w.passed p _ false (omega (arith, l));
          mains = r.stays.mains;
          subrings = r.stays.subrings;
        };
        right = λ x y room between tells. (
          (λ e. tells.nodes w.passed (omega arith) (omega (arith, further))
              ∙ r.stays.nodes w.passed (omega arith)
              ∙ get_or-set_same v.ghosts.nodes w.passed _ false (omega (arith, long.nodes))
              ∙ fine (subst (λ (me : ℕ). (turn s.plan.rules me w.last (node_here s w)).node.flag ≡ true) (sym (add-one w.passed))
              (sym (ap (λ (u : Node). u.flag) (node_after s w z x room past between)) ∙ e))),
          r.right x y room (record {
            nodes = λ n low high. between.nodes n (omega (arith, low)) high;
            events = λ n low high. between.events n (omega (arith, low)) high;
            junctions = between.junctions;
          }) (record { nodes = λ p l b. tells.nodes p (omega (arith, l)) b; mains = tells.mains; subrings = tells.subrings }),
        );
      }

  -- past a junction, which is fine, and on along the rest
  module _ (inner : Bool) (subring rest : Ring) (w : Walk) (v : Watch) where
    -- the watch at its subring's end
    abbrev seen_within : Watch
    seen_within = seen true subring (enters s w) (watch_into old w v)

    -- the watch behind it
    abbrev seen_behind : Watch
    seen_behind = watch_out s old inner (nodes_in subring) w (within s inner subring w) v seen_within

    junction_watches : {o p : Phase} → w.turned < 144 → Watches true subring (enters s w) (watch_into old w v) p
        → JunctionFine inner w.last (within s inner subring w).last (here s inner subring w) v.real seen_within.real
        (sentence_here s inner (nodes_in subring) w (within s inner subring w))
        → Watches inner rest (behind s inner subring w) seen_behind o → Watches inner (a_junction subring rest) w v o
    unfolding watch_along watch_into watch_out along enters leaves junction_here sentence_here
    junction_watches below i fine r =
        let g = goes_along s true subring (enters s w) in
        let out = behind s inner subring w in
        let z = along s inner rest out in
        let later = (goes_along s inner rest out).later in
        let turned : w.turned < out.turned = omega (arith, g.later.turned) in
        let passed : w.passed ≤ out.passed = g.later.further in
        let has = turn_fine inner w.passed (w.passed + nodes_in subring) (wanted s w.passed (nodes_in subring)) w.last (within s inner subring w).last
        (here s inner subring w) v.real seen_within.real fine in
        record {
          fine = r.fine;
          phase = r.phase;
          flag = r.flag;
          last = r.last;
          real = r.real;
          long = r.long;
          stays = record {
            nodes = λ p l. r.stays.nodes p (omega (arith, l, passed)) ∙ i.stays.nodes p l;
            mains = λ p l. r.stays.mains p (omega (arith, l, turned)) ∙ get_or-set_other seen_within.ghosts.mains w.turned p _ false (omega (arith, l))
                ∙ i.stays.mains p (omega (arith, l));
            subrings = λ p l. r.stays.subrings p (omega (arith, l, turned))
                ∙ get_or-set_other seen_within.ghosts.subrings w.turned p _ false (omega (arith, l)) ∙ i.stays.subrings p (omega (arith, l));
          };
          right = λ x y room between tells.
              let is = junction_after s inner subring w g z x room later between in (
                (λ e. tells.mains w.turned (omega arith) (omega (arith, turned, later.turned))
                    ∙ r.stays.mains w.turned turned
                    ∙ get_or-set_same seen_within.ghosts.mains w.turned _ false (omega (arith, i.long.mains))
                    ∙ has.0 (sym (ap (on_train inner) is) ∙ e)),
                (λ tour e. tells.subrings w.turned (omega arith) (omega (arith, turned, later.turned))
                    ∙ r.stays.subrings w.turned turned
                    ∙ get_or-set_same seen_within.ghosts.subrings w.turned _ false (omega (arith, i.long.subrings))
                    ∙ has.1 (sym (ap (λ (j : Junction). j.tour) is) ∙ tour) (sym (ap (λ (j : Junction). moves j.subring) is) ∙ e)),
                i.right x y (room_within s inner subring w g z later room) (between_within s inner subring w g z x later between)
                    (record {
                      nodes = λ p l b. tells.nodes p l (omega (arith, b, later.further)) ∙ r.stays.nodes p b;
                      mains = λ p l b. tells.mains p (omega (arith, l)) (omega (arith, b, later.turned)) ∙ r.stays.mains p b
                          ∙ get_or-set_other seen_within.ghosts.mains w.turned p _ false (omega (arith, l));
                      subrings = λ p l b. tells.subrings p (omega (arith, l)) (omega (arith, b, later.turned)) ∙ r.stays.subrings p b
                          ∙ get_or-set_other seen_within.ghosts.subrings w.turned p _ false (omega (arith, l));
                    }),
                subst₂ (λ (a b : ℕ). Right inner rest x.nodes x.junctions y a b) (along_passed s true subring (enters s w)) (along_turned s true subring (enters s w))
                    (r.right x y room (between_first w out z x (later_junction s inner subring w g) between)
                    (record {
                      nodes = λ p l b. tells.nodes p (omega (arith, l, passed)) b;
                      mains = λ p l b. tells.mains p (omega (arith, l, turned)) b;
                      subrings = λ p l b. tells.subrings p (omega (arith, l, turned)) b;
                    })),
              );
        }

  -- the rest of a ring behind a junction, in its place
  module _ (inner : Bool) (subring rest : Ring) (w : Walk) where
    -- where it begins
    rest_passed : (behind s inner subring w).passed ≡ w.passed + nodes_in subring
    unfolding enters leaves
    rest_passed = along_passed s true subring (enters s w)

    rest_turned : (behind s inner subring w).turned ≡ w.turned + 1 + junctions_in subring
    unfolding enters leaves
    rest_turned = along_turned s true subring (enters s w)

    -- it fits, and what belongs to the train is real
    rest_fits : {q o : Phase} {lo hi : ℕ} {G : List Cell}
        → Fit inner lo hi q (w.passed + size (line_at subring s.nodes s.junctions w.passed (w.turned + 1)))
        (line_at rest s.nodes s.junctions (w.passed + nodes_in subring) (w.turned + 1 + junctions_in subring)) o G
        → Fit inner lo hi q (behind s inner subring w).passed
        (line_at rest s.nodes s.junctions (behind s inner subring w).passed (behind s inner subring w).turned) o G
    rest_fits {q} {o} {lo} {hi} {G} fit =
        let many = line_nodes subring s.nodes s.junctions w.passed (w.turned + 1) in
        subst₂ (λ (a b : ℕ). Fit inner lo hi q a (line_at rest s.nodes s.junctions a b) o G) (sym rest_passed) (sym rest_turned)
        (subst (λ (k : ℕ). Fit inner lo hi q (w.passed + k)
        (line_at rest s.nodes s.junctions (w.passed + nodes_in subring) (w.turned + 1 + junctions_in subring)) o G) many fit)

    rest_right : Right inner rest s.nodes s.junctions old (w.passed + nodes_in subring) (w.turned + 1 + junctions_in subring)
        → Right inner rest s.nodes s.junctions old (behind s inner subring w).passed (behind s inner subring w).turned
    rest_right right = subst₂ (λ (a b : ℕ). Right inner rest s.nodes s.junctions old a b) (sym rest_passed) (sym rest_turned) right

  -- what is told behind a junction has its places
  behind_long : (inner : Bool) (subring rest : Ring) (w : Walk) (v : Watch) → Long (seen_within inner subring rest w v).ghosts
      → Long (seen_behind inner subring rest w v).ghosts
  unfolding watch_out
  behind_long inner subring rest w v long =
      record {
        nodes = long.nodes;
        mains = length-set (seen_within inner subring rest w v).ghosts.mains w.turned _ ∙ long.mains;
        subrings = length-set (seen_within inner subring rest w v).ghosts.subrings w.turned _ ∙ long.subrings;
      }

  -- where the walk along a ring finds no node astray, it had found none before
  astray_before : (inner : Bool) (t : Ring) (w : Walk) → (along s inner t w).astray ≡ false → w.astray ≡ false
  astray_before inner t w e =
      or_left w.astray (strays w.passed w.last (line_at t s.nodes s.junctions w.passed w.turned)) (sym (goes_along s inner t w).astray ∙ e)

  -- along a ring: the car that comes, and where it stands; no node is astray; the ring fits; and what belongs to the train is real
  pub watches : (inner : Bool) (t : Ring) {p q o : Phase} {f : Bool} {lo hi : ℕ} {G : List Cell} (w : Walk) (v : Watch)
      → One inner p (kind w.last) f q → Real f v.real → v.rewritten ≡ false → Long v.ghosts
      → w.passed + nodes_in t ≤ 64 → w.turned + junctions_in t ≤ 144 → (along s inner t w).astray ≡ false
      → Fit inner lo hi q w.passed (line_at t s.nodes s.junctions w.passed w.turned) o G
      → Right inner t s.nodes s.junctions old w.passed w.turned
      → Watches inner t w v o
  unfolding nodes_in junctions_in watch_along watch_node watch_into watch_out along on_node enters leaves node_here junction_here rule_here sentence_here
  watches inner no_more {p = p} {f = f} w v came on fine long n j ready f_end right =
      record {
        fine = fine;
        phase = p;
        flag = f;
        last = came;
        real = on;
        long = long;
        stays = record { nodes = λ p l. refl; mains = λ p l. refl; subrings = λ p l. refl };
        right = λ x y room between tells. tt;
      }
  watches inner (user_node rest) {o = o} {lo = lo} {hi = hi} w v came on fine long n j ready (f_user {q = q₂} {G = G} one clean more) right =
      let u = get_or s.nodes w.passed rest_node in
      let has = node_fine s.plan.rules (w.passed + 1) u v.real w.last came one on
      (or_right w.astray (astray u (w.passed + 1) w.last) (astray_before inner rest (on_node s w) ready)) in
      let next : suc w.passed ≡ w.passed + 1 = omega arith in
      node_watches inner rest w v (omega (arith, n)) long has.0
      (watches inner rest (on_node s w) (watch_node s old w v) one right.0 (neither fine has.1)
      (record { nodes = length-set v.ghosts.nodes w.passed _ ∙ long.nodes; mains = long.mains; subrings = long.subrings })
      (omega (arith, n)) j ready (subst (λ (k : ℕ). Fit inner lo hi q₂ k (line_at rest s.nodes s.junctions k w.turned) o G) next more) right.1)
  watches inner (a_junction subring rest) w v came on fine long n j ready (f_past tour train sub clean_sub inside calm main clean more) right =
      let x = get_or s.junctions w.turned rest_junction in
      let low = w.passed in
      let high = w.passed + nodes_in subring in
      let i = watches true subring (enters s w) (watch_into old w v) sub (λ e. absurd (true≢false (sym e))) fine long (omega (arith, n)) (omega (arith, j))
      (astray_before inner rest (behind s inner subring w) ready) inside right.2 in
      let has = past_fine inner low high (wanted s low (nodes_in subring)) w.last (within s inner subring w).last x v.real
      (seen_within inner subring rest w v).real tour train came main on in
      junction_watches inner subring rest w v (omega (arith, j)) i has
      (watches inner rest (behind s inner subring w) (seen_behind inner subring rest w v) main (λ e. right.0 (main_past inner x main train ∙ e))
      (neither i.fine has.kept) (behind_long inner subring rest w v i.long) (omega (arith, n, rest_passed inner subring rest w))
      (omega (arith, j, rest_turned inner subring rest w)) ready (rest_fits inner subring rest w more) (rest_right inner subring rest w right.3))
  watches inner (a_junction subring rest) w v came on fine long n j ready (f_tour tour live sub inside leaving main more) right =
      let x = get_or s.junctions w.turned rest_junction in
      let low = w.passed in
      let high = w.passed + nodes_in subring in
      let i = watches true subring (enters s w) (watch_into old w v) (allow true sub) (λ e. right.1 tour (subring_tour x sub ∙ e)) fine long (omega (arith, n))
      (omega (arith, j)) (astray_before inner rest (behind s inner subring w) ready) inside right.2 in
      let has = tour_fine low high (wanted s low (nodes_in subring)) w.last (within s inner subring w).last x v.real
      (seen_within inner subring rest w v).real tour live came on i.last i.real main in
      junction_watches inner subring rest w v (omega (arith, j)) i has
      (watches inner rest (behind s inner subring w) (seen_behind inner subring rest w v) (allow inner main) (λ e. right.0 (main_tour inner x main ∙ e))
      (neither i.fine has.kept) (behind_long inner subring rest w v i.long) (omega (arith, n, rest_passed inner subring rest w))
      (omega (arith, j, rest_turned inner subring rest w)) ready (rest_fits inner subring rest w more) (rest_right inner subring rest w right.3))
