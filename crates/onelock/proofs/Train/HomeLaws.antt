-- Laws of homes: the homes of the train's requests rise strictly, front to back. They do so over parts of a list, between other bounds, and past gates.
use Prim.Native.Nat.{ℕ, ◌+◌, ◌-◌, ◌≤◌, ◌<◌, min}
use mathlib.Core.Path.{◌≡◌}
use mathlib.Core.List.{List, [], ◌∷◌, ◌++◌}
use native.Mathlib.Nat.{le_refl, le_trans}
use native.Mathlib.Omega.{arith}
use borrow.Author.Tests.{lt-ltb, le-ltb}
use Rattle.cars.specs.declared.Car.{Car}
use Rattle.usernode.specs.declared.Activity.{Activity}
use Rattle.onelock.proofs.Train.Cells.{Cell, cell, gate, All, Bare, asks, request, home}
use Rattle.onelock.proofs.Train.Invariant.{Up, Rises, r_nil, r_cell, r_gate}
use Rattle.onelock.proofs.Train.CellLaws.{all_map}

module _ (n : ℕ) where
  -- the home of a request that has passed its source
  pub home_new : (p s : ℕ) → s ≤ p → home n p s ≡ n + s
  home_new p s h = rw (le-ltb p s h)

  -- the home of a request that has not passed its source
  pub home_old : (p s : ℕ) → p < s → home n p s ≡ s
  home_old p s h = rw (lt-ltb p s h)

  -- the bound before a list is no higher than the one behind it
  pub rises_le : {b d : ℕ} {T : List Cell} → Rises n b T d → b ≤ d
  rises_le (r_nil h) = h
  rises_le {b} {d} (r_cell b₁ u r) = omega (arith, u.on, rises_le r)
  rises_le (r_gate r) = rises_le r

  -- a lower bound before a car
  up_lower : {b p b₁ : ℕ} {c : Car} (a : ℕ) → a ≤ b → Up n b p c b₁ → Up n a p c b₁
  up_lower a l u = record { on = omega (arith, u.on); over = λ act s e. omega (arith, u.over act s e); under = u.under }

  -- a lower bound before a list
  pub rises_lower : {b d : ℕ} {T : List Cell} (a : ℕ) → a ≤ b → Rises n b T d → Rises n a T d
  rises_lower {b} {d} a l (r_nil h) = let m : a ≤ d = omega arith in r_nil m
  rises_lower a l (r_cell b₁ u r) = r_cell b₁ (up_lower a l u) r
  rises_lower a l (r_gate r) = r_gate (rises_lower a l r)

  -- a lower bound behind a car
  tighter : {b p b₁ : ℕ} {c : Car} (m : ℕ) → Up n b p c b₁ → ((act : Activity) (s : ℕ) → request c ≡ asks act s → home n p s < m) → b < m
      → Up n b p c (min b₁ (m - 1))
  tighter {b} {p} {b₁} {c} m u h l =
      record { on = omega (arith, u.on); over = u.over; under = λ act s e. omega (arith, u.under act s e, h act s e) }

  -- what is behind may change, if its homes rise from the same bound
  pub rises_tail : (X Y Z : List Cell) {b d e : ℕ} → ((a : ℕ) → Rises n a Y d → Rises n a Z e) → Rises n b (X ++ Y) d → Rises n b (X ++ Z) e
  rises_tail [] Y Z f r = f _ r
  rises_tail (gate lo hi w ∷ X) Y Z f (r_gate r) = r_gate (rises_tail X Y Z f r)
  rises_tail (cell p c ∷ X) Y Z f (r_cell b₁ up r) = r_cell b₁ up (rises_tail X Y Z f r)

  -- and to another bound, if the homes before it and the bound before all are below m
  pub rises_end : {d d' : ℕ} (m : ℕ) (X Y Z : List Cell)
      → All (λ p c. (act : Activity) (s : ℕ) → request c ≡ asks act s → home n p s ≤ d → home n p s < m) X
      → ((b : ℕ) → b < m → Rises n b Y d → Rises n b Z d') → (b : ℕ) → b < m → Rises n b (X ++ Y) d → Rises n b (X ++ Z) d'
  rises_end m [] Y Z a f b l r = f b l r
  rises_end m (cell p c ∷ X) Y Z a f b l (r_cell b₁ u r) =
      r_cell (min b₁ (m - 1)) (tighter m u (λ act s e. a.0 act s e (omega (arith, u.under act s e, rises_le r))) l)
      (rises_end m X Y Z a.1 f (min b₁ (m - 1)) (omega arith) (rises_lower (min b₁ (m - 1)) (omega arith) r))
  rises_end m (gate lo hi w ∷ X) Y Z a f b l (r_gate r) = r_gate (rises_end m X Y Z a f b l r)

  -- gates alone rise between any bounds
  pub rises_bare : {b d : ℕ} (G : List Cell) → Bare G → b ≤ d → Rises n b G d
  rises_bare [] g h = r_nil h
  rises_bare (cell p c ∷ G) g h = absurd g.0
  rises_bare (gate lo hi w ∷ G) g h = r_gate (rises_bare G g h)

  -- gates before a list leave its bounds as they are
  pub rises_before : {b d : ℕ} (G Y : List Cell) → Bare G → Rises n b Y d → Rises n b (G ++ Y) d
  rises_before [] Y g r = r
  rises_before (cell p c ∷ G) Y g r = absurd g.0
  rises_before (gate lo hi w ∷ G) Y g r = r_gate (rises_before G Y g r)

  -- homes rise where a car is behind gates, and so where it is before them
  pub rises_past : {b d : ℕ} (G Y : List Cell) (p : ℕ) (c : Car) → Bare G → Rises n b (G ++ (cell p c ∷ Y)) d → Rises n b (cell p c ∷ (G ++ Y)) d
  rises_past [] Y p c g r = r
  rises_past (cell q d ∷ G) Y p c g r = absurd g.0
  rises_past (gate lo hi w ∷ G) Y p c g (r_gate r) = swap (rises_past G Y p c g r)
    where
      swap : {b d : ℕ} → Rises n b (cell p c ∷ (G ++ Y)) d → Rises n b (cell p c ∷ (gate lo hi w ∷ (G ++ Y))) d
      swap (r_cell b₁ u r) = r_cell b₁ u (r_gate r)

  -- the homes of requests that rise from a bound are above it
  pub rises_over : {t : List Cell} {b d : ℕ} → Rises n b t d → All (λ p c. (act : Activity) (s : ℕ) → request c ≡ asks act s → b < home n p s) t
  rises_over (r_nil le) = tt
  rises_over (r_cell {t = t} b₁ up r) = (up.over, all_map t (λ p c f act s e. omega (arith, up.on, f act s e)) (rises_over r))
  rises_over (r_gate r) = rises_over r

  -- a request's home is above the bound before all
  home_over : {b d : ℕ} (X Y : List Cell) (p : ℕ) (c : Car) {act : Activity} {s : ℕ} → request c ≡ asks act s
      → Rises n b (X ++ (cell p c ∷ Y)) d → b < home n p s
  home_over [] Y p c e (r_cell b₁ u r) = u.over _ _ e
  home_over (cell q d ∷ X) Y p c e (r_cell b₁ u r) = omega (arith, u.on, home_over X Y p c e r)
  home_over (gate lo hi w ∷ X) Y p c e (r_gate r) = home_over X Y p c e r

  -- and above the homes of those before it
  pub homes_below : {b d : ℕ} (X Y : List Cell) (p : ℕ) (c : Car) {act : Activity} {s : ℕ} → request c ≡ asks act s
      → Rises n b (X ++ (cell p c ∷ Y)) d → All (λ q x. (act' : Activity) (s' : ℕ) → request x ≡ asks act' s' → home n q s' < home n p s) X
  homes_below [] Y p c e r = tt
  homes_below (cell q d ∷ X) Y p c e (r_cell b₁ u r) =
      (λ act' s' e'. omega (arith, u.under act' s' e', home_over X Y p c e r), homes_below X Y p c e r)
  homes_below (gate lo hi w ∷ X) Y p c e (r_gate r) = homes_below X Y p c e r

  -- and below the homes of those behind it
  pub homes_behind : {b d : ℕ} (X Y : List Cell) (p : ℕ) (c : Car) {act : Activity} {s : ℕ} → request c ≡ asks act s
      → Rises n b (X ++ (cell p c ∷ Y)) d → All (λ q x. (act' : Activity) (s' : ℕ) → request x ≡ asks act' s' → home n p s < home n q s') Y
  homes_behind [] Y p c {act} {s} e (r_cell b₁ u r) = rises_over (rises_lower (home n p s) (u.under act s e) r)
  homes_behind (cell q d ∷ X) Y p c e (r_cell b₁ u r) = homes_behind X Y p c e r
  homes_behind (gate lo hi w ∷ X) Y p c e (r_gate r) = homes_behind X Y p c e r

  -- a bound between the homes in front and those behind
  pub record Between (b : ℕ) (X Y : List Cell) (d : ℕ) : Type 0 where
    pub mid : ℕ
    pub on : b ≤ mid
    pub front : All (λ p c. (act : Activity) (s : ℕ) → request c ≡ asks act s → home n p s ≤ mid) X
    pub back : Rises n mid Y d

  -- rising homes, in front and behind
  pub rises_split : (X Y : List Cell) {b d : ℕ} → Rises n b (X ++ Y) d → Between b X Y d
  rises_split [] Y {b} r = record { mid = b; on = le_refl b; front = tt; back = r }
  rises_split (gate lo hi w ∷ X) Y (r_gate r) = let s = rises_split X Y r in record { mid = s.mid; on = s.on; front = s.front; back = s.back }
  rises_split (cell p c ∷ X) Y (r_cell b₁ up r) =
      let s = rises_split X Y r in
      record {
        mid = s.mid;
        on = le_trans up.on s.on;
        front = (λ act q e. le_trans (up.under act q e) s.on, s.front);
        back = s.back;
      }

  -- homes that rise to a bound rise to a higher one
  pub rises_to : {t : List Cell} {b d e : ℕ} → d ≤ e → Rises n b t d → Rises n b t e
  rises_to le (r_nil h) = r_nil (le_trans h le)
  rises_to le (r_cell b₁ up r) = r_cell b₁ up (rises_to le r)
  rises_to le (r_gate r) = r_gate (rises_to le r)
