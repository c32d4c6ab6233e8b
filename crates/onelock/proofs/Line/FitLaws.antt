-- Laws of a line that fits: where its cells and gates stand, and a line that the train has passed.
use Prim.Native.Nat.{ℕ, suc, ◌+◌, ◌≤◌}
use mathlib.Core.Path.{◌≡◌, refl, sym, ap, ◌∙◌, subst}
use mathlib.Core.Bool.{Bool, true, false, ◌&&◌, true≢false}
use mathlib.Core.List.{List, [], ◌∷◌, ◌++◌}
use native.Mathlib.Omega.{arith}
use Rattle.cars.specs.declared.Car.{Car}
use Rattle.cars.specs.declared.Car.TheVariants.{Idle, Token, Null, Reqp, Failp, Dov, Gotp, Didv}
use Rattle.usernode.specs.declared.Activity.{Activity}
use Rattle.junction.specs.declared.Junction.{Junction}
use Rattle.onelock.proofs.Train.Cells.{Cell, gate, All, Gates, Bare, Gateless, request, cell, asks}
use Rattle.onelock.proofs.Train.CellLaws.{all_join, all_map, gates_join, gates_map}
use Rattle.onelock.proofs.Line.Ring.{Line, user, junction, size}
use Rattle.onelock.proofs.Line.Numbers.{Users}
use Rattle.onelock.proofs.Line.Phases.{Phase, before, inside, after, Kind, gap, kind, One, passed, coming, shade, Come, car}
use Rattle.onelock.proofs.Line.Fit.{car_cell, cells, Clean, NoWait, Fit, f_end, f_user, f_past, f_tour, waits}
use Rattle.onelock.proofs.Line.PhaseLaws.{Rel, same, grown_car, grown_token, off}

-- what holds of a car at its place holds of its cell
car_all : (P : ℕ → Car → Type 0) (k : ℕ) (c : Car) → P k c → All P (car_cell k c)
car_all P k Idle x = tt
car_all P k Token x = (x, tt)
car_all P k Null x = (x, tt)
car_all P k (Reqp t) x = (x, tt)
car_all P k (Failp t) x = (x, tt)
car_all P k (Dov t) x = (x, tt)
car_all P k (Gotp t) x = (x, tt)
car_all P k (Didv t) x = (x, tt)

-- what holds of a car at its place holds of its sender's cells
pub cells_all : (P : ℕ → Car → Type 0) (p : Phase) (k : ℕ) (c : Car) → P k c → All P (cells p k c)
cells_all P before k c x = tt
cells_all P inside k c x = car_all P k c x
cells_all P after k c x = car_all P k c x

-- a car's cell is no gate
car_gates : (P : ℕ → ℕ → Type 0) (k : ℕ) (c : Car) → Gates P (car_cell k c)
car_gates P k Idle = tt
car_gates P k Token = tt
car_gates P k Null = tt
car_gates P k (Reqp t) = tt
car_gates P k (Failp t) = tt
car_gates P k (Dov t) = tt
car_gates P k (Gotp t) = tt
car_gates P k (Didv t) = tt

-- a sender's cells are no gates
pub cells_gates : (P : ℕ → ℕ → Type 0) (p : Phase) (k : ℕ) (c : Car) → Gates P (cells p k c)
cells_gates P before k c = tt
cells_gates P inside k c = car_gates P k c
cells_gates P after k c = car_gates P k c

-- cells and gates between two places
pub record Places (k h : ℕ) (G : List Cell) : Type 0 where
  pub low : All (λ p c. k ≤ p) G
  pub high : All (λ p c. p ≤ h) G
  pub gates : Gates (λ lo hi. (k ≤ lo) × (hi ≤ h)) G

-- what is between two places is between wider ones
pub places_wider : (k h k' h' : ℕ) (G : List Cell) → k' ≤ k → h ≤ h' → Places k h G → Places k' h' G
places_wider k h k' h' G a b x =
    record {
      low = all_map G (λ p c l. omega arith) x.low;
      high = all_map G (λ p c l. omega arith) x.high;
      gates = gates_map G (λ lo hi l. (omega (arith, l.0), omega (arith, l.1))) x.gates;
    }

-- two lists between two places, joined
pub places_join : (k h : ℕ) (X Y : List Cell) → Places k h X → Places k h Y → Places k h (X ++ Y)
places_join k h X Y x y =
    record { low = all_join _ X Y x.low y.low; high = all_join _ X Y x.high y.high; gates = gates_join _ X Y x.gates y.gates }

-- a sender's cells, where its place is between them
pub places_cells : (k h : ℕ) (p : Phase) (q : ℕ) (c : Car) → k ≤ q → q ≤ h → Places k h (cells p q c)
places_cells k h p q c a b = record { low = cells_all _ p q c a; high = cells_all _ p q c b; gates = cells_gates _ p q c }

-- a gate whose nodes are between two places, before a list that is
pub places_gate : (k h lo hi w : ℕ) (G : List Cell) → k ≤ lo → hi ≤ h → Places k h G → Places k h (gate lo hi w ∷ G)
places_gate k h lo hi w G a b x = record { low = x.low; high = x.high; gates = ((a, b), x.gates) }

-- the cells and gates of a line stand at its places
pub fit_places : {w : Bool} {lo hi k : ℕ} {p o : Phase} {l : Line} {G : List Cell} → Fit w lo hi p k l o G → Places k (k + size l) G
fit_places f_end = record { low = tt; high = tt; gates = tt }
fit_places (f_user {p = p} {k = k} {u = u} {r = r} {G = G} one clean rest) =
    places_join k (k + suc (size r)) G _
    (places_wider (suc k) (suc k + size r) k (k + suc (size r)) G (omega arith) (omega arith) (fit_places rest))
    (places_cells k (k + suc (size r)) p (suc k) u.car (omega arith) (omega arith))
fit_places (f_past {p = p} {k = k} {j = j} {s = s} {r = r} {G = G} {H = H} tour train sub clean_sub inner calm main clean rest) =
    places_join k (k + (size s + size r)) G _
    (places_wider (k + size s) (k + size s + size r) k (k + (size s + size r)) G (omega arith) (omega arith) (fit_places rest))
    (places_join k (k + (size s + size r)) (cells p (k + size s) j.main) _
    (places_cells k (k + (size s + size r)) p (k + size s) j.main (omega arith) (omega arith))
    (places_gate k (k + (size s + size r)) k (k + size s) j.word H (omega arith) (omega arith)
    (places_wider k (k + size s) k (k + (size s + size r)) H (omega arith) (omega arith) (fit_places inner))))
fit_places (f_tour {p = p} {p₂ = p₂} {k = k} {j = j} {s = s} {r = r} {G = G} {H = H} tour live sub inner out main rest) =
    places_join k (k + (size s + size r)) G _
    (places_wider (k + size s) (k + size s + size r) k (k + (size s + size r)) G (omega arith) (omega arith) (fit_places rest))
    (places_join k (k + (size s + size r)) (cells p₂ (k + size s) j.main) _
    (places_cells k (k + (size s + size r)) p₂ (k + size s) j.main (omega arith) (omega arith))
    (places_gate k (k + (size s + size r)) k (k + size s) j.word (H ++ cells p k j.subring) (omega arith) (omega arith)
    (places_join k (k + (size s + size r)) H _
    (places_wider k (k + size s) k (k + (size s + size r)) H (omega arith) (omega arith) (fit_places inner))
    (places_cells k (k + (size s + size r)) p k j.subring (omega arith) (omega arith)))))

-- a line without junctions has no gates
pub fit_gateless : {w : Bool} {lo hi k : ℕ} {p o : Phase} {l : Line} {G : List Cell} → Users l → Fit w lo hi p k l o G → Gateless G
fit_gateless users f_end = tt
fit_gateless users (f_user {p = p} {k = k} {u = u} {G = G} one clean rest) =
    gates_join (λ lo hi. ⊥) G _ (fit_gateless users rest) (cells_gates _ p (suc k) u.car)
fit_gateless users (f_past tour train sub clean_sub inner calm main clean rest) = absurd users
fit_gateless users (f_tour tour live sub inner out main rest) = absurd users

-- a gap is idle
pub gap_idle : (c : Car) → kind c ≡ gap → c ≡ Idle
gap_idle Idle e = refl
gap_idle Token e = cc
gap_idle Null e = cc
gap_idle (Reqp t) e = cc
gap_idle (Failp t) e = cc
gap_idle (Dov t) e = cc
gap_idle (Gotp t) e = cc
gap_idle (Didv t) e = cc

-- idle has no cell
idle_cells : (p : Phase) (k : ℕ) → cells p k Idle ≡ []
idle_cells before k = refl
idle_cells inside k = refl
idle_cells after k = refl

-- so a gap has no cell
pub gap_cells : (p : Phase) (k : ℕ) (c : Car) → kind c ≡ gap → cells p k c ≡ []
gap_cells p k c e = ap (cells p k) (gap_idle c e) ∙ idle_cells p k

-- a gap is no request of its ring
pub gap_clean : (lo hi : ℕ) (p : Phase) (c : Car) → kind c ≡ gap → Clean lo hi p c
gap_clean lo hi p c e = subst (Clean lo hi p) (sym (gap_idle c e)) (λ b act s r low high. true≢false (cc))

-- where the train has come, a sender's cell is its car's
pub come_cells : (p : Phase) (k : ℕ) (c : Car) → Come p → cells p k c ≡ car_cell k c
come_cells before k c come = absurd (come refl)
come_cells inside k c come = refl
come_cells after k c come = refl

-- a car that is no gap has a cell
pub car_cell_lem : (k : ℕ) (c : Car) → (kind c ≡ gap → ⊥) → car_cell k c ≡ cell k c ∷ []
car_cell_lem k Idle real = absurd (real refl)
car_cell_lem k Token real = refl
car_cell_lem k Null real = refl
car_cell_lem k (Reqp t) real = refl
car_cell_lem k (Failp t) real = refl
car_cell_lem k (Dov t) real = refl
car_cell_lem k (Gotp t) real = refl
car_cell_lem k (Didv t) real = refl

-- so where the train has come, a sender of such a car has one cell
pub live_cell : (p : Phase) (k : ℕ) (c : Car) → Come p → (kind c ≡ gap → ⊥) → cells p k c ≡ cell k c ∷ []
live_cell p k c come real = come_cells p k c come ∙ car_cell_lem k c real

-- a sender's cell is the same before a step and after it
pub rel_cells : {p' p : Phase} {ka : Kind} (k : ℕ) (a : Car) → Rel p' p ka → cells p k a ≡ cells p' k a
rel_cells k a same = refl
rel_cells k a grown_car = refl
rel_cells k a grown_token = refl

-- a request is a car
pub request_car : (c : Car) {act : Activity} {s : ℕ} → request c ≡ asks act s → kind c ≡ car
request_car Idle e = cc
request_car Token e = cc
request_car Null e = refl
request_car (Reqp t) e = refl
request_car (Failp t) e = refl
request_car (Dov t) e = refl
request_car (Gotp x) e = refl
request_car (Didv x) e = refl

-- what a request asks for is waited for
pub asks_waits : (c : Car) (act : Activity) (s : ℕ) → request c ≡ asks act s → waits act ≡ true
asks_waits Idle act s r = cc
asks_waits Token act s r = cc
asks_waits Null act s r = cc
asks_waits (Reqp t) act s r = cc
asks_waits (Failp t) act s r = cc
asks_waits (Dov t) act s r = cc
asks_waits (Gotp x) act s r = cc
asks_waits (Didv x) act s r = cc

-- where no shadow is allowed, a sender before the train sends idle, and so no request of its ring
pub one_clean : {f : Bool} {p q : Phase} (lo hi : ℕ) (c : Car) → One false p (kind c) f q → Clean lo hi p c
one_clean {f} {p} {q} lo hi c one b = gap_clean lo hi p c (idle (subst (λ (z : Phase). One false z (kind c) f q) b one)) b
  where
    idle : {k : Kind} {f : Bool} {q : Phase} → One false before k f q → k ≡ gap
    idle coming = refl
    idle (shade s) = absurd (true≢false (sym s))

-- a sender behind which the train has passed sends idle, and may as well stand before the train
pub record Passed (w : Bool) (p : Phase) (k : Kind) (f : Bool) : Type 0 where
  pub phase : p ≡ after
  pub idle : k ≡ gap
  pub clear : f ≡ false
  pub ahead : (w' : Bool) → One w' before k f before

-- a sender is so where the phase behind it is after the train
pub passed_by : {w f : Bool} {p : Phase} {k : Kind} → One w p k f after → Passed w p k f
passed_by passed = record { phase = refl; idle = refl; clear = refl; ahead = λ w'. coming }

-- where the train has not come: the phase o at the end of a line, and its cells G
pub record Ahead (o : Phase) (G : List Cell) : Type 0 where
  pub phase : o ≡ before
  pub bare : Bare G

-- a line that the train has not come to has no cell, and the train has not come to its end
pub shaded : {w : Bool} {lo hi k : ℕ} {p o : Phase} {l : Line} {G : List Cell} → Fit w lo hi p k l o G → p ≡ before → Ahead o G
shaded f_end e = record { phase = e; bare = tt }
shaded (f_user {q = q} {w = w} {k = k} {u = u} {G = G} one clean rest) e =
    let behind = shaded rest (off one e).phase in
    record { phase = behind.phase; bare = all_join (λ p c. ⊥) G _ behind.bare (subst (λ p. Bare (cells p (suc k) u.car)) (sym e) tt) }
shaded (f_past {q = q} {w = w} {f = f} {k = k} {j = j} {s = s} {G = G} {H = H} tour train sub clean_sub inner calm main clean rest) e =
    let behind = shaded rest (off main e).phase in
    record {
      phase = behind.phase;
      bare = all_join (λ p c. ⊥) G _ behind.bare
          (subst (λ p. Bare (cells p (k + size s) j.main ++ (gate k (k + size s) j.word ∷ H))) (sym e) (shaded inner refl).bare);
    }
shaded (f_tour tour live sub inner out main rest) e = absurd (live e)

-- the train flag of a junction that sends nothing of the train is clear, an inner one's too
pub none_train : (w : Bool) → false ≡ (w && false)
none_train true = refl
none_train false = refl

-- so it is the same on a subring and on the main ring
same_train : (w w' : Bool) {f : Bool} → f ≡ false → (w && f) ≡ (w' && f)
same_train w w' clear =
    ap (λ (b : Bool). w && b) clear ∙ sym (none_train w) ∙ none_train w' ∙ ap (λ (b : Bool). w' && b) (sym clear)

-- a line that the train has passed to its end has no cell, and may as well stand before the train
pub record Quiet (lo hi : ℕ) (p : Phase) (k : ℕ) (l : Line) (G : List Cell) : Type 0 where
  pub phase : p ≡ after
  pub bare : Bare G
  pub ahead : (w' : Bool) → Fit w' lo hi before k l before G

-- a line is so where the phase at its end is after the train
pub quiet : {w : Bool} {lo hi k : ℕ} {p o : Phase} {l : Line} {G : List Cell} → Fit w lo hi p k l o G → o ≡ after → Quiet lo hi p k l G
quiet f_end e = record { phase = e; bare = tt; ahead = λ w'. f_end }
quiet (f_user {p = p} {w = w} {lo = lo} {hi = hi} {k = k} {u = u} {r = r} {G = G} one clean rest) e =
    let behind = quiet rest e in
    let sender = passed_by (subst (λ q. One w p (kind u.car) u.flag q) behind.phase one) in
    let none : cells p (suc k) u.car ≡ [] = gap_cells p (suc k) u.car sender.idle in
    record {
      phase = sender.phase;
      bare = all_join (λ p c. ⊥) G _ behind.bare (subst Bare (sym none) tt);
      ahead = λ w'. subst (λ C. Fit w' lo hi before k (user u r) before (G ++ C)) (sym none)
          (f_user (sender.ahead w') (gap_clean lo hi before u.car sender.idle) (behind.ahead w'));
    }
quiet (f_past {p = p} {w = w} {f = f} {lo = lo} {hi = hi} {k = k} {j = j} {s = s} {r = r} {G = G} {H = H} tour train sub clean_sub inner calm main
    clean rest) e =
    let behind = quiet rest e in
    let sender = passed_by (subst (λ q. One w p (kind j.main) f q) behind.phase main) in
    let none : cells p (k + size s) j.main ≡ [] = gap_cells p (k + size s) j.main sender.idle in
    record {
      phase = sender.phase;
      bare = all_join (λ p c. ⊥) G _ behind.bare
          (all_join (λ p c. ⊥) (cells p (k + size s) j.main) _ (subst Bare (sym none) tt) (shaded inner refl).bare);
      ahead = λ w'. subst (λ C. Fit w' lo hi before k (junction j s r) before (G ++ (C ++ (gate k (k + size s) j.word ∷ H)))) (sym none)
          (f_past tour (train ∙ same_train w w' sender.clear) sub clean_sub inner (λ x. absurd (apart x)) (sender.ahead w') (gap_clean lo hi before j.main sender.idle)
          (behind.ahead w'));
    }
  where
    apart : before ≡ inside → ⊥
    apart x = true≢false (cc)
quiet (f_tour {p₂ = p₂} {k = k} {j = j} tour live sub inner out main rest) e =
    let behind = quiet rest e in
    let sender = passed_by (subst (λ q. One false p₂ (kind j.main) j.train q) behind.phase main) in
    absurd (true≢false (sym (out sender.phase) ∙ sender.clear))

-- outside a tour, a junction's line fits where its subring ends at a number h
pub past-at : {p q o : Phase} {w f : Bool} {lo hi k : ℕ} {j : Junction} {s r : Line} {G H : List Cell} (h : ℕ) → k + size s ≡ h → j.tour ≡ false
    → j.train ≡ (w && f) → One true before (kind j.subring) false before → Clean k h before j.subring → Fit true k h before k s before H
    → (p ≡ inside → NoWait s)
    → One w p (kind j.main) f q → Clean lo hi p j.main → Fit w lo hi q h r o G
    → Fit w lo hi p k (junction j s r) o (G ++ (cells p h j.main ++ (gate k h j.word ∷ H)))
past-at {p} {q} {o} {w} {f} {lo} {hi} {k} {j} {s} {r} {G} {H} h e tour train sub =
    subst (λ h. Clean k h before j.subring → Fit true k h before k s before H → (p ≡ inside → NoWait s)
    → One w p (kind j.main) f q → Clean lo hi p j.main → Fit w lo hi q h r o G
    → Fit w lo hi p k (junction j s r) o (G ++ (cells p h j.main ++ (gate k h j.word ∷ H)))) e (f_past tour train sub)

-- in a tour, a junction's line fits where its subring ends at a number h
pub tour_at : {p p₁ p₂ q o : Phase} {w f : Bool} {lo hi k : ℕ} {j : Junction} {s r : Line} {G H : List Cell} (h : ℕ) → k + size s ≡ h → j.tour ≡ true → Come p
    → One false p (kind j.subring) f p₁ → Fit true k h p₁ k s p₂ H → (p₂ ≡ after → j.train ≡ true)
    → One false p₂ (kind j.main) j.train q → Fit w lo hi q h r o G
    → Fit w lo hi p k (junction j s r) o (G ++ (cells p₂ h j.main ++ (gate k h j.word ∷ (H ++ cells p k j.subring))))
tour_at {p} {p₁} {p₂} {q} {o} {w} {f} {lo} {hi} {k} {j} {s} {r} {G} {H} h e tour live sub =
    subst (λ h. Fit true k h p₁ k s p₂ H → (p₂ ≡ after → j.train ≡ true)
    → One false p₂ (kind j.main) j.train q → Fit w lo hi q h r o G
    → Fit w lo hi p k (junction j s r) o (G ++ (cells p₂ h j.main ++ (gate k h j.word ∷ (H ++ cells p k j.subring))))) e (f_tour tour live sub)
