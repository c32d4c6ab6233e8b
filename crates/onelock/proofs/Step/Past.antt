-- A junction outside a tour: how the car that comes to it stands in the train, its shadow on the subring, its train flag, and the rest of the line in
-- its place.
use Prim.Native.Nat.{ℕ, ◌+◌, ◌≤◌, ◌<◌}
use mathlib.Core.Path.{◌≡◌, refl, sym, ap, ◌∙◌, subst}
use mathlib.Core.Bool.{Bool, true, false, cond, not, ◌&&◌, true≢false}
use mathlib.Core.List.{List, ◌∷◌, ◌++◌, append_assoc}
use native.Mathlib.Omega.{arith}
use Rattle.cars.specs.Cars.{flag_after}
use Rattle.cars.specs.declared.Car.{Car}
use Rattle.cars.specs.declared.Car.TheVariants.{Idle, Token, Null, Reqp, Failp, Dov, Gotp, Didv}
use Rattle.usernode.specs.declared.Node.{Node}
use Rattle.usernode.specs.declared.Activity.{Activity}
use Rattle.junction.specs.declared.Junction.{Junction}
use Rattle.junction.specs.Turn.{failing, shadow, train_after}
use Rattle.onelock.proofs.Train.Cells.{Cell, gate, Bare, asks, request}
use Rattle.onelock.proofs.Train.CellLaws.{all_right, all_join}
use Rattle.onelock.proofs.Train.Invariant.{Ok, Inv}
use Rattle.onelock.proofs.Line.Ring.{Line, junction, size}
use Rattle.onelock.proofs.Line.Phases.{Phase, before, inside, Kind, token, gap, car, kind, One, passed, last, alone, more, head, coming, shade, Come}
use Rattle.onelock.proofs.Line.Phases.{come_after, come_inside}
use Rattle.onelock.proofs.Line.PhaseLaws.{Rel, same, grown_car, grown_token}
use Rattle.onelock.proofs.Line.Fit.{cells, Clean, waits, NoWait, Fit}
use Rattle.onelock.proofs.Line.FitLaws.{places_join, places_cells, places_gate, fit_places, shaded, asks_waits, live_cell, request_car}
use Rattle.onelock.proofs.Line.Numbers.{node_at}
use Rattle.onelock.proofs.Step.Setting.{three, Setting, next_bare, after_junction}
use Rattle.onelock.proofs.Step.Junction.{gates_and}

-- how a car stands in the train that comes to a junction: before the train, as a gap, or on it
pub data Stands (p' p : Phase) (ka : Kind) (q : Phase) : Type 0 where
  st_shadow : p' ≡ before → p ≡ before → (ka ≡ token → ⊥) → Stands p' p ka q
  st_gap : ka ≡ gap → Stands p' p ka q
  st_live : Come p' → Come p → (ka ≡ gap → ⊥) → (ka ≡ car → q ≡ inside) → Stands p' p ka q

-- so stands every car that comes
pub stands : {w f : Bool} {p' p q : Phase} {ka : Kind} → Rel p' p ka → One w p ka f q → Stands p' p ka q
stands same passed = st_gap refl
stands same last = st_live come_after come_after (λ e. true≢false (cc)) (λ e. refl)
stands same alone = st_live come_after come_after (λ e. true≢false (cc)) (λ e. (cc))
stands same more = st_live come_inside come_inside (λ e. true≢false (cc)) (λ e. refl)
stands same head = st_live come_inside come_inside (λ e. true≢false (cc)) (λ e. (cc))
stands same coming = st_gap refl
stands same (shade s) = st_shadow refl refl (λ e. true≢false (cc))
stands grown_car last = st_live come_inside come_after (λ e. true≢false (cc)) (λ e. refl)
stands grown_token alone = st_live come_inside come_after (λ e. true≢false (cc)) (λ e. (cc))

-- the shadow of a car asks for what the car asks for
pub shadow_asks : (c : Car) (act : Activity) (s : ℕ) → request (shadow c) ≡ asks act s → request c ≡ asks act s
unfolding shadow
shadow_asks Idle act s e = e
shadow_asks Token act s e = e
shadow_asks Null act s e = e
shadow_asks (Reqp t) act s e = e
shadow_asks (Failp t) act s e = e
shadow_asks (Dov t) act s e = e
shadow_asks (Gotp x) act s e = e
shadow_asks (Didv x) act s e = e

-- the shadow of a car stands before the train
pub shadow_one : (c : Car) → One true before (kind (shadow c)) false before
unfolding shadow
shadow_one Idle = coming
shadow_one Token = coming
shadow_one Null = shade refl
shadow_one (Reqp t) = shade refl
shadow_one (Failp t) = shade refl
shadow_one (Dov t) = shade refl
shadow_one (Gotp x) = shade refl
shadow_one (Didv x) = shade refl

-- the flag that goes with the cars sent, by the kind of the car
abbrev pub kind_flag : Kind → Bool → Bool
kind_flag token flag = true
kind_flag gap flag = false
kind_flag car flag = flag

-- so it is for every car
pub flag_kind : (c : Car) (flag : Bool) → flag_after c flag ≡ kind_flag (kind c) flag
unfolding flag_after
flag_kind Idle flag = refl
flag_kind Token flag = refl
flag_kind Null flag = refl
flag_kind (Reqp t) flag = refl
flag_kind (Failp t) flag = refl
flag_kind (Dov t) flag = refl
flag_kind (Gotp x) flag = refl
flag_kind (Didv x) flag = refl

-- a sender that hands on what comes: its flag is then whether that belongs to the train
pub flag_on : {w f fm : Bool} {p q q₂ : Phase} {ka km : Kind} → One w p ka f q → One w q km fm q₂ → kind_flag ka fm ≡ f
flag_on passed main = refl
flag_on last more = refl
flag_on last head = refl
flag_on alone main = refl
flag_on more more = refl
flag_on more head = refl
flag_on head main = refl
flag_on coming main = refl
flag_on (shade s) coming = refl
flag_on (shade s) (shade t) = refl

-- the train flag of a junction past which c goes, of the kind of the car that came: an inner junction's is whether c belongs to the train
pub train_by : (w : Bool) {f fm flag : Bool} {p q q₂ : Phase} {ka km : Kind} (c : Car) → kind c ≡ ka → One w p ka f q → One w q km fm q₂
    → flag ≡ (w && fm) → train_after w c flag flag ≡ (w && f)
unfolding train_after
train_by true {fm = fm} {ka = ka} c like one main flag =
    ap (flag_after c) flag ∙ flag_kind c fm ∙ ap (λ (z : Kind). kind_flag z fm) like ∙ flag_on one main
train_by false c like one main flag = flag

-- where the train is passing a junction outside a tour, the junction fails a reqp for every lock of its word, an inner one too
pub real_word : (w : Bool) (fm : Bool) {q q₂ : Phase} {km : Kind} (j : Junction) → q ≡ inside → One w q km fm q₂ → j.train ≡ (w && fm)
    → failing w j ≡ j.word
unfolding failing
real_word w fm {q₂ = q₂} {km = km} j e main train =
    ap (λ (b : Bool). cond (w && not b) 0 j.word) (train ∙ ap (λ (b : Bool). w && b) (on (subst (λ (z : Phase). One w z km fm q₂) e main))) ∙ go w
  where
    on : {w f : Bool} {q₂ : Phase} {km : Kind} → One w inside km f q₂ → f ≡ true
    on more = refl
    on head = refl

    go : (w : Bool) → cond (w && not (w && true)) 0 j.word ≡ j.word
    go true = refl
    go false = refl

-- where the token begins a tour, idle goes on: the junction's train flag is then clear
pub begin_train : (w fm : Bool) {flag : Bool} → flag ≡ (w && fm) → train_after w Idle flag flag ≡ false
unfolding train_after flag_after
begin_train true fm train = refl
begin_train false fm train = train

module _ {m n : ℕ} {w f fm : Bool} {lo hi k : ℕ} {p' p q q₂ : Phase} {A : ℕ → Node} {a : Car} {j : Junction} {s r : Line} (G : List Cell) {H F B : List Cell}
    (rel : Rel p' p (kind a)) (one : One w p (kind a) f q) (inner : Fit true k (k + size s) before k s before H) (calm : q ≡ inside → NoWait s)
    (main : One w q (kind j.main) fm q₂) (x : Setting m n lo hi p k a (junction j s r) F B A) where
  -- the rest of the line, in its place
  pub past_rest : Clean lo hi q j.main → Setting m n lo hi q (k + size s) j.main r F (gates_and k (k + size s) j.word H (cells p k a) ++ B) A
  past_rest clean =
      after_junction (gates_and k (k + size s) j.word H (cells p k a)) clean
      (places_gate k (k + size s) k (k + size s) j.word (H ++ cells p k a) (omega arith) (omega arith)
      (places_join k (k + size s) H (cells p k a) (fit_places inner) (places_cells k (k + size s) p k a (omega arith) (omega arith))))
      (λ b. subst Bare (sym (append_assoc H (cells p k a) B)) (all_join (λ p c. ⊥) H _ (shaded inner refl).bare (next_bare k a B one x.bare b))) x

  -- the train before the step, as the rest of the line sees it
  pub past_list : F ++ ((G ++ (cells q (k + size s) j.main ++ (gate k (k + size s) j.word ∷ H))) ++ (cells p k a ++ B))
      ≡ F ++ (G ++ (cells q (k + size s) j.main ++ (gates_and k (k + size s) j.word H (cells p k a) ++ B)))
  past_list =
      ap (λ (T : List Cell). F ++ T)
      (three G (cells q (k + size s) j.main) (gate k (k + size s) j.word ∷ H) (cells p k a ++ B)
      ∙ ap (λ (T : List Cell). G ++ (cells q (k + size s) j.main ++ (gate k (k + size s) j.word ∷ T))) (sym (append_assoc H (cells p k a) B)))

  -- a request that comes to the junction is of no node of its subring
  pub outer : {e : ℕ} (X : List Cell) → Inv n e (X ++ (cells p k a ++ B)) A → (act : Activity) (i : ℕ) → request a ≡ asks act i → k < i → i ≤ k + size s → ⊥
  outer {e} X inv act i z low high = go (stands rel one)
    where
      go : Stands p' p (kind a) q → ⊥
      go (st_shadow b c t) = x.clean c act i z (omega (arith, x.low)) (omega (arith, x.high))
      go (st_gap g) = true≢false (cc (request_car a z))
      go (st_live b c g d) =
          let here : Ok n A e k a = (all_right (Ok n A e) X _ (subst (λ C. Inv n e (X ++ (C ++ B)) A) (live_cell p k a c g) inv).all).0 in
          true≢false (sym (asks_waits a act i z) ∙ ap waits (sym (here.waits act i z))
          ∙ node_at _ A i k s x.agrees.0 (calm (d (request_car a z))) low high)
