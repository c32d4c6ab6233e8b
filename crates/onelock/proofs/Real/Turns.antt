-- One turn, and whether cars are real: where the car that comes belongs to the train only if it is real, so it is with each car that is sent, and no
-- shadow is rewritten. Of a user node, of a junction outside a tour and of one in a tour.
use Prim.Native.Nat.{ℕ}
use mathlib.Core.Path.{◌≡◌, refl, sym, ap, ◌∙◌, subst}
use mathlib.Core.Bool.{Bool, true, false, cond, not, ◌&&◌, ◌||◌, true≢false}
use lib.Dec.{eqb}
use Rattle.lists.proofs.Tests.{by_test}
use Rattle.words.specs.Words.{has}
use Rattle.words.proofs.Sets.{has_none}
use Rattle.cars.specs.Cars.{multiring, flag_after}
use Rattle.cars.specs.declared.Tag.{Tag}
use Rattle.cars.specs.declared.Car.{Car}
use Rattle.cars.specs.declared.Car.TheVariants.{Idle, Token, Null, Reqp, Failp, Dov, Gotp, Didv}
use Rattle.usernode.specs.declared.Node.{Node}
use Rattle.usernode.specs.declared.Activity.{Activity}
use Rattle.usernode.specs.declared.Activity.TheVariants.{Idle as Resting, ToSendReqp, WaitingReqp, ToSendDov, WaitingDov}
use Rattle.usernode.specs.declared.Rule.{Rule}
use Rattle.usernode.specs.declared.Rule.TheVariants.{Passes, SendsDidv, OwnReqp, OwnFailp, FailsReqp, OwnDov, LosesLock}
use Rattle.usernode.specs.Astray.{waits_reqp, waits_dov, unready, astray}
use Rattle.usernode.specs.Node.{had}
use Rattle.usernode.specs.Rules.{on_letting, on_gap, on_idle, on_reqp, on_failp, on_dov, rule}
use Rattle.turns.specs.Turn.{becomes, grant_car, apply, turn}
use Rattle.tours.specs.declared.JunctionRule.{JunctionRule}
use Rattle.tours.specs.declared.JunctionRule.TheVariants.{GoesOn, Drops, TokenOut, CarOut, SetsBit, ClearsBit, Ends}
use Rattle.tours.specs.Rules.{within, outside, if_train, on_gotp, on_didv, in_tour}
use Rattle.junction.specs.declared.Junction.{Junction}
use Rattle.junction.specs.Turn.{failing, junction_rule, joins, junction_apply, train_after, trained, junction_turn}
use Rattle.onelock.specs.Shadows.{node_sends_real, main_sends_real, subring_sends_real, node_rewrites, junction_rewrites}
use Rattle.onelock.proofs.Line.Phases.{Phase, Kind, token, gap, car, kind, One, passed, last, alone, more, head, coming, shade, Come}
use Rattle.onelock.proofs.Line.PhaseLaws.{allow}
use Rattle.onelock.proofs.Step.Past.{flag_kind, flag_on}

-- any car but idle
abbrev pub moves : Car → Bool
moves Idle = false
moves Token = true
moves Null = true
moves (Reqp tag) = true
moves (Failp tag) = true
moves (Dov tag) = true
moves (Gotp notice) = true
moves (Didv notice) = true

abbrev kind_moves : Kind → Bool
kind_moves token = true
kind_moves gap = false
kind_moves car = true

moves_kind : (c : Car) → moves c ≡ kind_moves (kind c)
moves_kind Idle = refl
moves_kind Token = refl
moves_kind Null = refl
moves_kind (Reqp t) = refl
moves_kind (Failp t) = refl
moves_kind (Dov t) = refl
moves_kind (Gotp x) = refl
moves_kind (Didv x) = refl

-- the token belongs to the train
token_on : {w f : Bool} {p q : Phase} {k : Kind} → One w p k f q → k ≡ token → f ≡ true
token_on passed e = absurd (true≢false (cc))
token_on last e = refl
token_on alone e = refl
token_on more e = refl
token_on head e = refl
token_on coming e = absurd (true≢false (cc))
token_on (shade s) e = absurd (true≢false (cc))

-- where there are no shadows, what moves belongs to the train
pub moves_on : {f : Bool} {p q : Phase} {k : Kind} → One false p k f q → kind_moves k ≡ f
moves_on passed = refl
moves_on last = refl
moves_on alone = refl
moves_on more = refl
moves_on head = refl
moves_on coming = refl
moves_on (shade s) = absurd (true≢false (sym s))

-- so it does where the train has come
come_on : {w f : Bool} {p q : Phase} {k : Kind} → Come q → One w p k f q → kind_moves k ≡ f
come_on come passed = refl
come_on come last = refl
come_on come alone = refl
come_on come more = refl
come_on come head = refl
come_on come coming = refl
come_on come (shade s) = absurd (come refl)

-- a car that belongs to the train is real
abbrev pub Real : Bool → Bool → Type 0
Real on real = on ≡ true → real ≡ true

-- a user node, by its rule: where its flag is then set, what it sends is real; and it rewrites no shadow
record NodeFine (m me : ℕ) (a : Car) (u : Node) (real : Bool) (r : Rule) : Type 0 where
  sends : Real (apply m me a u r).flag (node_sends_real r real)
  kept : (node_rewrites r && not real) ≡ false

module _ (m me : ℕ) (u : Node) (real : Bool) where
  -- a car passes, the node's flag being set by it only where it is real
  passing : (a : Car) → Real (flag_after a u.flag) real → NodeFine m me a u real Passes
  unfolding apply becomes node_sends_real node_rewrites
  passing a on = record { sends = on; kept = refl }

  -- the node puts a car of its own on the train
  on_letting_lem : (z : Bool) (lock : ℕ) → NodeFine m me Idle u real (cond z Passes (SendsDidv lock))
  unfolding apply becomes node_sends_real node_rewrites flag_after
  on_letting_lem true lock = record { sends = λ e. absurd (true≢false (sym e)); kept = refl }
  on_letting_lem false lock = record { sends = λ e. refl; kept = refl }

  on_gap_lem : (flag : Bool) (x : Activity) → NodeFine m me Idle u real (cond flag (on_gap x u.letting) Passes)
  unfolding apply becomes node_sends_real node_rewrites flag_after on_gap on_letting
  on_gap_lem false x = record { sends = λ e. absurd (true≢false (sym e)); kept = refl }
  on_gap_lem true Resting = on_letting_lem (eqb u.letting 0) _
  on_gap_lem true (ToSendReqp lock) = record { sends = λ e. refl; kept = refl }
  on_gap_lem true (WaitingReqp lock) = on_letting_lem (eqb u.letting 0) _
  on_gap_lem true (ToSendDov lock) = record { sends = λ e. refl; kept = refl }
  on_gap_lem true (WaitingDov lock) = on_letting_lem (eqb u.letting 0) _

  -- a car with a tag comes: where the flag is set, it is real
  module _ (t : Tag) (on : Real u.flag real) where
    on_reqp_lem : (own flag has : Bool) → u.flag ≡ flag → Real own u.flag
        → NodeFine m me (Reqp t) u real (cond own (OwnReqp t.lock) (cond flag (cond has (FailsReqp t) Passes) Passes))
    unfolding apply becomes node_sends_real node_rewrites flag_after grant_car
    on_reqp_lem true flag has e home =
        record { sends = by_test (λ (c : Car). Real (flag_after c u.flag) real) (multiring m) (λ z. on) (λ z. on); kept = ap not (on (home refl)) }
    on_reqp_lem false true true e home = record { sends = on; kept = ap not (on e) }
    on_reqp_lem false true false e home = record { sends = on; kept = refl }
    on_reqp_lem false false has e home = record { sends = on; kept = refl }

    on_failp_lem : (own : Bool) → Real own u.flag → NodeFine m me (Failp t) u real (cond own (OwnFailp t.lock) Passes)
    unfolding apply becomes node_sends_real node_rewrites flag_after
    on_failp_lem true home = record { sends = on; kept = ap not (on (home refl)) }
    on_failp_lem false home = record { sends = on; kept = refl }

    on_dov_lem : (own held : Bool) → Real own u.flag → NodeFine m me (Dov t) u real (cond own (OwnDov t.lock) (cond held (LosesLock t) Passes))
    unfolding apply becomes node_sends_real node_rewrites flag_after
    on_dov_lem true held home = record { sends = on; kept = ap not (on (home refl)) }
    on_dov_lem false true home = record { sends = on; kept = refl }
    on_dov_lem false false home = record { sends = on; kept = refl }

  -- a node that is not astray meets its own car with its flag set
  home_flag : (own waits flag has : Bool) → (own && (not waits || not flag || has)) ≡ false → Real own flag
  home_flag false waits flag has e z = absurd (true≢false (sym z))
  home_flag true false flag has e z = absurd (true≢false e)
  home_flag true true true has e z = refl
  home_flag true true false has e z = absurd (true≢false e)

  -- so it is with every car, by the flag that passing it on would leave
  by_arrival : (a : Car) → Real (flag_after a u.flag) real → astray u me a ≡ false → NodeFine m me a u real (rule u me a)
  unfolding rule on_idle on_reqp on_failp on_dov flag_after astray unready
  by_arrival Idle on ready = on_gap_lem u.flag u.activity
  by_arrival Token on ready = passing Token on
  by_arrival Null on ready = passing Null on
  by_arrival (Reqp t) on ready =
      let own = eqb t.source me in
      on_reqp_lem t on own u.flag (had u t.lock) refl (home_flag own (waits_reqp u.activity t.lock) u.flag (had u t.lock) ready)
  by_arrival (Failp t) on ready =
      let own = eqb t.source me in
      on_failp_lem t on own (home_flag own (waits_reqp u.activity t.lock) u.flag (had u t.lock) ready)
  by_arrival (Dov t) on ready =
      let own = eqb t.source me in
      on_dov_lem t on own (has u.held t.lock) (home_flag own (waits_dov u.activity t.lock) u.flag (had u t.lock) ready)
  by_arrival (Gotp x) on ready = passing (Gotp x) on
  by_arrival (Didv x) on ready = passing (Didv x) on

  -- the turn of a user node that is not astray
  pub node_fine : {w f : Bool} {p q o : Phase} (a : Car) → One w p (kind a) f q → One w q (kind u.car) u.flag o → Real f real → astray u me a ≡ false
      → Real (turn m me a u).node.flag (node_sends_real (rule u me a) real) × ((node_rewrites (rule u me a) && not real) ≡ false)
  unfolding turn
  node_fine a came sent on ready =
      let fine = by_arrival a (λ e. on (sym (flag_on came sent) ∙ sym (flag_kind a u.flag) ∙ e)) ready in
      (fine.sends, fine.kept)

-- what a junction sends along its ring belongs to the train: an inner one's train flag says it, on the main ring all that moves does
abbrev pub on_train : Bool → Junction → Bool
on_train inner j = cond inner j.train (moves j.main)

-- the same, by the car and by the flag before the turn
abbrev goes_on : Bool → Car → Bool → Bool
goes_on inner c old = cond inner (flag_after c old) (moves c)

on_trained : (inner old : Bool) (j : Junction) → on_train inner (trained inner old j) ≡ goes_on inner j.main old
unfolding trained joins train_after
on_trained true old j = refl
on_trained false old j = refl

-- a junction, by its sentence: what it sends along its ring and belongs to the train is real; in a tour what it sends to its subring is real; and it
-- rewrites no shadow
pub record JunctionFine (w : Bool) (a y : Car) (j : Junction) (real out : Bool) (r : JunctionRule) : Type 0 where
  pub main : Real (goes_on w (junction_apply a y j r).main j.train) (main_sends_real r real out)
  pub subring : (junction_apply a y j r).tour ≡ true → Real (moves (junction_apply a y j r).subring) (subring_sends_real r real)
  pub kept : (junction_rewrites r && not real) ≡ false

-- idle along the ring is on no train
idle_off : (w old : Bool) → goes_on w Idle old ≡ true → ⊥
unfolding flag_after
idle_off true old e = true≢false (sym e)
idle_off false old e = true≢false (sym e)

-- a reqp is failed on a train only
failing_on : (w train : Bool) (word lock : ℕ) → has (cond (w && not train) 0 word) lock ≡ true → cond w train true ≡ true
failing_on true true word lock e = refl
failing_on true false word lock e = absurd (true≢false (sym e ∙ has_none lock))
failing_on false train word lock e = refl

-- outside a tour: the car a goes on along the ring; where it then belongs to the train it is real
module _ (w : Bool) (y : Car) (j : Junction) (real out : Bool) (tour : j.tour ≡ false) where
  -- nothing in the subring is on a train
  aside : {A : Type 0} → j.tour ≡ true → A
  aside e = absurd (true≢false (sym e ∙ tour))

  goes_fine : (a : Car) → Real (goes_on w a j.train) real → JunctionFine w a y j real out GoesOn
  unfolding junction_apply joins main_sends_real subring_sends_real junction_rewrites
  goes_fine a on = record { main = on; subring = λ e. aside e; kept = refl }

  outside_fine : (wants : Bool) (a : Car) → Real (goes_on w a j.train) real
      → JunctionFine w a y j real out (outside (failing w j) wants a)
  unfolding outside failing junction_apply joins main_sends_real subring_sends_real junction_rewrites flag_after
  outside_fine wants Idle on = goes_fine Idle on
  outside_fine wants Token on =
      by_test (JunctionFine w Token y j real out) wants
      (λ e. record { main = λ z. absurd (idle_off w j.train z); subring = λ z v. on (both w); kept = refl }) (λ e. goes_fine Token on)
    where
      both : (b : Bool) → cond b true true ≡ true
      both true = refl
      both false = refl
  outside_fine wants Null on = goes_fine Null on
  outside_fine wants (Reqp t) on =
      by_test (JunctionFine w (Reqp t) y j real out) (has (failing w j) t.lock)
      (λ e. record { main = on; subring = λ z. aside z; kept = ap not (on (failing_on w j.train j.word t.lock e)) }) (λ e. goes_fine (Reqp t) on)
  outside_fine wants (Failp t) on = goes_fine (Failp t) on
  outside_fine wants (Dov t) on = goes_fine (Dov t) on
  outside_fine wants (Gotp x) on = goes_fine (Gotp x) on
  outside_fine wants (Didv x) on = goes_fine (Didv x) on

-- the flag that goes with a car that goes on past a junction outside a tour
past_flag : (w : Bool) {f fm train : Bool} {p q o : Phase} {km : Kind} (a : Car) → One w p (kind a) f q → One w q km fm o → train ≡ (w && fm)
    → goes_on w a train ≡ f
past_flag true {fm = fm} a came main e = ap (flag_after a) e ∙ flag_kind a fm ∙ flag_on came main
past_flag false a came main e = moves_kind a ∙ moves_on came

-- a junction outside a tour
pub past_fine : (w : Bool) {f fm : Bool} {p q o : Phase} (low high : ℕ) (wants : Bool) (a y : Car) (j : Junction) (real out : Bool)
    → j.tour ≡ false → j.train ≡ (w && fm) → One w p (kind a) f q → One w q (kind j.main) fm o → Real f real
    → JunctionFine w a y j real out (junction_rule w low high wants a y j)
unfolding junction_rule
past_fine w low high wants a y j real out tour train came main on =
    subst (JunctionFine w a y j real out) (ap (λ (b : Bool). cond b (in_tour j.train low high y) (outside (failing w j) wants a)) (sym tour))
    (outside_fine w y j real out tour wants a (λ e. on (sym (past_flag w a came main train) ∙ e)))

-- in a tour: what comes to the junction goes to its subring; what moves is real
module _ (w : Bool) (low high : ℕ) (a : Car) (j : Junction) (real out : Bool) (into : Real (moves a) real) where
  -- it sends idle along its ring
  drops_fine : (y : Car) → JunctionFine w a y j real out Drops
  unfolding junction_apply joins main_sends_real subring_sends_real junction_rewrites
  drops_fine y = record { main = λ e. absurd (idle_off w j.train e); subring = λ e. into; kept = refl }

  ends_fine : (y : Car) → JunctionFine w a y j real out Ends
  unfolding junction_apply joins main_sends_real subring_sends_real junction_rewrites
  ends_fine y = record { main = λ e. absurd (idle_off w j.train e); subring = λ e. into; kept = refl }

  -- it sends what came out of the subring, and that is real
  token_fine : (y : Car) → out ≡ true → JunctionFine w a y j real out TokenOut
  unfolding junction_apply joins main_sends_real subring_sends_real junction_rewrites
  token_fine y e = record { main = λ z. e; subring = λ z. into; kept = refl }

  car_fine : (y : Car) → out ≡ true → JunctionFine w a y j real out CarOut
  unfolding junction_apply joins main_sends_real subring_sends_real junction_rewrites
  car_fine y e = record { main = λ z. e; subring = λ z. into; kept = refl }

  sets_fine : (y : Car) (lock : ℕ) → out ≡ true → JunctionFine w a y j real out (SetsBit lock)
  unfolding junction_apply joins main_sends_real subring_sends_real junction_rewrites
  sets_fine y lock e = record { main = λ z. e; subring = λ z. into; kept = refl }

  clears_fine : (y : Car) (lock : ℕ) → out ≡ true → JunctionFine w a y j real out (ClearsBit lock)
  unfolding junction_apply joins main_sends_real subring_sends_real junction_rewrites
  clears_fine y lock e = record { main = λ z. e; subring = λ z. into; kept = refl }

  -- by what comes out of the subring
  tour_by : (y : Car) → Real (flag_after y j.train) out → JunctionFine w a y j real out (in_tour j.train low high y)
  unfolding in_tour if_train on_gotp on_didv flag_after
  tour_by Idle on = by_test (JunctionFine w a Idle j real out) j.train (λ e. ends_fine Idle) (λ e. drops_fine Idle)
  tour_by Token on = token_fine Token (on refl)
  tour_by Null on = by_test (JunctionFine w a Null j real out) j.train (λ e. car_fine Null (on e)) (λ e. drops_fine Null)
  tour_by (Reqp t) on = by_test (JunctionFine w a (Reqp t) j real out) j.train (λ e. car_fine (Reqp t) (on e)) (λ e. drops_fine (Reqp t))
  tour_by (Failp t) on = by_test (JunctionFine w a (Failp t) j real out) j.train (λ e. car_fine (Failp t) (on e)) (λ e. drops_fine (Failp t))
  tour_by (Dov t) on = by_test (JunctionFine w a (Dov t) j real out) j.train (λ e. car_fine (Dov t) (on e)) (λ e. drops_fine (Dov t))
  tour_by (Gotp x) on =
      by_test (JunctionFine w a (Gotp x) j real out) j.train
      (λ e. by_test (JunctionFine w a (Gotp x) j real out) (within low high x.source) (λ z. sets_fine (Gotp x) x.lock (on e)) (λ z. car_fine (Gotp x) (on e)))
      (λ e. drops_fine (Gotp x))
  tour_by (Didv x) on =
      by_test (JunctionFine w a (Didv x) j real out) j.train
      (λ e. by_test (JunctionFine w a (Didv x) j real out) (within low high x.source) (λ z. clears_fine (Didv x) x.lock (on e)) (λ z. car_fine (Didv x) (on e)))
      (λ e. drops_fine (Didv x))

-- a junction in a tour: the car a comes to it, where the train has come, and y comes out of its subring
pub tour_fine : {w f fy : Bool} {p q p₁ p₂ o : Phase} (low high : ℕ) (wants : Bool) (a y : Car) (j : Junction) (real out : Bool)
    → j.tour ≡ true → Come q → One w p (kind a) f q → Real f real → One true p₁ (kind y) fy p₂ → Real fy out → One false p₂ (kind j.main) j.train o
    → JunctionFine w a y j real out (junction_rule w low high wants a y j)
unfolding junction_rule
tour_fine {w = w} low high wants a y j real out tour come came on leaves leaving main =
    subst (JunctionFine w a y j real out) (ap (λ (b : Bool). cond b (in_tour j.train low high y) (outside (failing w j) wants a)) (sym tour))
    (tour_by w low high a j real out (λ e. on (sym (come_on come came) ∙ sym (moves_kind a) ∙ e)) y
    (λ e. leaving (sym (flag_on leaves (allow true main)) ∙ sym (flag_kind y j.train) ∙ e)))

-- a junction's turn, by its sentence
pub turn_fine : (w : Bool) (low high : ℕ) (wants : Bool) (a y : Car) (j : Junction) (real out : Bool)
    → JunctionFine w a y j real out (junction_rule w low high wants a y j)
    → Real (on_train w (junction_turn w low high wants a y j)) (main_sends_real (junction_rule w low high wants a y j) real out)
    × ((junction_turn w low high wants a y j).tour ≡ true
    → Real (moves (junction_turn w low high wants a y j).subring) (subring_sends_real (junction_rule w low high wants a y j) real))
unfolding junction_turn trained joins
turn_fine w low high wants a y j real out fine =
    (λ e. fine.main (sym (on_trained w j.train (junction_apply a y j (junction_rule w low high wants a y j))) ∙ e), fine.subring)

-- what a junction sends along its ring before its turn, and to its subring in a tour: by the flags that go with these cars
pub main_past : (w : Bool) {fm : Bool} {q o : Phase} (j : Junction) → One w q (kind j.main) fm o → j.train ≡ (w && fm) → on_train w j ≡ fm
main_past true j main e = e
main_past false j main e = moves_kind j.main ∙ moves_on main

pub main_tour : (w : Bool) {q o : Phase} (j : Junction) → One false q (kind j.main) j.train o → on_train w j ≡ j.train
main_tour true j main = refl
main_tour false j main = moves_kind j.main ∙ moves_on main

pub subring_tour : {f : Bool} {q o : Phase} (j : Junction) → One false q (kind j.subring) f o → moves j.subring ≡ f
subring_tour j sub = moves_kind j.subring ∙ moves_on sub
