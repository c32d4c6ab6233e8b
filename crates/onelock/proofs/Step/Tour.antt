-- A junction in a tour: what its turn is by the car that comes out of its subring, and how that car stands in the train.
use Prim.Native.Nat.{ℕ, ◌<◌}
use mathlib.Core.Path.{◌≡◌, refl, sym, ap, ◌∙◌}
use mathlib.Core.Bool.{Bool, true, false, cond, not, ◌&&◌, ◌||◌, true≢false}
use mathlib.Core.Logic.{inl, inr}
use lib.Dec.{eqb}
use Rattle.words.specs.Words.{has, with_lock, without_lock}
use Rattle.words.proofs.Sets.{has_with, has-without}
use Rattle.cars.specs.Cars.{flag_after}
use Rattle.cars.specs.declared.Tag.{Tag}
use Rattle.cars.specs.declared.Car.{Car}
use Rattle.cars.specs.declared.Car.TheVariants.{Idle, Token, Null, Reqp, Failp, Dov, Gotp, Didv}
use Rattle.junction.specs.declared.Junction.{Junction}
use Rattle.tours.specs.declared.JunctionRule.TheVariants.{CarOut, SetsBit, ClearsBit}
use Rattle.tours.specs.Rules.{within, outside, if_train, on_gotp, on_didv, in_tour}
use Rattle.junction.specs.Turn.{failing, junction_rule, joins, junction_apply, train_after, trained, junction_turn}
use Rattle.onelock.proofs.Train.Cells.{bit}
use Rattle.onelock.proofs.Line.Phases.{Phase, before, after, Kind, token, gap, car, kind, One, passed, last, alone, more, head, coming, shade, Come}
use Rattle.onelock.proofs.Line.Phases.{come_after, come_inside}
use Rattle.onelock.proofs.Node.Rules.{LowNotice}

-- how the car that comes out of the subring stands in the train
pub data Leaves (p : Phase) (k : Kind) (p₂ : Phase) (train : Bool) : Type 0 where
  the_token : k ≡ token → Come p → One false p token true p₂ → Leaves p k p₂ train
  a_car : k ≡ car → train ≡ true → Come p → One false p car true p₂ → Leaves p k p₂ train
  nothing : p ≡ before → p₂ ≡ before → train ≡ false → (k ≡ token → ⊥) → Leaves p k p₂ train
  the_end : k ≡ gap → p ≡ after → p₂ ≡ after → train ≡ true → Leaves p k p₂ train

-- so stands every car that comes out
pub leaves : {f train : Bool} {p p₂ q₂ : Phase} {k km : Kind} → One true p k f p₂ → One false p₂ km train q₂ → (p₂ ≡ after → train ≡ true) → Leaves p k p₂ train
leaves passed main t = the_end refl refl refl (t refl)
leaves last more t = a_car refl refl come_after last
leaves last head t = a_car refl refl come_after last
leaves alone main t = the_token refl come_after alone
leaves more more t = a_car refl refl come_inside more
leaves more head t = a_car refl refl come_inside more
leaves head main t = the_token refl come_inside head
leaves coming coming t = nothing refl refl refl (λ b. true≢false (cc))
leaves coming (shade s) t = absurd (true≢false (sym s))
leaves (shade s) coming t = nothing refl refl refl (λ b. true≢false (cc))
leaves (shade s) (shade r) t = absurd (true≢false (sym r))

-- where a sentence leaves the train flag as the car sent would have it, an inner junction's flag is as the sentence leaves it too
trained_same : (w old : Bool) (j : Junction) → flag_after j.main old ≡ j.train → trained w old j ≡ j
unfolding trained train_after joins
trained_same true old j e = ap (λ (b : Bool). joins j.main j.subring b j.tour j.word) e
trained_same false old j e = refl

module _ (w : Bool) (j : Junction) (lo hi : ℕ) (wants : Bool) (a : Car) (tour : j.tour ≡ true) where
  -- in a tour the car from the subring decides
  in_tour_lem : (y : Car) → junction_turn w lo hi wants a y j ≡ trained w j.train (junction_apply a y j (in_tour j.train lo hi y))
  unfolding junction_turn junction_rule
  in_tour_lem y = ap (λ (b : Bool). trained w j.train (junction_apply a y j (cond b (in_tour j.train lo hi y) (outside (failing w j) wants a)))) tour

  -- so by a junction that the sentence gives, where it leaves the train flag as the car sent would have it
  gives : (y : Car) (next : Junction) → junction_apply a y j (in_tour j.train lo hi y) ≡ next → flag_after next.main j.train ≡ next.train
      → junction_turn w lo hi wants a y j ≡ next
  gives y next e flag = in_tour_lem y ∙ ap (trained w j.train) e ∙ trained_same w j.train next flag

  -- the token comes out
  pub turn_token : (y : Car) → kind y ≡ token → junction_turn w lo hi wants a y j ≡ joins Token a true j.tour j.word
  unfolding junction_apply in_tour joins flag_after
  turn_token Idle e = cc
  turn_token Token e = gives Token _ refl refl
  turn_token Null e = cc
  turn_token (Reqp t) e = cc
  turn_token (Failp t) e = cc
  turn_token (Dov t) e = cc
  turn_token (Gotp x) e = cc
  turn_token (Didv x) e = cc

  -- with its train flag clear the junction drops what is not the token
  pub turn_none : (y : Car) → j.train ≡ false → (kind y ≡ token → ⊥) → junction_turn w lo hi wants a y j ≡ joins Idle a j.train j.tour j.word
  unfolding junction_apply in_tour if_train joins flag_after
  turn_none y train real = gives y _ (ap (λ (b : Bool). junction_apply a y j (in_tour b lo hi y)) train ∙ go y real) (sym train)
    where
      go : (y : Car) → (kind y ≡ token → ⊥) → junction_apply a y j (in_tour false lo hi y) ≡ joins Idle a j.train j.tour j.word
      go Idle n = refl
      go Token n = absurd (n refl)
      go Null n = refl
      go (Reqp t) n = refl
      go (Failp t) n = refl
      go (Dov t) n = refl
      go (Gotp x) n = refl
      go (Didv x) n = refl

  -- the train has left the subring
  pub turn_end : (y : Car) → j.train ≡ true → kind y ≡ gap → junction_turn w lo hi wants a y j ≡ joins Idle a false false j.word
  unfolding junction_apply in_tour if_train joins flag_after
  turn_end y train e = gives y _ (ap (λ (b : Bool). junction_apply a y j (in_tour b lo hi y)) train ∙ go y e) refl
    where
      go : (y : Car) → kind y ≡ gap → junction_apply a y j (in_tour true lo hi y) ≡ joins Idle a false false j.word
      go Idle e = refl
      go Token e = cc
      go Null e = cc
      go (Reqp t) e = cc
      go (Failp t) e = cc
      go (Dov t) e = cc
      go (Gotp x) e = cc
      go (Didv x) e = cc

  -- a car of the train goes out, and the word takes note of it
  pub record CarTurn (j' : Junction) (y : Car) : Type 0 where
    pub word : ℕ
    pub is : j' ≡ joins y a j.train j.tour word
    pub bits : (lock : ℕ) → has word lock ≡ bit lo hi lock y (has j.word lock)

  -- a car that is no notice of this subring leaves the word as it is
  plain_turn : (y : Car) → ((lock : ℕ) → has j.word lock ≡ bit lo hi lock y (has j.word lock)) → CarTurn (junction_apply a y j CarOut) y
  unfolding junction_apply
  plain_turn y plain = record { word = j.word; is = refl; bits = plain }

  -- a gotp of this subring sets the lock's bit
  gotp_turn : (x : Tag) → x.lock < 64 → (b : Bool) → within lo hi x.source ≡ b
      → CarTurn (junction_apply a (Gotp x) j (cond b (SetsBit x.lock) CarOut)) (Gotp x)
  unfolding junction_apply
  gotp_turn x low true e =
      record {
        word = with_lock j.word x.lock;
        is = refl;
        bits = λ lock. has_with j.word x.lock lock low ∙ go (has j.word lock) (eqb lock x.lock)
            ∙ ap (λ (z : Bool). cond (z && eqb lock x.lock) true (has j.word lock)) (sym e);
      }
    where
      go : (b z : Bool) → (b || z) ≡ cond (true && z) true b
      go true true = refl
      go true false = refl
      go false true = refl
      go false false = refl
  gotp_turn x low false e = plain_turn (Gotp x) (λ lock. ap (λ (z : Bool). cond (z && eqb lock x.lock) true (has j.word lock)) (sym e))

  -- a didv of this subring clears the lock's bit
  didv_turn : (x : Tag) → x.lock < 64 → (b : Bool) → within lo hi x.source ≡ b
      → CarTurn (junction_apply a (Didv x) j (cond b (ClearsBit x.lock) CarOut)) (Didv x)
  unfolding junction_apply
  didv_turn x low true e =
      record {
        word = without_lock j.word x.lock;
        is = refl;
        bits = λ lock. has-without j.word x.lock lock low ∙ go (has j.word lock) (eqb lock x.lock)
            ∙ ap (λ (z : Bool). cond (z && eqb lock x.lock) false (has j.word lock)) (sym e);
      }
    where
      go : (b z : Bool) → (b && not z) ≡ cond (true && z) false b
      go true true = refl
      go true false = refl
      go false true = refl
      go false false = refl
  didv_turn x low false e = plain_turn (Didv x) (λ lock. ap (λ (z : Bool). cond (z && eqb lock x.lock) false (has j.word lock)) (sym e))

  -- so it is with every car of the train
  pub turn_car : (y : Car) → j.train ≡ true → kind y ≡ car → LowNotice y → CarTurn (junction_turn w lo hi wants a y j) y
  unfolding in_tour if_train on_gotp on_didv joins flag_after
  turn_car y train e low =
      let t = go y e low in
      record {
        word = t.word;
        is = gives y (joins y a j.train j.tour t.word) (ap (λ (b : Bool). junction_apply a y j (in_tour b lo hi y)) train ∙ t.is) (kept y e);
        bits = t.bits;
      }
    where
      kept : (y : Car) → kind y ≡ car → flag_after y j.train ≡ j.train
      kept Idle e = absurd (true≢false (cc))
      kept Token e = absurd (true≢false (cc))
      kept Null e = refl
      kept (Reqp t) e = refl
      kept (Failp t) e = refl
      kept (Dov t) e = refl
      kept (Gotp x) e = refl
      kept (Didv x) e = refl

      go : (y : Car) → kind y ≡ car → LowNotice y → CarTurn (junction_apply a y j (in_tour true lo hi y)) y
      go Idle e low = absurd (true≢false (cc))
      go Token e low = absurd (true≢false (cc))
      go Null e low = plain_turn Null (λ lock. refl)
      go (Reqp t) e low = plain_turn (Reqp t) (λ lock. refl)
      go (Failp t) e low = plain_turn (Failp t) (λ lock. refl)
      go (Dov t) e low = plain_turn (Dov t) (λ lock. refl)
      go (Gotp x) e low = gotp_turn x (low x (inl refl)) (within lo hi x.source) refl
      go (Didv x) e low = didv_turn x (low x (inr refl)) (within lo hi x.source) refl
