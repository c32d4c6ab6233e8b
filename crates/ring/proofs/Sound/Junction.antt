-- Of 13, a junction by itself: if it and the cars that arrive name only nodes and locks of the plan, it does so after its turn
-- too.
use Prim.Native.Nat.{ℕ, ◌^◌, ◌<◌}
use mathlib.Core.Path.{◌≡◌, refl}
use mathlib.Core.Bool.{Bool, true, ◌&&◌}
use lib.Dec.{ltb}
use borrow.Author.Tests.{lt-ltb, ltb-true}
use Rattle.words.specs.Words.{has, all_below}
use Rattle.words.proofs.Sets.{with_within, without-within}
use Rattle.lists.proofs.Laws.{and_left, and_right}
use Rattle.lists.proofs.Tests.{and_both, by_test}
use Rattle.cars.specs.declared.Tag.{Tag}
use Rattle.cars.specs.declared.Car.{Car}
use Rattle.cars.specs.declared.Car.TheVariants.{Idle, Token, Null, Reqp, Failp, Dov, Gotp, Didv}
use Rattle.cars.specs.Cars.{multiring, names, notice_names, car_names}
use Rattle.tours.specs.declared.JunctionRule.{JunctionRule}
use Rattle.tours.specs.declared.JunctionRule.TheVariants.{GoesOn, FailsReqp, Begins, Drops, TokenOut, CarOut, SetsBit, ClearsBit, Ends}
use Rattle.tours.specs.Rules.{within, outside, if_train, on_gotp, on_didv, in_tour}
use Rattle.junction.specs.declared.Junction.{Junction}
use Rattle.junction.specs.Turn.{failing, junction_rule, shadow, joins, junction_apply, trained, junction_turn}
use Rattle.junction.specs.Sound.{junction_sound}
use Rattle.ring.proofs.Sound.Node.{names_lock}

module _ (rules nodes locks : ℕ) where
  -- whether what a junction's rule names is there
  junction_names : JunctionRule → Bool
  junction_names GoesOn = true
  junction_names (FailsReqp tag) = names nodes locks tag.lock tag.source
  junction_names Begins = true
  junction_names Drops = true
  junction_names TokenOut = true
  junction_names CarOut = true
  junction_names (SetsBit lock) = ltb lock locks
  junction_names (ClearsBit lock) = true
  junction_names Ends = true

  -- it names only what is there
  abbrev Named : JunctionRule → Type 0
  Named r = junction_names r ≡ true

  -- outside a tour the rule names only what the arrival names
  outside-names : (word : ℕ) (wants : Bool) (arrival : Car) → car_names rules nodes locks arrival ≡ true → Named (outside word wants arrival)
  unfolding junction_names outside car_names
  outside-names word wants Idle c = refl
  outside-names word wants Token c = by_test Named wants (λ e. refl) (λ e. refl)
  outside-names word wants Null c = refl
  outside-names word wants (Reqp tag) c = by_test Named (has word tag.lock) (λ e. c) (λ e. refl)
  outside-names word wants (Failp tag) c = refl
  outside-names word wants (Dov tag) c = refl
  outside-names word wants (Gotp notice) c = refl
  outside-names word wants (Didv notice) c = refl

  -- with the train flag or without, a rule names only what is there
  train_names : (train : Bool) (r : JunctionRule) → Named r → Named (if_train train r)
  unfolding junction_names if_train
  train_names train r e = by_test Named train (λ t. e) (λ t. refl)

  -- a gotp's lock is there
  gotp_names : (low high : ℕ) (notice : Tag) → notice_names rules nodes locks notice ≡ true → Named (on_gotp low high notice)
  unfolding junction_names on_gotp notice_names
  gotp_names low high notice c =
      let named = and_right (multiring rules) (names nodes locks notice.lock notice.source) c in
      by_test Named (within low high notice.source) (λ e. lt-ltb _ _ (names_lock nodes locks notice.lock notice.source named)) (λ e. refl)

  -- a didv's lock is cleared in any case
  didv_names : (low high : ℕ) (notice : Tag) → Named (on_didv low high notice)
  unfolding junction_names on_didv
  didv_names low high notice = by_test Named (within low high notice.source) (λ e. refl) (λ e. refl)

  -- in a tour the rule names only what the car out of the subring names
  tour_names : (train : Bool) (low high : ℕ) (out : Car) → car_names rules nodes locks out ≡ true → Named (in_tour train low high out)
  unfolding junction_names in_tour car_names
  tour_names train low high Idle c = train_names train Ends refl
  tour_names train low high Token c = refl
  tour_names train low high Null c = train_names train CarOut refl
  tour_names train low high (Reqp tag) c = train_names train CarOut refl
  tour_names train low high (Failp tag) c = train_names train CarOut refl
  tour_names train low high (Dov tag) c = train_names train CarOut refl
  tour_names train low high (Gotp notice) c = train_names train (on_gotp low high notice) (gotp_names low high notice c)
  tour_names train low high (Didv notice) c = train_names train (on_didv low high notice) (didv_names low high notice)

  -- a shadow names what the car names
  shadow-names : (car : Car) → car_names rules nodes locks car ≡ true → car_names rules nodes locks (shadow car) ≡ true
  unfolding shadow car_names
  shadow-names Idle c = refl
  shadow-names Token c = refl
  shadow-names Null c = refl
  shadow-names (Reqp tag) c = c
  shadow-names (Failp tag) c = c
  shadow-names (Dov tag) c = c
  shadow-names (Gotp notice) c = c
  shadow-names (Didv notice) c = c

  -- a junction passes if its cars name only what is there and its word has only the plan's locks
  joined : (main subring : Car) (train tour : Bool) (word : ℕ) → car_names rules nodes locks main ≡ true → car_names rules nodes locks subring ≡ true
      → word < 2 ^ locks → junction_sound rules nodes locks (joins main subring train tour word) ≡ true
  unfolding junction_sound joins all_below
  joined main subring train tour word m s w = and_both (and_both m s) (lt-ltb _ _ w)

  -- a rule that names only what is there gives a junction that passes
  junction_applied : (arrival out : Car) (j : Junction) (r : JunctionRule) → car_names rules nodes locks arrival ≡ true → car_names rules nodes locks out ≡ true
      → j.word < 2 ^ locks → Named r → junction_sound rules nodes locks (junction_apply arrival out j r) ≡ true
  unfolding junction_apply junction_names car_names
  junction_applied arrival out j GoesOn a o w r = joined _ _ _ _ _ a (shadow-names arrival a) w
  junction_applied arrival out j (FailsReqp tag) a o w r = joined (Failp tag) _ _ _ _ r a w
  junction_applied arrival out j Begins a o w r = joined Idle Token _ _ _ refl refl w
  junction_applied arrival out j Drops a o w r = joined Idle _ _ _ _ refl a w
  junction_applied arrival out j TokenOut a o w r = joined Token _ _ _ _ refl a w
  junction_applied arrival out j CarOut a o w r = joined _ _ _ _ _ o a w
  junction_applied arrival out j (SetsBit lock) a o w r = joined _ _ _ _ _ o a (with_within locks j.word lock (ltb-true _ _ r) w)
  junction_applied arrival out j (ClearsBit lock) a o w r = joined _ _ _ _ _ o a (without-within locks j.word lock w)
  junction_applied arrival out j Ends a o w r = joined Idle _ _ _ _ refl a w

  -- what 13 asks of a junction, each thing by itself: its main car, its subring car, its word
  pub junction_in_plan : (j : Junction) → junction_sound rules nodes locks j ≡ true
      → (car_names rules nodes locks j.main ≡ true) × (car_names rules nodes locks j.subring ≡ true) × (j.word < 2 ^ locks)
  unfolding junction_sound all_below
  junction_in_plan j e =
      let main = car_names rules nodes locks j.main in
      let subring = car_names rules nodes locks j.subring in
      let two = and_left (main && subring) (all_below j.word locks) e in
      (and_left main subring two, and_right main subring two, ltb-true _ _ (and_right (main && subring) (all_below j.word locks) e))

  -- a junction that passes still passes after its turn
  pub junction-sound : (inner : Bool) (low high : ℕ) (wants : Bool) (arrival out : Car) (j : Junction) → car_names rules nodes locks arrival ≡ true
      → car_names rules nodes locks out ≡ true → junction_sound rules nodes locks j ≡ true
      → junction_sound rules nodes locks (junction_turn inner low high wants arrival out j) ≡ true
  unfolding junction_turn junction_rule trained joins junction_sound
  junction-sound inner low high wants arrival out j a o e =
      junction_applied arrival out j (junction_rule inner low high wants arrival out j) a o (junction_in_plan j e).2
      (by_test Named j.tour (λ t. tour_names j.train low high out o) (λ t. outside-names (failing inner j) wants arrival a))
