-- The next position of a reading: what it is decides how the reading goes on.
use Prim.Native.Nat.{ℕ, zero, suc, ◌+◌, ◌-◌, ◌≤◌}
use mathlib.Core.Path.{◌≡◌, refl, sym, ap, ◌∙◌}
use mathlib.Core.Bool.{Bool, true, false, cond, true≢false}
use mathlib.Core.List.{List}
use native.Mathlib.Omega.{arith}
use lib.Dec.{ltb}
use Rattle.std.specs.Prelude.{Option, Some, None}
use Rattle.positions.specs.declared.Position.{Position}
use Rattle.positions.specs.declared.Position.TheVariants.{Node, Users, Listed}
use Rattle.positions.specs.Ring.{users_only}
use Rattle.positions.specs.Reading.{Reading, reading, onward, position_at, wrong, behind_user, behind_junction}
use Rattle.positions.proofs.Places.{list_at, deeper_is, reading-more}

-- by the position that the code has found there
module _ (depth : ℕ) (values : List ℕ) (left place : ℕ) where
  goes_on : {found : Option Position} → found ≡ position_at (ltb 0 depth) values place
      → reading depth values (suc left) place ≡ onward (list_at values depth) (λ next. reading depth values left next) place found
  goes_on here =
      reading-more values depth left place
      ∙ ap (λ (b : Bool). onward (list_at values depth) (λ next. reading depth values left next) place (position_at b values place)) (deeper_is depth)
      ∙ ap (λ (p : Option Position). onward (list_at values depth) (λ next. reading depth values left next) place p) (sym here)

  pub next_node : Some Node ≡ position_at (ltb 0 depth) values place
      → reading depth values (suc left) place ≡ behind_user (reading depth values left (place + 1))
  unfolding onward
  next_node here = goes_on here

  pub next_users : (size : ℕ) → Some (Users size) ≡ position_at (ltb 0 depth) values place
      → reading depth values (suc left) place ≡ behind_junction (users_only size) (reading depth values left (place + 1))
  unfolding onward
  next_users size here = goes_on here

  pub next_wrong : None ≡ position_at (ltb 0 depth) values place → (reading depth values (suc left) place).right ≡ true → ⊥
  unfolding onward wrong
  next_wrong here right = true≢false (sym right ∙ ap (λ (r : Reading). r.right) (goes_on here))

-- a list: there is a level for it, it is in range, and the reading goes on behind it
pub record Lists (depth : ℕ) (values : List ℕ) (left place size : ℕ) : Type 0 where
  pub deep : 1 ≤ depth
  pub in_range : (reading (depth - 1) values size (place + 2)).right ≡ true
  pub reads :
      reading depth values (suc left) place
      ≡ behind_junction (reading (depth - 1) values size (place + 2)).ring
      (reading depth values left (reading (depth - 1) values size (place + 2)).place)

taken_list : (list : Reading) (whole rest : Reading) → whole ≡ cond list.right rest wrong → whole.right ≡ true → (list.right ≡ true) × (whole ≡ rest)
unfolding wrong
taken_list list whole rest e right = by_right list.right refl
  where
    by_right : (b : Bool) → list.right ≡ b → (list.right ≡ true) × (whole ≡ rest)
    by_right true f = (f, e ∙ ap (λ (b : Bool). cond b rest wrong) f)
    by_right false f =
        absurd (true≢false (sym right ∙ ap (λ (r : Reading). r.right) (e ∙ ap (λ (b : Bool). cond b rest wrong) f)))

pub next_listed : (depth : ℕ) (values : List ℕ) (left place size : ℕ) → Some (Listed size) ≡ position_at (ltb 0 depth) values place
    → (reading depth values (suc left) place).right ≡ true → Lists depth values left place size
unfolding onward wrong
next_listed zero values left place size here right =
    absurd (true≢false (sym right ∙ ap (λ (r : Reading). r.right) (goes_on zero values left place here)))
next_listed (suc depth) values left place size here right =
    let f : suc depth - 1 ≡ depth = omega arith in
    let list : Reading = reading depth values size (place + 2) in
    let parts =
    taken_list list (reading (suc depth) values (suc left) place)
    (behind_junction list.ring (reading (suc depth) values left list.place))
    (goes_on (suc depth) values left place here)
    right in
    record { deep = omega arith; in_range = rw f parts.0; reads = rw f parts.1 }
