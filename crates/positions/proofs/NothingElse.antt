-- What is read in range is a ring in form, and the bytes that were read write it.
use Prim.Native.Nat.{ℕ, zero, suc, ◌+◌, ◌-◌, ◌≤◌, ◌<◌}
use mathlib.Core.Path.{◌≡◌, refl, sym, ap, subst, ◌∙◌}
use mathlib.Core.Bool.{true}
use mathlib.Core.List.{List, ◌∷◌, ◌++◌}
use native.Mathlib.Omega.{arith}
use lib.ListN.{length, get_or, take, drop}
use lib.Seq.{drop-drop, take-add}
use borrow.Author.Tests.{le-leb}
use Rattle.lists.proofs.Tests.{and_both}
use Rattle.positions.specs.Ring.{Ring, no_more, user_node, a_junction, users_only}
use Rattle.positions.specs.Written.{positions_on, in_form, Writes, no_byte, a_zero, a_number, a_five}
use Rattle.positions.proofs.Ending.{drop-first}
use Rattle.positions.proofs.Counts.{reads_onward}
use Rattle.positions.proofs.InRange.{Reads, reads_none, reads_user, reads_users, reads_list}

users_positions : (n : ℕ) → positions_on (users_only n) ≡ n
unfolding positions_on users_only
users_positions zero = refl
users_positions (suc n) = let e = users_positions n in omega (arith, e)

users_form : (levels n : ℕ) → in_form levels (users_only n) ≡ true
unfolding in_form users_only
users_form levels zero = refl
users_form levels (suc n) = users_form levels n

junction_form : (levels : ℕ) (subring rest : Ring) → 1 ≤ positions_on subring → positions_on subring ≤ 4 → in_form levels subring ≡ true
    → in_form (suc levels) rest ≡ true → in_form (suc levels) (a_junction subring rest) ≡ true
unfolding in_form
junction_form levels subring rest least most within more = and_both (and_both (and_both (le-leb _ _ least) (le-leb _ _ most)) within) more

pub reads_positions : {values : List ℕ} {levels count place behind : ℕ} {ring : Ring} → Reads values levels count place behind ring → positions_on ring ≡ count
unfolding positions_on
reads_positions reads_none = refl
reads_positions (reads_user there none more) = let e = reads_positions more in omega (arith, e)
reads_positions (reads_users there same some small more) = let e = reads_positions more in omega (arith, e)
reads_positions (reads_list there five same least most within more) = let e = reads_positions more in omega (arith, e)

pub reads_form : {values : List ℕ} {levels count place behind : ℕ} {ring : Ring} → Reads values levels count place behind ring → in_form levels ring ≡ true
unfolding in_form
reads_form reads_none = refl
reads_form (reads_user there none more) = reads_form more
reads_form (reads_users {depth = levels} {value = value} {rest = rest} there same some small more) =
    let many = users_positions value in
    junction_form levels (users_only value) rest (omega (arith, many, some)) (omega (arith, many, small)) (users_form levels value) (reads_form more)
reads_form (reads_list {depth = levels} {subring = subring} {rest = rest} there five same least most within more) =
    let many = reads_positions within in
    junction_form levels subring rest (omega (arith, many, least)) (omega (arith, many, most)) (reads_form within) (reads_form more)

-- the bytes from a place up to another
module _ (values : List ℕ) where
  abbrev part : ℕ → ℕ → List ℕ
  part place behind = take (behind - place) (drop place values)

  part_first : (place behind : ℕ) → place < behind → place < length values → part place behind ≡ get_or values place 0 ∷ part (place + 1) behind
  part_first place behind some there =
      let one : behind - place ≡ suc (behind - (place + 1)) = omega (arith, some) in
      ap (take (behind - place)) (drop-first values place there)
      ∙ ap (λ n. take n (get_or values place 0 ∷ drop (place + 1) values)) one

  part_parts : (place middle behind : ℕ) → place ≤ middle → middle ≤ behind → part place behind ≡ part place middle ++ part middle behind
  part_parts place middle behind some more =
      let sum : behind - place ≡ (middle - place) + (behind - middle) = omega (arith, some, more) in
      let far : place + (middle - place) ≡ middle = omega (arith, some) in
      ap (λ n. take n (drop place values)) sum
      ∙ take-add (middle - place) (behind - middle) (drop place values)
      ∙ ap (λ (l : List ℕ). part place middle ++ take (behind - middle) l) (drop-drop (middle - place) place values ∙ ap (λ p. drop p values) far)

  pub reads_writes : {levels count place behind : ℕ} {ring : Ring} → Reads values levels count place behind ring → Writes ring (part place behind)
  reads_writes (reads_none {place = place}) =
      let none : 0 ≡ place - place = omega arith in subst (λ n. Writes no_more (take n (drop place values))) none no_byte
  reads_writes (reads_user {place = place} {behind = behind} {rest = rest} there none more) =
      let most = reads_onward more in
      let first = part_first place behind (omega (arith, most)) there ∙ ap (λ byte. byte ∷ part (place + 1) behind) none in
      subst (Writes (user_node rest)) (sym first) (a_zero (reads_writes more))
  reads_writes (reads_users {place = place} {behind = behind} {value = value} {rest = rest} there same some small more) =
      let most = reads_onward more in
      let first = part_first place behind (omega (arith, most)) there ∙ ap (λ byte. byte ∷ part (place + 1) behind) same in
      subst (Writes (a_junction (users_only value) rest)) (sym first) (a_number (omega (arith, some)) small (reads_writes more))
  reads_writes (reads_list {place = place} {middle = middle} {behind = behind} {many = many} {subring = subring} {rest = rest} there five same least most within more) =
      let list = reads_onward within in
      let onward = reads_onward more in
      let here : place < length values = omega (arith, there) in
      let two : place + 1 + 1 ≡ place + 2 = omega arith in
      let parted = part_parts (place + 2) middle behind (omega (arith, list)) (omega (arith, onward)) in
      let count : many ≡ positions_on subring = sym (reads_positions within) in
      let first = part_first place behind (omega (arith, list, onward)) here
      ∙ ap (λ byte. byte ∷ part (place + 1) behind) five
      ∙ ap (λ (l : List ℕ). 5 ∷ l) (part_first (place + 1) behind (omega (arith, list, onward)) there
      ∙ ap (λ p. get_or values (place + 1) 0 ∷ part p behind) two
      ∙ ap (λ byte. byte ∷ part (place + 2) behind) (same ∙ count)
      ∙ ap (λ (l : List ℕ). positions_on subring ∷ l) parted) in
      subst (Writes (a_junction subring rest)) (sym first) (a_five (reads_writes within) (reads_writes more))
