-- A number of the rules that is one of two, and 4 beside the 4 of before 02, item 4: a plan with rules 3 or 4 was out of range, any other is in range
-- where it was, and of a file 1 to 3 are told first.
use Prim.Native.Nat.{ℕ, ◌+◌, ◌≤◌}
use mathlib.Core.Path.{◌≡◌, refl, ◌∙◌, sym, subst}
use mathlib.Core.Bool.{Bool, true, false, ◌&&◌, ◌||◌}
use mathlib.Core.Logic.{◌⊎◌, inl, inr, ⊎_elim}
use native.Mathlib.Nat.{eq-or-lt_of_le}
use native.Mathlib.Omega.{arith}
use lib.Dec.{eqb, leb}
use borrow.Author.Tests.{eq-eqb, eqb-true, eqb-false, le-leb, lt-leb}
use Rattle.lists.specs.Refusal.{refused_if}
use Rattle.lists.proofs.Tests.{by_value, at_most_or_above, or_left, or_right, or_second, or_by_first, or_by_second}
use Rattle.plan.specs.declared.Plan.{Plan}
use Rattle.positions.specs.Ring.{nodes_in}
use Rattle.plan.specs.Plan.{heads_in_range, positions_read, ring_of, junctions_allowed, in_range}
use Rattle.books.specs.Alike.{under_plan}
use Rattle.books.specs.Before.{heads_in_range01, in_range01}

-- what holds of two numbers holds of a number that is one of them
pub one_of : (P : ℕ → Type 0) (rules one other : ℕ) → (eqb rules one || eqb rules other) ≡ true → P one → P other → P rules
one_of P rules one other is first second =
    by_value (λ b. P rules) (eqb rules one) (λ e. subst P (sym (eqb-true rules one e)) first)
    (λ e. subst P (sym (eqb-true rules other (or_second (eqb rules one) (eqb rules other) is e))) second)

-- a number from one to the next is one of them
pub one_or_next : (rules one : ℕ) → one ≤ rules → rules ≤ one + 1 → (eqb rules one || eqb rules (one + 1)) ≡ true
one_or_next rules one least most =
    ⊎_elim (λ e. or_by_second (eqb rules one) _ (eq-eqb rules (one + 1) e)) (λ less. or_by_first _ _ (eq-eqb rules one (omega arith))) (eq-or-lt_of_le most)

-- a number that is not 3 or 4 is at most 4 exactly where it is at most 2
at_most_two : (rules : ℕ) → (rules ≡ 3 → ⊥) → (rules ≡ 4 → ⊥) → leb rules 4 ≡ leb rules 2
at_most_two rules three four =
    ⊎_elim (λ less. le-leb rules 4 (omega arith) ∙ sym (le-leb rules 2 less)) (λ more. lt-leb rules 4 (omega arith) ∙ sym (lt-leb rules 2 more))
    (at_most_or_above rules 2)

-- so a plan whose rules are not 3 or 4 is in range where it was before
pub range_as_in_01 : (plan : Plan) → (eqb plan.rules 3 || eqb plan.rules 4) ≡ false → in_range plan ≡ in_range01 plan
unfolding in_range in_range01 heads_in_range heads_in_range01
range_as_in_01 plan old =
    let most = at_most_two plan.rules (eqb-false _ _ (or_left _ _ old)) (eqb-false _ _ (or_right (eqb plan.rules 3) _ old)) in
    λ i. leb 1 plan.rules && most i && leb 1 plan.locks && leb plan.locks 64 && leb 1 plan.positions
    && leb plan.positions 16 && (positions_read plan).right && leb (nodes_in (ring_of plan)) 64 && junctions_allowed plan

-- and one whose rules are was out of range
pub out_of_range_01 : (plan : Plan) → (eqb plan.rules 3 || eqb plan.rules 4) ≡ true → in_range01 plan ≡ false
unfolding in_range01 heads_in_range01
out_of_range_01 plan new = one_of (λ rules. in_range01 (under_plan rules plan) ≡ false) plan.rules 3 4 new refl refl

-- 1 to 3, by their tests, then what comes later
abbrev pub in_turn : Bool → Bool → Bool → ℕ → ℕ
in_turn first second third later = refused_if first 1 (refused_if second 2 (refused_if third 3 later))

-- it is one of them, whatever comes later, or it is what comes later
pub earlier_or_later : (first second third : Bool) (one other : ℕ)
    → (in_turn first second third one ≡ in_turn first second third other) ⊎ (in_turn first second third other ≡ other)
unfolding refused_if
earlier_or_later true second third one other = inl refl
earlier_or_later false true third one other = inl refl
earlier_or_later false false true one other = inl refl
earlier_or_later false false false one other = inr refl
