-- Laws of the count of steps in specs/Busy: of none, of one step more, at most as many as there are, and of two tests that agree along the items.
use Prim.Native.Nat.{ℕ, zero, suc, ◌+◌, ◌-◌, ◌^◌, ◌≤◌, ◌<◌, min}
use mathlib.Core.Path.{◌≡◌, refl, ◌∙◌, ap, ap₂}
use mathlib.Core.Bool.{Bool, true, false, cond}
use mathlib.Core.List.{List, [], ◌∷◌, ◌++◌}
use native.Mathlib.Omega.{arith}
use lib.ListN.{get_or}
use Rattle.ring.specs.declared.State.{State}
use Rattle.ring.specs.State.{start_of}
use Rattle.items.specs.declared.Item.{Item as FileItem}
use Rattle.items.specs.declared.Item.TheVariants.{Steps, Act}
use Rattle.nightfile.specs.File.{schedule_part}
use Rattle.course.specs.Whole.{items_from, steps_in}
use Rattle.run.specs.Outcomes.{schedule_sum}
use Rattle.run.proofs.ShortSum.{sum_short}
use Rattle.onelock.specs.OneLock.{Item, step, act, after_item, after_all, steps_among}
use Rattle.nightlock.specs.NightLock.{plan_in, many_steps as item_steps, as_items, items_in}
use Rattle.nightlock.specs.Busy.{steps_after_which, file_steps}

module _ (so : State → Bool) where
  -- of no steps, none
  pub none_after : (items : List Item) (s : State) → steps_after_which so 0 items s ≡ 0
  unfolding steps_after_which
  none_after [] s = refl
  none_after (step ∷ items) s = refl
  none_after (act action node lock ∷ items) s = none_after items (after_item (act action node lock) s)

  -- one step more: that step, if it is so after it
  pub one_after : (done left : List Item) (s : State)
      → steps_after_which so (suc (steps_among done)) (done ++ (step ∷ left)) s
      ≡ steps_after_which so (steps_among done) (done ++ (step ∷ left)) s + cond (so (after_item step (after_all done s))) 1 0
  unfolding steps_after_which steps_among after_all
  one_after [] left s = omega (arith, none_after left (after_item step s))
  one_after (step ∷ done) left s = omega (arith, one_after done left (after_item step s))
  one_after (act action node lock ∷ done) left s = one_after done left (after_item (act action node lock) s)

  -- no more than there are
  pub most_after : (n : ℕ) (items : List Item) (s : State) → steps_after_which so n items s ≤ steps_among items
  unfolding steps_after_which steps_among
  most_after n [] s = omega arith
  most_after zero (step ∷ items) s = omega arith
  most_after (suc n) (step ∷ items) s = omega (arith, one (so (after_item step s)), most_after n items (after_item step s))
    where
      one : (b : Bool) → cond b 1 0 ≤ 1
      one true = omega arith
      one false = omega arith
  most_after n (act action node lock ∷ items) s = most_after n items (after_item (act action node lock) s)

-- two tests that agree on every state of a kind that the items keep
pub same_after : (P : State → Type 0) (so other : State → Bool) → ((s : State) → P s → so s ≡ other s)
    → ((item : Item) (s : State) → P s → P (after_item item s))
    → (n : ℕ) (items : List Item) (s : State) → P s → steps_after_which so n items s ≡ steps_after_which other n items s
unfolding steps_after_which
same_after P so other agree keep n [] s p = refl
same_after P so other agree keep zero (step ∷ items) s p = refl
same_after P so other agree keep (suc n) (step ∷ items) s p =
    let next = keep step s p in
    ap₂ (λ (b : Bool) (rest : ℕ). cond b 1 0 + rest) (agree (after_item step s) next) (same_after P so other agree keep n items (after_item step s) next)
same_after P so other agree keep n (act action node lock ∷ items) s p =
    same_after P so other agree keep n items (after_item (act action node lock) s) (keep (act action node lock) s p)

-- the steps among a file's items are the schedule's sum
among_steps : (n : ℕ) (rest : List Item) → steps_among (item_steps n rest) ≡ n + steps_among rest
unfolding steps_among item_steps
among_steps zero rest = omega arith
among_steps (suc n) rest = omega (arith, among_steps n rest)

among_items : (l : List FileItem) → steps_among (as_items l) ≡ steps_in l
unfolding steps_among as_items steps_in
among_items [] = refl
among_items (Steps n ∷ rest) = among_steps n (as_items rest) ∙ ap (λ (k : ℕ). n + k) (among_items rest)
among_items (Act action node lock ∷ rest) = among_items rest

-- so no count of a file of bytes comes near 2 ^ 64
pub not_capped : (so : ℕ → State → Bool) (file : List ℕ) → ((place : ℕ) → get_or file place 0 < 256) → (steps lock : ℕ)
    → min (file_steps so file steps lock) (2 ^ 64 - 1) ≡ file_steps so file steps lock
unfolding file_steps items_in schedule_sum
not_capped so file bytes steps lock =
    let items = items_from (schedule_part file) 0 in
    omega (arith, most_after (so lock) steps (as_items items) (start_of (plan_in file)), among_items items, sum_short file bytes)
