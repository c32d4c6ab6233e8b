-- What the deeds of one moment tell of a lock: who has it before and after, by node numbers; and that a plain lock goes along with it.
use Rattle.std.specs.Prelude.{Option}
use Prim.Native.Nat.{ℕ, zero, suc, ◌≤◌, ◌<◌}
use mathlib.Core.Path.{◌≡◌, refl, ◌∙◌, ap, sym, subst}
use mathlib.Core.Bool.{Bool, true, false, cond, true≢false}
use mathlib.Core.List.{List, [], ◌∷◌, ◌++◌}
use native.Mathlib.Omega.{arith}
use lib.Dec.{lit≤}
use lib.ListN.{get_or, length}
use borrow.Author.Tests.{eq-eqb}
use Rattle.ring.specs.Walk.{quiet}
use Rattle.turns.specs.declared.Event.{Event}
use Rattle.onelock.specs.OneLock.{Deed, granted, ended, deed_of, deeds_in, Lock, free, held_by, broken, after, after_moment, is_broken}
use Rattle.lists.proofs.Tests.{by_number}
use Rattle.onelock.proofs.Line.Numbers.{Upto}
use Rattle.onelock.proofs.Run.Deeds.{Turns, stays, gets, gives}

-- none of the first n nodes has the lock
abbrev pub Nobody : ℕ → (ℕ → Bool) → Type 0
Nobody n A = (k : ℕ) → Upto n k → A k ≡ true → ⊥

-- at most one of the first n nodes has the lock
abbrev pub AtMostOne : ℕ → (ℕ → Bool) → Type 0
AtMostOne n A = (i k : ℕ) → Upto n i → Upto n k → A i ≡ true → A k ≡ true → i ≡ k

-- the first n nodes but i have it afterwards where they had it before
abbrev pub Others : ℕ → ℕ → (ℕ → Bool) → (ℕ → Bool) → Type 0
Others n i A B = (k : ℕ) → Upto n k → (k ≡ i → ⊥) → B k ≡ A k

-- the deeds of the first n of all nodes: none and nothing changes, or one and no other node changes; a grant says that nobody had the lock
pub data Tells (all n : ℕ) (A B : ℕ → Bool) : List Deed → Type 0 where
  nothing : ((k : ℕ) → Upto n k → B k ≡ A k) → Tells all n A B []
  grant : (i : ℕ) → Upto n i → Nobody all A → B i ≡ true → Others n i A B → Tells all n A B (granted i ∷ [])
  ending : (i : ℕ) → Upto n i → A i ≡ true → B i ≡ false → Others n i A B → Tells all n A B (ended i ∷ [])

-- a node is among more nodes too
wider : {n k : ℕ} (m : ℕ) → n ≤ m → Upto n k → Upto m k
wider m l u = record { low = u.low; high = omega (arith, u.high) }

-- the last of the first n + 1 nodes is one of them
last : (n : ℕ) → Upto (suc n) (suc n)
last n = record { low = omega arith; high = omega arith }

-- one that is not the last is before it
before_last : {n k : ℕ} → Upto (suc n) k → (k ≡ suc n → ⊥) → Upto n k
before_last u d = record { low = u.low; high = omega (arith, u.high, d) }

-- where only one node can change, its deed is all
pub alone : {all n i : ℕ} {A B : ℕ → Bool} {ds : List Deed} → Upto n i → Others n i A B → Turns (Nobody all A) i (A i) (B i) ds → Tells all n A B ds
alone {i = i} {A} {B} u o (stays e) = nothing (λ k v. by_number (λ x. B x ≡ A x) i k e (o k v))
alone {i = i} u o (gets none new) = grant i u none new o
alone {i = i} u o (gives old new) = ending i u old new o

module _ (all : ℕ) (A B : ℕ → Bool) (one : AtMostOne all A) (one' : AtMostOne all B) where
  -- one node more that does not change
  others_more : (n i : ℕ) → Others n i A B → B (suc n) ≡ A (suc n) → Others (suc n) i A B
  others_more n i o e k u d = by_number (λ x. B x ≡ A x) (suc n) k e (λ p. o k (before_last u p) d)

  -- the deeds of one node more
  join : (n : ℕ) {ds es : List Deed} → n < all → Tells all n A B ds → Turns (Nobody all A) (suc n) (A (suc n)) (B (suc n)) es → Tells all (suc n) A B (ds ++ es)
  join n l (nothing keep) t = alone (last n) (λ k u d. keep k (before_last u d)) t
  join n l (grant i u none new o) (stays e) = grant i (wider (suc n) (omega arith) u) none new (others_more n i o e)
  join n l (grant i u none new o) (gets none' new') =
      absurd (omega (arith, u.high, one' i (suc n) (wider all (omega arith) u) (wider all l (last n)) new new'))
  join n l (grant i u none new o) (gives old new') = absurd (none (suc n) (wider all l (last n)) old)
  join n l (ending i u old new o) (stays e) = ending i (wider (suc n) (omega arith) u) old new (others_more n i o e)
  join n l (ending i u old new o) (gets none new') = absurd (none i (wider all (omega arith) u) old)
  join n l (ending i u old new o) (gives old' new') =
      absurd (omega (arith, u.high, one i (suc n) (wider all (omega arith) u) (wider all l (last n)) old old'))

  -- the deeds of the first nodes in a step
  pub all_deeds_lem : (rules lock : ℕ) (events : List (Option Event))
      → ((q : ℕ) → q < all → Turns (Nobody all A) (suc q) (A (suc q)) (B (suc q)) (deed_of rules lock (suc q) (get_or events q quiet)))
      → (n : ℕ) → n ≤ all → Tells all n A B (deeds_in rules lock events n)
  unfolding deeds_in
  all_deeds_lem rules lock events each zero l = nothing (λ k u. absurd (omega (arith, u.low, u.high)))
  all_deeds_lem rules lock events each (suc n) l = join n l (all_deeds_lem rules lock events each n (omega arith)) (each n l)

-- a moment has at most one deed
pub one_deed : {all n : ℕ} {A B : ℕ → Bool} {ds : List Deed} → Tells all n A B ds → length ds ≤ 1
one_deed (nothing keep) = lit≤ tt
one_deed (grant i u none new o) = lit≤ tt
one_deed (ending i u old new o) = lit≤ tt

-- a plain lock follows who has the lock: it is free and nobody has it, or exactly its holder has it
pub data Follows (n : ℕ) (A : ℕ → Bool) : Lock → Type 0 where
  nobody : Nobody n A → Follows n A free
  holder : (i : ℕ) → Upto n i → A i ≡ true → ((k : ℕ) → Upto n k → A k ≡ true → k ≡ i) → Follows n A (held_by i)

-- the deeds of a moment keep it so
pub follows_after : {n : ℕ} {A B : ℕ → Bool} {ds : List Deed} {l : Lock} → Tells n n A B ds → Follows n A l → Follows n B (after_moment ds l)
unfolding after_moment after
follows_after (nothing keep) (nobody none) = nobody (λ k u h. none k u (sym (keep k u) ∙ h))
follows_after (nothing keep) (holder i u h only) = holder i u (keep i u ∙ h) (λ k v e. only k v (sym (keep k v) ∙ e))
follows_after (grant i u none new o) (nobody free-before) =
    holder i u new (λ k v e. by_number (λ x. x ≡ i) i k refl (λ d. absurd (none k v (sym (o k v d) ∙ e))))
follows_after (grant j u none new o) (holder i v h only) = absurd (none i v h)
follows_after (ending j u old new o) (nobody none) = absurd (none j u old)
follows_after {n} {B = B} (ending j u old new o) (holder i v h only) =
    subst (λ b. Follows n B (cond b free broken)) (sym (eq-eqb j i (only j u old)))
    (nobody (λ k w e. by_number (λ x. B x ≡ true → ⊥) j k (λ f. true≢false (sym f ∙ new)) (λ d f. d (only k w (sym (o k w d) ∙ f) ∙ sym (only j u old))) e))

-- a lock that follows is not broken
pub follows_sound : {n : ℕ} {A : ℕ → Bool} {l : Lock} → Follows n A l → is_broken l ≡ false
unfolding is_broken
follows_sound (nobody none) = refl
follows_sound (holder i u h only) = refl

-- its holder has the lock
pub holder_has : {n i : ℕ} {A : ℕ → Bool} {l : Lock} → Follows n A l → l ≡ held_by i → A i ≡ true
holder_has (nobody none) e = cc
holder_has {i = i} {A} (holder j u h only) e = let same : j ≡ i = cc in subst (λ x. A x ≡ true) same h

-- who has the lock is its holder
pub has_holder : {n i : ℕ} {A : ℕ → Bool} {l : Lock} → Follows n A l → Upto n i → A i ≡ true → l ≡ held_by i
has_holder {i = i} (nobody none) u h = absurd (none i u h)
has_holder {i = i} (holder j v h only) u e = ap held_by (sym (only i u e))
