-- One turn more of each loop of this crate, and the busy locks read off one word.
use Rattle.std.specs.Prelude.{Option, None, Some}
use Prim.Native.Nat.{ℕ, zero, suc, ◌+◌, ◌-◌, ◌^◌, ◌≤◌, ◌<◌, min}
use mathlib.Core.Path.{◌≡◌, refl, ◌∙◌, sym, ap, ap₂, subst}
use mathlib.Core.Bool.{Bool, false, cond, ◌||◌}
use mathlib.Core.List.{List}
use native.Mathlib.Omega.{arith}
use lib.Dec.{T}
use lib.Bits.{bit_or}
use lib.ListN.{get_or, get_or-replicate, take, length, length-take}
use Rattle.std.proofs.lemmas.List.{get_or-take}
use Rattle.lists.specs.Loops.{iterate, in_order}
use Rattle.lists.proofs.Laws.{some_more, in_order-more, in_order_same}
use Rattle.words.specs.Words.{has}
use Rattle.words.proofs.Sets.{has_or}
use Rattle.usernode.specs.declared.Node.{Node}
use Rattle.usernode.specs.Node.{had}
use Rattle.turns.specs.declared.Event.{Event}
use Rattle.turns.specs.declared.Event.TheVariants.{Granted, Failed, Lost, Back, Sent}
use Rattle.ring.specs.State.{rest_node}
use Rattle.ring.specs.Walk.{quiet}
use Rattle.tally.specs.Tally.{more, counted, busy, busy_lock, busy_counts, is_counted, event_tally, place_tally, events_tally, step_tally, no_events, silent_tally, add_up}
use Rattle.tally.specs.declared.Tally.{Tally}
use Rattle.tally.proofs.Times.{changed, at_place, all_times}

-- one node more in the word of what is had
pub busy-more : (nodes : List Node) (word i lock : ℕ) → has word lock ≡ busy nodes i lock
    → has (bit_or word (bit_or (get_or nodes i rest_node).held (get_or nodes i rest_node).letting)) lock ≡ busy nodes (i + 1) lock
unfolding busy had
busy-more nodes word i lock e =
    has_or word _ lock
    ∙ ap₂ (λ (before here : Bool). before || here) e (has_or (get_or nodes i rest_node).held (get_or nodes i rest_node).letting lock)
    ∙ sym (some_more (λ place. had (get_or nodes place rest_node) lock) i)

-- one count more in the sum
pub sum_more : (counts : List ℕ) (i sum next : ℕ) → sum ≡ in_order (add_up counts) i 0 → next ≡ min (sum + get_or counts i 0) (2 ^ 64 - 1)
    → next ≡ in_order (add_up counts) (i + 1) 0
unfolding add_up
sum_more counts i sum next e n = n ∙ ap (λ (s : ℕ). min (s + get_or counts i 0) (2 ^ 64 - 1)) e ∙ sym (in_order-more (add_up counts) i 0)

-- one lock more, by the word of what is had
abbrev pub word_lock : ℕ → ℕ → ℕ → List ℕ → List ℕ
word_lock word steps = at_place (has word) (iterate more steps)

pub word_more : (word steps lock : ℕ) (counts start next : List ℕ) → counts ≡ in_order (word_lock word steps) lock start → next ≡ word_lock word steps lock counts
    → next ≡ in_order (word_lock word steps) (lock + 1) start
word_more word steps lock counts start next e n = n ∙ ap (word_lock word steps lock) e ∙ sym (in_order-more (word_lock word steps) lock start)

-- a word that has what the nodes have counts as they do, so many times
pub word_busy : (nodes : List Node) (count word : ℕ) → ((lock : ℕ) → has word lock ≡ busy nodes count lock) → (locks steps : ℕ) (counts : List ℕ)
    → in_order (word_lock word steps) locks counts ≡ iterate (busy_counts nodes count locks) steps counts
unfolding busy_counts busy_lock counted
word_busy nodes count word e locks steps counts =
    in_order_same (word_lock word steps) (at_place (busy nodes count) (iterate more steps)) (λ lock counts. ap (λ (b : Bool). cond b (changed (iterate more steps) lock counts) counts) (e lock)) locks counts
    ∙ sym (all_times (busy nodes count) more locks steps counts)

-- an event that is not counted changes nothing
pub not-counted : (event : Option Event) (tally : Tally) → is_counted event ≡ false → tally ≡ event_tally event tally
unfolding is_counted event_tally
not-counted None tally e = refl
not-counted (Some (Granted lock)) tally e = absurd (subst T e tt)
not-counted (Some (Failed lock)) tally e = absurd (subst T e tt)
not-counted (Some (Lost lock)) tally e = refl
not-counted (Some (Back lock)) tally e = refl
not-counted (Some (Sent lock)) tally e = refl

-- where nothing happened, nothing is counted
pub none_tally : (events : List (Option Event)) (count : ℕ) (tally : Tally) → ((place : ℕ) → place < count → get_or events place quiet ≡ None)
    → events_tally events count tally ≡ tally
unfolding events_tally place_tally event_tally in_order
none_tally events zero tally e = refl
none_tally events (suc count) tally e =
    ap (λ (event : Option Event). event_tally event (events_tally events count tally)) (e count (omega arith)) ∙ none_tally events count tally (λ place below. e place (omega arith))

-- at no place of `no_events` is there an event
pub no-events : (place : ℕ) → place < 64 → get_or no_events place quiet ≡ None
unfolding quiet
no-events place below = get_or-replicate 64 place quiet quiet below

-- so many steps without an event: the busy counts that many times larger, and nothing else
pub silent_counts : (nodes : List Node) (count locks steps : ℕ) (tally : Tally) → silent_tally nodes count locks steps tally
    ≡ record { busy = iterate (busy_counts nodes (min count 64) (min locks 64)) steps tally.busy; grants = tally.grants; failed = tally.failed }
unfolding silent_tally iterate step_tally
silent_counts nodes count locks zero tally = refl
silent_counts nodes count locks (suc steps) tally =
    let none : (t : Tally) → events_tally no_events (min count 64) t ≡ t = λ t. none_tally no_events (min count 64) t (λ place below. no-events place (omega arith)) in
    ap (step_tally nodes no_events count locks) (silent_counts nodes count locks steps tally) ∙ simp none

-- a place among the first ones of a list
pub first-at : {A : Type 0} (n : ℕ) (l : List A) (i : ℕ) (d : A) → i < length (take n l) → get_or (take n l) i d ≡ get_or l i d
first-at n l i d below = get_or-take n l i d (omega (arith, length-take n l))

-- and where all of them are passed, that many are
pub firsts_passed : {A : Type 0} (n : ℕ) (l : List A) (i : ℕ) → n ≤ length l → i ≤ length (take n l) → length (take n l) ≤ i → i ≡ n
firsts_passed n l i long most past = omega (arith, length-take n l)
