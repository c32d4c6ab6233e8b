-- Releasing while waiting, by computation: the schedules of specs/Waiting do what is said of them there.
use Prim.Native.Nat.{ℕ}
use mathlib.Core.Path.{refl}
use Rattle.ring.proofs.Opened.{of_lists, of_words, of_cars, of_plan, of_usernode, of_zeronode, of_junction, of_ring}
use Rattle.onelock.specs.OneLock.{after_item, after_all, reached, deed_if, deed_of, releases, deeds_in, deeds_of, time_of, done_after, noted, history_from, history}
use Rattle.books.specs.Waiting.{whole, passed_on, wait_ends, ring_of_two, to_send, BeforeTheWaitEnds, on_the_train, UnderRules3, on_a_subring, UnderRules4}

-- the definitions of a lock's history and of the schedules, opened together
unfoldable of_waiting : ℕ
unfolding after_item after_all reached deed_if deed_of releases deeds_in deeds_of time_of done_after noted history_from history whole passed_on wait_ends ring_of_two to_send on_the_train on_a_subring
of_waiting = 0

pub before_the_wait_ends : BeforeTheWaitEnds
unfolding of_waiting of_lists of_words of_cars of_plan of_usernode of_zeronode of_junction of_ring
before_the_wait_ends = record { waits = refl; accepted = refl; history0 = refl; history1 = refl; waits01 = refl; refused = refl }

pub under_rules_3 : UnderRules3
unfolding of_waiting of_lists of_words of_cars of_plan of_usernode of_zeronode of_junction of_ring
under_rules_3 = record { waits = refl; accepted = refl; history0 = refl; history1 = refl; waits01 = refl; refused = refl }

pub under_rules_4 : UnderRules4
unfolding of_waiting of_lists of_words of_cars of_plan of_usernode of_zeronode of_junction of_ring
under_rules_4 = record { waits = refl; accepted = refl; history0 = refl; history1 = refl; waits01 = refl; refused = refl }
