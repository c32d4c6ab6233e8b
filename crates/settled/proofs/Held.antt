-- The contracts over the reader that holds the schedule say what specs/Held states, and that leaves one answer.
use mathlib.Core.Path.{refl}
use contract.Lifetimes.{Lfts}
use borrow.Fn.World.{World}
use Rattle.settled.specs.Held.{IsAt, IsRead, Facts, AskNothing, Contracts}
use Rattle.settled.proofs.Apart.{same}

pub facts : Facts
unfolding IsAt IsRead
facts =
    record {
      reader = λ schedule at x y p q i. record { schedule = same p.0 q.0 i; at = same p.1 q.1 i };
      reading = λ schedule at x y. same;
    }

pub ask_nothing : (w : World) (κ : Lfts 1) → AskNothing w κ
ask_nothing w κ = record { new = λ a g. refl; read = λ a g. refl; moved_on = λ a g. refl; item_from = λ a g. refl }

pub contracts : (w : World) (κ : Lfts 1) → Contracts w κ
unfolding IsAt IsRead
contracts w κ = record { new = λ a g r e. refl; read = λ a g r e. refl; moved_on = λ a g r e. refl; item_from = λ a g r e. refl }
