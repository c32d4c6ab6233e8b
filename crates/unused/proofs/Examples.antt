-- What specs/Examples says of its states, by computation.
use mathlib.Core.Path.{◌≡◌, refl}
use mathlib.Core.Bool.{false}
use Rattle.ring.specs.State.{start_of}
use Rattle.ring.specs.Step.{stepping}
use Rattle.ring.proofs.Opened.{of_lists, of_words, of_cars, of_plan, of_usernode, of_zeronode, of_junction, of_ring}
use Rattle.unused.specs.Unused.{values_taken, Agree}
use Rattle.unused.specs.Examples.{smallest, wild, wild_later, nested, nested_wild, nested_later, nine_listed, endless}

-- the start state and the wild one are the same in every place in use
pub start_or_wild : Agree (start_of smallest) wild
unfolding smallest wild values_taken of_lists of_cars of_plan of_ring
start_or_wild =
    record {
      plan = record { rules = refl; locks = refl; positions = refl; values = refl; places = refl };
      zeroth = record { car = refl; count = refl; queue = refl; places = refl };
      nodes = refl;
      junctions = refl;
    }

-- three steps
pub three_steps : (stepping (stepping (stepping wild).state).state).state ≡ wild_later
unfolding wild wild_later of_lists of_words of_cars of_plan of_usernode of_zeronode of_junction of_ring
three_steps = refl

-- so with the junction inside a subring: two positions take five values
pub nested_takes : values_taken false nested.positions nested.values ≡ 5
unfolding nested values_taken
nested_takes = refl

pub nested_start_or-wild : Agree (start_of nested) nested_wild
unfolding nested nested_wild values_taken of_lists of_cars of_plan of_ring
nested_start_or-wild =
    record {
      plan = record { rules = refl; locks = refl; positions = refl; values = refl; places = refl };
      zeroth = record { car = refl; count = refl; queue = refl; places = refl };
      nodes = refl;
      junctions = refl;
    }

-- four steps
pub four_steps : (stepping (stepping (stepping (stepping nested_wild).state).state).state).state ≡ nested_later
unfolding nested_wild nested_later of_lists of_words of_cars of_plan of_usernode of_zeronode of_junction of_ring
four_steps = refl

-- plans out of range take values by their shape alone
pub nine_take : values_taken false 1 nine_listed ≡ 11
unfolding nine_listed values_taken
nine_take = refl

pub endless_takes : values_taken false 1 endless ≡ 352
unfolding endless values_taken
endless_takes = refl
