-- Laws of a number that gets one digit more: what is known of a byte that is its next digit.
use Prim.Native.Nat.{ℕ, ◌^◌, ◌≤◌, ◌<◌}
use mathlib.Core.Path.{◌≡◌}
use mathlib.Core.Bool.{Bool, true, not, ◌&&◌}
use lib.Dec.{eqb, leb}
use borrow.Author.Tests.{ltb-true, leb-true}
use Rattle.lists.proofs.Laws.{and_left, and_right}
use Rattle.linereader.specs.Reading.{is_digit, with_digit, is_next_digit}

-- a byte that is the number's next digit
pub record Next (number byte : ℕ) : Type 0 where
  pub at_least : 48 ≤ byte
  pub at_most : byte ≤ 57
  pub small : with_digit number byte < 2 ^ 64

pub next_digit : (begun : Bool) (number byte : ℕ) → is_next_digit begun number byte ≡ true → Next number byte
unfolding is_next_digit is_digit
next_digit begun number byte e =
    let first : (is_digit byte && not (begun && eqb number 0)) ≡ true = and_left (is_digit byte && not (begun && eqb number 0)) _ e in
    let digit : (leb 48 byte && leb byte 57) ≡ true = and_left (is_digit byte) _ first in
    record {
      at_least = leb-true _ _ (and_left (leb 48 byte) _ digit);
      at_most = leb-true _ _ (and_right (leb 48 byte) _ digit);
      small = ltb-true _ _ (and_right (is_digit byte && not (begun && eqb number 0)) _ e);
    }
