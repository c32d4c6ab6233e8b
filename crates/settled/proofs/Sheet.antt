-- The promises of the reading of lines, the gathering of runs and the sheet leave one answer and one content of a lent slice.
use Rattle.std.specs.Prelude.{Result, Ok, Err}
use Prim.Native.Nat.{ℕ, ◌-◌}
use mathlib.Core.Path.{◌≡◌, refl, ap}
use mathlib.Core.List.{[], ◌∷◌}
use lib.ListN.{get_or}
use Rattle.sums.specs.declared.SheetRefusal.{SheetRefusal}
use Rattle.sums.specs.declared.SheetRefusal.TheVariants.{TooManyRuns, LocksWrong, OutOfRange}
use Rattle.sums.specs.declared.MadeSheet.{MadeSheet}
use Rattle.sums.specs.Sheet.{Told, refusal_number, sheet_answer_number, sheet_told}
use Rattle.settled.specs.Sheet.{LineReader, Sums, GatherOf}
use Rattle.settled.proofs.Apart.{same, read_back, written_apart}

-- a sheet's answer read back from its number, and the whole from what is told
sheet_answer : ℕ → Result Unit SheetRefusal
sheet_answer number = get_or (Ok tt ∷ Err TooManyRuns ∷ Err LocksWrong ∷ Err OutOfRange ∷ []) (number - 23) (Ok tt)

sheet_answer_lem : (x : Result Unit SheetRefusal) → sheet_answer (sheet_answer_number x) ≡ x
unfolding sheet_answer sheet_answer_number refusal_number
sheet_answer_lem (Ok nothing) = refl
sheet_answer_lem (Err TooManyRuns) = refl
sheet_answer_lem (Err LocksWrong) = refl
sheet_answer_lem (Err OutOfRange) = refl

sheet_apart : (x y : MadeSheet) → sheet_told x ≡ sheet_told y → x ≡ y
unfolding sheet_told
sheet_apart x y e =
    read_back sheet_told (λ (told : Told). record { answer = sheet_answer told.number; sheet = told.sheet })
    (λ (made : MadeSheet). ap (λ (answer : Result Unit SheetRefusal). record { answer = answer; sheet = made.sheet }) (sheet_answer_lem made.answer)) x y e

pub line_reader : LineReader
line_reader =
    record {
      kind_of = (λ a. tt, λ a x y d e. same);
      start_scan = (λ a. tt, λ a x y d e. same);
      scan_byte = (λ a. tt, λ a x y d e. same);
    }

pub sums : Sums
sums =
    record {
      refusal_number = (λ a. tt, λ a x y d e. same);
      sheet_number = (λ a. tt, λ a x y d e. same);
      make_sheet = λ κ. (λ a. tt, λ a x y d e p q. sheet_apart x y (same p q));
      write_sheet_buffer = λ κ a x y d e p q. same p.1 q.1;
      write_sheet = λ κ. (λ a. tt, λ a x y d e p q. written_apart x y (same p.0 q.0));
    }

pub gather_of : GatherOf
gather_of =
    record {
      start_gather = (λ a. tt, λ a x y d e. same);
      is_fine = (λ a. tt, λ a x y d e. same);
      more = (λ a. tt, λ a x y d e. same);
      after_part = (λ a. tt, λ a x y d e. same);
      gather_text_rows = λ κ a x y d e p q. same p.1 q.1;
      gather_text = λ κ. (λ a. tt, λ a x y d e p q. same p.0 q.0);
      fault_of = (λ a. tt, λ a x y d e. same);
      line_number = (λ a. tt, λ a x y d e. same);
      sheet_of = λ κ. (λ a. tt, λ a x y d e p q. sheet_apart x y (same p q));
    }
