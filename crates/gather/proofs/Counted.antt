-- The lines are counted by their newlines: the byte that ends a line is a newline, no other byte of a line is one, and a line with a fault does not count.
use Prim.Native.Nat.{ℕ, ◌+◌, ◌^◌, ◌<◌}
use mathlib.Core.Path.{◌≡◌, refl, sym, ap, subst, ◌∙◌}
use mathlib.Core.Bool.{Bool, true, false, cond, ◌&&◌, true≢false}
use mathlib.Core.List.{List, [], ◌∷◌, ◌++◌}
use native.Mathlib.Omega.{arith}
use lib.Dec.{eqb, ltb}
use borrow.Author.Tests.{eqb-true, eq-eqb, ne_eqb}
use Rattle.lists.proofs.Laws.{and_right}
use Rattle.lists.proofs.Tests.{by_test}
use Rattle.std.specs.Prelude.{Option, Some, None}
use Rattle.linereader.specs.declared.LineKind.{LineKind}
use Rattle.linereader.specs.declared.LineKind.TheVariants.{Deed, Lock, Last, Refusal}
use Rattle.linereader.specs.declared.Part.{Part}
use Rattle.linereader.specs.declared.Part.TheVariants.{Steps, Letter, Space, Numbers, Whole, Wrong}
use Rattle.linereader.specs.declared.Scan.{Scan}
use Rattle.linereader.specs.Reading.{is_deed, is_kind, kind_of, is_next_digit, wrong, digit_read, steps_read, letter_read, space_read, is_last_number, number_read, ends_number, on_steps, on_letter, on_space, on_numbers, on_byte_in, scan_byte}
use Rattle.linereader.proofs.Numbers.{next_digit}
use Rattle.gather.specs.declared.Fault.{Fault}
use Rattle.gather.specs.declared.Fault.TheVariants.{NoLine, DeedBehindLock, LockOutOfOrder, RefusalInside}
use Rattle.gather.specs.declared.Gather.{Gather}
use Rattle.gather.specs.Gathering.{start_gather, more, faulty, deed_read, lock_read, last_read, refusal_read, first_of, is_next_lock, after_line, inside_line, is_fine, after_byte, after_all}
use Rattle.gather.specs.Theorems.{newlines, TheLinesAreCounted}
use Rattle.gather.proofs.Pieces.{pieces}
use Rattle.gather.proofs.Lines.{one_more, goes_on, not_both, OneByte, one_byte, fault_stays}

-- ---- which byte is a newline

-- by what is read of the line with it
record Newline (byte : ℕ) (s : Scan) : Type 0 where
  ends : s.part ≡ Whole → byte ≡ 10
  inside : goes_on s.part ≡ true → byte ≡ 10 → ⊥

newline_wrong : (byte : ℕ) (s : Scan) → Newline byte (wrong s)
unfolding wrong
newline_wrong byte s = record { ends = λ e. absurd (not_both refl e); inside = λ e z. true≢false (sym e) }

newline_inside : (byte : ℕ) (s : Scan) (part : Part) → s.part ≡ part → goes_on part ≡ true → (byte ≡ 10 → ⊥) → Newline byte s
newline_inside byte s part p on other = record { ends = λ e. absurd (true≢false (sym on ∙ ap goes_on (sym p ∙ e))); inside = λ e. other }

digit_newline : (begun : Bool) (number byte : ℕ) → is_next_digit begun number byte ≡ true → byte ≡ 10 → ⊥
digit_newline begun number byte e z = omega (arith, (next_digit begun number byte e).at_least, z)

space_newline : (byte : ℕ) → byte ≡ 32 → byte ≡ 10 → ⊥
space_newline byte e z = omega (arith, e, z)

letter_newline : (byte : ℕ) → is_kind (kind_of byte) ≡ true → byte ≡ 10 → ⊥
unfolding is_kind kind_of is_deed
letter_newline byte e z = true≢false (sym e ∙ ap (λ (b : ℕ). is_kind (kind_of b)) z)

number_newline : (s : Scan) (byte : ℕ) → ends_number s byte ≡ true → Newline byte (number_read s)
unfolding ends_number number_read
number_newline s byte e =
    go (is_last_number s) refl (eqb-true byte (cond (is_last_number s) 10 32) (and_right s.begun _ (and_right (ltb s.count 4) _ e)))
  where
    go : (last : Bool) → is_last_number s ≡ last → byte ≡ cond last 10 32 → Newline byte (number_read s)
    go true l f = record { ends = λ w. f; inside = λ on. absurd (true≢false (sym on ∙ ap (λ (b : Bool). goes_on (cond b Whole Numbers)) l)) }
    go false l f = newline_inside byte (number_read s) Numbers (ap (λ (b : Bool). cond b Whole Numbers) l) refl (space_newline byte f)

newline_in : (part : Part) (s : Scan) (byte : ℕ) → s.part ≡ part → Newline byte (on_byte_in part s byte)
unfolding on_byte_in on_steps on_letter on_space on_numbers digit_read steps_read letter_read space_read
newline_in Steps s byte p =
    by_test (Newline byte) (is_next_digit s.begun s.number byte)
    (λ e. newline_inside byte (digit_read s byte) Steps p refl (digit_newline s.begun s.number byte e))
    (λ e. by_test (Newline byte) (s.begun && eqb byte 32)
    (λ f. newline_inside byte (steps_read s) Letter refl refl (space_newline byte (eqb-true byte 32 (and_right s.begun (eqb byte 32) f))))
    (λ f. newline_wrong byte s))
newline_in Letter s byte p =
    by_test (Newline byte) (is_kind (kind_of byte))
    (λ e. newline_inside byte (letter_read s byte) Space refl refl (letter_newline byte e))
    (λ e. newline_wrong byte s)
newline_in Space s byte p =
    by_test (Newline byte) (eqb byte 32)
    (λ e. newline_inside byte (space_read s) Numbers refl refl (space_newline byte (eqb-true byte 32 e)))
    (λ e. newline_wrong byte s)
newline_in Numbers s byte p =
    by_test (Newline byte) (is_next_digit s.begun s.number byte)
    (λ e. newline_inside byte (digit_read s byte) Numbers p refl (digit_newline s.begun s.number byte e))
    (λ e. by_test (Newline byte) (ends_number s byte) (λ f. number_newline s byte f) (λ f. newline_wrong byte s))
newline_in Whole s byte p = newline_wrong byte s
newline_in Wrong s byte p = newline_wrong byte s

newline : (s : Scan) (byte : ℕ) → Newline byte (scan_byte s byte)
unfolding scan_byte
newline s byte = newline_in s.part s byte refl

-- ---- a line counts, or has a fault

data Ended (g h : Gather) : Type 0 where
  well : h.lines ≡ more g.lines → h.fault ≡ g.fault → Ended g h
  badly : (fault : Fault) → h ≡ faulty fault g → Ended g h

line_ended : (kind : Option LineKind) (t : Scan) (g : Gather) → Ended g (after_line kind t g)
unfolding after_line deed_read lock_read last_read refusal_read
line_ended None t g = badly NoLine refl
line_ended (Some Deed) t g = by_test (Ended g) (eqb g.locks 0) (λ e. well refl refl) (λ e. badly DeedBehindLock refl)
line_ended (Some Lock) t g =
    by_test (Ended g) (is_next_lock (first_of t) g.locks) (λ e. well refl refl) (λ e. badly LockOutOfOrder refl)
line_ended (Some Last) t g = well refl refl
line_ended (Some Refusal) t g = by_test (Ended g) g.inside (λ e. badly RefusalInside refl) (λ e. well refl refl)

-- ---- one byte

-- nothing is wrong with it and the lines are those with its newline, or it has a fault and they are those before it
data Counts (g : Gather) (byte : ℕ) (h : Gather) : Type 0 where
  line : byte ≡ 10 → h.lines ≡ more g.lines → is_fine h.fault ≡ true → Counts g byte h
  none : (byte ≡ 10 → ⊥) → h.lines ≡ g.lines → is_fine h.fault ≡ true → Counts g byte h
  no : h.lines ≡ g.lines → is_fine h.fault ≡ false → Counts g byte h

byte_counts : (g : Gather) (byte : ℕ) → is_fine g.fault ≡ true → Counts g byte (after_byte g byte)
unfolding inside_line faulty is_fine
byte_counts g byte fine = go (one_byte g.scan byte g fine)
  where
    t : Scan
    t = scan_byte g.scan byte

    ended : t.part ≡ Whole → (h : Gather) → Ended g h → Counts g byte h
    ended w h (well e f) = line ((newline g.scan byte).ends w) e (ap is_fine f ∙ fine)
    ended w h (badly fault e) = no (ap (λ (h : Gather). h.lines) e) (ap (λ (h : Gather). is_fine h.fault) e)

    go : OneByte g.scan byte g → Counts g byte (after_byte g byte)
    go (OneByte.inside on e f) = subst (Counts g byte) (sym e) (none ((newline g.scan byte).inside on) refl fine)
    go (OneByte.whole w e f) = subst (Counts g byte) (sym e) (ended w (after_line (kind_of t.letter) t g) (line_ended (kind_of t.letter) t g))
    go (OneByte.bad w e) = subst (Counts g byte) (sym e) (no refl refl)

-- ---- a text

lines_from : (text : List ℕ) (g : Gather) → is_fine g.fault ≡ true → g.lines + newlines text < 2 ^ 64 → is_fine (after_all g text).fault ≡ true
    → (after_all g text).lines ≡ g.lines + newlines text
unfolding after_all newlines
lines_from [] g fine few end = omega arith
lines_from (byte ∷ rest) g fine few end = go (byte_counts g byte fine) (λ f below. lines_from rest (after_byte g byte) f below end)
  where
    h : Gather
    h = after_byte g byte

    go : Counts g byte h → (is_fine h.fault ≡ true → h.lines + newlines rest < 2 ^ 64 → (after_all h rest).lines ≡ h.lines + newlines rest)
        → (after_all h rest).lines ≡ g.lines + (cond (eqb byte 10) 1 0 + newlines rest)
    go (line z e f) next =
        let one : ◌≡◌ {A = ℕ} (cond (eqb byte 10) 1 0) 1 = ap (λ (b : Bool). cond b 1 0) (eq-eqb byte 10 z) in
        let up : h.lines ≡ g.lines + 1 = e ∙ one_more g.lines (omega (arith, few, one)) in
        next f (omega (arith, few, one, up)) ∙ omega (arith, one, up)
    go (none z e f) next =
        let one : ◌≡◌ {A = ℕ} (cond (eqb byte 10) 1 0) 0 = ap (λ (b : Bool). cond b 1 0) (ne_eqb byte 10 z) in
        next f (omega (arith, few, one, e)) ∙ omega (arith, one, e)
    go (no e f) next = absurd (true≢false (sym end ∙ ap (λ (k : Gather). is_fine k.fault) (fault_stays rest h f) ∙ f))

-- the byte at which the first fault is met leaves the lines
fault_met : (g : Gather) (byte : ℕ) → is_fine g.fault ≡ true → is_fine (after_byte g byte).fault ≡ false → (after_byte g byte).lines ≡ g.lines
fault_met g byte fine bad = go (byte_counts g byte fine)
  where
    go : Counts g byte (after_byte g byte) → (after_byte g byte).lines ≡ g.lines
    go (line z e f) = absurd (true≢false (sym f ∙ bad))
    go (none z e f) = e
    go (no e f) = e

pub the_lines_are_counted : TheLinesAreCounted
unfolding start_gather is_fine after_all
the_lines_are_counted text few =
    record {
      fine = counted;
      fault = λ byte f bad.
          let one : after_all start_gather (text ++ (byte ∷ [])) ≡ after_byte (after_all start_gather text) byte = (pieces start_gather text (byte ∷ []) []).stands in
          ap (λ (g : Gather). g.lines) one
          ∙ fault_met (after_all start_gather text) byte f (ap (λ (g : Gather). is_fine g.fault) (sym one) ∙ bad) ∙ counted f;
      stays = λ rest f. (pieces start_gather text rest []).stands ∙ fault_stays rest (after_all start_gather text) f;
    }
  where
    counted : is_fine (after_all start_gather text).fault ≡ true → (after_all start_gather text).lines ≡ newlines text
    counted f =
        let zero_more : 0 + newlines text ≡ newlines text = omega arith in
        lines_from text start_gather refl (omega (arith, few)) f ∙ zero_more
