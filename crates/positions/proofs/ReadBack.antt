-- The bytes of a ring in form are read as the ring.
use Prim.Native.Nat.{ℕ, zero, suc, ◌+◌, ◌≤◌, ◌<◌}
use mathlib.Core.Path.{◌≡◌, refl, sym, ap, subst, ◌∙◌}
use mathlib.Core.Bool.{true, ◌&&◌, true≢false}
use mathlib.Core.List.{List, ◌∷◌, ◌++◌, append_assoc}
use native.Mathlib.Nat.{add-zero}
use native.Mathlib.Omega.{arith}
use lib.Dec.{leb}
use lib.ListN.{length, get_or, drop, length-drop, length-append}
use lib.Seq.{drop_at, drop-drop}
use borrow.Author.Tests.{leb-true}
use Rattle.lists.proofs.Laws.{and_left, and_right}
use Rattle.positions.specs.Ring.{Ring, no_more, user_node, a_junction, users_only}
use Rattle.positions.specs.Written.{positions_on, in_form, Writes, no_byte, a_zero, a_number, a_five}
use Rattle.positions.proofs.Ending.{drop-first}
use Rattle.positions.proofs.InRange.{Reads, reads_none, reads_user, reads_users, reads_list}

-- the bytes from a place on, where they begin with one
record Begins (values : List ℕ) (place byte : ℕ) (rest : List ℕ) : Type 0 where
  there : place < length values
  here : get_or values place 0 ≡ byte
  behind : drop (place + 1) values ≡ rest

begins : (values : List ℕ) (place byte : ℕ) (rest : List ℕ) → drop place values ≡ byte ∷ rest → Begins values place byte rest
begins values place byte rest e =
    let left = length-drop place values in
    let some : length (drop place values) ≡ suc (length rest) = ap length e in
    let room : place < length values = omega (arith, left, some) in
    let both = sym (drop-first values place room) ∙ e in
    record { there = room; here = ap (λ (l : List ℕ). get_or l 0 0) both; behind = ap (drop 1) both }

-- bytes behind bytes
drop_more : (values front rest : List ℕ) (place : ℕ) → drop place values ≡ front ++ rest → drop (place + length front) values ≡ rest
drop_more values front rest place e =
    sym (drop-drop (length front) place values) ∙ ap (drop (length front)) e ∙ drop_at front rest (length front) refl

-- what a junction in form has
record Formed (levels : ℕ) (subring rest : Ring) : Type 0 where
  least : 1 ≤ positions_on subring
  most : positions_on subring ≤ 4
  within : in_form levels subring ≡ true
  more : in_form (suc levels) rest ≡ true

formed : (levels : ℕ) (subring rest : Ring) → in_form (suc levels) (a_junction subring rest) ≡ true → Formed levels subring rest
unfolding in_form
formed levels subring rest e =
    let a = leb 1 (positions_on subring) in
    let b = leb (positions_on subring) 4 in
    let c = in_form levels subring in
    let d = in_form (suc levels) rest in
    let three = and_left (a && b && c) d e in
    let two = and_left (a && b) c three in
    record {
      least = leb-true _ _ (and_left a b two);
      most = leb-true _ _ (and_right a b two);
      within = and_right (a && b) c three;
      more = and_right (a && b && c) d e;
    }

pub writes_reads : (values : List ℕ) (levels : ℕ) {ring : Ring} {bytes : List ℕ} (place : ℕ) (more : List ℕ) → Writes ring bytes
    → in_form levels ring ≡ true → drop place values ≡ bytes ++ more → Reads values levels (positions_on ring) place (place + length bytes) ring
unfolding positions_on in_form
writes_reads values levels place more no_byte form e =
    subst (λ behind. Reads values levels 0 place behind no_more) (sym (add-zero place)) reads_none
writes_reads values levels place more (a_zero {rest = rest} {bytes = bytes} write) form e =
    let first = begins values place 0 (bytes ++ more) e in
    let end : place + 1 + length bytes ≡ place + suc (length bytes) = omega arith in
    let one : suc (positions_on rest) ≡ positions_on rest + 1 = omega arith in
    let behind = subst (λ behind. Reads values levels (positions_on rest) (place + 1) behind rest) end
    (writes_reads values levels (place + 1) more write form first.behind) in
    subst (λ count. Reads values levels count place (place + suc (length bytes)) (user_node rest)) one
    (reads_user first.there first.here behind)
writes_reads values zero place more (a_number least most write) form e = absurd (true≢false (sym form))
writes_reads values (suc levels) place more (a_number {value = value} {rest = rest} {bytes = bytes} least most write) form e =
    let parts = formed levels (users_only value) rest form in
    let first = begins values place value (bytes ++ more) e in
    let end : place + 1 + length bytes ≡ place + suc (length bytes) = omega arith in
    let one : suc (positions_on rest) ≡ positions_on rest + 1 = omega arith in
    let behind = subst (λ behind. Reads values (suc levels) (positions_on rest) (place + 1) behind rest) end
    (writes_reads values (suc levels) (place + 1) more write parts.more first.behind) in
    subst (λ count. Reads values (suc levels) count place (place + suc (length bytes)) (a_junction (users_only value) rest)) one
    (reads_users first.there first.here (λ none. omega (arith, none, least)) most behind)
writes_reads values zero place more (a_five write other) form e = absurd (true≢false (sym form))
writes_reads values (suc levels) place more (a_five {subring = subring} {rest = rest} {list = list} {bytes = bytes} write other) form e =
    let parts = formed levels subring rest form in
    let first = begins values place 5 _ e in
    let second = begins values (place + 1) (positions_on subring) _ first.behind in
    let two : place + 1 + 1 ≡ place + 2 = omega arith in
    let from : drop (place + 2) values ≡ list ++ (bytes ++ more) =
    ap (λ p. drop p values) (sym two) ∙ second.behind ∙ append_assoc list bytes more in
    let middle = place + 2 + length list in
    let within = writes_reads values levels (place + 2) (bytes ++ more) write parts.within from in
    let onward = writes_reads values (suc levels) middle more other parts.more (drop_more values list (bytes ++ more) (place + 2) from) in
    let both = length-append list bytes in
    let end : middle + length bytes ≡ place + suc (suc (length (list ++ bytes))) = omega (arith, both) in
    let one : suc (positions_on rest) ≡ positions_on rest + 1 = omega arith in
    subst (λ count. Reads values (suc levels) count place (place + suc (suc (length (list ++ bytes)))) (a_junction subring rest)) one
    (reads_list second.there first.here second.here parts.least parts.most within
    (subst (λ behind. Reads values (suc levels) (positions_on rest) middle behind rest) end onward))
