-- What a turn reads stands in the buffer behind what was read before, and is what the reader gave.
use Rattle.std.proofs.Common.{◌≡◌, ℕ, ◌+◌, ◌-◌, ◌≤◌, List, ◌++◌, rules, length, take, sym, ap, ◌∙◌, subst, length-take-le}
use Rattle.std.proofs.Math.Seq.{take-append-add}
use Rattle.std.proofs.lemmas.List.{take-append-le}
use Rattle.std.specs.Io.KnownBytes.{Consumes}
use Rattle.std.proofs.KnownBytes.{Consumes-trans}
use borrow.Rule.Slice.PartMut.{put_mid, post_of}
use Rattle.files.proofs.read_all.Goals as goal

take-put_mid_add : (a n k : ℕ) (xs ys : List ℕ) → a ≤ length xs → n ≤ length ys → take (a + n) (put_mid a k xs ys) ≡ take a xs ++ take n ys
take-put_mid_add a n k xs ys within fits =
    let after = post_of a k xs in
    ap (λ m. take (m + n) (put_mid a k xs ys)) (sym (length-take-le a xs within)) ∙ take-append-add (take a xs) (ys ++ after) n ∙ ap (λ l. take a xs ++ l) (take-append-le n ys after fits)

pub loop-length-preserved : goal.loop-length-preserved
loop-length-preserved g c =
    let from = c.loop-length.length in
    let now = c.loop-length.buffer in
    record {
      within = search rules;
      given = subst (Consumes _ _) (sym (take-put_mid_add from c.in-Ok.count (length now - from) now c.read.new.buf c.loop-length.invariant.within c.in-Ok.ensures.bound.0)) (Consumes-trans _ _ _ _ _ c.loop-length.invariant.given c.in-Ok.ensures.bytes.0);
    }
