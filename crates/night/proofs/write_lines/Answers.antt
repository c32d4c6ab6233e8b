-- What a buffer was filled with lies in it, and is written; with what is then still to be said it is what was still to be said before. A run that is
-- not over has fewer lines left than it had, and one that is over has none.
use Rattle.std.proofs.Common.{◌≡◌, ℕ, true, rules, List, [], ◌∷◌, ◌++◌, arith, length, take, sym, ap, ◌∙◌, subst, append_assoc, append-nil}
use Rattle.std.proofs.lemmas.List.{length-take-le}
use Rattle.std.proofs.KnownBytes.{Appends-trans}
use Rattle.std.specs.Io.KnownBytes.{Appends}
use Rattle.course.specs.declared.Run.{Run}
use Rattle.course.specs.Whole.{course}
use Rattle.run.specs.declared.Filled.{Filled}
use Rattle.run.specs.Filling.{texts, written, filling, filled_buffer, in_buffers, after_buffers}
use Rattle.run.proofs.Buffers.{buffers_hold, buffers_hold_all}
use Rattle.run.proofs.Callers.{used_within, used_written, fewer_left}
use Rattle.night.proofs.write_lines.Goals as goal

pub slice_bounds-buffer-end : goal.slice_bounds-buffer-end
slice_bounds-buffer-end g c = used_within _ _ _ _ c.fill-filled.ensures.value c.fill-filled.ensures.buffer_after

pub slice_bounds-write_all-end : goal.slice_bounds-write_all-end
slice_bounds-write_all-end g c =
    sym (length-take-le _ _ (used_within _ _ _ _ c.fill-filled.ensures.value c.fill-filled.ensures.buffer_after))

pub loop-run-smaller : goal.loop-run-smaller
loop-run-smaller g c =
    fewer_left _ _ c.loop-run.buffer _ _ c.fill-filled.ensures.value (omega (arith, c.loop-run.invariant.0)) c.if-run.false

-- the still to be said, before and after a buffer
one_buffer : (ceiling room : ℕ) (schedule : List ℕ) (run : Run)
    → written room (course ceiling schedule run) ++ texts (course ceiling schedule (filling room (course ceiling schedule run)).run).lines
    ≡ texts (course ceiling schedule run).lines
unfolding in_buffers after_buffers
one_buffer ceiling room schedule run =
    ap (λ (bytes : List ℕ). bytes ++ texts (course ceiling schedule (filling room (course ceiling schedule run)).run).lines)
    (sym (append-nil (written room (course ceiling schedule run))))
    ∙ buffers_hold ceiling schedule (room ∷ []) run

said_more : (ceiling : ℕ) (schedule buffer bytes : List ℕ) (run : Run) (answer : Filled) → answer ≡ filling (length buffer) (course ceiling schedule run)
    → bytes ≡ filled_buffer buffer (course ceiling schedule run)
    → take answer.used bytes ++ texts (course ceiling schedule answer.run).lines ≡ texts (course ceiling schedule run).lines
said_more ceiling schedule buffer bytes run answer a b =
    let took : take answer.used bytes ≡ written (length buffer) (course ceiling schedule run) =
    ap (λ (filled : Filled). take filled.used bytes) a ∙ ap (take (filling (length buffer) (course ceiling schedule run)).used) b
    ∙ used_written buffer (course ceiling schedule run) in
    ap (λ (front : List ℕ). front ++ texts (course ceiling schedule answer.run).lines) took
    ∙ ap (λ (filled : Filled). written (length buffer) (course ceiling schedule run) ++ texts (course ceiling schedule filled.run).lines) a
    ∙ one_buffer ceiling (length buffer) schedule run

said_all : (ceiling : ℕ) (schedule said front whole : List ℕ) (before after : Run)
    → said ++ texts (course ceiling schedule before).lines ≡ whole → front ++ texts (course ceiling schedule after).lines ≡ texts (course ceiling schedule before).lines
    → (said ++ front) ++ texts (course ceiling schedule after).lines ≡ whole
said_all ceiling schedule said front whole before after b a =
    append_assoc said front _ ∙ ap (λ (rest : List ℕ). said ++ rest) a ∙ b

none_left : (ceiling : ℕ) (schedule said whole : List ℕ) (run : Run) → run.over ≡ true → said ++ texts (course ceiling schedule run).lines ≡ whole → said ≡ whole
unfolding in_buffers after_buffers
none_left ceiling schedule said whole run o e =
    sym (append-nil said) ∙ ap (λ (rest : List ℕ). said ++ rest) (buffers_hold_all ceiling schedule [] run o) ∙ e

pub loop-run-preserved : goal.loop-run-preserved
loop-run-preserved g c =
    let (long, said, wrote, still) = c.loop-run.invariant in
    let more = said_more _ _ c.loop-run.buffer _ _ _ c.fill-filled.ensures.value c.fill-filled.ensures.buffer_after in (
      search rules,
      said ++ take c.fill-filled.result.used c.fill-filled.new.buffer,
      Appends-trans _ _ _ _ _ wrote c.in_ok-write_all.ensures.bytes,
      said_all _ _ said _ _ _ _ still more,
    )

pub returns-then-run : goal.returns-then-run
returns-then-run g c =
    let (long, said, wrote, still) = c.loop-run.invariant in
    let more = said_more _ _ c.loop-run.buffer _ _ _ c.fill-filled.ensures.value c.fill-filled.ensures.buffer_after in
    subst (Appends (g.W.Write.contents c.args.out.now) (g.W.Write.contents c.write_all.new.self))
    (none_left _ _ _ _ _ c.if-run.true (said_all _ _ said _ _ _ _ still more))
    (Appends-trans _ _ _ _ _ wrote c.in_ok-write_all.ensures.bytes)
