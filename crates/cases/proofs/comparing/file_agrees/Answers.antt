-- `file_agrees` is safe and ends: the bytes used are bytes of the buffer.
use Rattle.std.proofs.Common.{sym}
use Rattle.std.proofs.lemmas.List.{length-take-le}
use Rattle.run.proofs.Callers.{used_within}
use Rattle.cases.proofs.comparing.file_agrees.Goals as goal

pub slice_bounds-buffer-end : goal.slice_bounds-buffer-end
slice_bounds-buffer-end c = used_within _ _ _ _ c.fill-filled.ensures.value c.fill-filled.ensures.buffer_after

pub slice_bounds-eq-end : goal.slice_bounds-eq-end
slice_bounds-eq-end c =
    sym (length-take-le _ _ (used_within _ _ _ _ c.fill-filled.ensures.value c.fill-filled.ensures.buffer_after))
