-- There is room for any sheet, so it is written whole, at the buffer's start.
use Rattle.std.proofs.Common.{List, ℕ, OnOk, sym, subst, rules}
use Rattle.std.specs.Io.KnownBytes.{Appends}
use Rattle.std.proofs.lemmas.List.{length-take-le}
use Rattle.sums.proofs.Callers.{sheet_written, sheet_whole}
use Rattle.sheet.proofs.write_out.Goals as goal

pub unwrap-length-requires : goal.unwrap-length-requires
unwrap-length-requires g c =
    let put = c.write_sheet in
    rw (sheet_written put.result _ _ _ (search rules) put.ensures.result_value put.ensures.buffer_after)

pub slice_bounds-buffer-end : goal.slice_bounds-buffer-end
slice_bounds-buffer-end g c =
    let put = c.write_sheet in
    (sheet_whole put.result _ _ _ (search rules) put.ensures.result_value put.ensures.buffer_after c.unwrap-length.ensures).0

pub slice_bounds-write_all-end : goal.slice_bounds-write_all-end
slice_bounds-write_all-end g c =
    let put = c.write_sheet in
    sym (length-take-le _ _ (sheet_whole put.result _ _ _ (search rules) put.ensures.result_value put.ensures.buffer_after c.unwrap-length.ensures).0)

pub returns : goal.returns
returns g c =
    let put = c.write_sheet in
    subst (λ (text : List ℕ). OnOk c.write_all.result (Appends (g.W.Write.contents c.args.out.now) (g.W.Write.contents c.write_all.new.self) text))
    (sheet_whole put.result _ _ _ (search rules) put.ensures.result_value put.ensures.buffer_after c.unwrap-length.ensures).1 c.write_all.ensures.bytes
