-- `roomrows::store`: the cells so far.
use Rattle.std.proofs.Common.{◌≡◌, sym, ◌∙◌, arith, map, length}
use Rattle.std.proofs.lemmas.List.{ext_get_or, get_or-map, length-map}
use Rattle.roomrows.specs.Rows.{cell_of}
use Rattle.roomrows.proofs.store.Goals as goal

pub returns : goal.returns
returns c =
    let row = c.args.row.now in
    let cells = c.loop-k.cells in
    let same : length cells ≡ length row = omega arith in
    ext_get_or 0 cells (map cell_of row) (same ∙ sym (length-map row cell_of)) (λ i h. c.loop-k.invariant i (omega arith) ∙ sym (get_or-map cell_of row i 0 0 (omega arith)))
