-- `painting::paint_box`: nothing is painted of a rectangle without width or height; else the rows of its cells in the window, which lie in the buffer.
use native.Mathlib.Omega.{arith}
use Rattle.walkbytes.proofs.Boxed.{box_numbers, within, box_fits, box_thin, box_flat, box_done}
use Rattle.walkbytes.proofs.painting.paint_box.Goals.{else-pixels-via-then-pixels+else-pixels-2, else-pixels-via-else-pixels}
use Rattle.walkbytes.proofs.painting.paint_box.Goals as goal

pub paint_rows-requires : goal.paint_rows-requires
paint_rows-requires c =
    let p = c.requires in
    let n = box_numbers p.0 p.1 _ _ _ _ c.cell_of.ensures c.max-left.ensures c.cell_of-then-pixels-2.ensures c.max-top.ensures in
    rw (c.saturating_sub.ensures, c.saturating_sub-then-pixels-2.ensures)
    (box_fits p.0 _ _ _ _ _ c.stride-stride.ensures n.after_left n.column n.after_top n.row (within _ _ _ c.min-right.ensures) (within _ _ _ c.min-bottom.ensures))

pub returns-then-pixels-2 : goal.returns-then-pixels-2
returns-then-pixels-2 c =
    let a = c.args in
    let p = a.pixels in
    box_done a.window p.left p.top p.right p.bottom _ _ c.stride-stride.result c.max-left.result c.max-top.result c.min-right.result c.min-bottom.result c.if-pixels.true c.if-pixels-2.true c.stride-stride.ensures
    (omega (arith, c.cell_of.ensures, c.max-left.ensures))
    (omega (arith, c.cell_of-then-pixels-2.ensures, c.max-top.ensures))
    (omega (arith, c.cell_past.ensures, c.min-right.ensures))
    (omega (arith, c.cell_past-then-pixels-2.ensures, c.min-bottom.ensures))
    (rw (c.saturating_sub.ensures, c.saturating_sub-then-pixels-2.ensures) at c.paint_rows.ensures)

pub returns-else-pixels : goal.returns-else-pixels
returns-else-pixels c =
    let a = c.args in
    let p = a.pixels in
    elim c.else-pixels.branch [
      | else-pixels-via-then-pixels+else-pixels-2 w ↦ box_flat a.window p.left p.top p.right p.bottom _ w.if-pixels.true w.if-pixels-2.false
      | else-pixels-via-else-pixels w ↦ box_thin a.window p.left p.top p.right p.bottom _ w.if-pixels.false
    ]
