-- `reading::at`: the entries of the cell's part, which lies in the buffer.
use mathlib.Core.Path.{◌≡◌}
use Prim.Native.Nat.{◌+◌, ◌-◌, ◌≤◌}
use native.Mathlib.Omega.{arith}
use borrow.Author.Rules.{rules}
use lib.ListN.{length}
use Rattle.walklaws.proofs.Readings.{read_in}
use Rattle.window.specs.Windows.{as_record}
use Rattle.reading.specs.Parts.{part_of}
use Rattle.reading.proofs.at.Goals.{After-cell_part-part}
use Rattle.reading.proofs.at.Goals as goal

ends : (c : After-cell_part-part) → c.cell_part-part.result.start + c.cell_part-part.result.length ≤ length c.args.lanes.now
ends c =
    let b = c.args in
    rw (← c.cell_part-part.ensures) at (read_in (as_record b.window) (length b.lanes.now) b.x b.y)

pub overflow_add-end : goal.overflow_add-end
overflow_add-end c = let h = ends (goal.at.overflow_add-end c).After-cell_part-part in search rules

pub offset_bounds-lanes-start : goal.offset_bounds-lanes-start
offset_bounds-lanes-start c = let h = ends (goal.at.offset_bounds-lanes-start c).After-cell_part-part in search rules

pub slice_bounds-result-end : goal.slice_bounds-result-end
slice_bounds-result-end c = let h = ends (goal.at.slice_bounds-result-end c).After-cell_part-part in search rules

pub returns : goal.returns
unfolding part_of
returns c =
    let p = c.cell_part-part.result in
    let size : p.start + p.length - p.start ≡ p.length = omega arith in
    rw (← c.cell_part-part.ensures, size)
