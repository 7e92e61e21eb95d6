-- `window::record::Window::around`: each edge is that of the walk graph's window, which is not empty.
use native.Mathlib.Omega.{arith}
use Rattle.walkgraph.specs.Window.{window}
use Rattle.cells.specs.Boxes.{reach}
use Rattle.window.proofs.Edges.{columns, lines}
use Rattle.window.proofs.record.Window.around.Goals as goal

pub overflow_add-result : goal.overflow_add-result
overflow_add-result c = let p = c.requires in omega (arith, p.wide, columns reach _ _ _ _ p.sources p.targets)

pub overflow_sub-result : goal.overflow_sub-result
overflow_sub-result c = let p = c.requires in omega (arith, columns reach _ _ _ _ p.sources p.targets)

pub overflow_add-result-2 : goal.overflow_add-result-2
overflow_add-result-2 c = let p = c.requires in omega (arith, p.high, lines reach _ _ _ _ p.sources p.targets)

pub overflow_sub-result-2 : goal.overflow_sub-result-2
overflow_sub-result-2 c = let p = c.requires in omega (arith, lines reach _ _ _ _ p.sources p.targets)

pub returns : goal.returns
unfolding window
returns c = rw (c.low-left.ensures, c.low-top.ensures, c.high-right.ensures, c.high-bottom.ensures)
