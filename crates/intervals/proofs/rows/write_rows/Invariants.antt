-- `intervals::rows::write_rows`: the rows that the loop passed have their intervals.
use mathlib.Core.Path.{◌≡◌}
use Prim.Native.Nat.{◌+◌}
use Rattle.cells.specs.Boxes.{box_of}
use Rattle.window.specs.Fills.{entries, rows_placed}
use Rattle.intervals.specs.Intervals.{ends}
use Rattle.intervals.proofs.rows.write_rows.Given as goal

abbrev pub invariant-loop-y : goal.invariant-loop-y
invariant-loop-y l = entries l.rows ≡ rows_placed (entries l.initial.rows) 0 2 l.y 2 (λ y. ends l.window (box_of l.sources) (box_of l.targets) (y + 1))
