-- `intervals::rows::first_inside`: the first inside column from the loop's column on is the first of all.
use mathlib.Core.Path.{◌≡◌}
use Prim.Native.Nat.{◌+◌, ◌-◌}
use Rattle.walkgraph.specs.Lists.{first_from}
use Rattle.intervals.specs.Intervals.{inside_gaps, first_of}
use Rattle.intervals.proofs.rows.first_inside.Given as goal

abbrev pub invariant-loop-column : goal.invariant-loop-column
invariant-loop-column l =
    let test = inside_gaps l.window l.gaps in first_of l.window test ≡ first_from test (l.column + 1) (l.window.width - l.column)
