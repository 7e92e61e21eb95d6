-- `maprows::copy_rows`: the rows that the loop passed are the map's.
use mathlib.Core.Path.{◌≡◌}
use Prim.Native.Nat.{◌+◌}
use Rattle.window.specs.Fills.{entries, rows_placed}
use Rattle.walkbytes.specs.Copies.{map_rows}
use Rattle.walkbytes.proofs.maprows.copy_rows.Given as goal

abbrev pub invariant-loop-y : goal.invariant-loop-y
invariant-loop-y l = entries l.walk ≡ rows_placed (entries l.initial.walk) (l.stride + 1) l.stride l.y l.count (map_rows l.window l.width l.cells)
