-- `paintrows::paint_rows`: the rows that the loop passed are 0.
use mathlib.Core.Path.{◌≡◌}
use Rattle.window.specs.Fills.{entries, zeros, rows_placed}
use Rattle.paintrows.proofs.paint_rows.Given as goal

abbrev pub invariant-loop-y : goal.invariant-loop-y
invariant-loop-y l = entries l.walk ≡ rows_placed (entries l.initial.walk) l.first l.stride l.y l.count (λ y. zeros)
