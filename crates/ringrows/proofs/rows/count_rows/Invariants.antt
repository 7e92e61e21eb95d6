-- `ringrows::rows::count_rows`: the walkable cells of the rows that the loop passed.
use mathlib.Core.Path.{◌≡◌}
use Prim.Native.Nat.{◌+◌, ◌-◌, ◌≤◌}
use lib.ListN.{length}
use Rattle.cells.specs.Boxes.{box_of}
use Rattle.ringrows.proofs.RingRows.{first_rows}
use Rattle.ringrows.proofs.rows.count_rows.Given as goal

abbrev pub invariant-loop-n : goal.invariant-loop-n
invariant-loop-n l =
    (l.n ≤ l.ring.ring.bottom + 1 - l.ring.ring.top) × (l.total ≡ length (first_rows l.cells l.width (box_of l.ring.ring) (box_of l.ring.body) l.n))

abbrev pub decreases-loop-n : goal.decreases-loop-n
decreases-loop-n l = l.ring.ring.bottom + 1 - l.ring.ring.top - l.n
