-- `ringrows::rows::list_rows`: the walkable cells of the rows that the loop passed are listed.
use Prim.Native.Nat.{◌+◌, ◌-◌, ◌≤◌}
use Rattle.cells.specs.Boxes.{box_of}
use Rattle.ringlists.specs.Lists.{Listed}
use Rattle.ringrows.proofs.RingRows.{first_rows}
use Rattle.ringrows.proofs.rows.list_rows.Given as goal

abbrev pub invariant-loop-n : goal.invariant-loop-n
invariant-loop-n l =
    (l.n ≤ l.ring.ring.bottom + 1 - l.ring.ring.top) × Listed (first_rows l.cells l.width (box_of l.ring.ring) (box_of l.ring.body) l.n) l.initial.out 0 l.out l.used

abbrev pub decreases-loop-n : goal.decreases-loop-n
decreases-loop-n l = l.ring.ring.bottom + 1 - l.ring.ring.top - l.n
