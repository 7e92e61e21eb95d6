-- `rings::ring::sources`: the loop holds the box around the ring boxes that it has passed.
use mathlib.Core.Path.{◌≡◌}
use Rattle.cells.specs.Boxes.{box_of}
use Rattle.rings.proofs.Sources.{so_far}
use Rattle.rings.proofs.ring.sources.Given as goal

abbrev pub invariant-loop-k : goal.invariant-loop-k
invariant-loop-k l = box_of l.boxed ≡ so_far l.width l.height l.resources l.k
