-- The slices that the search is lent.
use Rattle.std.specs.Prelude.{◌≡◌}
use Rattle.disjoint.specs.declared.find.Classes.{Classes}
use Rattle.disjoint.specs.Lent.{SameSlices}
use Rattle.visits.specs.declared.queue.Queue.{Queue}

-- the same slices, of a queue and a disjoint set
abbrev pub SameBuffers : Queue → Classes → Queue → Classes → Type 0
SameBuffers queue classes queue' classes' = (queue'.points.ghost_name ≡ queue.points.ghost_name) × SameSlices classes classes'
