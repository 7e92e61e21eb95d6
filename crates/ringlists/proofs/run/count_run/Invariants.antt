-- `ringlists::run::count_run`: the walkable ones of the cells that the loop passed.
use Rattle.std.proofs.Common.{◌≡◌, length}
use Rattle.ringlists.specs.Places.{open_places}
use Rattle.ringlists.proofs.run.count_run.Given as goal

abbrev pub invariant-loop-byte : goal.invariant-loop-byte
invariant-loop-byte l = l.total ≡ length (open_places l.cells l.from l.byte-index)
