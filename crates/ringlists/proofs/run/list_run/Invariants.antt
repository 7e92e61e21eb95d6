-- `ringlists::run::list_run`: the walkable ones of the cells that the loop passed are listed.
use Rattle.ringlists.specs.Places.{open_places}
use Rattle.ringlists.specs.Lists.{Listed}
use Rattle.ringlists.proofs.run.list_run.Given as goal

abbrev pub invariant-loop-k : goal.invariant-loop-k
invariant-loop-k l = Listed (open_places l.cells l.from l.k) l.initial.out l.used l.out l.end
