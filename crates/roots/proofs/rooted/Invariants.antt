-- `roots::rooted`: the members that the loop passed have their roots as parents.
use Rattle.roots.specs.Roots.{Rooting}
use Rattle.roots.proofs.rooted.Given as goal

abbrev pub invariant-loop-i : goal.invariant-loop-i
invariant-loop-i l = Rooting l.initial.parents l.parents l.ranks l.i
