-- `celllines::costs`: the costs of the resources that the loop passed are put.
use Rattle.page.specs.Puts.{Puts}
use Rattle.celllines.specs.Costs.{cost_texts}
use Rattle.celllines.proofs.costs.Given as goal

abbrev pub invariant-loop-l : goal.invariant-loop-l
invariant-loop-l l = Puts (cost_texts l.part l.l) l.initial.page l.page
