-- `fieldnumbers::number::number`: the resources that the loop passed have their numbers.
use Rattle.numbering.specs.Fields.{Given}
use Rattle.fieldnumbers.proofs.number.number.Given as goal

abbrev pub invariant-loop-r : goal.invariant-loop-r
invariant-loop-r l = Given l.parents l.answers l.r l.fields
