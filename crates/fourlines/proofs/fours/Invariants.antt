-- `fourlines::fours`: the lines so far are read and stored.
use Rattle.fourlines.proofs.Stored.{FoursRead}
use Rattle.fourlines.proofs.fours.Given as goal

abbrev pub invariant-loop-passed : goal.invariant-loop-passed
invariant-loop-passed l = FoursRead l.text l.at l.count l.place l.initial.numbers l.numbers l.from l.to l.passed
