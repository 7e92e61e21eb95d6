-- `strip::out`: the first k lanes have the levels of the way out.
use Rattle.lane.specs.Levels.{level_at}
use Rattle.onelane.specs.Takes.{out_at}
use Rattle.strip.proofs.Strips.{Filled}
use Rattle.strip.proofs.out.Given as goal

abbrev pub invariant-loop-k : goal.invariant-loop-k
invariant-loop-k g l = Filled g.row.LANES (λ j. out_at (level_at l.lanes) (level_at l.gates) l.i l.over l.west l.east (level_at l.beside j) l.west_gate l.east_gate j) l.k l.strip
