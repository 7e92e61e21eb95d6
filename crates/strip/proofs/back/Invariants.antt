-- `strip::back`: the first k lanes have the levels of the way back.
use Rattle.lane.specs.Levels.{level_at}
use Rattle.onelane.specs.Takes.{back_at}
use Rattle.strip.proofs.Strips.{Filled}
use Rattle.strip.proofs.back.Given as goal

abbrev pub invariant-loop-k : goal.invariant-loop-k
invariant-loop-k g l = Filled g.row.LANES (λ j. back_at (level_at l.lanes) (level_at l.gates) l.i (level_at l.beside j) l.walk_gate j) l.k l.strip
