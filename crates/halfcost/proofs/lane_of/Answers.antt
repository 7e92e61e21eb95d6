-- `halfcost::lane_of`: the difference is the lane by definition, and fits an i16.
use native.Mathlib.Omega.{arith}
use Rattle.std.proofs.lemmas.Int.{ints}
use Rattle.halfcost.proofs.Costs.{lane_is}
use Rattle.halfcost.proofs.lane_of.Goals as goal

pub returns : goal.returns
returns c = rw (lane_is c.args.half) (omega (arith, ints, c.from.ensures, c.requires))
