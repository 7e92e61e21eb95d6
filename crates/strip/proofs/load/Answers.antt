-- `strip::load`: the part of the buffer, lane by lane.
use mathlib.Core.Path.{◌∙◌}
use native.Mathlib.Omega.{arith}
use Rattle.strip.proofs.Strips.{part_lanes}
use Rattle.strip.proofs.load.Goals as goal

pub returns : goal.returns
returns g c = c.copy_from_slice.ensures.after ∙ part_lanes c.args.lanes.now c.args.at g.row.LANES (omega arith)
