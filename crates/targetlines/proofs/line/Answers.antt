-- `targetlines::line`: the cell's part of the lanes is what reading it hands back.
use Rattle.targetlines.specs.Targets.{line_at}
use Rattle.targetlines.proofs.line.Goals as goal

pub cell-requires : goal.cell-requires
unfolding line_at
cell-requires c = rw c.at-part.ensures c.requires.text

pub returns : goal.returns
unfolding line_at
returns c = rw c.at-part.ensures at c.cell.ensures
