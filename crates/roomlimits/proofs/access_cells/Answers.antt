-- `roomlimits::access_cells`: the array has that many zeros.
use mathlib.Core.Path.{refl}
use Rattle.roomlimits.proofs.access_cells.Goals as goal

pub returns : goal.returns
returns c = refl
