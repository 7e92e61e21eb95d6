-- `roomlimits::sheet`: the array has that many zeros.
use mathlib.Core.Path.{refl}
use Rattle.roomlimits.proofs.sheet.Goals as goal

pub returns : goal.returns
returns c = refl
