-- `roomlimits::text`: the array has that many zeros.
use mathlib.Core.Path.{refl}
use Rattle.roomlimits.proofs.text.Goals as goal

pub returns : goal.returns
returns c = refl
