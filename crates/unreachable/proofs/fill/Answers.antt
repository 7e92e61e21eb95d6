-- `unreachable::fill`: the part that was filled is unreachable, and the lanes past it stay.
use mathlib.Core.Path.{refl}
use Rattle.unreachable.proofs.Filled.{filled}
use Rattle.unreachable.proofs.fill.Goals as goal

pub returns : goal.returns
returns c = filled _ _ _ _ 65535 c.requires refl (c.fill.ensures.after (λ y e. e))
