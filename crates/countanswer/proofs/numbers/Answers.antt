-- `countanswer::numbers`: a count that is told fits.
use native.Mathlib.Omega.{arith}
use Rattle.countanswer.specs.Numbers.{InU32}
use Rattle.countanswer.proofs.numbers.Goals as goal

pub overflow_cast-result : goal.overflow_cast-result
unfolding InU32
overflow_cast-result c = let h = rw c.in-Ok.is at c.requires in omega (arith, h)
