-- `accesslabel::label_of`: a label of one of 512 resources fits.
use native.Mathlib.Omega.{arith}
use Rattle.accesslabel.proofs.label_of.Goals as goal

pub overflow_add-result : goal.overflow_add-result
overflow_add-result c = omega (arith, c.requires)

pub overflow_mul-result : goal.overflow_mul-result
overflow_mul-result c = omega (arith, c.requires)

pub overflow_cast-result : goal.overflow_cast-result
overflow_cast-result c = omega (arith, c.requires)

pub returns : goal.returns
returns c = omega arith
