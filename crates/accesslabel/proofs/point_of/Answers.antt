-- `accesslabel::point_of`: a row is below 1,048,576.
use native.Mathlib.Omega.{arith}
use native.Mathlib.Nat.{mod-lt, div-le_self}
use Rattle.accesslabel.proofs.point_of.Goals as goal

pub overflow_mul-result : goal.overflow_mul-result
overflow_mul-result c = omega (arith, div-le_self c.args.index c.args.width)

pub overflow_add-result : goal.overflow_add-result
overflow_add-result c = omega (arith, div-le_self c.args.index c.args.width, mod-lt c.args.index c.requires.0)
