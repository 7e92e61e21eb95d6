-- `cerandool::cerandool_field`: the answer's numbers are u32s.
use native.Mathlib.Omega.{arith}
use Rattle.cerandool.proofs.Bounds.{in_u32}
use Rattle.cerandool.proofs.cerandool_field.Goals as goal

pub field_numbers-requires : goal.field_numbers-requires
field_numbers-requires c = in_u32 _ _ (omega (arith, c.ranges.lanes)) c.field-answer.ensures.promise
