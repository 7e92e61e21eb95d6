-- `windowrecord::start_of`: rows and columns are few, so their products fit.
use native.Mathlib.Omega.{arith}
use Rattle.windowrecord.proofs.Starts.{row_start, lane_start_lem}
use Rattle.windowrecord.proofs.start_of.Goals as goal

pub overflow_mul-result : goal.overflow_mul-result
overflow_mul-result c = rw c.stride.ensures (record { fits = omega (arith, row_start _ _ _ c.requires) })

pub overflow_add-result : goal.overflow_add-result
overflow_add-result c = rw c.stride.ensures (record { fits = omega (arith, row_start _ _ _ c.requires, c.requires.column, c.requires.wide) })

pub overflow_mul-result-2 : goal.overflow_mul-result-2
overflow_mul-result-2 c = rw c.stride.ensures (record { fits = omega (arith, lane_start_lem _ _ _ c.requires) })

pub returns : goal.returns
returns c = rw c.stride.ensures
