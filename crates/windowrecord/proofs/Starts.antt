-- The lanes of a cell start early enough that a machine counts them.
use Prim.Native.Nat.{ℕ, ◌+◌, ◌*◌, ◌-◌, ◌≤◌}
use native.Mathlib.Nat.{mul-le-mul}
use native.Mathlib.Omega.{arith}
use Rattle.walkgraph.specs.Reading.{WindowRecord}
use Rattle.windowrecord.specs.Records.{OfCell}

module _ (r : WindowRecord) (x y : ℕ) (o : OfCell r x y) where
  pub row_start : (y - r.top + 1) * (r.width + 2) ≤ 1024 * 1026
  row_start =
      let p : y - r.top + 1 ≤ 1024 = omega (arith, o.row, o.high) in
      let q : r.width + 2 ≤ 1026 = omega (arith, o.wide) in
      mul-le-mul p q

  pub lane_start_lem : ((y - r.top + 1) * (r.width + 2) + (x - r.left + 1)) * r.lanes ≤ 1024 * 1027 * 16
  lane_start_lem =
      let p : (y - r.top + 1) * (r.width + 2) + (x - r.left + 1) ≤ 1024 * 1027 = omega (arith, row_start, o.column, o.wide) in
      mul-le-mul p o.few
