-- Rows of walk bytes that can be painted.
use Rattle.std.specs.Prelude.{ℕ, ◌+◌, ◌*◌, ◌<◌}

-- every byte that is painted is in the buffer; where the rows are empty, they may start past its end
pub record PaintRows (stride first rows count walk : ℕ) : Type 0 where
  pub fits : first + rows * stride < 4294967296
  pub each : (y x : ℕ) → y < rows → x < count → first + y * stride + x < walk
