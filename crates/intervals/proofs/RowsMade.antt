-- The row intervals of a call: two numbers a row, those of the window, and the numbers past them stay.
use mathlib.Core.Path.{◌≡◌}
use mathlib.Core.Bool.{Bool}
use Prim.Native.Nat.{ℕ, ◌+◌, ◌*◌, ◌≤◌, ◌<◌}
use native.Mathlib.Omega.{arith}
use Rattle.walkgraph.specs.Map.{Box}
use Rattle.walkgraph.specs.Window.{window}
use Rattle.walkgraph.specs.Sweep.{PaddedWindow, padded}
use Rattle.walkgraph.specs.Buffers.{row_first, row_past}
use Rattle.cells.specs.Boxes.{reach}
use Rattle.window.specs.declared.record.Window.{Window}
use Rattle.window.specs.Windows.{window_over}
use Rattle.intervals.specs.Intervals.{inside_columns, ends, rows_filled}
use Rattle.window.proofs.Places.{rows_in, rows_past}

module _ (width height : ℕ) (p : ℕ → ℕ → Bool) (s t : Box) (lanes : ℕ) (before : ℕ → ℕ) where
  abbrev w : Window
  w = window_over (window reach width height s t) lanes

  abbrev M : PaddedWindow
  M = padded reach width height p s t

  row_at_lem : (y k : ℕ) → y < w.height → k < 2 → rows_filled w s t before (2 * y + k) ≡ ends w s t (y + 1) k
  unfolding rows_filled
  row_at_lem y k h l = let e : 0 + y * 2 + k ≡ 2 * y + k = omega arith in rw e at (rows_in before 0 2 2 (λ y. ends w s t (y + 1)) (omega arith) w.height y k h l)

  pub first_made : (y : ℕ) → y < M.height → rows_filled w s t before (2 * y) ≡ row_first M (y + 1)
  unfolding row_first ends inside_columns padded
  first_made y h = let e : 2 * y + 0 ≡ 2 * y = omega arith in rw e at (row_at_lem y 0 h (omega arith))

  pub past_made : (y : ℕ) → y < M.height → rows_filled w s t before (2 * y + 1) ≡ row_past M (y + 1)
  unfolding row_past ends inside_columns padded
  past_made y h = row_at_lem y 1 h (omega arith)

  pub rows_stay : (i : ℕ) → 2 * M.height ≤ i → rows_filled w s t before i ≡ before i
  unfolding rows_filled padded
  rows_stay i h = rows_past before 0 2 2 (λ y. ends w s t (y + 1)) w.height i (omega arith) (omega arith)
