-- The window of a call lies on the map, so it can be copied and painted.
use Prim.Native.Nat.{ℕ, ◌+◌, ◌*◌, ◌≤◌}
use native.Mathlib.Nat.{mul-le-mul_right}
use native.Mathlib.Omega.{arith}
use Rattle.walkgraph.specs.Window.{window}
use Rattle.cells.specs.declared.boxes.CellBox.{CellBox}
use Rattle.cells.specs.Boxes.{reach, box_of}
use Rattle.window.specs.declared.record.Window.{Window}
use Rattle.window.specs.Windows.{window_over, OnMap}
use Rattle.window.proofs.Fits.{sizes}
use Rattle.walkbytes.specs.Copies.{Copies}
use Rattle.walkbytes.specs.Painting.{Paints}

module _ (width height : ℕ) (s t : CellBox) (lanes : ℕ) (on : OnMap width height (box_of s) (box_of t)) where
  abbrev w : Window
  w = window_over (window reach width height (box_of s) (box_of t)) lanes

  pub copies : (cells walk : ℕ) → height * width ≤ cells → (w.height + 2) * (w.width + 2) ≤ walk → Copies w width cells walk
  copies cells walk h k =
      let z = sizes width height s t lanes on in
      let q : (w.top + w.height) * width ≤ height * width = mul-le-mul_right width z.rows in
      record { wide = on.wide; high = omega (arith, z.rows, on.high); columns = z.columns; rows = omega arith; room = k }

  pub paints : (walk : ℕ) → (w.height + 2) * (w.width + 2) ≤ walk → Paints w walk
  paints walk k = let z = sizes width height s t lanes on in record { columns = omega (arith, z.columns, on.wide); rows = omega (arith, z.rows, on.high); room = k }
