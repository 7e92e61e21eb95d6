-- The window of a call lies on the map, so its flags can be made.
use mathlib.Core.List.{List}
use Prim.Native.Nat.{ℕ, ◌+◌, ◌*◌, ◌≤◌}
use native.Mathlib.Omega.{arith}
use lib.ListN.{length}
use Rattle.walkgraph.specs.Window.{window}
use Rattle.cells.specs.declared.boxes.CellBox.{CellBox}
use Rattle.cells.specs.Boxes.{reach, box_of}
use Rattle.window.specs.declared.record.Window.{Window}
use Rattle.window.specs.Windows.{window_over, OnMap}
use Rattle.window.specs.Fills.{AreBits}
use Rattle.window.proofs.Fits.{sizes}
use Rattle.flags.specs.Flags.{FlagRows}

module _ (width height : ℕ) (s t : CellBox) (lanes : ℕ) (on : OnMap width height (box_of s) (box_of t)) where
  abbrev w : Window
  w = window_over (window reach width height (box_of s) (box_of t)) lanes

  pub flag_rows_lem : (walk : List ℕ) (flags : ℕ) → (w.height + 2) * (w.width + 2) ≤ length walk → (w.height + 2) * (w.width + 2) ≤ flags →
      AreBits walk ((w.height + 2) * (w.width + 2)) → FlagRows w walk flags
  flag_rows_lem walk flags h k b =
      let z = sizes width height s t lanes on in
      record { wide = omega (arith, z.columns, on.wide); high = omega (arith, z.rows, on.high); bytes = h; room = k; bits = b }
