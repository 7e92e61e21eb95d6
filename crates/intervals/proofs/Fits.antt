-- The window of a call lies on the map, so its row intervals can be written.
use Prim.Native.Nat.{ℕ, ◌*◌, ◌≤◌}
use native.Mathlib.Omega.{arith}
use Rattle.walkgraph.specs.Map.{Box}
use Rattle.walkgraph.specs.Window.{window}
use Rattle.cells.specs.declared.boxes.CellBox.{CellBox}
use Rattle.cells.specs.Boxes.{reach, box_of, InMap}
use Rattle.window.specs.declared.record.Window.{Window}
use Rattle.window.specs.Windows.{window_over, OnMap}
use Rattle.window.proofs.Fits.{sizes}
use Rattle.intervals.specs.Intervals.{RowEnds}

module _ (width height : ℕ) (s t : CellBox) (lanes : ℕ) (on : OnMap width height (box_of s) (box_of t)) where
  abbrev w : Window
  w = window_over (window reach width height (box_of s) (box_of t)) lanes

  in_limits_lem : (b : Box) → InMap width height b → InMap 1024 1024 b
  in_limits_lem b i = record { across = i.across; wide = omega (arith, i.wide, on.wide); along = i.along; tall = omega (arith, i.tall, on.high) }

  pub row_ends_lem : (rows : ℕ) → 2 * w.height ≤ rows → RowEnds w s t rows
  row_ends_lem rows k =
      let z = sizes width height s t lanes on in
      record {
        columns = omega (arith, z.columns, on.wide);
        lines = omega (arith, z.rows, on.high);
        sources = in_limits_lem (box_of s) on.sources;
        targets = in_limits_lem (box_of t) on.targets;
        room = k;
      }
