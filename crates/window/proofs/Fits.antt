-- The window of a call is not empty and lies on the map.
use mathlib.Core.Path.{◌≡◌, refl}
use Prim.Native.Nat.{ℕ, ◌+◌, ◌≤◌}
use native.Mathlib.Omega.{arith}
use Rattle.walkgraph.specs.Window.{window}
use Rattle.walkgraph.specs.Buffers.{Call, window_of}
use Rattle.walkgraph.specs.Reading.{record_of}
use Rattle.cells.specs.declared.boxes.CellBox.{CellBox}
use Rattle.cells.specs.Boxes.{reach, box_of}
use Rattle.window.specs.declared.record.Window.{Window}
use Rattle.window.specs.Windows.{as_record, window_over, OnMap}
use Rattle.window.proofs.Edges.{window_in_map}

-- the record of a call is that of its window
pub record_is : (c : Call) → as_record (window_over (window_of c) c.lanes) ≡ record_of c
unfolding record_of
record_is c = refl

module _ (width height : ℕ) (s t : CellBox) (lanes : ℕ) (on : OnMap width height (box_of s) (box_of t)) where
  abbrev w : Window
  w = window_over (window reach width height (box_of s) (box_of t)) lanes

  -- at least one column and row, and at most those of the map
  pub record Sizes : Type 0 where
    pub some_columns : 1 ≤ w.width
    pub some_rows : 1 ≤ w.height
    pub columns : w.left + w.width ≤ width
    pub rows : w.top + w.height ≤ height

  pub sizes : Sizes
  sizes =
      let m = window_in_map reach width height (box_of s) (box_of t) on.sources on.targets in
      let a = m.across in
      let b = m.wide in
      let c = m.along in
      let d = m.tall in
      record { some_columns = omega arith; some_rows = omega arith; columns = omega arith; rows = omega arith }
