-- A grid that is not refused has as many cells as bytes.
use mathlib.Core.Path.{◌≡◌}
use mathlib.Core.Bool.{false}
use mathlib.Core.List.{List}
use Prim.Native.Nat.{ℕ, ◌*◌}
use lib.ListN.{length}
use Rattle.walkgraph.specs.Refusals.{bad_grid}
use Rattle.badgrid.proofs.Accepted.{grid}

pub cells_are : (w h : ℕ) (cells : List ℕ) → bad_grid w h cells ≡ false → length cells ≡ w * h
cells_are w h cells e = (grid w h cells e).long
