-- Gaps: how large they are, and the inside of a window by row.
use mathlib.Core.Path.{◌≡◌}
use Prim.Native.Nat.{ℕ, ◌*◌, ◌≤◌, ◌<◌}
use native.Mathlib.Omega.{arith}
use Rattle.walkgraph.specs.Map.{Box}
use Rattle.walkgraph.specs.Window.{gap, octile, octile_gap, inside}
use Rattle.cells.specs.declared.boxes.CellBox.{CellBox}
use Rattle.cells.specs.Boxes.{box_of, InMap}
use Rattle.gaps.specs.Inside.{Beside, inside_in_row}

-- the gap of a cell to cells is at most the largest of them
pub gap_most : (most value low high : ℕ) → value ≤ most → low ≤ most → low ≤ high → gap value low high ≤ most
unfolding gap
gap_most most value low high h k l = omega arith

pub octile_most : (most dx dy : ℕ) → dx ≤ most → dy ≤ most → octile dx dy ≤ 1414 * most
unfolding octile
octile_most most dx dy h k = omega arith

-- a box of a map, and the gap of a row of the map
pub beside : (w h : ℕ) (b : CellBox) (y : ℕ) → w ≤ 1024 → h ≤ 1024 → InMap w h (box_of b) → y < h → Beside b (gap y b.top b.bottom)
beside w h b y wide high i k = record { ends = i.across; near = omega (arith, i.across, i.wide); gap = gap_most 1024 y b.top b.bottom (omega arith) (omega (arith, i.along, i.tall)) i.along }

-- in the row y the gaps are those of y to S and T
pub inside_in_row_lem : (reach : ℕ) (s t : Box) (source target x y : ℕ) → source ≡ gap y s.top s.bottom → target ≡ gap y t.top t.bottom →
    inside_in_row reach s source t target x ≡ inside reach s t x y
unfolding inside_in_row inside octile_gap
inside_in_row_lem reach s t source target x y e f = rw (e, f)
