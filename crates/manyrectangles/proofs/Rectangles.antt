-- One rectangle of many that are not refused: its ring is on the map, and the places that the code lists of it are its access cells.
use Rattle.std.specs.Prelude.{Option, IsSome}
use mathlib.Core.Path.{◌≡◌}
use mathlib.Core.Bool.{Bool, false}
use mathlib.Core.List.{List}
use Prim.Native.Nat.{ℕ, zero, suc, ◌+◌, ◌*◌, ◌-◌, ◌≤◌}
use native.Mathlib.Nat.{suc-mul, mul-le-mul}
use native.Mathlib.Omega.{arith}
use lib.ListN.{length, length-append}
use lib.IntN.{ℤ}
use Rattle.walkgraph.specs.Painting.{Rectangle, rectangle}
use Rattle.walkgraph.specs.Ring.{ring_box, access, places_in_row, places_in_rows, access_cells}
use Rattle.walkgraph.specs.Refusals.{bad_grid, bad_resource}
use Rattle.walkgraph.proofs.Tests.{cond_ind}
use Rattle.cells.specs.Boxes.{box_of}
use Rattle.cells.specs.declared.boxes.Ring.{Ring}
use Rattle.rings.specs.Rings.{RingOf, Accepted}
use Rattle.rings.proofs.Search.{all_good}
use Rattle.rings.proofs.Sources.{has_ring}
use Rattle.badgrid.proofs.Accepted.{grid}
use Rattle.ringruns.specs.Runs.{OnMap}
use Rattle.ringrows.specs.Rows.{ring_places}
use Rattle.ringrows.proofs.OfResources.{found_on_map, found_access}
use Rattle.manyrectangles.specs.AllCells.{cells_of}
use Rattle.manyrectangles.specs.Listing.{OneOf}

-- ---- a ring box has no more cells than the map
row_most : (width : ℕ) (test : ℕ → ℕ → Bool) (y x n : ℕ) → length (places_in_row width test y x n) ≤ n
unfolding places_in_row
row_most width test y x zero = omega arith
row_most width test y x (suc n) =
    let ih = row_most width test y (suc x) n in
    cond_ind (λ (l : List ℕ). length l ≤ suc n) (test x y) (λ t. omega arith) (λ t. omega arith)

rows_most : (width : ℕ) (test : ℕ → ℕ → Bool) (x columns y n : ℕ) → length (places_in_rows width test x columns y n) ≤ n * columns
unfolding places_in_rows
rows_most width test x columns y zero = omega arith
rows_most width test x columns y (suc n) =
    omega (arith, rows_most width test x columns (suc y) n, row_most width test y x columns, length-append (places_in_row width test y x columns) (places_in_rows width test x columns (suc y) n), suc-mul n columns)

pub access_most : (w h : ℕ) (cells : List ℕ) (r : Rectangle) → 1 ≤ w → 1 ≤ h → length (access_cells w h cells r) ≤ h * w
unfolding access_cells ring_box
access_most w h cells r i j =
    let b = ring_box w h r in
    let columns : b.right + 1 - b.left ≤ w = omega arith in
    let rows : b.bottom + 1 - b.top ≤ h = omega arith in
    omega (arith, rows_most w (access w h cells r) b.left (b.right + 1 - b.left) b.top (b.bottom + 1 - b.top), mul-le-mul rows columns)

pub cells_most : (w h : ℕ) (cells : List ℕ) (l : List ℤ) (k : ℕ) → bad_grid w h cells ≡ false → length (cells_of w h cells l k) ≤ h * w
unfolding cells_of
cells_most w h cells l k e = let g = grid w h cells e in access_most w h cells (rectangle l k) g.across.some g.along.some

-- ---- rectangle k
module _ {w h : ℕ} {cells : List ℕ} {l : List ℤ} {k : ℕ} (o : OneOf w h cells l k) where
  good : bad_resource w h (rectangle l k) ≡ false
  good = all_good w h l o.judged.good k o.there

  -- what `ring_at` requires
  pub ring_may : (w ≤ 1024) × (h ≤ 1024) × (4 * k + 4 ≤ length l)
  ring_may =
      let g = grid w h cells o.judged.map in
      let there = o.there in
      (g.across.most, g.along.most, omega arith)

  -- its ring, as `ring_at` gives it
  pub there_is_ring : (ring : Option Ring) → RingOf w h (rectangle l k) ring → IsSome ring
  there_is_ring ring e = has_ring w h (rectangle l k) ring e good

  -- its ring box and its body as the code has them
  module _ (ring : Ring) (e : Accepted w h (rectangle l k) ring) where
    pub one_on_map : OnMap w (length cells) (box_of ring.ring) (box_of ring.body)
    one_on_map = found_on_map w h cells (rectangle l k) o.judged.map good ring e

    pub one_cells : ring_places cells w (box_of ring.ring) (box_of ring.body) ≡ cells_of w h cells l k
    unfolding cells_of
    one_cells = found_access w h cells (rectangle l k) o.judged.map good ring e
