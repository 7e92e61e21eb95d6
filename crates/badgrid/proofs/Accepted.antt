-- What is known of a grid that is not refused.
use mathlib.Core.Path.{◌≡◌, sym, ap, ◌∙◌}
use mathlib.Core.Bool.{true, false, not, ◌&&◌}
use mathlib.Core.List.{List}
use Prim.Native.Nat.{ℕ, ◌*◌, ◌≤◌}
use lib.ListN.{length}
use lib.Dec.{leb, eqb}
use borrow.Author.Tests.{leb-true, eqb-true}
use Rattle.walkgraph.specs.Refusals.{bad_grid}
use Rattle.cells.proofs.Bools.{both}
use Rattle.badgrid.specs.Greatest.{greatest}
use Rattle.badgrid.specs.Grids.{in_limits}
use Rattle.badgrid.proofs.Grids.{good_grid}

-- ---- a size
pub record Size (size : ℕ) : Type 0 where
  pub some : 1 ≤ size
  pub most : size ≤ 1024

pub size : (n : ℕ) → in_limits n ≡ true → Size n
unfolding in_limits
size n e = let t = both (leb 1 n) (leb n 1024) e in record { some = leb-true 1 n t.0; most = leb-true n 1024 t.1 }

-- ---- a grid: one byte a cell
pub record Grid (width height : ℕ) (cells : List ℕ) : Type 0 where
  pub across : Size width
  pub along : Size height
  pub long : length cells ≡ width * height
  pub bits : greatest cells ≤ 1

pub grid : (w h : ℕ) (cells : List ℕ) → bad_grid w h cells ≡ false → Grid w h cells
grid w h cells e =
    let sizes = in_limits w && in_limits h in
    let long = eqb (length cells) (w * h) in
    let bits = leb (greatest cells) 1 in
    let all : (sizes && long && bits) ≡ true = sym (good_grid w h cells) ∙ ap not e in
    let t = both (sizes && long) bits all in
    let u = both sizes long t.0 in
    let v = both (in_limits w) (in_limits h) u.0 in
    record { across = size w v.0; along = size h v.1; long = eqb-true (length cells) (w * h) u.1; bits = leb-true (greatest cells) 1 t.1 }
