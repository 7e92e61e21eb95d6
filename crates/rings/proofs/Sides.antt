-- One side of a rectangle, from pixel low to pixel high along an axis of size cells; and a rectangle of two good sides is on the map.
use mathlib.Core.Path.{◌≡◌, refl}
use mathlib.Core.Bool.{false, ◌&&◌}
use Prim.Native.Nat.{ℕ, ◌*◌, ◌≤◌, ◌<◌}
use native.Mathlib.Omega.{arith}
use lib.IntN.{ℤ, pos, negsuc}
use lib.Dec.{T, leb, ltb, leb→le, ltb→lt}
use borrow.Author.Tests.{not-false, le-leb}
use Rattle.walkgraph.specs.Painting.{Rectangle}
use Rattle.walkgraph.specs.Ring.{pixel}
use Rattle.walkgraph.specs.Refusals.{bad_side, bad_resource}
use Rattle.walkgraph.proofs.Tests.{and_left, and_right}
use Rattle.walklaws.proofs.Maps.{OnMap}
use Rattle.cells.proofs.Bools.{clash, neither}

-- a side that is not refused
pub record Side (size : ℕ) (low high : ℤ) : Type 0 where
  pub low_is : low ≡ pos (pixel low)
  pub high_is : high ≡ pos (pixel high)
  pub across : pixel low < pixel high
  pub wide : pixel high ≤ 8 * size

pub side : (size : ℕ) (low high : ℤ) → bad_side size low high ≡ false → Side size low high
unfolding bad_side pixel
side size (pos a) (pos b) e =
    let t : T (leb 0 a && ltb a b && leb b (8 * size)) = rw (not-false (leb 0 a && ltb a b && leb b (8 * size)) e) tt in
    let u = and_left (leb 0 a && ltb a b) (leb b (8 * size)) t in
    record {
      low_is = refl;
      high_is = refl;
      across = ltb→lt a b (and_right (leb 0 a) (ltb a b) u);
      wide = leb→le b (8 * size) (and_right (leb 0 a && ltb a b) (leb b (8 * size)) t);
    }
side size (pos a) (negsuc b) e = absurd (clash (rw (le-leb 0 a (omega arith)) at e))
side size (negsuc a) high e = absurd (clash e)

-- a resource of two such sides
pub on_map : (w h : ℕ) (r : Rectangle) → bad_resource w h r ≡ false → OnMap w h r
unfolding bad_resource
on_map w h r e =
    let b = neither (bad_side w r.left r.right) (bad_side h r.top r.bottom) e in
    let s = side w r.left r.right b.0 in
    let t = side h r.top r.bottom b.1 in
    record { across = s.across; wide = s.wide; along = t.across; tall = t.wide }
