-- The ring of a resource that is not refused lies on the map, and the places that its rows have are its access cells.
use mathlib.Core.Path.{◌≡◌}
use mathlib.Core.Bool.{false}
use mathlib.Core.List.{List}
use Prim.Native.Nat.{ℕ, ◌+◌, ◌≤◌}
use native.Mathlib.Nat.{mul-le-mul, mul_comm}
use native.Mathlib.Omega.{arith}
use lib.ListN.{length}
use Rattle.walkgraph.specs.Painting.{Rectangle}
use Rattle.walkgraph.specs.Ring.{body, ring_box, access_cells}
use Rattle.walkgraph.specs.Refusals.{bad_grid, bad_resource}
use Rattle.cells.specs.declared.boxes.Ring.{Ring}
use Rattle.cells.specs.Boxes.{box_of}
use Rattle.rings.specs.Rings.{Accepted}
use Rattle.rings.proofs.Sides.{on_map}
use Rattle.rings.proofs.Sources.{ring_in_map}
use Rattle.badgrid.proofs.Accepted.{grid}
use Rattle.ringruns.specs.Runs.{OnMap}
use Rattle.ringrows.specs.Rows.{ring_places}
use Rattle.ringrows.proofs.AccessRuns.{ring_accessed}

module _ (w h : ℕ) (cells : List ℕ) (r : Rectangle) (good_grid : bad_grid w h cells ≡ false) (good : bad_resource w h r ≡ false) where
  ring_on_map : OnMap w (length cells) (ring_box w h r) (body r)
  unfolding ring_box body
  ring_on_map =
      let g = grid w h cells good_grid in
      let o = on_map w h r good in
      let i = ring_in_map w h r o in
      let wide = g.across.most in
      let high = g.along.most in
      let a = o.across in
      let b = o.wide in
      let tall = i.tall in
      let rows : (ring_box w h r).bottom + 1 ≤ h = omega arith in
      let same : w ≤ w = omega arith in
      record {
        grid = record {
          wide = wide;
          to_left = omega arith;
          across = omega arith;
          to_right = omega arith;
          columns = i.wide;
          along = i.along;
          rows = omega arith;
        };
        all_rows = omega (arith, mul-le-mul rows same, mul_comm w h, g.long);
        few = omega (arith, mul-le-mul wide high, g.long);
      }

  -- of its ring box and its body as the code has them
  module _ (ring : Ring) (e : Accepted w h r ring) where
    pub found_on_map : OnMap w (length cells) (box_of ring.ring) (box_of ring.body)
    found_on_map = rw (e.ring, e.body) ring_on_map

    pub found_access : ring_places cells w (box_of ring.ring) (box_of ring.body) ≡ access_cells w h cells r
    found_access = rw (e.ring, e.body) (ring_accessed w h cells r ring_on_map.grid (ring_in_map w h r (on_map w h r good)).tall)
