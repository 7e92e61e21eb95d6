-- The window's edges: the window of two boxes on a map is not empty, and on the map.
use Prim.Native.Nat.{ℕ, ◌≤◌, ◌<◌}
use native.Mathlib.Omega.{arith}
use Rattle.walkgraph.specs.Map.{Box}
use Rattle.walkgraph.specs.Window.{window_low, window_high, window}
use Rattle.walkgraph.proofs.WindowEdges.{window_low_lem, window_high_lem}
use Rattle.cells.specs.Boxes.{InMap}

-- along one axis
pub record Axis (size low high : ℕ) : Type 0 where
  pub filled : low ≤ high
  pub last : high < size

pub axis : (reach size sl sr tl tr : ℕ) → sl ≤ sr → sr < size → tl ≤ tr → tr < size → Axis size (window_low reach sl tl) (window_high reach size sr tr)
axis reach size sl sr tl tr a b c d =
    let e = window_low_lem reach sl tl in
    let f = window_high_lem reach size sr tr in
    record { filled = omega arith; last = omega arith }

pub columns : (reach w h : ℕ) (s t : Box) → InMap w h s → InMap w h t → Axis w (window_low reach s.left t.left) (window_high reach w s.right t.right)
columns reach w h s t i j = axis reach w _ _ _ _ i.across i.wide j.across j.wide

pub lines : (reach w h : ℕ) (s t : Box) → InMap w h s → InMap w h t → Axis h (window_low reach s.top t.top) (window_high reach h s.bottom t.bottom)
lines reach w h s t i j = axis reach h _ _ _ _ i.along i.tall j.along j.tall

pub window_in_map : (reach w h : ℕ) (s t : Box) → InMap w h s → InMap w h t → InMap w h (window reach w h s t)
unfolding window
window_in_map reach w h s t i j =
    let c = columns reach w h s t i j in
    let l = lines reach w h s t i j in
    record { across = c.filled; wide = c.last; along = l.filled; tall = l.last }
