-- Painting in the window.
use Rattle.std.specs.Prelude.{cond, ◌&&◌, List, ℕ, zero, suc, ◌+◌, ◌*◌, ◌-◌, ◌/◌, ◌≤◌, min, max, ℤ, ltb}
use Rattle.walkgraph.specs.Painting.{rectangle, clamp}
use Rattle.window.specs.declared.record.Window.{Window}
use Rattle.window.specs.Fills.{zeros, rows_placed}

-- the window is in the limits of a map, and its walk bytes are in the buffer
pub record Paints (w : Window) (walk : ℕ) : Type 0 where
  pub columns : w.left + w.width ≤ 1024
  pub rows : w.top + w.height ≤ 1024
  pub room : (w.height + 2) * (w.width + 2) ≤ walk

-- pixels of a map in the limits
pub record Pixels (left top right bottom : ℕ) : Type 0 where
  pub from_left : left ≤ 8192
  pub from_top : top ≤ 8192
  pub to_right : right ≤ 8192
  pub to_bottom : bottom ≤ 8192

-- along one axis: the first cell of a span of pixels in the window, and one past the last
abbrev pub from_cell : ℕ → ℕ → ℕ
from_cell low start = max (low / 8) start

-- and one past the last
abbrev pub past_cell : ℕ → ℕ → ℕ → ℕ
past_cell high start size = min ((high + 7) / 8) (start + size)

-- the bytes after a rectangle of clamped pixels is painted
unfoldable pub box_painted : Window → (left top right bottom : ℕ) → (ℕ → ℕ) → ℕ → ℕ
box_painted w left top right bottom before =
    let x = from_cell left w.left in
    let y = from_cell top w.top in
    cond (ltb left right && ltb top bottom)
    (rows_placed before ((y - w.top + 1) * (w.width + 2) + (x - w.left + 1)) (w.width + 2) (past_cell bottom w.top w.height - y) (past_cell right w.left w.width - x) (λ y. zeros))
    before

-- and after blocker k is painted, on a map of width by height
unfoldable pub blocker_painted : Window → ℕ → ℕ → List ℤ → ℕ → (ℕ → ℕ) → ℕ → ℕ
blocker_painted w width height blockers k before =
    let r = rectangle blockers k in box_painted w (clamp (8 * width) r.left) (clamp (8 * height) r.top) (clamp (8 * width) r.right) (clamp (8 * height) r.bottom) before

-- and after the first n blockers are
unfoldable pub blockers_painted : Window → ℕ → ℕ → List ℤ → ℕ → (ℕ → ℕ) → ℕ → ℕ
blockers_painted w width height blockers zero before = before
blockers_painted w width height blockers (suc n) before = blocker_painted w width height blockers n (blockers_painted w width height blockers n before)
