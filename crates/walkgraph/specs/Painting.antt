-- Document 01, "Painting". Rectangles come as signed pixels; from the clamp on all is in natural numbers.
use Rattle.std.specs.Prelude.{Bool, false, not, ◌&&◌, ◌||◌, List, ℕ, zero, suc, ◌+◌, ◌*◌, ◌/◌, min, get_or, length, ℤ, pos, negsuc, leb, ltb}
use Rattle.walkgraph.specs.Map.{walkable}

-- "a rectangle is four i32: left, top, right, bottom in pixels, right and bottom exclusive"
pub record Rectangle : Type 0 where
  pub left : ℤ
  pub top : ℤ
  pub right : ℤ
  pub bottom : ℤ

-- rectangle i of a list of numbers in fours
unfoldable pub rectangle : List ℤ → ℕ → Rectangle
rectangle numbers i =
    record {
      left = get_or numbers (4 * i) (pos 0);
      top = get_or numbers (4 * i + 1) (pos 0);
      right = get_or numbers (4 * i + 2) (pos 0);
      bottom = get_or numbers (4 * i + 3) (pos 0);
    }

-- "Blocker edges are clamped to 0..8 x width and 0..8 x height."
unfoldable pub clamp : ℕ → ℤ → ℕ
clamp limit (pos n) = min n limit
clamp limit (negsuc n) = 0

-- "cells from left/8 up to but not including (right+7)/8 become unwalkable, and the same vertically": along one axis, from pixel a to pixel b
unfoldable pub spans : ℕ → ℕ → ℕ → Bool
spans a b v = leb (a / 8) v && ltb v ((b + 7) / 8)

-- "If left >= right or top >= bottom then, nothing is painted."
unfoldable pub covers : ℕ → ℕ → Rectangle → ℕ → ℕ → Bool
covers width height r x y =
    let left = clamp (8 * width) r.left in
    let right = clamp (8 * width) r.right in
    let top = clamp (8 * height) r.top in
    let bottom = clamp (8 * height) r.bottom in
    ltb left right && ltb top bottom && spans left right x && spans top bottom y

-- one of the first n blockers covers the cell
unfoldable pub covered : ℕ → ℕ → List ℤ → ℕ → ℕ → ℕ → Bool
covered width height blockers zero x y = false
covered width height blockers (suc n) x y = covers width height (rectangle blockers n) x y || covered width height blockers n x y

-- walkable on the painted map
unfoldable pub painted : ℕ → ℕ → List ℕ → List ℤ → ℕ → ℕ → Bool
painted width height cells blockers x y = walkable width height cells x y && not (covered width height blockers (length blockers / 4) x y)
