-- The target box of a call as its four numbers, and as cells of the map.
use Rattle.std.specs.Prelude.{◌≡◌, pos}
use Rattle.walkgraph.specs.Map.{Box}
use Rattle.walkgraph.specs.Painting.{Rectangle}
use Rattle.walkgraph.specs.Ring.{pixel}

-- the four numbers of a box are not negative
pub record Natural (box : Rectangle) : Type 0 where
  pub left : box.left ≡ pos (pixel box.left)
  pub top : box.top ≡ pos (pixel box.top)
  pub right : box.right ≡ pos (pixel box.right)
  pub bottom : box.bottom ≡ pos (pixel box.bottom)

-- the target box of an accepted call: its four numbers are cells of the map
abbrev pub cells_of : Rectangle → Box
cells_of t = record { left = pixel t.left; top = pixel t.top; right = pixel t.right; bottom = pixel t.bottom }
