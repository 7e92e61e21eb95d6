-- The code's rectangle as document 01's.
use Rattle.walkgraph.specs.Painting.{Rectangle}
use Rattle.fournumbers.specs.declared.Corners.{Corners}

-- "a rectangle is four i32: left, top, right, bottom"
abbrev pub corners_of : Corners → Rectangle
corners_of c = record { left = c.left; top = c.top; right = c.right; bottom = c.bottom }
