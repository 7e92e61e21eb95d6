-- The ring box and the body of a resource as the code gives them, and the box around all ring boxes.
use Rattle.std.specs.Prelude.{◌≡◌, true, false, Option, Some, None, List, ℕ, ◌/◌, ◌≤◌, length, ℤ}
use Rattle.walkgraph.specs.Map.{Box}
use Rattle.walkgraph.specs.Painting.{Rectangle}
use Rattle.walkgraph.specs.Ring.{body, ring_box}
use Rattle.walkgraph.specs.Window.{hull}
use Rattle.walkgraph.specs.Refusals.{bad_resource, first_bad_resource}
use Rattle.cells.specs.declared.boxes.Ring.{Ring}
use Rattle.cells.specs.Boxes.{box_of}

-- "a rectangle is four i32: left, top, right, bottom"
abbrev pub corners : ℤ → ℤ → ℤ → ℤ → Rectangle
corners left top right bottom = record { left = left; top = top; right = right; bottom = bottom }

-- the ring box and the body of an accepted resource
pub record Accepted (width height : ℕ) (r : Rectangle) (found : Ring) : Type 0 where
  pub good : bad_resource width height r ≡ false
  pub ring : box_of found.ring ≡ ring_box width height r
  pub body : box_of found.body ≡ body r

-- what the code's answer says of a rectangle
unfoldable pub RingOf : ℕ → ℕ → Rectangle → Option Ring → Type 0
RingOf width height r (Some found) = Accepted width height r found
RingOf width height r None = bad_resource width height r ≡ true

-- the box around a box and the ring box, if there is one
unfoldable pub around : Box → Option Ring → Box
around b (Some found) = hull b (box_of found.ring)
around b None = b

-- there are resources, and each is accepted, on a map in the limits of its size
pub record AllRings (width height : ℕ) (resources : List ℤ) : Type 0 where
  pub wide : width ≤ 1024
  pub high : height ≤ 1024
  pub some : 1 ≤ length resources / 4
  pub good : first_bad_resource width height resources ≡ length resources / 4
