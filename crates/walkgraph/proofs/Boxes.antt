-- Boxes of cells: the test is the rule, and the box around two boxes holds both.
use Prim.Native.Nat.{ℕ}
use mathlib.Core.Bool.{◌&&◌}
use native.Mathlib.Omega.{arith}
use lib.Dec.{T, leb, leb→le, le→leb}
use Rattle.walkgraph.specs.Map.{Box, In, in_box}
use Rattle.walkgraph.specs.Window.{hull}
use Rattle.walkgraph.proofs.Tests.{and_left, and_right, and_pair}

pub in_box_lem : (b : Box) (x y : ℕ) → T (in_box b x y) → In b x y
unfolding in_box
in_box_lem b x y t =
    let i = and_left (leb b.left x && leb x b.right && leb b.top y) (leb y b.bottom) t in
    let j = and_left (leb b.left x && leb x b.right) (leb b.top y) i in (
      leb→le _ _ (and_left (leb b.left x) (leb x b.right) j),
      leb→le _ _ (and_right (leb b.left x) (leb x b.right) j),
      leb→le _ _ (and_right (leb b.left x && leb x b.right) (leb b.top y) i),
      leb→le _ _ (and_right (leb b.left x && leb x b.right && leb b.top y) (leb y b.bottom) t),
    )

pub box_in : (b : Box) (x y : ℕ) → In b x y → T (in_box b x y)
unfolding in_box
box_in b x y i =
    and_pair (leb b.left x && leb x b.right && leb b.top y) (leb y b.bottom)
    (and_pair (leb b.left x && leb x b.right) (leb b.top y)
    (and_pair (leb b.left x) (leb x b.right) (le→leb _ _ i.0) (le→leb _ _ i.1))
    (le→leb _ _ i.2))
    (le→leb _ _ i.3)

pub hull_left : (a b : Box) (x y : ℕ) → In a x y → In (hull a b) x y
unfolding hull
hull_left a b x y i = (omega arith, omega arith, omega arith, omega arith)

pub hull_right : (a b : Box) (x y : ℕ) → In b x y → In (hull a b) x y
unfolding hull
hull_right a b x y i = (omega arith, omega arith, omega arith, omega arith)
