-- `cells::edge::clamp`: the greater of the pixel and 0, and the lesser of that and the limit, are the clamp.
use mathlib.Core.Path.{◌≡◌, refl}
use Prim.Native.Nat.{ℕ, ◌*◌, min}
use native.Mathlib.Omega.{arith}
use lib.IntN.{ℤ, pos, negsuc}
use Rattle.walkgraph.specs.Painting.{clamp}
use Rattle.walkgraph.specs.Window.{or_zero}
use Rattle.cells.proofs.Casts.{greatest, cast}
use Rattle.cells.proofs.edge.clamp.Goals as goal

-- the clamp of a number, and of 0 for a negative one
clamped : (limit : ℕ) (z : ℤ) → clamp limit z ≡ min (or_zero z) limit
unfolding clamp or_zero
clamped limit (pos n) = refl
clamped limit (negsuc n) = omega arith

pub returns : goal.returns
returns c =
    let b = c in
    let z = b.args.pixel in
    omega (arith, clamped (8 * b.args.size) z, cast b.max.result (record { sfits = b.max.type_inv }) _ (greatest z b.max.result b.ranges.pixel b.max.ensures.value))
