-- `windowedges::half`: the signed shift by one place is floor halving.
use mathlib.Core.Path.{◌≡◌, refl, ◌∙◌}
use lib.IntN.{ℤ, pos, negsuc}
use lib.Signed.{shr_z, mag_shr}
use mir.Syntax.{w32}
use mir.Val.{SFits, to_z, of_z}
use mir.ValLaws.{to_z-of_z, sfits_le}
use Rattle.walkgraph.specs.Window.{floor_half}
use Rattle.windowedges.proofs.half.Goals as goal

-- the shift by one place
shifted : (z : ℤ) → shr_z z 2 ≡ floor_half z
unfolding floor_half
shifted (pos n) = refl
shifted (negsuc n) = refl

-- and the number that it leaves, read back from its bits
read_back : (z h : ℤ) → SFits w32 h → h ≡ floor_half z → to_z w32 (of_z w32 h) ≡ floor_half z
read_back z h f e = to_z-of_z w32 h f ∙ e

pub returns : goal.returns
returns c =
    let z = c.args.sum in
    let half : SFits w32 (shr_z z 2) = sfits_le (mag_shr z 2) c.ranges.sum in
    rw (to_z-of_z w32 z c.ranges.sum) (read_back _ _ half (shifted z))
