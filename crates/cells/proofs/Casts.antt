-- Signed numbers of 32 bits as the code reads them from their bits (`to_z w32 (of_z w32 z)`), raises them to 0 and casts them.
use mathlib.Core.Path.{◌≡◌, refl, ◌∙◌}
use Prim.Native.Nat.{ℕ, zero, suc}
use native.Mathlib.Omega.{arith}
use lib.IntN.{ℤ, pos, negsuc, nat_abs}
use lib.Signed.{non_neg}
use borrow.Author.Tests.{lt-ltb}
use lib.Dec.{T}
use mir.Syntax.{w32, w64}
use mir.Val.{SFits, Fits, to_z, of_z}
use mir.ValLaws.{to_z-of_z}
use Rattle.walkgraph.specs.Window.{or_zero}
use Rattle.std.specs.Int.{int_max}

-- ---- the greater of a number and 0
raised : (z : ℤ) → int_max z (pos 0) ≡ pos (or_zero z)
unfolding or_zero
raised (pos zero) = refl
raised (pos (suc n)) = rw (lt-ltb 0 (suc n) (omega arith))
raised (negsuc n) = refl

pub greatest : (z m : ℤ) → SFits w32 z → m ≡ int_max (to_z w32 (of_z w32 z)) (pos 0) → m ≡ pos (or_zero z)
greatest z m f e = e ∙ rw (to_z-of_z w32 z f) (raised z)

-- ---- the cast of a number that is not negative: it may be made, and gives the number
module _ (z : ℤ) (f : SFits w32 z) (n : ℕ) (e : z ≡ pos n) where
  pub cast : nat_abs (to_z w32 (of_z w32 z)) ≡ n
  cast = rw (to_z-of_z w32 z f, e)

  pub may_cast : T (non_neg (to_z w32 (of_z w32 z))) × Fits w64 (nat_abs (to_z w32 (of_z w32 z)))
  may_cast =
      let g : SFits w32 (pos n) = rw e at f in
      rw (to_z-of_z w32 z f, e) (tt, record { fits = omega (arith, g.sfits) })
