-- The text of a number below 0: a minus, and the digits of its size.
use mathlib.Core.Path.{◌≡◌, refl}
use mathlib.Core.Bool.{true}
use mathlib.Core.List.{◌∷◌}
use native.Mathlib.Omega.{arith}
use borrow.Author.Tests.{ltb-true}
use lib.IntN.{ℤ, pos, negsuc, nat_abs}
use lib.Signed.{lt_z}
use mir.Syntax.{w32}
use mir.Val.{SFits, to_z, of_z}
use mir.ValLaws.{to_z-of_z}
use Rattle.decimal.specs.Numbers.{decimal_of}

text_below : (z : ℤ) → lt_z z (pos 0) ≡ true → decimal_of z ≡ 45 ∷ decimal_of (pos (nat_abs z))
unfolding decimal_of
text_below (pos n) e = absurd (omega (arith, ltb-true n 0 e))
text_below (negsuc n) e = refl

-- by the test of its sign as the code makes it
pub minus_text : (z : ℤ) → SFits w32 z → lt_z (to_z w32 (of_z w32 z)) (pos 0) ≡ true → decimal_of z ≡ 45 ∷ decimal_of (pos (nat_abs z))
minus_text z f e = text_below z (rw (to_z-of_z w32 z f) at e)
