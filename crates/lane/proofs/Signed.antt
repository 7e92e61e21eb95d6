-- Signed numbers as natural numbers: order and sums of the numbers of a width are those of their `up`, which `omega` reads. `half` is the width's half power, and
-- `mag z < half` says that z is one of its numbers. Once for every width.
use mathlib.Core.Path.{◌≡◌, refl, ap}
use mathlib.Core.Bool.{Bool, true, false, cond}
use Prim.Native.Nat.{ℕ, suc, ◌+◌, ◌-◌, ◌≤◌, ◌<◌}
use native.Mathlib.Omega.{arith}
use lib.IntN.{ℤ, pos, negsuc, ◌+ℤ◌}
use lib.Signed.{mag, lt_z}
use lib.Dec.{ltb}
use borrow.Author.Tests.{ltb-true, ltb-false}
use Rattle.lane.specs.Levels.{up}

module _ (half : ℕ) where
  pub up_under : (z : ℤ) → mag z < half → up half z < half + half
  up_under (pos n) h = omega arith
  up_under (negsuc n) h = omega arith

  -- a number is told by its `up`
  pub up_one : (a b : ℤ) → mag a < half → mag b < half → up half a ≡ up half b → a ≡ b
  up_one (pos a) (pos b) f g e = ap pos (omega arith)
  up_one (pos a) (negsuc b) f g e = absurd (omega arith)
  up_one (negsuc a) (pos b) f g e = absurd (omega arith)
  up_one (negsuc a) (negsuc b) f g e = ap negsuc (omega arith)

  pub up_less : (a b : ℤ) → mag a < half → mag b < half → lt_z a b ≡ true → up half a < up half b
  up_less (pos a) (pos b) f g e = omega (arith, ltb-true a b e)
  up_less (pos a) (negsuc b) f g e = let z : ◌≡◌ {A = ℕ} 0 1 = cc in omega arith
  up_less (negsuc a) (pos b) f g e = omega arith
  up_less (negsuc a) (negsuc b) f g e = omega (arith, ltb-true b a e)

  pub up_least : (a b : ℤ) → mag a < half → mag b < half → lt_z a b ≡ false → up half b ≤ up half a
  up_least (pos a) (pos b) f g e = omega (arith, ltb-false a b e)
  up_least (pos a) (negsuc b) f g e = omega arith
  up_least (negsuc a) (pos b) f g e = let z : ◌≡◌ {A = ℕ} 0 1 = cc in omega arith
  up_least (negsuc a) (negsuc b) f g e = omega (arith, ltb-false b a e)

-- a number of the width, and its `up`
pub record In (half : ℕ) (z : ℤ) (u : ℕ) : Type 0 where
  pub range : mag z < half
  pub is : up half z ≡ u

difference_in : (half a b u : ℕ) → u + b ≡ half + a → u < half + half → (t : Bool) → ltb a b ≡ t → In half (cond t (negsuc (b - suc a)) (pos (a - b))) u
difference_in half a b u e l true t = record { range = omega (arith, ltb-true a b t); is = omega (arith, ltb-true a b t) }
difference_in half a b u e l false t = record { range = omega (arith, ltb-false a b t); is = omega (arith, ltb-false a b t) }

pub sum_in : (half : ℕ) (a b : ℤ) (u : ℕ) → mag a < half → mag b < half → u + half ≡ up half a + up half b → u < half + half → In half (a +ℤ b) u
sum_in half (pos a) (pos b) u f g e l = record { range = omega arith; is = omega arith }
sum_in half (pos a) (negsuc b) u f g e l = difference_in half a (suc b) u (omega arith) l (ltb a (suc b)) refl
sum_in half (negsuc a) (pos b) u f g e l = difference_in half b (suc a) u (omega arith) l (ltb b (suc a)) refl
sum_in half (negsuc a) (negsuc b) u f g e l = record { range = omega arith; is = omega arith }
