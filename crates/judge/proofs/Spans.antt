-- The target box along one axis, from cell low to cell high on a map of size columns or rows: as the code tests it.
use mathlib.Core.Path.{◌≡◌, refl, sym}
use mathlib.Core.Bool.{not, ◌&&◌}
use Prim.Native.Nat.{ℕ}
use native.Mathlib.Omega.{arith}
use lib.IntN.{ℤ, pos, negsuc, nat_abs}
use lib.Signed.{le_z}
use lib.Dec.{ltb}
use borrow.Author.Tests.{le-leb}
use mir.Syntax.{w32}
use mir.Val.{SFits, to_z, of_z}
use mir.ValLaws.{to_z-of_z}
use Rattle.walkgraph.specs.Refusals.{bad_span}
use Rattle.cells.proofs.Bools.{not_not}

-- the three tests of a span, in the code's order
good : (size : ℕ) (low high : ℤ) → not (bad_span size low high) ≡ (le_z (pos 0) low && le_z low high && ltb (nat_abs high) size)
unfolding bad_span
good size (pos a) (pos b) = sym (not_not _)
good size (pos a) (negsuc b) = rw (le-leb 0 a (omega arith)) refl
good size (negsuc a) high = refl

-- ---- the same, by the tests on the bits
module _ (size : ℕ) (low high : ℤ) (f : SFits w32 low) (g : SFits w32 high) where
  pub good_span : not (bad_span size low high) ≡ (le_z (pos 0) (to_z w32 (of_z w32 low)) && le_z (to_z w32 (of_z w32 low)) (to_z w32 (of_z w32 high)) && ltb (nat_abs (to_z w32 (of_z w32 high))) size)
  good_span = rw (to_z-of_z w32 low f, to_z-of_z w32 high g) (good size low high)
