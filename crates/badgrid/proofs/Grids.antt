-- The greatest byte of a grid, and the test of a grid as the code makes it.
use mathlib.Core.Path.{◌≡◌, sym}
use mathlib.Core.Bool.{not, ◌&&◌, and_assoc, not-not}
use mathlib.Core.List.{List, [], ◌∷◌}
use Prim.Native.Nat.{ℕ, zero, suc, ◌*◌, ◌≤◌, max}
use native.Mathlib.Omega.{arith}
use native.Mathlib.Decide.{dec_le}
use lib.ListN.{length, get_or}
use lib.Dec.{leb, eqb}
use borrow.Author.Tests.{le-leb, lt-leb}
use Rattle.walkgraph.specs.Refusals.{bad_grid, all}
use Rattle.walkgraph.proofs.Tests.{by_cases, leb_eq}
use Rattle.badgrid.specs.Greatest.{greatest}
use Rattle.std.specs.List.{fold}
use Rattle.badgrid.specs.Grids.{in_limits}

-- no byte is above it
pub entry_least : (cells : List ℕ) (k : ℕ) → get_or cells k 0 ≤ greatest cells
unfolding greatest
entry_least [] k = omega arith
entry_least (b ∷ l) zero = omega arith
entry_least (b ∷ l) (suc k) = omega (arith, entry_least l k)

-- the greatest is small exactly where every byte is
all_small : (n : ℕ) (cells : List ℕ) → all (λ byte. leb byte n) cells ≡ leb (greatest cells) n
unfolding all greatest
all_small n [] = sym (le-leb 0 n (omega arith))
all_small n (b ∷ l) =
    by_cases (dec_le b n)
    (λ h. rw (le-leb b n h, all_small n l) (leb_eq (greatest l) n (max b (greatest l)) n (λ i. omega arith) (λ i. omega arith)))
    (λ h. rw (lt-leb b n (omega arith)) (sym (lt-leb (max b (greatest l)) n (omega arith))))

-- the greater of two bytes, over all of them
fold_from : (high : ℕ) (cells : List ℕ) → fold max high cells ≡ max high (greatest cells)
unfolding greatest
fold_from high [] = omega arith
fold_from high (byte ∷ cells) = omega (arith, fold_from (max high byte) cells)

pub greatest_by_fold : (cells : List ℕ) → fold max 0 cells ≡ greatest cells
greatest_by_fold cells = omega (arith, fold_from 0 cells)

-- the four tests of a grid, in the code's order
pub good_grid : (w h : ℕ) (cells : List ℕ) → not (bad_grid w h cells) ≡ (in_limits w && in_limits h && eqb (length cells) (w * h) && leb (greatest cells) 1)
unfolding bad_grid in_limits
good_grid w h cells = rw (not-not, and_assoc (leb 1 w && leb w 1024) (leb 1 h) (leb h 1024), all_small 1 cells)
