-- What is known of an input that is not refused.
use mathlib.Core.Path.{◌≡◌, refl}
use mathlib.Core.Bool.{false, ◌&&◌}
use mathlib.Core.List.{List}
use mathlib.Core.Logic.{◌⊎◌, inl, inr}
use Prim.Native.Nat.{ℕ, ◌/◌, ◌%◌, ◌≤◌, ◌<◌}
use native.Mathlib.Decide.{ℕ_discrete}
use native.Mathlib.Omega.{arith}
use lib.ListN.{length}
use lib.IntN.{ℤ, pos, negsuc}
use lib.Dec.{leb, ltb, eqb}
use borrow.Author.Tests.{not-false, leb-true, ltb-true, eqb-true, le-leb, ne_eqb}
use Rattle.walkgraph.specs.Ring.{pixel}
use Rattle.walkgraph.specs.Refusals.{bad_lanes, bad_fours, bad_span}
use Rattle.walkgraph.proofs.Tests.{by_cases}
use Rattle.cells.proofs.Bools.{clash, both}

-- ---- lanes, and numbers in fours
pub lanes : (n : ℕ) → bad_lanes n ≡ false → (n ≡ 8) ⊎ (n ≡ 16)
unfolding bad_lanes
lanes n e = by_cases (ℕ_discrete n 8) inl (λ a. by_cases (ℕ_discrete n 16) inr (λ b. absurd (clash (rw (ne_eqb n 8 a, ne_eqb n 16 b) at e))))

pub record Fours (most : ℕ) (numbers : List ℤ) : Type 0 where
  pub whole : length numbers % 4 ≡ 0
  pub few : length numbers / 4 ≤ most

pub fours : (most : ℕ) (numbers : List ℤ) → bad_fours most numbers ≡ false → Fours most numbers
unfolding bad_fours
fours most numbers e =
    let whole = eqb (length numbers % 4) 0 in
    let few = leb (length numbers / 4) most in
    let t = both whole few (not-false (whole && few) e) in
    record { whole = eqb-true _ 0 t.0; few = leb-true _ most t.1 }

-- ---- the target box along one axis: both ends are cells of the map
pub record Span (size : ℕ) (low high : ℤ) : Type 0 where
  pub low_is : low ≡ pos (pixel low)
  pub high_is : high ≡ pos (pixel high)
  pub across : pixel low ≤ pixel high
  pub wide : pixel high < size

pub span : (size : ℕ) (low high : ℤ) → bad_span size low high ≡ false → Span size low high
unfolding bad_span pixel
span size (pos a) (pos b) e =
    let t = both (leb 0 a && leb a b) (ltb b size) (not-false (leb 0 a && leb a b && ltb b size) e) in
    record { low_is = refl; high_is = refl; across = leb-true a b (both (leb 0 a) (leb a b) t.0).1; wide = ltb-true b size t.1 }
span size (pos a) (negsuc b) e = absurd (clash (rw (le-leb 0 a (omega arith)) at e))
span size (negsuc a) high e = absurd (clash e)
