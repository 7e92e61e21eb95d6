-- Gaps and octile: how they change along a step. The laws below are all that is used of octile's text.
use mathlib.Core.Path.{◌≡◌}
use Prim.Native.Nat.{ℕ, ◌+◌, ◌*◌, ◌≤◌}
use native.Mathlib.Omega.{arith}
use Rattle.walkgraph.specs.Map.{Box, In}
use Rattle.walkgraph.specs.Walk.{distance}
use Rattle.walkgraph.specs.Window.{gap, octile, octile_gap}

pub octile_le : (a b k : ℕ) → 1000 * a + 414 * b ≤ k → 414 * a + 1000 * b ≤ k → octile a b ≤ k
unfolding octile
octile_le a b k p q = omega arith

pub octile_l : (a b : ℕ) → 1000 * a + 414 * b ≤ octile a b
unfolding octile
octile_l a b = omega arith

pub octile_r : (a b : ℕ) → 414 * a + 1000 * b ≤ octile a b
unfolding octile
octile_r a b = omega arith

pub gap_step : (v u low high : ℕ) → gap u low high ≤ gap v low high + distance v u
unfolding gap distance
gap_step v u low high = omega arith

pub gap_in : (v low high : ℕ) → low ≤ v → v ≤ high → gap v low high ≡ 0
unfolding gap
gap_in v low high p q = omega arith

-- one straight step changes octile by at most 1,000, a diagonal one by at most 1,414
pub octile_straight : (a b c d i j : ℕ) → c ≤ a + i → d ≤ b + j → i + j ≡ 1 → octile c d ≤ octile a b + 1000
octile_straight a b c d i j p q e = octile_le c d _ (omega (arith, octile_l a b, octile_r a b)) (omega (arith, octile_l a b, octile_r a b))

pub octile_diagonal : (a b c d : ℕ) → c ≤ a + 1 → d ≤ b + 1 → octile c d ≤ octile a b + 1414
octile_diagonal a b c d p q = octile_le c d _ (omega (arith, octile_l a b, octile_r a b)) (omega (arith, octile_l a b, octile_r a b))

pub octile_gap_straight : (b : Box) (x y u v : ℕ) → distance x u + distance y v ≡ 1 → octile_gap b u v ≤ octile_gap b x y + 1000
unfolding octile_gap
octile_gap_straight b x y u v e =
    octile_straight _ _ _ _ (distance x u) (distance y v) (gap_step x u b.left b.right) (gap_step y v b.top b.bottom) e

pub octile_gap_diagonal : (b : Box) (x y u v : ℕ) → distance x u ≡ 1 → distance y v ≡ 1 → octile_gap b u v ≤ octile_gap b x y + 1414
unfolding octile_gap
octile_gap_diagonal b x y u v e f =
    octile_diagonal _ _ _ _ (omega (arith, gap_step x u b.left b.right)) (omega (arith, gap_step y v b.top b.bottom))

pub octile_gap_in : (b : Box) (x y : ℕ) → In b x y → octile_gap b x y ≡ 0
unfolding octile_gap octile
octile_gap_in b x y h = omega (arith, gap_in x b.left b.right h.0 h.1, gap_in y b.top b.bottom h.2 h.3)

-- a value is no further from either end than its gap
pub gap_low : (v low high : ℕ) → low ≤ v + gap v low high
unfolding gap
gap_low v low high = omega arith

pub gap_high : (v low high : ℕ) → v ≤ high + gap v low high
unfolding gap
gap_high v low high = omega arith
