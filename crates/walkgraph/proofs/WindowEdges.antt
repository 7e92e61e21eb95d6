-- The window's edges: each is the floor of half a signed sum, clamped to the map; and every inside cell of the map is in the window.
use mathlib.Core.Path.{◌≡◌, refl}
use Prim.Native.Nat.{ℕ, suc, ◌+◌, ◌*◌, ◌-◌, ◌/◌, ◌≤◌, ◌<◌, min}
use native.Mathlib.Omega.{arith}
use native.Mathlib.Decide.{dec_le}
use lib.IntN.{ℤ, pos, negsuc, ◌+ℤ◌}
use lib.Signed.{le_z, lt_z}
use lib.Dec.{T, leb→le, le→leb, lt→ltb}
use Rattle.walkgraph.specs.Map.{Box, In}
use Rattle.walkgraph.specs.Window.{floor_half, or_zero, window_low, window_high, window, gap, octile_gap, Inside, inside}
use Rattle.walkgraph.proofs.Tests.{by_cases}
use Rattle.walkgraph.proofs.Signed.{subℕ_neg, subℕ_pos}
use Rattle.walkgraph.proofs.Distances.{octile_l, octile_r, gap_low, gap_high}

-- "the halving rounded toward minus infinity": twice the half is at most the number, and less than 2 below it
pub record IsFloorHalf (z half : ℤ) : Type 0 where
  pub low : T (le_z (half +ℤ half) z)
  pub high : T (lt_z z (half +ℤ half +ℤ pos 2))

floor_positive : (n half : ℕ) → half + half ≤ n → n < half + half + 2 → IsFloorHalf (pos n) (pos half)
floor_positive n half h k = record { low = le→leb (half + half) n h; high = lt→ltb n (half + half + 2) k }

-- -1 - half is the floor of half of -1 - n
floor_negative : (n half : ℕ) → half + half ≤ n → n < half + half + 2 → IsFloorHalf (negsuc n) (negsuc half)
floor_negative n half h k =
    record {
      low = le→leb n (suc (half + half)) (omega arith);
      high = by_cases (dec_le (suc (suc (half + half))) 2)
          (λ i. rw (subℕ_pos 2 (suc (suc (half + half))) i) tt)
          (λ i.
          let j : 2 < suc (suc (half + half)) = omega arith in
          rw (subℕ_neg 2 (suc (suc (half + half))) j) (lt→ltb (suc (suc (half + half)) - 3) n (omega arith)));
    }

pub floor_half_lem : (z : ℤ) → IsFloorHalf z (floor_half z)
unfolding floor_half
floor_half_lem (pos n) = floor_positive n _ (omega arith) (omega arith)
floor_half_lem (negsuc n) = floor_negative n _ (omega arith) (omega arith)

-- the edges in natural numbers: a sum below 0 and its half are both replaced by 0
pub window_low_lem : (reach s t : ℕ) → window_low reach s t ≡ (s + t - reach) / 2
unfolding window_low or_zero floor_half
window_low_lem reach s t =
    by_cases (dec_le reach (s + t))
    (λ h. rw (subℕ_pos (s + t) reach h))
    (λ h. let r : s + t < reach = omega arith in rw (subℕ_neg (s + t) reach r) (omega arith))

pub window_high_lem : (reach size s t : ℕ) → window_high reach size s t ≡ min (size - 1) ((s + t + reach) / 2)
unfolding window_high or_zero floor_half
window_high_lem reach size s t = refl

-- the test is the rule
pub inside_true : (reach : ℕ) (s t : Box) (x y : ℕ) → T (inside reach s t x y) → Inside reach s t x y
unfolding inside Inside
inside_true reach s t x y i = leb→le (octile_gap s x y + octile_gap t x y) (1000 * reach) i

pub true_inside : (reach : ℕ) (s t : Box) (x y : ℕ) → Inside reach s t x y → T (inside reach s t x y)
unfolding inside Inside
true_inside reach s t x y i = le→leb (octile_gap s x y + octile_gap t x y) (1000 * reach) i

-- one axis of the window: 1,000 times the two gaps is at most 1,000 times the reach
axis_window : (reach size sl sr tl tr v : ℕ) → v < size → 1000 * gap v sl sr + 1000 * gap v tl tr ≤ 1000 * reach →
    (window_low reach sl tl ≤ v) × (v ≤ window_high reach size sr tr)
axis_window reach size sl sr tl tr v p i =
    let a = gap_low v sl sr in
    let b = gap_low v tl tr in
    let c = gap_high v sl sr in
    let d = gap_high v tl tr in
    let e = window_low_lem reach sl tl in
    let f = window_high_lem reach size sr tr in
    (omega arith, omega arith)

-- inside cells of the map are in the window
pub inside_window : (reach w h : ℕ) (s t : Box) (x y : ℕ) → x < w → y < h → Inside reach s t x y → In (window reach w h s t) x y
unfolding Inside octile_gap window
inside_window reach w h s t x y p q i =
    let a = octile_l (gap x s.left s.right) (gap y s.top s.bottom) in
    let b = octile_r (gap x s.left s.right) (gap y s.top s.bottom) in
    let c = octile_l (gap x t.left t.right) (gap y t.top t.bottom) in
    let d = octile_r (gap x t.left t.right) (gap y t.top t.bottom) in
    let e = axis_window reach w s.left s.right t.left t.right x p (omega arith) in
    let f = axis_window reach h s.top s.bottom t.top t.bottom y q (omega arith) in
    (e.0, e.1, f.0, f.1)
