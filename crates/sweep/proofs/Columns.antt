-- A row of the padded window in the buffer of lanes: the passes over a row's interval, by column.
use mathlib.Core.Path.{◌≡◌, ◌∙◌, ap}
use mathlib.Core.Logic.{◌⊎◌, inl, inr, ⊎_elim}
use mathlib.Core.Bool.{Bool, true, false}
use Prim.Native.Nat.{ℕ, suc, ◌+◌, ◌-◌, ◌*◌, ◌≤◌, ◌<◌}
use native.Mathlib.Nat.{suc-mul, add-mul, mul-le-mul_right}
use native.Mathlib.Omega.{arith}
use Rattle.lane.specs.Levels.{out_level, back_level}
use Rattle.ways.specs.Row.{walk_gate, west_gate, east_gate, out_row, back_row}
use Rattle.sweep.proofs.Gates.{FeedsRow}
use Rattle.ways.proofs.Lanewise as Lanewise

-- cells one after the other
shift : (lanes k c j i : ℕ) → c + j ≡ i → c * lanes + j * lanes + k ≡ i * lanes + k
shift lanes k c j i e = omega (arith, add-mul c j lanes, ap (λ (n : ℕ). n * lanes) e)

shift_left : (lanes k c j i : ℕ) → c + j ≡ suc i → c * lanes + j * lanes - lanes + k ≡ i * lanes + k
shift_left lanes k c j i e = omega (arith, add-mul c j lanes, ap (λ (n : ℕ). n * lanes) e, suc-mul i lanes)

shift_right : (lanes k c j i : ℕ) → c + j ≡ i → c * lanes + j * lanes + lanes + k ≡ suc i * lanes + k
shift_right lanes k c j i e = omega (arith, add-mul c j lanes, ap (λ (n : ℕ). n * lanes) e, suc-mul i lanes)

-- lane k of column x of row v, where a row has `stride` cells
abbrev pub slot : ℕ → ℕ → ℕ → ℕ → ℕ → ℕ
slot lanes stride k x v = (v * stride + x) * lanes + k

-- the columns a .. b - 1 of row y, fed by row z
module _ (lanes stride : ℕ) (flag : ℕ → ℕ) (down : Bool) (F : ℕ → ℕ) (y z a b : ℕ) (feeds : FeedsRow down z y) (low : 1 ≤ a) (less : a ≤ b) (last : b < stride) where
  abbrev own : ℕ
  own = (y * stride + a) * lanes

  abbrev fed : ℕ
  fed = (z * stride + a) * lanes

  abbrev place : ℕ
  place = y * stride + a

  abbrev S : ℕ → ℕ → ℕ → ℕ
  S = slot lanes stride

  abbrev pub out_levels : ℕ → ℕ
  out_levels = out_row lanes flag down F own fed place (b - a)

  -- the two rows lie apart
  before : lanes ≤ own
  before = omega (arith, suc-mul (y * stride + a - 1) lanes, ap (λ (n : ℕ). n * lanes) (one))
    where
      one : suc (y * stride + a - 1) ≡ y * stride + a
      one = omega arith

  next_row : (u v : ℕ) → v ≡ suc u → (u * stride + a) * lanes + (b - a) * lanes + lanes ≤ (v * stride + a) * lanes
  next_row u v e =
      let p : v * stride ≡ u * stride + stride = ap (λ (n : ℕ). n * stride) e ∙ suc-mul u stride in
      let q : (u * stride + a + suc (b - a)) * lanes ≤ (v * stride + a) * lanes = mul-le-mul_right lanes (omega arith) in
      omega (arith, add-mul (u * stride + a) (suc (b - a)) lanes, suc-mul (b - a) lanes)

  apart_by : (d : Bool) → FeedsRow d z y → (fed + (b - a) * lanes + lanes ≤ own) ⊎ (own + (b - a) * lanes + lanes ≤ fed)
  apart_by true e = inl (next_row z y e)
  apart_by false e = inr (next_row y z e)

  -- on the way out
  pub out_column : (x k : ℕ) → a ≤ suc x → suc x < b → k < lanes →
      out_levels (S k (suc x) y) ≡
      out_level (F (S k (suc x) y)) (F (S k (suc x) z)) (F (S k x z)) (F (S k (suc (suc x)) z)) (out_levels (S k x y)) (west_gate down (flag (y * stride + suc x))) (east_gate down (flag (y * stride + suc x))) (walk_gate (flag (y * stride + suc x)))
  out_column x k h i l =
      let j = suc x - a in
      let e₁ = shift lanes k (y * stride + a) j (y * stride + suc x) (omega arith) in
      let e₂ = shift lanes k (z * stride + a) j (z * stride + suc x) (omega arith) in
      let e₃ = shift_left lanes k (z * stride + a) j (z * stride + x) (omega arith) in
      let e₄ = shift_right lanes k (z * stride + a) j (z * stride + suc x) (omega arith) in
      let e₅ = shift_left lanes k (y * stride + a) j (y * stride + x) (omega arith) in
      let e₆ : place + j ≡ y * stride + suc x = omega arith in
      let e₇ : suc (z * stride + suc x) ≡ z * stride + suc (suc x) = omega arith in
      rw (e₁, e₂, e₃, e₄, e₅, e₆, e₇) at (Lanewise.out_at lanes flag down F own fed place (b - a) before (apart_by down feeds) j k (omega arith) l)

  -- ---- where a cell's levels lie
  cell_before : (c d k : ℕ) → c < d → k < lanes → c * lanes + k < d * lanes
  cell_before c d k h l = let q : suc c * lanes ≤ d * lanes = mul-le-mul_right lanes h in omega (arith, suc-mul c lanes)

  cell_after : (c d k : ℕ) → d ≤ c → d * lanes ≤ c * lanes + k
  cell_after c d k h = let q : d * lanes ≤ c * lanes = mul-le-mul_right lanes h in omega arith

  end_is : own + (b - a) * lanes ≡ (y * stride + b) * lanes
  end_is = let e : y * stride + a + (b - a) ≡ y * stride + b = omega arith in omega (arith, add-mul (y * stride + a) (b - a) lanes, ap (λ (n : ℕ). n * lanes) e)

  -- a cell that is not in the interval: in another column, or in another row
  pub data Elsewhere (x v : ℕ) : Type 0 where
    left : v ≡ y → x < a → Elsewhere x v
    right : v ≡ y → b ≤ x → Elsewhere x v
    above : v < y → x < stride → Elsewhere x v
    below : y < v → Elsewhere x v

  rows_apart : (u v : ℕ) → u < v → u * stride + stride ≤ v * stride
  rows_apart u v h = let q : suc u * stride ≤ v * stride = mul-le-mul_right stride h in omega (arith, suc-mul u stride)

  pub elsewhere_out : (x v k : ℕ) → k < lanes → Elsewhere x v → (S k x v < own) ⊎ (own + (b - a) * lanes ≤ S k x v)
  elsewhere_out x v k l (left e h) = rw e (inl (cell_before (y * stride + x) (y * stride + a) k (omega arith) l))
  elsewhere_out x v k l (right e h) = rw (e, end_is) (inr (cell_after (y * stride + x) (y * stride + b) k (omega arith)))
  elsewhere_out x v k l (above h i) = let q = rows_apart v y h in inl (cell_before (v * stride + x) (y * stride + a) k (omega arith) l)
  elsewhere_out x v k l (below h) = let q = rows_apart y v h in rw end_is (inr (cell_after (v * stride + x) (y * stride + b) k (omega arith)))

  pub out_elsewhere : (x v k : ℕ) → k < lanes → Elsewhere x v → out_levels (S k x v) ≡ F (S k x v)
  out_elsewhere x v k l e =
      ⊎_elim (Lanewise.out_below lanes flag down F own fed place (b - a) (S k x v)) (Lanewise.out_above lanes flag down F own fed place (b - a) (S k x v)) (elsewhere_out x v k l e)

  -- ---- on the way back
  abbrev pub both_levels : ℕ → ℕ
  both_levels = back_row lanes flag out_levels (own + (b - a) * lanes) (place + (b - a)) (b - a)

  pub back_column : (x k : ℕ) → a ≤ x → x < b → k < lanes →
      both_levels (S k x y) ≡ back_level (out_levels (S k x y)) (both_levels (S k (suc x) y)) (walk_gate (flag (y * stride + x)))
  back_column x k h i l =
      let j = x - a in
      let e₁ = shift lanes k (y * stride + a) j (y * stride + x) (omega arith) in
      let e₂ = shift_right lanes k (y * stride + a) j (y * stride + x) (omega arith) in
      let e₃ : place + j ≡ y * stride + x = omega arith in
      let e₄ : suc (y * stride + x) ≡ y * stride + suc x = omega arith in
      rw (e₁, e₂, e₃, e₄) at (Lanewise.back_at_lem lanes flag out_levels own place (b - a) j k (omega arith) l)

  pub back_elsewhere : (x v k : ℕ) → k < lanes → Elsewhere x v → both_levels (S k x v) ≡ F (S k x v)
  back_elsewhere x v k l e =
      let r = add-mul (y * stride) a lanes in
      ⊎_elim
      (λ h. Lanewise.back_below lanes flag out_levels own place (b - a) (b - a) (S k x v) (omega arith) (omega arith))
      (λ h. Lanewise.back_above lanes flag out_levels own place (b - a) (b - a) (S k x v) h (omega arith))
      (elsewhere_out x v k l e)
      ∙ out_elsewhere x v k l e
