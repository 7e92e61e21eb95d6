-- Rows of a buffer by the columns and rows of a window: a row has s places, and the rows that were filled start at column b of row a.
use mathlib.Core.Path.{◌≡◌, refl, ◌∙◌, ap}
use mathlib.Core.Logic.{◌⊎◌, inl, inr, ⊎_elim}
use Prim.Native.Nat.{ℕ, zero, suc, ◌+◌, ◌*◌, ◌-◌, ◌≤◌, ◌<◌}
use native.Mathlib.Nat.{suc-mul, add-mul, mul-le-mul_right}
use native.Mathlib.Decide.{dec_le, ℕ_discrete}
use native.Mathlib.Omega.{arith}
use Rattle.walkgraph.proofs.Tests.{by_cases}
use Rattle.walkgraph.proofs.Places.{flat_lt}
use Rattle.walkgraph.proofs.Lists.{placed_in, placed_below, placed_above}
use Rattle.window.specs.declared.record.Window.{Window}
use Rattle.window.specs.Fills.{zeros, rows_placed, window_rows, cleared}
use Rattle.window.proofs.Fills.{placed_front, placed_past}

-- the index i is in none of the n rows
abbrev Beside : (start stride count n i : ℕ) → Type 0
Beside start stride count n i = (y : ℕ) → y < n → (i < start + y * stride) ⊎ (start + y * stride + count ≤ i)

module _ (before : ℕ → ℕ) (start stride count : ℕ) (new : ℕ → ℕ → ℕ) where
  rows_beside : (n i : ℕ) → Beside start stride count n i → rows_placed before start stride n count new i ≡ before i
  unfolding rows_placed
  rows_beside zero i h = refl
  rows_beside (suc n) i h =
      ⊎_elim
      (λ k. placed_below (rows_placed before start stride n count new) (start + n * stride) count (new n) i k)
      (λ k. placed_above (rows_placed before start stride n count new) (start + n * stride) count (new n) i k)
      (h n (omega arith))
      ∙ rows_beside n i (λ y k. h y (omega arith))

  pub rows_in : count ≤ stride → (n y x : ℕ) → y < n → x < count → rows_placed before start stride n count new (start + y * stride + x) ≡ new y x
  unfolding rows_placed
  rows_in l zero y x p q = absurd (omega arith)
  rows_in l (suc n) y x p q =
      by_cases (ℕ_discrete y n)
      (λ e. rw e (placed_in (rows_placed before start stride n count new) (start + n * stride) count (new n) x q))
      (λ e.
      let r : suc y * stride ≤ n * stride = mul-le-mul_right stride (omega arith) in
      placed_below (rows_placed before start stride n count new) (start + n * stride) count (new n) (start + y * stride + x) (omega (arith, suc-mul y stride))
      ∙ rows_in l n y x (omega arith) q)

  pub rows_past : (n i : ℕ) → count ≤ stride → start + n * stride ≤ i → rows_placed before start stride n count new i ≡ before i
  rows_past n i l h = rows_beside n i (λ y k. let q : suc y * stride ≤ n * stride = mul-le-mul_right stride k in inr (omega (arith, suc-mul y stride)))

module _ (before : ℕ → ℕ) (s a b rows count : ℕ) (new : ℕ → ℕ → ℕ) where
  -- the entries after the fill
  abbrev filled : ℕ → ℕ
  filled = rows_placed before (a * s + b) s rows count new

  -- a cell of the filled rows
  pub cell_in : count ≤ s → (y x : ℕ) → a ≤ y → y < a + rows → b ≤ x → x < b + count → filled (y * s + x) ≡ new (y - a) (x - b)
  cell_in l y x p q r t =
      let e : a * s + b + (y - a) * s + (x - b) ≡ y * s + x =
      let f : a + (y - a) ≡ y = omega arith in omega (arith, add-mul a (y - a) s, ap (λ (n : ℕ). n * s) f) in
      rw e at (rows_in before (a * s + b) s count new l rows (y - a) (x - b) (omega arith) (omega arith))

  row_beside : (y x v : ℕ) → x < s → b + count ≤ s → ¬ ((y ≡ a + v) × (b ≤ x) × (x < b + count)) → (y * s + x < a * s + b + v * s) ⊎ (a * s + b + v * s + count ≤ y * s + x)
  row_beside y x v h l n =
      let e = add-mul a v s in
      by_cases (dec_le (a + v) y)
      (λ p.
      by_cases (dec_le (suc (a + v)) y)
      (λ q. let r : suc (a + v) * s ≤ y * s = mul-le-mul_right s q in inr (omega (arith, suc-mul (a + v) s)))
      (λ q.
      let f : y ≡ a + v = omega arith in
      let g : y * s ≡ (a + v) * s = ap (λ (n : ℕ). n * s) f in
      by_cases (dec_le b x)
      (λ c. by_cases (dec_le (b + count) x) (λ d. inr (omega arith)) (λ d. absurd (n (f, c, omega arith))))
      (λ c. inl (omega arith))))
      (λ p. let r : suc y * s ≤ (a + v) * s = mul-le-mul_right s (omega arith) in inl (omega (arith, suc-mul y s)))

  -- any other cell; where the rows are empty, they may start anywhere
  pub cell_out : (y x : ℕ) → x < s → (0 < count → b + count ≤ s) → ¬ ((a ≤ y) × (y < a + rows) × (b ≤ x) × (x < b + count)) → filled (y * s + x) ≡ before (y * s + x)
  cell_out y x h l n =
      rows_beside before (a * s + b) s count new rows (y * s + x)
      (λ v k.
      by_cases (dec_le count 0)
      (λ z. by_cases (dec_le (a * s + b + v * s + count) (y * s + x)) inr (λ r. inl (omega arith)))
      (λ z. row_beside y x v h (l (omega arith)) (λ o. n (omega (arith, o.0), omega (arith, o.0), o.1, o.2))))

  -- and past the h rows that they lie in
  pub cell_past_lem : (h i : ℕ) → (0 < count → b + count ≤ s) → (0 < rows → a + rows ≤ h) → h * s ≤ i → filled i ≡ before i
  cell_past_lem h i l m k =
      rows_beside before (a * s + b) s count new rows i
      (λ v p.
      by_cases (dec_le count 0)
      (λ z. by_cases (dec_le (a * s + b + v * s + count) i) inr (λ r. inl (omega arith)))
      (λ z.
      let n = m (omega arith) in
      let q : suc (a + v) * s ≤ h * s = mul-le-mul_right s (omega arith) in
      let o = l (omega arith) in
      inr (omega (arith, add-mul a v s, suc-mul (a + v) s))))

-- ---- the cells of a window, whose first is in column 1 of row 1
module _ (w : Window) (before : ℕ → ℕ) (new : ℕ → ℕ → ℕ) where
  abbrev s : ℕ
  s = w.width + 2

  at_one : w.width + 2 + 1 ≡ 1 * s + 1
  at_one = omega arith

  pub window_in : (x y : ℕ) → 1 ≤ x → x ≤ w.width → 1 ≤ y → y ≤ w.height → window_rows w before new (y * s + x) ≡ new (y - 1) (x - 1)
  unfolding window_rows
  window_in x y a b c d = rw at_one (cell_in before s 1 1 w.height w.width new (omega arith) y x c (omega arith) a (omega arith))

  pub window_out : (x y : ℕ) → x < s → ¬ ((1 ≤ x) × (x ≤ w.width) × (1 ≤ y) × (y ≤ w.height)) → window_rows w before new (y * s + x) ≡ before (y * s + x)
  unfolding window_rows
  window_out x y h n =
      rw at_one
      (cell_out before s 1 1 w.height w.width new y x h (λ k. omega arith)
      (λ o. n (o.2, omega (arith, o.3), o.0, omega (arith, o.1))))

  pub window_past : (i : ℕ) → (w.height + 2) * s ≤ i → window_rows w before new i ≡ before i
  unfolding window_rows
  window_past i h = rw at_one (cell_past_lem before s 1 1 w.height w.width new (w.height + 2) i (λ k. omega arith) (λ k. omega arith) h)

-- the cells of a cleared window, and what lies past them
pub cleared_at : (w : Window) (before : ℕ → ℕ) (x y : ℕ) → x < w.width + 2 → y < w.height + 2 → cleared w before (y * (w.width + 2) + x) ≡ 0
unfolding cleared
cleared_at w before x y h k = placed_front before ((w.height + 2) * (w.width + 2)) zeros (y * (w.width + 2) + x) (flat_lt h k)

pub cleared_past : (w : Window) (before : ℕ → ℕ) (i : ℕ) → (w.height + 2) * (w.width + 2) ≤ i → cleared w before i ≡ before i
unfolding cleared
cleared_past w before i h = placed_past before ((w.height + 2) * (w.width + 2)) zeros i h
