-- A row after each way, cell by cell and lane by lane: each level by the one before it, and what stays.
use mathlib.Core.Path.{◌≡◌, refl, ◌∙◌, ap}
use mathlib.Core.Logic.{◌⊎◌, ⊎_elim}
use mathlib.Core.Bool.{Bool}
use Prim.Native.Nat.{ℕ, zero, suc, ◌+◌, ◌-◌, ◌*◌, ◌≤◌, ◌<◌}
use native.Mathlib.Nat.{suc-mul, add-mul, mul-le-mul_right}
use native.Mathlib.Omega.{arith}
use Rattle.walkgraph.proofs.Lists.{placed_in, placed_below, placed_above}
use Rattle.lane.specs.Levels.{out_level, back_level}
use Rattle.ways.specs.Row.{walk_gate, west_gate, east_gate, out_cell, out_row, back_cell, back_row}

-- ---- the way out
module _ (lanes : ℕ) (flag : ℕ → ℕ) (down : Bool) (F : ℕ → ℕ) (own fed place : ℕ) where
  abbrev out : ℕ → ℕ → ℕ
  out n = out_row lanes flag down F own fed place n

  -- below the row nothing changes
  pub out_below : (n j : ℕ) → j < own → out n j ≡ F j
  unfolding out_row out_cell
  out_below zero j h = refl
  out_below (suc n) j h = placed_below (out n) (own + n * lanes) lanes _ j (omega arith) ∙ out_below n j h

  -- nor from its end on
  pub out_above : (n j : ℕ) → own + n * lanes ≤ j → out n j ≡ F j
  unfolding out_row out_cell
  out_above zero j h = refl
  out_above (suc n) j h = let e = suc-mul n lanes in placed_above (out n) (own + n * lanes) lanes _ j (omega arith) ∙ out_above n j (omega arith)

  -- what is done stays
  pub out_stays : (n m j : ℕ) → j < own + n * lanes → out (n + m) j ≡ out n j
  unfolding out_row out_cell
  out_stays n zero j h = let z : n + 0 ≡ n = omega arith in ap (λ (k : ℕ). out k j) z
  out_stays n (suc m) j h =
      let e : n + suc m ≡ suc (n + m) = omega arith in
      let l : n * lanes ≤ (n + m) * lanes = mul-le-mul_right lanes (omega arith) in
      ap (λ (k : ℕ). out k j) e ∙ placed_below (out (n + m)) (own + (n + m) * lanes) lanes _ j (omega arith) ∙ out_stays n m j h

  out_cell_lem : (n k : ℕ) → k < lanes →
      out (suc n) (own + n * lanes + k) ≡
      out_level (out n (own + n * lanes + k)) (out n (fed + n * lanes + k)) (out n (fed + n * lanes - lanes + k)) (out n (fed + n * lanes + lanes + k)) (out n (own + n * lanes - lanes + k)) (west_gate down (flag (place + n))) (east_gate down (flag (place + n))) (walk_gate (flag (place + n)))
  unfolding out_row out_cell
  out_cell_lem n k h = placed_in (out n) (own + n * lanes) lanes _ k h

  -- where the feeding row lies apart
  module _ (w : ℕ) (before : lanes ≤ own) (apart : (fed + w * lanes + lanes ≤ own) ⊎ (own + w * lanes + lanes ≤ fed)) where
    -- the feeding row is read as it was
    fed_same : (n j : ℕ) → n < w → fed ≤ j + lanes → j < fed + w * lanes + lanes → out n j ≡ F j
    fed_same n j h a b =
        let l : n * lanes ≤ w * lanes = mul-le-mul_right lanes (omega arith) in
        ⊎_elim (λ p. out_below n j (omega arith)) (λ p. out_above n j (omega arith)) apart

    pub out_at : (n k : ℕ) → n < w → k < lanes →
        out w (own + n * lanes + k) ≡
        out_level (F (own + n * lanes + k)) (F (fed + n * lanes + k)) (F (fed + n * lanes - lanes + k)) (F (fed + n * lanes + lanes + k)) (out w (own + n * lanes - lanes + k)) (west_gate down (flag (place + n))) (east_gate down (flag (place + n))) (walk_gate (flag (place + n)))
    out_at n k h i =
        let e = suc-mul n lanes in
        let r : suc n * lanes ≤ w * lanes = mul-le-mul_right lanes h in
        let p : suc n + (w - suc n) ≡ w = omega arith in
        let q : n + (w - n) ≡ w = omega arith in
        let a : out w (own + n * lanes + k) ≡ out (suc n) (own + n * lanes + k) = rw p at (out_stays (suc n) (w - suc n) (own + n * lanes + k) (omega arith)) in
        let b : out w (own + n * lanes - lanes + k) ≡ out n (own + n * lanes - lanes + k) = rw q at (out_stays n (w - n) (own + n * lanes - lanes + k) (omega arith)) in
        a ∙ out_cell_lem n k i
        ∙ rw (
          out_above n (own + n * lanes + k) (omega arith),
          fed_same n (fed + n * lanes + k) h (omega arith) (omega arith),
          fed_same n (fed + n * lanes - lanes + k) h (omega arith) (omega arith),
          fed_same n (fed + n * lanes + lanes + k) h (omega arith) (omega arith),
          ← b,
        )

-- ---- the way back, over w cells from `own` on
module _ (lanes : ℕ) (flag : ℕ → ℕ) (F : ℕ → ℕ) (own place w : ℕ) where
  abbrev back : ℕ → ℕ → ℕ
  back n = back_row lanes flag F (own + w * lanes) (place + w) n

  -- cell w - 1 - n is at own + (w - 1 - n) * lanes
  from_end : (n : ℕ) → n < w → own + w * lanes - suc n * lanes ≡ own + (w - suc n) * lanes
  from_end n h =
      let e : w ≡ suc n + (w - suc n) = omega arith in
      let f : (suc n + (w - suc n)) * lanes ≡ suc n * lanes + (w - suc n) * lanes = add-mul (suc n) (w - suc n) lanes in
      let g : w * lanes ≡ suc n * lanes + (w - suc n) * lanes = ap (λ (z : ℕ). z * lanes) e ∙ f in
      omega arith

  pub back_above : (n j : ℕ) → own + w * lanes ≤ j → n ≤ w → back n j ≡ F j
  unfolding back_row back_cell
  back_above zero j h k = refl
  back_above (suc n) j h k =
      let r : suc n * lanes ≤ w * lanes = mul-le-mul_right lanes k in
      let e = suc-mul n lanes in
      placed_above (back n) (own + w * lanes - suc n * lanes) lanes _ j (omega arith) ∙ back_above n j h (omega arith)

  -- what is not reached yet is as it was
  pub back_below : (n j : ℕ) → n ≤ w → j < own + w * lanes - n * lanes → back n j ≡ F j
  unfolding back_row back_cell
  back_below zero j h k = refl
  back_below (suc n) j h k =
      let e = suc-mul n lanes in
      placed_below (back n) (own + w * lanes - suc n * lanes) lanes _ j (omega arith) ∙ back_below n j (omega arith) (omega arith)

  -- what is done stays
  back_stays : (n m j : ℕ) → n + m ≤ w → own + w * lanes - n * lanes ≤ j → back (n + m) j ≡ back n j
  unfolding back_row back_cell
  back_stays n zero j h k = let z : n + 0 ≡ n = omega arith in ap (λ (i : ℕ). back i j) z
  back_stays n (suc m) j h k =
      let e : n + suc m ≡ suc (n + m) = omega arith in
      let f = suc-mul (n + m) lanes in
      let l : n * lanes ≤ (n + m) * lanes = mul-le-mul_right lanes (omega arith) in
      let r : suc (n + m) * lanes ≤ w * lanes = mul-le-mul_right lanes (omega arith) in
      ap (λ (i : ℕ). back i j) e ∙ placed_above (back (n + m)) (own + w * lanes - suc (n + m) * lanes) lanes _ j (omega arith) ∙ back_stays n m j (omega arith) k

  back_cell_lem : (n k : ℕ) → k < lanes →
      back (suc n) (own + w * lanes - suc n * lanes + k) ≡
      back_level (back n (own + w * lanes - suc n * lanes + k)) (back n (own + w * lanes - suc n * lanes + lanes + k)) (walk_gate (flag (place + w - suc n)))
  unfolding back_row back_cell
  back_cell_lem n k h = placed_in (back n) (own + w * lanes - suc n * lanes) lanes _ k h

  -- the cell i of the row
  pub back_at_lem : (i k : ℕ) → i < w → k < lanes →
      back w (own + i * lanes + k) ≡ back_level (F (own + i * lanes + k)) (back w (own + i * lanes + lanes + k)) (walk_gate (flag (place + i)))
  back_at_lem i k h l =
      let n = w - suc i in
      let v : w - suc n ≡ i = omega arith in
      let e : own + w * lanes - suc n * lanes ≡ own + i * lanes = from_end n (omega arith) ∙ ap (λ (z : ℕ). own + z * lanes) v in
      let f : place + w - suc n ≡ place + i = omega arith in
      let g = suc-mul n lanes in
      let d : suc n * lanes ≤ w * lanes = mul-le-mul_right lanes (omega arith) in
      let p : suc n + (w - suc n) ≡ w = omega arith in
      let q : n + (w - n) ≡ w = omega arith in
      let a : back w (own + i * lanes + k) ≡ back (suc n) (own + i * lanes + k) = rw p at (back_stays (suc n) (w - suc n) (own + i * lanes + k) (omega arith) (omega arith)) in
      let b : back w (own + i * lanes + lanes + k) ≡ back n (own + i * lanes + lanes + k) = rw q at (back_stays n (w - n) (own + i * lanes + lanes + k) (omega arith) (omega arith)) in
      a ∙ (rw (e, f) at (back_cell_lem n k l)) ∙ rw (back_below n (own + i * lanes + k) (omega arith) (omega arith), ← b)
