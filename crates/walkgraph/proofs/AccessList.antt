-- The access cells as a list: it has the walkable ring cells, each once, by row, then column.
use mathlib.Core.Path.{◌≡◌, ap}
use mathlib.Core.Logic.{⊎_elim}
use mathlib.Core.Bool.{Bool, not}
use mathlib.Core.List.{List, [], ◌∷◌, ◌++◌, Memᴰ}
use Prim.Native.Nat.{ℕ, zero, suc, ◌+◌, ◌*◌, ◌-◌, ◌≤◌, ◌<◌}
use native.Mathlib.Nat.{suc-mul}
use native.Mathlib.Decide.{ℕ_discrete}
use native.Mathlib.Omega.{arith}
use lib.Dec.{T, T_not}
use Rattle.walkgraph.specs.Map.{walkable, in_box}
use Rattle.walkgraph.specs.Painting.{Rectangle}
use Rattle.walkgraph.specs.Ring.{body, ring_box, ring, access, places_in_row, places_in_rows, access_cells}
use Rattle.walkgraph.proofs.Tests.{by_cases, cond_ind, and_left}
use Rattle.walkgraph.proofs.Boxes.{in_box_lem}

-- the numbers of a list rise, from `low` on and all below `high`
pub data Rising : ℕ → ℕ → List ℕ → Type 0 where
  done : {low high : ℕ} → low ≤ high → Rising low high []
  next : {low high i : ℕ} {l : List ℕ} → low ≤ i → Rising (suc i) high l → Rising low high (i ∷ l)

rising_from : {low low' high : ℕ} {l : List ℕ} → low' ≤ low → Rising low high l → Rising low' high l
rising_from {low} {low'} {high} h (done k) = let e : low' ≤ high = omega arith in done e
rising_from {low} {low'} h (next {i = i} k r) = let e : low' ≤ i = omega arith in next e r

rising_append : {low mid high : ℕ} {s t : List ℕ} → Rising low mid s → Rising mid high t → Rising low high (s ++ t)
rising_append (done k) q = rising_from k q
rising_append (next k r) q = next k (rising_append r q)

module _ (width : ℕ) (test : ℕ → ℕ → Bool) where
  -- ---- one row
  row_listed : (y x n u : ℕ) → x ≤ u → u < x + n → T (test u y) → Memᴰ (y * width + u) (places_in_row width test y x n)
  unfolding places_in_row
  row_listed y x zero u h k t = absurd (omega arith)
  row_listed y x (suc n) u h k t =
      let ih : suc x ≤ u → Memᴰ (y * width + u) (places_in_row width test y (suc x) n) = λ q. row_listed y (suc x) n u q (omega arith) t in
      by_cases (ℕ_discrete u x)
      (λ e.
      cond_ind (λ l. Memᴰ (y * width + u) l) (test x y)
      (λ s. mathlib.Core.List.Memᴰ.head (ap (λ (u : ℕ). y * width + u) e))
      (λ s. absurd (T_not (test x y) s (rw e at t))))
      (λ e. cond_ind (λ l. Memᴰ (y * width + u) l) (test x y) (λ s. mathlib.Core.List.Memᴰ.tail (ih (omega arith))) (λ s. ih (omega arith)))

  listed_row : (y x n i : ℕ) → Memᴰ i (places_in_row width test y x n) → (u : ℕ) × (x ≤ u) × (u < x + n) × T (test u y) × (i ≡ y * width + u)
  unfolding places_in_row
  listed_row y x zero i = λ m. absurd (mathlib.Core.List.Memᴰ.not-nil m)
  listed_row y x (suc n) i =
      let later : Memᴰ i (places_in_row width test y (suc x) n) → (u : ℕ) × (x ≤ u) × (u < x + suc n) × T (test u y) × (i ≡ y * width + u) =
      λ m. let r = listed_row y (suc x) n i m in (r.0, omega (arith, r.1), omega (arith, r.2), r.3, r.4) in
      cond_ind (λ l. Memᴰ i l → (u : ℕ) × (x ≤ u) × (u < x + suc n) × T (test u y) × (i ≡ y * width + u)) (test x y)
      (λ s m. ⊎_elim (λ e. (x, omega arith, omega arith, s, e)) later (mathlib.Core.List.Memᴰ.cases_cons m))
      (λ s. later)

  row_rising : (y x n : ℕ) → Rising (y * width + x) (y * width + x + n) (places_in_row width test y x n)
  unfolding places_in_row
  row_rising y x zero = let e : y * width + x ≤ y * width + x + 0 = omega arith in done e
  row_rising y x (suc n) =
      let e : y * width + suc x ≡ suc (y * width + x) = omega arith in
      let f : suc (y * width + x) + n ≡ y * width + x + suc n = omega arith in
      let ih = row_rising y (suc x) n in
      let r : Rising (suc (y * width + x)) (y * width + x + suc n) (places_in_row width test y (suc x) n) = rw (e, f) at ih in
      cond_ind (Rising (y * width + x) (y * width + x + suc n)) (test x y)
      (λ s. let k : y * width + x ≤ y * width + x = omega arith in next k r)
      (λ s. rising_from (omega arith) r)

  -- ---- rows
  rows_listed : (x columns y n u v : ℕ) → x ≤ u → u < x + columns → y ≤ v → v < y + n → T (test u v) → Memᴰ (v * width + u) (places_in_rows width test x columns y n)
  unfolding places_in_rows
  rows_listed x columns y zero u v h k i j t = absurd (omega arith)
  rows_listed x columns y (suc n) u v h k i j t =
      let ih : suc y ≤ v → Memᴰ (v * width + u) (places_in_rows width test x columns (suc y) n) = λ q. rows_listed x columns (suc y) n u v h k q (omega arith) t in
      by_cases (ℕ_discrete v y)
      (λ e. rw e (mathlib.Core.List.Memᴰ.append_left {s = places_in_row width test y x columns} (places_in_rows width test x columns (suc y) n) (row_listed y x columns u h k (rw e at t))))
      (λ e. mathlib.Core.List.Memᴰ.append_right (places_in_row width test y x columns) (ih (omega arith)))

  listed_rows : (x columns y n i : ℕ) → Memᴰ i (places_in_rows width test x columns y n) → (u : ℕ) × (v : ℕ) × T (test u v) × (i ≡ v * width + u)
  unfolding places_in_rows
  listed_rows x columns y zero i m = absurd (mathlib.Core.List.Memᴰ.not-nil m)
  listed_rows x columns y (suc n) i m =
      let ih = listed_rows x columns (suc y) n i in
      ⊎_elim
      (λ q. let r = listed_row y x columns i q in (r.0, y, r.3, r.4))
      ih
      (mathlib.Core.List.Memᴰ.append_cases (places_in_row width test y x columns) m)

  rows_rising : (x columns y n : ℕ) → columns ≤ width → Rising (y * width + x) ((y + n) * width + x) (places_in_rows width test x columns y n)
  unfolding places_in_rows
  rows_rising x columns y zero h = let e : y + 0 ≡ y = omega arith in let k : y * width + x ≤ y * width + x = omega arith in rw e (done k)
  rows_rising x columns y (suc n) h =
      let e : suc y + n ≡ y + suc n = omega arith in
      let f : suc y * width ≡ y * width + width = suc-mul y width in
      let ih = rows_rising x columns (suc y) n h in
      rising_append (row_rising y x columns) (rising_from (omega arith) (rw e at ih))

module _ (width height : ℕ) (cells : List ℕ) (r : Rectangle) where
  -- each access cell is listed
  pub access_listed : (x y : ℕ) → T (access width height cells r x y) → Memᴰ (y * width + x) (access_cells width height cells r)
  unfolding access_cells access ring
  access_listed x y t =
      let b = ring_box width height r in
      let i = in_box_lem b x y (and_left (in_box b x y) (not (in_box (body r) x y)) (and_left (ring width height r x y) (walkable width height cells x y) t)) in
      rows_listed width (access width height cells r) b.left (b.right + 1 - b.left) b.top (b.bottom + 1 - b.top) x y i.0 (omega arith) i.2 (omega arith) t

  -- and nothing else
  pub listed_access : (i : ℕ) → Memᴰ i (access_cells width height cells r) → (x : ℕ) × (y : ℕ) × T (access width height cells r x y) × (i ≡ y * width + x)
  unfolding access_cells
  listed_access i m =
      let b = ring_box width height r in
      listed_rows width (access width height cells r) b.left (b.right + 1 - b.left) b.top (b.bottom + 1 - b.top) i m

  -- by row, then column: the indices rise
  pub access_rising : 0 < width → (low : ℕ) × (high : ℕ) × Rising low high (access_cells width height cells r)
  unfolding access_cells ring_box
  access_rising h =
      let b = ring_box width height r in
      (_, _, rows_rising width (access width height cells r) b.left (b.right + 1 - b.left) b.top (b.bottom + 1 - b.top) (omega arith))
