-- What painting leaves at each cell of the window: 0 where a blocker covers it, and what was there elsewhere.
use mathlib.Core.Path.{◌≡◌, refl, ◌∙◌}
use mathlib.Core.Bool.{Bool, true, false, cond, ◌&&◌, ◌||◌}
use mathlib.Core.List.{List}
use Prim.Native.Nat.{ℕ, zero, suc, ◌+◌, ◌*◌, ◌-◌, ◌/◌, ◌≤◌, ◌<◌}
use native.Mathlib.Decide.{dec_le}
use native.Mathlib.Omega.{arith}
use lib.IntN.{ℤ}
use lib.Dec.{T, leb, ltb, leb→le, le→leb, ltb→lt, lt→ltb, not_T}
use borrow.Author.Tests.{lt-ltb}
use Rattle.walkgraph.specs.Painting.{rectangle, spans, covers, covered}
use Rattle.walkgraph.proofs.Tests.{by_cases, dec_t, and_left, and_right, and_pair, cond_true, cond_false}
use Rattle.window.specs.declared.record.Window.{Window}
use Rattle.window.specs.Fills.{zeros, rows_placed}
use Rattle.walkbytes.specs.Painting.{from_cell, past_cell, box_painted, blocker_painted, blockers_painted}
use Rattle.walkbytes.proofs.Boxed.{box_thin, box_flat}
use Rattle.window.proofs.Places.{cell_in, cell_out, cell_past_lem}

-- the cell (x, y) of the map is covered by clamped pixels, as a test and as facts
abbrev cover_test : (left top right bottom x y : ℕ) → Bool
cover_test left top right bottom x y = ltb left right && ltb top bottom && spans left right x && spans top bottom y

record Covers (left top right bottom x y : ℕ) : Type 0 where
  pub wide : left < right
  pub high : top < bottom
  pub from_left : left / 8 ≤ x
  pub to_right : x < (right + 7) / 8
  pub from_top : top / 8 ≤ y
  pub to_bottom : y < (bottom + 7) / 8

module _ (left top right bottom x y : ℕ) where
  cover_facts : T (cover_test left top right bottom x y) → Covers left top right bottom x y
  unfolding spans
  cover_facts t =
      let i = and_left (ltb left right && ltb top bottom && spans left right x) (spans top bottom y) t in
      let j = and_left (ltb left right && ltb top bottom) (spans left right x) i in
      let k = and_right (ltb left right && ltb top bottom) (spans left right x) i in
      let l = and_right (ltb left right && ltb top bottom && spans left right x) (spans top bottom y) t in
      record {
        wide = ltb→lt left right (and_left (ltb left right) (ltb top bottom) j);
        high = ltb→lt top bottom (and_right (ltb left right) (ltb top bottom) j);
        from_left = leb→le _ _ (and_left (leb (left / 8) x) (ltb x ((right + 7) / 8)) k);
        to_right = ltb→lt _ _ (and_right (leb (left / 8) x) (ltb x ((right + 7) / 8)) k);
        from_top = leb→le _ _ (and_left (leb (top / 8) y) (ltb y ((bottom + 7) / 8)) l);
        to_bottom = ltb→lt _ _ (and_right (leb (top / 8) y) (ltb y ((bottom + 7) / 8)) l);
      }

  facts_cover : Covers left top right bottom x y → T (cover_test left top right bottom x y)
  unfolding spans
  facts_cover c =
      and_pair (ltb left right && ltb top bottom && spans left right x) (spans top bottom y)
      (and_pair (ltb left right && ltb top bottom) (spans left right x)
      (and_pair (ltb left right) (ltb top bottom) (lt→ltb _ _ c.wide) (lt→ltb _ _ c.high))
      (and_pair (leb (left / 8) x) (ltb x ((right + 7) / 8)) (le→leb _ _ c.from_left) (lt→ltb _ _ c.to_right)))
      (and_pair (leb (top / 8) y) (ltb y ((bottom + 7) / 8)) (le→leb _ _ c.from_top) (lt→ltb _ _ c.to_bottom))

-- ---- one box
module _ (w : Window) (left top right bottom : ℕ) (before : ℕ → ℕ) where
  abbrev s : ℕ
  s = w.width + 2

  abbrev a : ℕ
  a = from_cell top w.top - w.top + 1

  abbrev b : ℕ
  b = from_cell left w.left - w.left + 1

  abbrev rows : ℕ
  rows = past_cell bottom w.top w.height - from_cell top w.top

  abbrev count : ℕ
  count = past_cell right w.left w.width - from_cell left w.left

  box_rows : left < right → top < bottom → box_painted w left top right bottom before ≡ rows_placed before (a * s + b) s rows count (λ y. zeros)
  unfolding box_painted
  box_rows h k = rw (lt-ltb left right h, lt-ltb top bottom k)

  narrow : 0 < count → b + count ≤ s
  narrow h = omega arith

  -- where both sides have cells, or not
  by_sides : (P : (ℕ → ℕ) → Type 0) → P before → (left < right → top < bottom → P (rows_placed before (a * s + b) s rows count (λ y. zeros))) → P (box_painted w left top right bottom before)
  by_sides P p q =
      by_cases (dec_le (suc left) right)
      (λ h. by_cases (dec_le (suc top) bottom) (λ k. rw (box_rows h k) (q h k)) (λ k. rw (← box_flat w left top right bottom before h (omega arith)) p))
      (λ h. rw (← box_thin w left top right bottom before (omega arith)) p)

  box_in : (x y : ℕ) → 1 ≤ x → x ≤ w.width → 1 ≤ y → y ≤ w.height →
      box_painted w left top right bottom before (y * s + x) ≡ cond (cover_test left top right bottom (w.left + x - 1) (w.top + y - 1)) 0 (before (y * s + x))
  box_in x y e f g h =
      by_cases (dec_t (cover_test left top right bottom (w.left + x - 1) (w.top + y - 1)))
      (λ t.
      let c = cover_facts left top right bottom (w.left + x - 1) (w.top + y - 1) t in
      let i = c.from_left in
      let j = c.to_right in
      let k = c.from_top in
      let l = c.to_bottom in
      rw (box_rows c.wide c.high, cond_true (cover_test left top right bottom (w.left + x - 1) (w.top + y - 1)) 0 (before (y * s + x)) t)
      (cell_in before s a b rows count (λ y. zeros) (omega arith) y x (omega arith) (omega arith) (omega arith) (omega arith)))
      (λ n.
      rw (cond_false (cover_test left top right bottom (w.left + x - 1) (w.top + y - 1)) 0 (before (y * s + x)) (not_T (cover_test left top right bottom (w.left + x - 1) (w.top + y - 1)) n))
      (by_sides (λ (F : ℕ → ℕ). F (y * s + x) ≡ before (y * s + x)) refl
      (λ p q.
      cell_out before s a b rows count (λ y. zeros) y x (omega arith) narrow
      (λ o.
      let i = o.0 in
      let j = o.1 in
      let k = o.2 in
      let l = o.3 in
      n
      (facts_cover left top right bottom (w.left + x - 1) (w.top + y - 1)
      (record { wide = p; high = q; from_left = omega arith; to_right = omega arith; from_top = omega arith; to_bottom = omega arith }))))))

  box_out : (x y : ℕ) → x < s → ¬ ((1 ≤ x) × (x ≤ w.width) × (1 ≤ y) × (y ≤ w.height)) → box_painted w left top right bottom before (y * s + x) ≡ before (y * s + x)
  box_out x y h n =
      by_sides (λ (F : ℕ → ℕ). F (y * s + x) ≡ before (y * s + x)) refl
      (λ p q.
      cell_out before s a b rows count (λ y. zeros) y x h narrow
      (λ o.
      let i = o.0 in
      let j = o.1 in
      let k = o.2 in
      let l = o.3 in
      n (omega arith, omega arith, omega arith, omega arith)))

  box_past : (i : ℕ) → (w.height + 2) * s ≤ i → box_painted w left top right bottom before i ≡ before i
  box_past i h =
      by_sides (λ (F : ℕ → ℕ). F i ≡ before i) refl
      (λ p q. cell_past_lem before s a b rows count (λ y. zeros) (w.height + 2) i narrow (λ k. omega arith) h)

-- ---- one after the other
either : (a b : Bool) (v : ℕ) → cond a 0 (cond b 0 v) ≡ cond (a || b) 0 v
either true b v = refl
either false b v = refl

module _ (w : Window) (width height : ℕ) (blockers : List ℤ) (before : ℕ → ℕ) where
  pub painted_in : (n x y : ℕ) → 1 ≤ x → x ≤ w.width → 1 ≤ y → y ≤ w.height →
      blockers_painted w width height blockers n before (y * (w.width + 2) + x) ≡
      cond (covered width height blockers n (w.left + x - 1) (w.top + y - 1)) 0 (before (y * (w.width + 2) + x))
  unfolding blockers_painted blocker_painted covered covers
  painted_in zero x y e f g h = refl
  painted_in (suc n) x y e f g h =
      box_in w _ _ _ _ (blockers_painted w width height blockers n before) x y e f g h
      ∙ rw (painted_in n x y e f g h) (either (covers width height (rectangle blockers n) (w.left + x - 1) (w.top + y - 1)) (covered width height blockers n (w.left + x - 1) (w.top + y - 1)) _)

  pub painted_out : (n x y : ℕ) → x < w.width + 2 → ¬ ((1 ≤ x) × (x ≤ w.width) × (1 ≤ y) × (y ≤ w.height)) →
      blockers_painted w width height blockers n before (y * (w.width + 2) + x) ≡ before (y * (w.width + 2) + x)
  unfolding blockers_painted blocker_painted
  painted_out zero x y h k = refl
  painted_out (suc n) x y h k = box_out w _ _ _ _ (blockers_painted w width height blockers n before) x y h k ∙ painted_out n x y h k

  pub painted_past : (n i : ℕ) → (w.height + 2) * (w.width + 2) ≤ i → blockers_painted w width height blockers n before i ≡ before i
  unfolding blockers_painted blocker_painted
  painted_past zero i h = refl
  painted_past (suc n) i h = box_past w _ _ _ _ (blockers_painted w width height blockers n before) i h ∙ painted_past n i h
