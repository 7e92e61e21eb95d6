-- Moves between cells, as indices, points and steps.
use mathlib.Core.Path.{◌≡◌, sym, ap}
use mathlib.Core.List.{List}
use Prim.Native.Nat.{ℕ, suc, ◌+◌, ◌*◌, ◌-◌, ◌/◌, ◌%◌, ◌≤◌, ◌<◌}
use native.Mathlib.Nat.{add-mul, suc-mul}
use native.Mathlib.Decide.{ℕ_discrete}
use native.Mathlib.Omega.{arith}
use lib.Dec.{T, ltb, ltb→lt, lt→ltb}
use lib.Arith.{digits_div, digits_mod}
use Rattle.walkgraph.specs.Walk.{distance, Step, straight, diagonal}
use Rattle.walkgraph.proofs.Tests.{by_cases, and_left, and_right, and_pair}
use Rattle.walklaws.proofs.SearchEnd.{Adj}
use Rattle.disjoint.specs.Forest.{of}
use Rattle.cellstate.specs.Looks.{opens}
use Rattle.visits.specs.SearchState.{Walks}

-- a row b - 1 below, or above, row y
pub row_moved : (w y b : ℕ) → 1 ≤ y + b → (y + b - 1) * w + w ≡ y * w + b * w
row_moved w y b h =
    let z = y + b - 1 in
    let e : suc z ≡ y + b = omega arith in
    let f = suc-mul z w in
    let g = add-mul y b w in
    omega (arith, f, g, ap (λ a. a * w) e)

-- the index of the cell that a move leads to
pub next_is : (w x y a b : ℕ) → 1 ≤ x + a → 1 ≤ y + b → (y * w + x) + (b * w + a) - w - 1 ≡ (y + b - 1) * w + (x + a - 1)
next_is w x y a b h k = omega (arith, row_moved w y b k)

-- the point of the cell that a move leads to
pub point_next : (p a b w : ℕ) → w ≤ 1024 → 1 ≤ p % 1024 + a → p % 1024 + a ≤ w → 1 ≤ p / 1024 + b →
    ((p + (b * 1024 + a) - 1025) % 1024 ≡ p % 1024 + a - 1) × ((p + (b * 1024 + a) - 1025) / 1024 ≡ p / 1024 + b - 1)
point_next p a b w h i j k = (omega arith, omega arith)

-- a move leads by one column, or by none
stays : (x a : ℕ) → a ≡ 1 → distance x (x + a - 1) ≡ 0
unfolding distance
stays x a e = omega arith

moves : (x a : ℕ) → 1 ≤ x + a → a ≤ 2 → (a ≡ 1 → ⊥) → distance x (x + a - 1) ≡ 1
unfolding distance
moves x a h k n = omega arith

-- a move that stays in the map
pub record Inside (width height x y a b : ℕ) : Type 0 where
  pub low_x : 1 ≤ x + a
  pub high_x : x + a ≤ width
  pub low_y : 1 ≤ y + b
  pub high_y : y + b ≤ height
  pub small_a : a ≤ 2
  pub small_b : b ≤ 2
  pub apart : a ≡ 1 → b ≡ 1 → ⊥

module _ (width height : ℕ) (states : List ℕ) (x y a b : ℕ) (in-x : x < width) (in-y : y < height) (m : Inside width height x y a b) where
  abbrev u : ℕ
  u = x + a - 1

  abbrev v : ℕ
  v = y + b - 1

  -- an open move is a step
  pub open_step : 0 < of states (y * width + x) → T (opens states (v * width + u) (v * width + x) (y * width + u)) →
      Adj width (Walks width height states) (y * width + x) (v * width + u)
  unfolding opens
  open_step here t =
      let p = and_left (ltb 0 (of states (v * width + u))) _ t in
      let q = and_right (ltb 0 (of states (v * width + u))) _ t in
      let far : Walks width height states u v = record { column = omega arith; row = omega arith; walks = ltb→lt 0 _ p } in
      let side : Walks width height states x v = record { column = in-x; row = omega arith; walks = ltb→lt 0 _ (and_left (ltb 0 (of states (v * width + x))) _ q) } in
      let side2 : Walks width height states u y = record { column = omega arith; row = in-y; walks = ltb→lt 0 _ (and_right (ltb 0 (of states (v * width + x))) _ q) } in
      let near : Walks width height states x y = record { column = in-x; row = in-y; walks = here } in
      let e = digits_mod y in-x in
      let f = digits_div y in-x in
      let lu : u < width = omega arith in
      let g = digits_mod v lu in
      let h = digits_div v lu in
      by_cases (ℕ_discrete a 1)
      (λ i.
      let p : distance x u + distance y v ≡ 1 = omega (arith, stays x a i, moves y b m.low_y m.small_b (m.apart i)) in
      record { k = 500; first = rw (e, f) near; last = rw (g, h) far; step = rw (e, f, g, h) (straight p) })
      (λ i.
      by_cases (ℕ_discrete b 1)
      (λ j.
      let p : distance x u + distance y v ≡ 1 = omega (arith, stays y b j, moves x a m.low_x m.small_a i) in
      record { k = 500; first = rw (e, f) near; last = rw (g, h) far; step = rw (e, f, g, h) (straight p) })
      (λ j. record { k = 707; first = rw (e, f) near; last = rw (g, h) far; step = rw (e, f, g, h) (diagonal (moves x a m.low_x m.small_a i) (moves y b m.low_y m.small_b j) side side2) }))

-- a step is an open move
pub record Opened (width height : ℕ) (states : List ℕ) (x y t : ℕ) : Type 0 where
  pub a : ℕ
  pub b : ℕ
  pub inside : Inside width height x y a b
  pub cell : (y + b - 1) * width + (x + a - 1) ≡ t
  pub opened : T (opens states ((y + b - 1) * width + (x + a - 1)) ((y + b - 1) * width + x) (y * width + (x + a - 1)))

near_one : (x u : ℕ) → distance x u ≤ 1 → (1 ≤ x + (u + 1 - x)) × (u + 1 - x ≤ 2) × (x + (u + 1 - x) - 1 ≡ u) × (x ≤ u + 1)
unfolding distance
near_one x u h = let k : x ≤ u + 1 = omega arith in (omega arith, omega arith, omega arith, k)

-- opens at the three cells
three : (states : List ℕ) (a b c : ℕ) → 0 < of states a → 0 < of states b → 0 < of states c → T (opens states a b c)
unfolding opens
three states a b c p q r =
    and_pair (ltb 0 (of states a)) _ (lt→ltb 0 _ p) (and_pair (ltb 0 (of states b)) _ (lt→ltb 0 _ q) (lt→ltb 0 _ r))

one_apart : (x u : ℕ) → distance x u ≡ 1 → u + 1 - x ≡ 1 → ⊥
unfolding distance
one_apart x u e f = omega arith

none_apart : (x u : ℕ) → distance x u ≡ 0 → x ≡ u
unfolding distance
none_apart x u e = omega arith

module _ {width height : ℕ} {states : List ℕ} {x y u v : ℕ} (near : Walks width height states x y) (far : Walks width height states u v) where
  opened_by : distance x u ≤ 1 → distance y v ≤ 1 → (u + 1 - x ≡ 1 → v + 1 - y ≡ 1 → ⊥) → 0 < of states (v * width + x) → 0 < of states (y * width + u) →
      Opened width height states x y (v * width + u)
  opened_by h k n p q =
      let e = near_one x u h in
      let f = near_one y v k in
      record {
        a = u + 1 - x;
        b = v + 1 - y;
        inside = record {
          low_x = e.0;
          high_x = omega (arith, e.3, far.column);
          low_y = f.0;
          high_y = omega (arith, f.3, far.row);
          small_a = e.1;
          small_b = f.1;
          apart = n;
        };
        cell = rw (e.2, f.2);
        opened = rw (e.2, f.2) (three states (v * width + u) (v * width + x) (y * width + u) far.walks p q);
      }

  pub step_opened : {k : ℕ} → Step (Walks width height states) x y u v k → Opened width height states x y (v * width + u)
  step_opened (straight e) =
      by_cases (ℕ_discrete (distance x u) 0)
      (λ h.
      let i = none_apart x u h in
      opened_by (omega arith) (omega arith) (λ p q. one_apart y v (omega arith) q) (rw i far.walks) (rw (sym i) near.walks))
      (λ h.
      let i = none_apart y v (omega arith) in
      opened_by (omega arith) (omega arith) (λ p q. one_apart x u (omega arith) p) (rw (sym i) near.walks) (rw i far.walks))
  step_opened (diagonal e f o q) = opened_by (omega arith) (omega arith) (λ p r. one_apart x u e p) o.walks q.walks
