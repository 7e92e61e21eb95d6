-- Painting a box of cells, and one box after the other.
use mathlib.Core.Path.{◌≡◌, refl, sym}
use mathlib.Core.List.{List}
use Prim.Native.Nat.{ℕ, ◌+◌, ◌*◌, ◌-◌, ◌/◌, ◌≤◌, ◌<◌, min, max}
use native.Mathlib.Nat.{mul-le-mul, add-mul}
use native.Mathlib.Numerals.{add-one}
use native.Mathlib.Omega.{arith}
use lib.IntN.{ℤ, pos, negsuc}
use borrow.Author.Tests.{lt-ltb, le-ltb}
use Rattle.walkgraph.specs.Painting.{Rectangle, rectangle, clamp}
use Rattle.walkgraph.proofs.Places.{flat_lt}
use Rattle.window.specs.declared.record.Window.{Window}
use Rattle.window.specs.Fills.{zeros, rows_placed}
use Rattle.paintrows.specs.PaintRows.{PaintRows}
use Rattle.walkbytes.specs.Painting.{Paints, Pixels, from_cell, past_cell, box_painted, blocker_painted, blockers_painted}

clamp_most : (limit : ℕ) (z : ℤ) → clamp limit z ≤ limit
unfolding clamp
clamp_most limit (pos n) = omega arith
clamp_most limit (negsuc n) = omega arith

pub clamped : {pixel : ℕ} (size : ℕ) (z : ℤ) → size ≤ 1024 → pixel ≡ clamp (8 * size) z → pixel ≤ 8192
clamped size z h e = omega (arith, clamp_most (8 * size) z)

product_most : (a s : ℕ) → a ≤ 1025 → s ≤ 1026 → a * s ≤ 1051650
product_most a s p q = mul-le-mul p q

-- the first painted cell of a box is in the window or past it, and on the map
pub record BoxNumbers (w : Window) (x0 y0 : ℕ) : Type 0 where
  pub after_left : w.left ≤ x0
  pub after_top : w.top ≤ y0
  pub column : x0 ≤ 1024
  pub row : y0 ≤ 1024

first_cell : (pixel cell start x0 : ℕ) → pixel ≤ 8192 → cell ≡ pixel / 8 → start ≤ 1024 → x0 ≡ max cell start → (start ≤ x0) × (x0 ≤ 1024)
first_cell pixel cell start x0 h e k f = (omega arith, omega arith)

pub box_numbers : {w : Window} {walk left top right bottom : ℕ} → Paints w walk → Pixels left top right bottom → (column row x0 y0 : ℕ) →
    column ≡ left / 8 → x0 ≡ max column w.left → row ≡ top / 8 → y0 ≡ max row w.top → BoxNumbers w x0 y0
box_numbers {w} {walk} {left} {top} p q column row x0 y0 f g h i =
    let a = first_cell left column w.left x0 q.from_left f (omega (arith, p.columns)) g in
    let b = first_cell top row w.top y0 q.from_top h (omega (arith, p.rows)) i in
    record { after_left = a.0; after_top = b.0; column = a.1; row = b.1 }

-- one past the last painted column or row is not past the window's
pub within : (cell end x1 : ℕ) → x1 ≡ min cell end → x1 ≤ end
within cell end x1 e = omega arith

-- the cells from (x0, y0) up to (x1, y1), in the window
pub box_fits : {w : Window} {walk : ℕ} → Paints w walk → (s x0 y0 x1 y1 : ℕ) → s ≡ w.width + 2 → w.left ≤ x0 → x0 ≤ 1024 → w.top ≤ y0 → y0 ≤ 1024 →
    x1 ≤ w.left + w.width → y1 ≤ w.top + w.height → PaintRows s ((y0 - w.top + 1) * s + (x0 - w.left + 1)) (y1 - y0) (x1 - x0) walk
box_fits {w} {walk} p s x0 y0 x1 y1 e a b c d f g =
    let i = p.columns in
    let j = p.rows in
    let k = product_most (y0 - w.top + 1) s (omega arith) (omega arith) in
    let l = product_most (y1 - y0) s (omega arith) (omega arith) in
    record {
      fits = omega arith;
      each = λ y x q r.
          let m : (y0 - w.top + 1 + y) * s + (x0 - w.left + 1 + x) < (w.height + 2) * s =
          let t : x0 - w.left + 1 + x < s = omega arith in
          let u : y0 - w.top + 1 + y < w.height + 2 = omega arith in flat_lt t u in
          let n : (w.height + 2) * s ≤ walk = rw e p.room in
          omega (arith, add-mul (y0 - w.top + 1) y s);
    }

module _ (w : Window) (left top right bottom : ℕ) (before : ℕ → ℕ) where
  pub box_thin : right ≤ left → before ≡ box_painted w left top right bottom before
  unfolding box_painted
  box_thin h = rw (le-ltb left right h)

  pub box_flat : left < right → bottom ≤ top → before ≡ box_painted w left top right bottom before
  unfolding box_painted
  box_flat k h = rw (lt-ltb left right k, le-ltb top bottom h)

  pub box_done : (after : ℕ → ℕ) (s x0 y0 x1 y1 : ℕ) → left < right → top < bottom → s ≡ w.width + 2 → x0 ≡ from_cell left w.left → y0 ≡ from_cell top w.top →
      x1 ≡ past_cell right w.left w.width → y1 ≡ past_cell bottom w.top w.height →
      after ≡ rows_placed before ((y0 - w.top + 1) * s + (x0 - w.left + 1)) s (y1 - y0) (x1 - x0) (λ y. zeros) → after ≡ box_painted w left top right bottom before
  unfolding box_painted
  box_done after s x0 y0 x1 y1 h k e f g i j l = rw (lt-ltb left right h, lt-ltb top bottom k) (rw (e, f, g, i, j) at l)

module _ (w : Window) (width height : ℕ) (blockers : List ℤ) where
  pub blocker_done : (k : ℕ) (r : Rectangle) (before after : ℕ → ℕ) (left top right bottom : ℕ) → r ≡ rectangle blockers k → left ≡ clamp (8 * width) r.left → top ≡ clamp (8 * height) r.top →
      right ≡ clamp (8 * width) r.right → bottom ≡ clamp (8 * height) r.bottom → after ≡ box_painted w left top right bottom before → after ≡ blocker_painted w width height blockers k before
  unfolding blocker_painted
  blocker_done k r before after left top right bottom q e f g h i = rw (sym q) (rw (e, f, g, h) at i)

  pub blockers_none : (before : ℕ → ℕ) → before ≡ blockers_painted w width height blockers 0 before
  unfolding blockers_painted
  blockers_none before = refl

  pub blockers_more : (before : ℕ → ℕ) (n : ℕ) (now after : ℕ → ℕ) → now ≡ blockers_painted w width height blockers n before → after ≡ blocker_painted w width height blockers n now →
      after ≡ blockers_painted w width height blockers (n + 1) before
  unfolding blockers_painted
  blockers_more before n now after e f = rw (add-one n) (rw e at f)
