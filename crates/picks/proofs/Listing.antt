-- Listed moves: at the map's edge, and away from it.
use mathlib.Core.Path.{◌≡◌}
use mathlib.Core.Bool.{◌&&◌}
use mathlib.Core.List.{List}
use Prim.Native.Nat.{ℕ, suc, ◌+◌, ◌*◌, ◌≤◌, ◌<◌}
use native.Mathlib.Nat.{suc-mul, mul-le-mul_right}
use native.Mathlib.Omega.{arith}
use lib.Dec.{T, leb, ltb, ltb→lt, lt→ltb, le→leb}
use lib.ListN.{length}
use Rattle.walkgraph.proofs.Tests.{and_left, and_right, and_pair}
use Rattle.walkgraph.proofs.Places.{flat_lt}
use Rattle.disjoint.specs.Forest.{of}
use Rattle.cellstate.specs.Looks.{highest}
use Rattle.picks.specs.Picks.{inner, within, is_near, is_inside, Picked, Around, Edge}
use Rattle.picks.specs.Listed.{OnMap, Table, Listed}

inner_low : (a size : ℕ) → T (inner a size) → 0 < a
unfolding inner
inner_low a size t = ltb→lt 0 a (and_left (ltb 0 a) _ t)

inner_high : (a size : ℕ) → T (inner a size) → a + 1 < size
unfolding inner
inner_high a size t = ltb→lt (a + 1) size (and_right (ltb 0 a) _ t)

pub within_is : (a size : ℕ) → 1 ≤ a → a ≤ size → T (within a size)
unfolding within
within_is a size h k = and_pair (leb 1 a) _ (le→leb 1 a h) (le→leb a size k)

module _ {width height : ℕ} {states over down steps : List ℕ} {x y : ℕ} (m : OnMap width height states x y) (t : Table width over down steps) where
  pub at_edge : Edge x y over down
  at_edge = record { column = omega (arith, m.column, m.wide); row = omega (arith, m.row, m.tall); across = t.across; along = t.along }

  pub around : T (inner x width && inner y height) → Around states width (y * width + x) steps
  around t' =
      let p = and_left (inner x width) _ t' in
      let q = and_right (inner x width) _ t' in
      let lx = inner_low x width p in
      let hx = inner_high x width p in
      let ly = inner_low y height q in
      let hy = inner_high y height q in
      record {
        low = omega (arith, mul-le-mul_right {m = 1} {n = y} width (omega arith));
        high = omega (arith, flat_lt {s = width} {h = height} {x = x + 1} {y = suc y} (omega arith) (omega arith), suc-mul y width, m.cells);
        short = λ k h. omega (arith, t.offset k h, t.across k h, mul-le-mul_right {m = of down k} {n = 2} width (t.along k h));
      }

  pub flat_in : y * width + x < length states
  flat_in = omega (arith, flat_lt m.column m.row, m.cells)

  pub listed_edge : {state : ℕ} {list : List ℕ} {count : ℕ} → Picked (is_inside width height x y over down) 8 list count → Listed width height states over down steps x y state list count
  listed_edge p = record { long = p.long; few = p.few; only = p.only; every = λ k h i l. p.every k h i }

  inside_all : T (inner x width) → T (inner y height) → (k : ℕ) → k < 8 → T (is_inside width height x y over down k)
  unfolding is_inside
  inside_all p q k h =
      and_pair (within (x + of over k) width) _
      (within_is (x + of over k) width (omega (arith, inner_low x width p)) (omega (arith, inner_high x width p, t.across k h)))
      (within_is (y + of down k) height (omega (arith, inner_low y height q)) (omega (arith, inner_high y height q, t.along k h)))

  pub listed_near : {state low : ℕ} {list : List ℕ} {count : ℕ} → T (inner x width && inner y height) → low ≡ highest state → Picked (is_near states width (y * width + x) steps low) 8 list count →
      Listed width height states over down steps x y state list count
  unfolding is_near
  listed_near {state} {low} i e p =
      record {
        long = p.long;
        few = p.few;
        only = λ k h. let r = p.only k h in (r.0, inside_all (and_left (inner x width) _ i) (and_right (inner x width) _ i) _ r.0);
        every = λ k h o l. p.every k h (lt→ltb low _ (rw e l));
      }
