-- Painted cells are on the map; ring cells are in S.
use mathlib.Core.Path.{◌≡◌, refl}
use mathlib.Core.Bool.{not, ◌&&◌}
use mathlib.Core.List.{List}
use Prim.Native.Nat.{ℕ, zero, suc, ◌+◌, ◌*◌, ◌/◌, ◌≤◌, ◌<◌}
use native.Mathlib.Omega.{arith}
use native.Mathlib.Decide.{dec_le}
use lib.IntN.{ℤ}
use lib.ListN.{length, get_or}
use lib.Dec.{T, ltb, eqb, ltb→lt}
use Rattle.walkgraph.specs.Lanes.{cap, unreachable}
use Rattle.walkgraph.specs.Map.{Box, In, walkable, in_box}
use Rattle.walkgraph.specs.Painting.{painted, covered, Rectangle, rectangle}
use Rattle.walkgraph.specs.Ring.{ring, ring_box, body, pixel}
use Rattle.walkgraph.specs.Window.{window, hull, sources}
use Rattle.walkgraph.specs.Field.{WalkCosts, IsField, beyond}
use Rattle.walkgraph.proofs.Tests.{and_left, and_right, by_cases}
use Rattle.walkgraph.proofs.Boxes.{in_box_lem, hull_left, hull_right}
use Rattle.walkgraph.proofs.WindowEdges.{inside_window}
use Rattle.walkgraph.proofs.Walks.{last_allowed}
use Rattle.walkgraph.proofs.WholeMap.{narrow_costs}

pub painted_cell : (w h : ℕ) (g : List ℕ) (l : List ℤ) (x y : ℕ) → T (painted w h g l x y) → (x < w) × (y < h)
unfolding painted walkable
painted_cell w h g l x y t =
    let a = and_left (ltb x w && ltb y h && eqb (get_or g (y * w + x) 0) 1) (not (covered w h l (length l / 4) x y)) t in
    let b = and_left (ltb x w && ltb y h) (eqb (get_or g (y * w + x) 0) 1) a in
    (ltb→lt x w (and_left (ltb x w) (ltb y h) b), ltb→lt y h (and_right (ltb x w) (ltb y h) b))

-- the first n + 1 ring boxes are in S
pub ring_sources : (w h : ℕ) (l : List ℤ) (n i : ℕ) → i ≤ n → (x y : ℕ) → T (ring w h (rectangle l i) x y) → In (sources w h l n) x y
unfolding ring sources
ring_sources w h l zero i k x y t =
    let e : i ≡ 0 = omega arith in
    rw e at (in_box_lem (ring_box w h (rectangle l i)) x y (and_left (in_box (ring_box w h (rectangle l i)) x y) (not (in_box (body (rectangle l i)) x y)) t))
ring_sources w h l (suc n) i k x y t =
    let ih : i ≤ n → In (sources w h l n) x y = λ q. ring_sources w h l n i q x y t in
    by_cases (dec_le i n)
    (λ q. hull_left (sources w h l n) (ring_box w h (rectangle l (suc n))) x y (ih q))
    (λ q.
    let e : i ≡ suc n = omega arith in
    let f : In (ring_box w h (rectangle l i)) x y = in_box_lem (ring_box w h (rectangle l i)) x y (and_left (in_box (ring_box w h (rectangle l i)) x y) (not (in_box (body (rectangle l i)) x y)) t) in
    hull_right (sources w h l n) (ring_box w h (rectangle l (suc n))) x y (rw e at f))

-- a target that is not in the window is unreachable
pub outside : (reach w h : ℕ) (s t : Box) {P Source : ℕ → ℕ → Type 0} → ((x y : ℕ) → P x y → (x < w) × (y < h)) → ((a b : ℕ) → Source a b → In s a b) →
    (x y : ℕ) → In t x y → ¬ (In (window reach w h s t) x y) → IsField reach (WalkCosts P P Source x y) (unreachable reach)
outside reach w h s t {P} {Source} m r x y i n = beyond refl above_cap
  where
    above_cap : (c : ℕ) → WalkCosts P P Source x y c → cap reach < c
    above_cap c q =
        by_cases (dec_le c (cap reach))
        (λ k.
        let o = last_allowed (narrow_costs reach s t r i c k q).walk in
        let b = m x y o.0 in
        absurd (n (inside_window reach w h s t x y b.0 b.1 o.1)))
        (λ k. omega arith)

-- the box of sources is not empty, where the resources are on the map
pub record OnMap (w h : ℕ) (r : Rectangle) : Type 0 where
  pub across : pixel r.left < pixel r.right
  pub wide : pixel r.right ≤ 8 * w
  pub along : pixel r.top < pixel r.bottom
  pub tall : pixel r.bottom ≤ 8 * h

ring_filled : (w h : ℕ) (r : Rectangle) → OnMap w h r → ((ring_box w h r).left ≤ (ring_box w h r).right) × ((ring_box w h r).top ≤ (ring_box w h r).bottom)
unfolding ring_box body
ring_filled w h r o = let a = o.across in let b = o.wide in let c = o.along in let d = o.tall in (omega arith, omega arith)

pub sources_filled : (w h : ℕ) (l : List ℤ) (n : ℕ) → ((i : ℕ) → i ≤ n → OnMap w h (rectangle l i)) →
    ((sources w h l n).left ≤ (sources w h l n).right) × ((sources w h l n).top ≤ (sources w h l n).bottom)
unfolding sources hull
sources_filled w h l zero o = ring_filled w h (rectangle l zero) (o 0 (omega arith))
sources_filled w h l (suc n) o =
    let a = sources_filled w h l n (λ i k. o i (omega arith)) in
    let b = ring_filled w h (rectangle l (suc n)) (o (suc n) (omega arith)) in
    (omega arith, omega arith)
