-- The lanes start exactly where document 01 says: at the inside, walkable cells of the ring of their resource.
use mathlib.Core.Path.{◌≡◌, sym, ◌∙◌, ap}
use mathlib.Core.Bool.{Bool, true, false, not, ◌&&◌}
use mathlib.Core.List.{List}
use Prim.Native.Nat.{ℕ, ◌+◌, ◌-◌, ◌*◌, ◌≤◌, ◌<◌, min, max}
use native.Mathlib.Omega.{arith}
use lib.ListN.{get_or}
use lib.Dec.{T, eqb, ltb, eqb→eq, eqb_refl, ltb→lt, lt→ltb, T_not, not_T}
use Rattle.walkgraph.specs.Map.{Box, In, in_box}
use Rattle.walkgraph.specs.Painting.{rectangle}
use Rattle.walkgraph.specs.Ring.{body, ring_box, ring}
use Rattle.walkgraph.specs.Sweep.{PaddedWindow, written, starts}
use Rattle.walkgraph.specs.Buffers.{Call, resource_count, window_of, padded_of, starts_lane, bit, walk_byte, cell_place, row_first, row_past}
use Rattle.walkgraph.proofs.Tests.{and_left, and_right, and_pair, bool_eq}
use Rattle.walkgraph.proofs.Boxes.{in_box_lem, box_in}
use Rattle.walkgraph.proofs.Places.{flat_row, flat_column}
use Rattle.walklaws.proofs.Intervals.{row_interval}
use Rattle.walklaws.proofs.FieldCall.{shut, width_is, height_is}
use Rattle.walkgraph.proofs.SweepSteps.{PaddingShut}
use Rattle.window.specs.declared.record.Window.{Window}
use Rattle.window.specs.Windows.{window_over}
use Rattle.start.specs.Hits.{starts_here, cells_hit, first_column, past_column, row_hit, ring_hit, lanes_hit}
use Rattle.start.proofs.Some.{some_at, at_some}

module _ (c : Call) (walk rows : List ℕ) (fits : resource_count c ≤ c.lanes)
    (walk_is : (x y : ℕ) → x < (padded_of c).width + 2 → y < (padded_of c).height + 2 → get_or walk (cell_place (padded_of c) x y) 0 ≡ walk_byte (padded_of c) x y)
    (rows_are : (y : ℕ) → y < (padded_of c).height → (get_or rows (2 * y) 0 ≡ row_first (padded_of c) (y + 1)) × (get_or rows (2 * y + 1) 0 ≡ row_past (padded_of c) (y + 1)))
    (within : (x y : ℕ) → row_first (padded_of c) y ≤ x → x < row_past (padded_of c) y → T ((padded_of c).inside x y))
    (only : (x y : ℕ) → 1 ≤ x → x ≤ (padded_of c).width → T ((padded_of c).inside x y) → (row_first (padded_of c) y ≤ x) × (x < row_past (padded_of c) y)) where
  abbrev m : PaddedWindow
  m = padded_of c

  abbrev w : Window
  w = window_over (window_of c) c.lanes

  abbrev stride : ℕ
  stride = m.width + 2

  abbrev left : ℕ
  left = (window_of c).left

  abbrev top : ℕ
  top = (window_of c).top

  abbrev hit : ℕ → Bool
  hit = lanes_hit w walk rows c.width c.height c.resources (resource_count c)

  abbrev index : ℕ → ℕ → ℕ → ℕ
  index l x y = (y * stride + x) * c.lanes + l

  abbrev ring_of : ℕ → Box
  ring_of l = ring_box c.width c.height (rectangle c.resources l)

  abbrev body_of : ℕ → Box
  body_of l = body (rectangle c.resources l)

  -- a walk byte of 1 is a walkable cell
  byte_walk : (x y : ℕ) → x < stride → y < m.height + 2 → T (eqb (get_or walk (y * stride + x) 0) 1) → T (m.walkable x y)
  unfolding cell_place walk_byte
  byte_walk x y h k t = one (m.walkable x y) (sym (walk_is x y h k) ∙ eqb→eq _ 1 t)
    where
      one : (b : Bool) → bit b ≡ 1 → T b
      one true e = tt
      one false e = absurd (omega arith)

  walk_byte_lem : (x y : ℕ) → x < stride → y < m.height + 2 → T (m.walkable x y) → T (eqb (get_or walk (y * stride + x) 0) 1)
  unfolding cell_place walk_byte
  walk_byte_lem x y h k t = rw (walk_is x y h k) (one (m.walkable x y) t)
    where
      one : (b : Bool) → T b → T (eqb (bit b) 1)
      one true t = tt
      one false t = t

  -- a walkable cell is a cell of the window
  shut_in : (x y : ℕ) → T (m.walkable x y) → (1 ≤ x) × (x ≤ m.width) × (1 ≤ y) × (y ≤ m.height)
  unfolding PaddingShut
  shut_in x y t = shut c x y t

  -- what it is to be a start: by the map's column and row
  pub record Start (l x y : ℕ) : Type 0 where
    pub resource : l < resource_count c
    pub walkable : T (m.walkable x y)
    pub inside : T (m.inside x y)
    pub around : In (ring_of l) (left + x - 1) (top + y - 1)
    pub beside : ¬ (T (in_box (body_of l) (left + x - 1) (top + y - 1)))

  start_of_lem : (l x y : ℕ) → T (starts m (λ x y. starts_lane c l (left + x - 1) (top + y - 1)) x y) → Start l x y
  unfolding starts written starts_lane ring
  start_of_lem l x y t =
      let a = and_left (m.walkable x y && m.inside x y) (starts_lane c l (left + x - 1) (top + y - 1)) t in
      let b = and_right (m.walkable x y && m.inside x y) (starts_lane c l (left + x - 1) (top + y - 1)) t in
      let r = and_right (ltb l (resource_count c)) (ring c.width c.height (rectangle c.resources l) (left + x - 1) (top + y - 1)) b in
      let n = in_box (body_of l) (left + x - 1) (top + y - 1) in
      record {
        resource = ltb→lt l (resource_count c) (and_left (ltb l (resource_count c)) (ring c.width c.height (rectangle c.resources l) (left + x - 1) (top + y - 1)) b);
        walkable = and_left (m.walkable x y) (m.inside x y) a;
        inside = and_right (m.walkable x y) (m.inside x y) a;
        around = in_box_lem (ring_of l) (left + x - 1) (top + y - 1) (and_left (in_box (ring_of l) (left + x - 1) (top + y - 1)) (not n) r);
        beside = T_not n (and_right (in_box (ring_of l) (left + x - 1) (top + y - 1)) (not n) r);
      }

  of_start : (l x y : ℕ) → Start l x y → T (starts m (λ x y. starts_lane c l (left + x - 1) (top + y - 1)) x y)
  unfolding starts written starts_lane ring
  of_start l x y s =
      let n = in_box (body_of l) (left + x - 1) (top + y - 1) in
      and_pair (m.walkable x y && m.inside x y) (starts_lane c l (left + x - 1) (top + y - 1))
      (and_pair (m.walkable x y) (m.inside x y) s.walkable s.inside)
      (and_pair (ltb l (resource_count c)) (ring c.width c.height (rectangle c.resources l) (left + x - 1) (top + y - 1))
      (lt→ltb l (resource_count c) s.resource)
      (and_pair (in_box (ring_of l) (left + x - 1) (top + y - 1)) (not n) (box_in (ring_of l) (left + x - 1) (top + y - 1) s.around) (not_T n s.beside)))

  -- ---- a hit is a start
  -- the row of the window that the map's row y is, and its interval
  module _ (k y : ℕ) (low : top ≤ y) (high : y < top + ((window_of c).bottom + 1 - top)) where
    abbrev Y : ℕ
    Y = y - top + 1

    abbrev x₀ : ℕ
    x₀ = first_column w rows (ring_of k) (y - top)

    abbrev x₁ : ℕ
    x₁ = past_column w rows (ring_of k) (y - top)

    row_in : y - top < m.height
    row_in = omega (arith, height_is c)

    first_is : x₀ ≡ max ((ring_of k).left + 1) (row_first m Y + left)
    unfolding first_column
    first_is = ap (λ (n : ℕ). max ((ring_of k).left + 1) (n + left)) (rows_are (y - top) row_in).0

    past_is : x₁ ≡ min ((ring_of k).right + 2) (row_past m Y + left)
    unfolding past_column
    past_is = ap (λ (n : ℕ). min ((ring_of k).right + 2) (n + left)) (rows_are (y - top) row_in).1

    pub record Columns : Type 0 where
      pub ring_left : (ring_of k).left + 1 ≤ x₀
      pub inside_left : row_first m Y + left ≤ x₀
      pub ring_right : x₁ ≤ (ring_of k).right + 2
      pub inside_right : x₁ ≤ row_past m Y + left

    columns : Columns
    columns = let f = first_is in let g = past_is in record { ring_left = omega arith; inside_left = omega arith; ring_right = omega arith; inside_right = omega arith }

    -- the cell n of the row that is looked at, in the window
    row_cell : (x u n : ℕ) → x < stride → n < x₁ - x₀ → u * stride + x ≡ Y * ((window_of c).right + 1 - left + 2) + (x₀ - left) + n → (u ≡ Y) × (x ≡ x₀ - left + n)
    row_cell x u n h b e =
        let o = columns in
        let i = row_interval m Y in
        let p : x₀ - left + n < stride = omega (arith, i.high) in
        let q : Y * ((window_of c).right + 1 - left + 2) ≡ Y * stride = ap (λ (z : ℕ). Y * (z + 2)) (sym (width_is c)) in
        let s : u * stride + x ≡ Y * stride + (x₀ - left + n) = omega arith in
        (flat_row h p s, flat_column u Y h p s)

    -- what a hit there says
    row_start : (l x u n : ℕ) → x < stride → n < x₁ - x₀ → l ≡ k → l < resource_count c → (ring_of k).top ≤ y → y ≤ (ring_of k).bottom →
        u * stride + x ≡ Y * ((window_of c).right + 1 - left + 2) + (x₀ - left) + n →
        T (eqb (get_or walk (Y * ((window_of c).right + 1 - left + 2) + (x₀ - left) + n) 0) 1) → ¬ (T (in_box (body_of k) (x₀ - 1 + n) y)) → Start l x u
    row_start l x u n h b e r p q s t d =
        let o = columns in
        let rc = row_cell x u n h b s in
        let cx : left + x - 1 ≡ x₀ - 1 + n = omega (arith, rc.1, o.inside_left) in
        let cy : top + u - 1 ≡ y = omega (arith, rc.0) in
        let uy : row_first m u ≡ row_first m Y = ap (row_first m) rc.0 in
        let up : row_past m u ≡ row_past m Y = ap (row_past m) rc.0 in
        record {
          resource = r;
          walkable = byte_walk x u h (omega (arith, rc.0, row_in)) (rw s t);
          inside = within x u (omega (arith, rc.1)) (omega (arith, rc.1));
          around = rw (cx, cy, e) (omega arith, omega arith, p, q);
          beside = rw (cx, cy, e) d;
        }

  hit_start : (l x y : ℕ) → l < c.lanes → x < stride → T (hit (index l x y)) → Start l x y
  unfolding lanes_hit ring_hit row_hit cells_hit starts_here
  hit_start l x y h i t =
      let a = some_at (resource_count c) _ t in
      let k = a.0 in
      let y₀ = max (ring_of k).top top in
      let b = some_at (min ((ring_of k).bottom + 1) (top + ((window_of c).bottom + 1 - top)) - y₀) _ a.2 in
      let v = y₀ + b.0 in
      let low : top ≤ v = omega arith in
      let high : v < top + ((window_of c).bottom + 1 - top) = omega (arith, b.1) in
      let d = some_at (past_column w rows (ring_of k) (v - top) - first_column w rows (ring_of k) (v - top)) _ b.2 in
      let n = d.0 in
      let z = first_column w rows (ring_of k) (v - top) in
      let place = (v - top + 1) * ((window_of c).right + 1 - left + 2) + (z - left) in
      let e = and_left (eqb (index l x y) ((place + n) * c.lanes + k)) (eqb (get_or walk (place + n) 0) 1 && not (in_box (body_of k) (z - 1 + n) v)) d.2 in
      let s = and_right (eqb (index l x y) ((place + n) * c.lanes + k)) (eqb (get_or walk (place + n) 0) 1 && not (in_box (body_of k) (z - 1 + n) v)) d.2 in
      let same = eqb→eq (index l x y) ((place + n) * c.lanes + k) e in
      let lane : l ≡ k = flat_column (y * stride + x) (place + n) h (omega (arith, a.1)) same in
      let cell : y * stride + x ≡ place + n = flat_row h (omega (arith, a.1)) same in
      row_start k v low high l x y n i d.1 lane (omega (arith, a.1)) (omega arith) (omega (arith, b.1)) cell
      (and_left (eqb (get_or walk (place + n) 0) 1) (not (in_box (body_of k) (z - 1 + n) v)) s)
      (T_not (in_box (body_of k) (z - 1 + n) v) (and_right (eqb (get_or walk (place + n) 0) 1) (not (in_box (body_of k) (z - 1 + n) v)) s))

  -- ---- a start is hit
  -- in its row
  row_hit_lem : (l x u : ℕ) → Start l x u → 1 ≤ x → x ≤ m.width → 1 ≤ u → u ≤ m.height → T (row_hit w walk rows (ring_of l) (body_of l) l (top + u - 1) (index l x u))
  unfolding row_hit cells_hit starts_here
  row_hit_lem l x u s a b d e =
      let y = top + u - 1 in
      let low : top ≤ y = omega arith in
      let high : y < top + ((window_of c).bottom + 1 - top) = omega (arith, height_is c) in
      let yu : y - top + 1 ≡ u = omega arith in
      let z = first_column w rows (ring_of l) (y - top) in
      let f : z ≡ max ((ring_of l).left + 1) (row_first m u + left) = rw yu at (first_is l y low high) in
      let g : past_column w rows (ring_of l) (y - top) ≡ min ((ring_of l).right + 2) (row_past m u + left) = rw yu at (past_is l y low high) in
      let o = only x u a b s.inside in
      let r = s.around in
      let p : z ≤ left + x = omega (arith, o.0, r.0) in
      let q : left + x < past_column w rows (ring_of l) (y - top) = omega (arith, o.1, r.1) in
      let v : left ≤ z = omega arith in
      let n = left + x - z in
      let place = (y - top + 1) * ((window_of c).right + 1 - left + 2) + (z - left) in
      let stride-is : (window_of c).right + 1 - left + 2 ≡ stride = ap (λ (k : ℕ). k + 2) (sym (width_is c)) in
      let rowed : (y - top + 1) * ((window_of c).right + 1 - left + 2) ≡ u * stride = ap (λ (k : ℕ). k * ((window_of c).right + 1 - left + 2)) yu ∙ ap (λ (k : ℕ). u * k) stride-is in
      let cell : place + n ≡ u * stride + x = omega arith in
      let column : z - 1 + n ≡ left + x - 1 = at_column z (ring_of l).left (row_first m u + left) (left + x) f p in
      at_some (past_column w rows (ring_of l) (y - top) - z) _ n (less z (left + x) (past_column w rows (ring_of l) (y - top)) p q)
      (rw (cell, column)
      (and_pair (eqb (index l x u) ((u * stride + x) * c.lanes + l)) (eqb (get_or walk (u * stride + x) 0) 1 && not (in_box (body_of l) (left + x - 1) y))
      (eqb_refl ((u * stride + x) * c.lanes + l))
      (and_pair (eqb (get_or walk (u * stride + x) 0) 1) (not (in_box (body_of l) (left + x - 1) y))
      (walk_byte_lem x u (short x m.width b) (short u m.height e) s.walkable) (not_T (in_box (body_of l) (left + x - 1) y) s.beside))))
    where
      less : (z a b : ℕ) → z ≤ a → a < b → a - z < b - z
      less z a b h k = omega arith

      short : (a b : ℕ) → a ≤ b → a < b + 2
      short a b h = omega arith

      at_column : (z a b x : ℕ) → z ≡ max (a + 1) b → z ≤ x → z - 1 + (x - z) ≡ x - 1
      at_column z a b x e h = omega arith

  -- in the rows of its ring, and of its resource
  start_hit : (l x u : ℕ) → Start l x u → 1 ≤ x → x ≤ m.width → 1 ≤ u → u ≤ m.height → T (hit (index l x u))
  unfolding lanes_hit ring_hit
  start_hit l x u s a b d e =
      let y₀ = max (ring_of l).top top in
      let r = s.around in
      let p : y₀ ≤ top + u - 1 = omega (arith, r.2) in
      let q : top + u - 1 < min ((ring_of l).bottom + 1) (top + ((window_of c).bottom + 1 - top)) = omega (arith, r.3, height_is c) in
      let g : y₀ + (top + u - 1 - y₀) ≡ top + u - 1 = back_again y₀ (top + u - 1) p in
      at_some (resource_count c) _ l s.resource
      (at_some (min ((ring_of l).bottom + 1) (top + ((window_of c).bottom + 1 - top)) - y₀) _ (top + u - 1 - y₀) (omega arith) (rw g (row_hit_lem l x u s a b d e)))
    where
      back_again : (a b : ℕ) → a ≤ b → a + (b - a) ≡ b
      back_again a b h = omega arith

  -- the lanes start exactly where document 01 says
  pub hits_are : (l x y : ℕ) → l < c.lanes → x ≤ m.width + 1 → y ≤ m.height + 1 → hit (index l x y) ≡ starts m (λ x y. starts_lane c l (left + x - 1) (top + y - 1)) x y
  hits_are l x y h i j =
      bool_eq (hit (index l x y)) (starts m (λ x y. starts_lane c l (left + x - 1) (top + y - 1)) x y)
      (λ t. of_start l x y (hit_start l x y h (omega arith) t))
      (λ t.
      let s = start_of_lem l x y t in
      let b = shut_in x y s.walkable in
      start_hit l x y s b.0 b.1 b.2 b.3)
