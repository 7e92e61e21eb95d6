-- The places that the rows of a ring have are document 01's access cells.
use mathlib.Core.Path.{◌≡◌, refl, sym, ap, ◌∙◌}
use mathlib.Core.Bool.{Bool, true, false, cond}
use mathlib.Core.List.{List, [], ◌∷◌, ◌++◌, append-nil}
use Prim.Native.Nat.{ℕ, zero, suc, ◌+◌, ◌*◌, ◌-◌, ◌≤◌, ◌<◌}
use native.Mathlib.Decide.{dec_le}
use native.Mathlib.Omega.{arith}
use lib.ListN.{get_or}
use borrow.Author.Tests.{lt-ltb}
use Rattle.walkgraph.specs.Map.{In, in_box, walkable}
use Rattle.walkgraph.specs.Painting.{Rectangle}
use Rattle.walkgraph.specs.Ring.{body, ring_box, ring, access, places_in_row, places_in_rows, access_cells}
use Rattle.walkgraph.proofs.Tests.{T_true, by_cases}
use Rattle.walkgraph.proofs.Boxes.{box_in, in_box_lem}
use Rattle.cells.proofs.Bools.{unless}
use Rattle.ringruns.specs.Runs.{OnGrid, whole_row, beside_body, row_runs}
use Rattle.ringruns.proofs.RowRuns.{runs_above, runs_below, runs_beside}
use Rattle.ringlists.specs.Places.{in_order, open_place, open_places}
use Rattle.ringrows.specs.Rows.{row_places, rows_of, ring_places}
use Rattle.ringlists.proofs.Places.{in_order_same, in_order_none, in_order_split, in_order_first, run_none}

-- ---- the walk graph's lists, cell by cell and row by row
module _ (width : ℕ) (test : ℕ → ℕ → Bool) where
  -- the place of one cell, if it passes
  passing : ℕ → ℕ → List ℕ
  passing y x = cond (test x y) ((y * width + x) ∷ []) []

  cells_in_order : (y x n : ℕ) → places_in_row width test y x n ≡ in_order (λ k. passing y (x + k)) n
  unfolding places_in_row in_order passing
  cells_in_order y x zero = refl
  cells_in_order y x (suc n) =
      let later = cells_in_order y (suc x) n ∙ in_order_same _ (λ k. passing y (x + suc k)) n (λ k h. ap (passing y) (omega arith)) in
      front (test x y) (places_in_row width test y (suc x) n) ∙ ap (λ (l : List ℕ). passing y x ++ l) later
      ∙ ap (λ (u : ℕ). passing y u ++ in_order (λ k. passing y (x + suc k)) n) (omega arith) ∙ sym (in_order_first (λ k. passing y (x + k)) n)
    where
      front : (b : Bool) (rest : List ℕ) → cond b ((y * width + x) ∷ rest) rest ≡ cond b ((y * width + x) ∷ []) [] ++ rest
      front true rest = refl
      front false rest = refl

  rows_in_order : (x columns y n : ℕ) → places_in_rows width test x columns y n ≡ in_order (λ k. places_in_row width test (y + k) x columns) n
  unfolding places_in_rows in_order
  rows_in_order x columns y zero = refl
  rows_in_order x columns y (suc n) =
      let row : ℕ → List ℕ = λ v. places_in_row width test v x columns in
      let later = rows_in_order x columns (suc y) n ∙ in_order_same _ (λ k. row (y + suc k)) n (λ k h. ap row (omega arith)) in
      ap (λ (l : List ℕ). row y ++ l) later ∙ ap (λ (v : ℕ). row v ++ in_order (λ k. row (y + suc k)) n) (omega arith) ∙ sym (in_order_first (λ k. row (y + k)) n)

-- ---- the cells of an accepted resource's ring box
module _ (w h : ℕ) (cells : List ℕ) (r : Rectangle) (g : OnGrid w (ring_box w h r) (body r)) (tall : (ring_box w h r).bottom < h) where
  -- beside the body a cell is listed if it is walkable
  beside : (x y : ℕ) → In (ring_box w h r) x y → ¬ (In (body r) x y) → passing w (access w h cells r) y x ≡ open_place (get_or cells (y * w + x) 0) (y * w + x)
  unfolding passing open_place access ring walkable
  beside x y i n =
      let a = g.columns in
      rw (
        T_true (in_box (ring_box w h r) x y) (box_in (ring_box w h r) x y i),
        unless (in_box (body r) x y) (λ t. n (in_box_lem (body r) x y t)),
        lt-ltb x w (omega arith),
        lt-ltb y h (omega arith),
      )

  -- in the body none is
  hidden : (x y : ℕ) → In (ring_box w h r) x y → In (body r) x y → passing w (access w h cells r) y x ≡ []
  unfolding passing access ring
  hidden x y i j =
      rw (T_true (in_box (ring_box w h r) x y) (box_in (ring_box w h r) x y i), T_true (in_box (body r) x y) (box_in (body r) x y j))

  -- n cells of row y beside the body, from column x on
  stretch : (y x n : ℕ) → ((k : ℕ) → k < n → In (ring_box w h r) (x + k) y) → ((k : ℕ) → k < n → ¬ (In (body r) (x + k) y)) →
      in_order (λ k. passing w (access w h cells r) y (x + k)) n ≡ open_places cells (y * w + x) n
  unfolding open_places
  stretch y x n i j =
      in_order_same _ _ n (λ k l. beside (x + k) y (i k l) (j k l) ∙ ap (λ (p : ℕ). open_place (get_or cells p 0) p) (omega arith))

  -- a row above or below the body
  whole : (y : ℕ) → (ring_box w h r).top ≤ y → y ≤ (ring_box w h r).bottom → ((x : ℕ) → ¬ (In (body r) x y)) →
      places_in_row w (access w h cells r) y (ring_box w h r).left ((ring_box w h r).right + 1 - (ring_box w h r).left) ≡ row_places cells (whole_row w (ring_box w h r) y)
  unfolding row_places
  whole y a b n =
      let ring = ring_box w h r in
      let m = ring.right + 1 - ring.left in
      cells_in_order w (access w h cells r) y ring.left m
      ∙ stretch y ring.left m (λ k l. (omega arith, omega arith, a, b)) (λ k l. n (ring.left + k))
      ∙ rw (run_none cells (y * w)) (sym (append-nil (open_places cells (y * w + ring.left) m)))

  -- a row of the body
  parted : (y : ℕ) → (ring_box w h r).top ≤ y → y ≤ (ring_box w h r).bottom → (body r).top ≤ y → y ≤ (body r).bottom →
      places_in_row w (access w h cells r) y (ring_box w h r).left ((ring_box w h r).right + 1 - (ring_box w h r).left) ≡ row_places cells (beside_body w (ring_box w h r) (body r) y)
  unfolding row_places
  parted y a b c d =
      let ring = ring_box w h r in
      let core = body r in
      let to_left = g.to_left in
      let across = g.across in
      let to_right = g.to_right in
      let f : ℕ → List ℕ = λ k. passing w (access w h cells r) y (ring.left + k) in
      let first = core.left - ring.left in
      let middle = core.right + 1 - core.left in
      let last = ring.right - core.right in
      let e : ring.right + 1 - ring.left ≡ first + (middle + last) = omega arith in
      let one = stretch y ring.left first (λ k l. (omega arith, omega arith, a, b)) (λ k l i. omega arith) in
      let two : in_order (λ k. f (first + k)) middle ≡ [] =
      in_order_none _ middle (λ k l. hidden (ring.left + (first + k)) y (omega arith, omega arith, a, b) (omega arith, omega arith, c, d)) in
      let three : in_order (λ k. f (first + (middle + k))) last ≡ open_places cells (y * w + core.right + 1) last =
      in_order_same _ (λ k. passing w (access w h cells r) y (core.right + 1 + k)) last (λ k l. ap (passing w (access w h cells r) y) (omega arith))
      ∙ stretch y (core.right + 1) last (λ k l. (omega arith, omega arith, a, b)) (λ k l i. omega arith)
      ∙ ap (λ (p : ℕ). open_places cells p last) (omega arith) in
      cells_in_order w (access w h cells r) y ring.left (ring.right + 1 - ring.left)
      ∙ ap (in_order f) e
      ∙ in_order_split f first (middle + last)
      ∙ ap (λ (l : List ℕ). l ++ in_order (λ k. f (first + k)) (middle + last)) one
      ∙ ap (λ (l : List ℕ). open_places cells (y * w + ring.left) first ++ l)
      (in_order_split (λ k. f (first + k)) middle last ∙ ap (λ (l : List ℕ). l ++ in_order (λ k. f (first + (middle + k))) last) two ∙ three)

  -- any row of the ring box
  row_accessed : (y : ℕ) → (ring_box w h r).top ≤ y → y ≤ (ring_box w h r).bottom →
      places_in_row w (access w h cells r) y (ring_box w h r).left ((ring_box w h r).right + 1 - (ring_box w h r).left) ≡ row_places cells (row_runs w (ring_box w h r) (body r) y)
  row_accessed y a b =
      by_cases (dec_le (body r).top y)
      (λ c.
      by_cases (dec_le y (body r).bottom)
      (λ d. parted y a b c d ∙ ap (row_places cells) (runs_beside w (ring_box w h r) (body r) y c d))
      (λ d. whole y a b (λ x i. d i.3) ∙ ap (row_places cells) (runs_below w (ring_box w h r) (body r) y c (omega arith))))
      (λ c. whole y a b (λ x i. c i.2) ∙ ap (row_places cells) (runs_above w (ring_box w h r) (body r) y (omega arith)))

  pub ring_accessed : ring_places cells w (ring_box w h r) (body r) ≡ access_cells w h cells r
  unfolding ring_places access_cells rows_of
  ring_accessed =
      let ring = ring_box w h r in
      let rows = ring.bottom + 1 - ring.top in
      sym
      (rows_in_order w (access w h cells r) ring.left (ring.right + 1 - ring.left) ring.top rows
      ∙ in_order_same _ _ rows (λ k l. row_accessed (ring.top + k) (omega arith) (omega arith)))
