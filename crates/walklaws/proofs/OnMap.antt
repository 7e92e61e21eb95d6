-- The padded window and the map: walks over inside, unblocked cells of one are such walks of the other, so the field in the window is the field on the map.
use mathlib.Core.Path.{◌≡◌, ◌∙◌}
use mathlib.Core.Bool.{Bool}
use Prim.Native.Nat.{ℕ, ◌+◌, ◌-◌, ◌≤◌, ◌<◌}
use native.Mathlib.Omega.{arith}
use lib.Dec.{T}
use Rattle.walkgraph.specs.Map.{Box, In, in_box}
use Rattle.walkgraph.specs.Walk.{distance, Step, straight, diagonal, Walk, here, on}
use Rattle.walkgraph.specs.Window.{Inside, window}
use Rattle.walkgraph.specs.Field.{Both, WalkCosts}
use Rattle.walkgraph.specs.Sweep.{PaddedWindow, written, padded}
use Rattle.walkgraph.proofs.Tests.{and_left, and_right, and_pair}
use Rattle.walkgraph.proofs.Boxes.{in_box_lem, box_in}
use Rattle.walkgraph.proofs.WindowEdges.{inside_window, inside_true, true_inside}
use Rattle.walkgraph.proofs.Walks.{first_allowed}
use Rattle.walkgraph.proofs.Values.{Capped}
use Rattle.walkgraph.proofs.SweepSteps.{Walkable, Allowed, PaddingShut}

-- a walk is carried by two maps of columns and rows that carry cells and steps
pub map_walk : {O K O' K' : ℕ → ℕ → Type 0} (f g : ℕ → ℕ) →
    ((x y : ℕ) → K x y → K' (f x) (g y)) →
    ((x y u v k : ℕ) → K x y → K u v → Step O x y u v k → Step O' (f x) (g y) (f u) (g v) k) →
    {a b x y n c : ℕ} → Walk O K a b x y n c → Walk O' K' (f a) (g b) (f x) (g y) n c × K x y
map_walk f g p q (here o) = (here (p _ _ o), o)
map_walk f g p q (on w s o) = let r = map_walk f g p q w in (on r.0 (q _ _ _ _ _ r.1 o s) (p _ _ o), o)

distance_out : (l x u : ℕ) → 1 ≤ x → 1 ≤ u → distance (l + x - 1) (l + u - 1) ≡ distance x u
unfolding distance
distance_out l x u a b = omega arith

distance_in : (l x u : ℕ) → l ≤ x → l ≤ u → distance (x + 1 - l) (u + 1 - l) ≡ distance x u
unfolding distance
distance_in l x u a b = omega arith

module _ (reach w h : ℕ) (p : ℕ → ℕ → Bool) (map-cell : (x y : ℕ) → T (p x y) → (x < w) × (y < h)) (s t : Box) where
  abbrev M : PaddedWindow
  M = padded reach w h p s t

  abbrev B : Box
  B = window reach w h s t

  -- the window's column and row on the map, and back
  abbrev fx : ℕ → ℕ
  fx x = B.left + x - 1

  abbrev fy : ℕ → ℕ
  fy y = B.top + y - 1

  abbrev gx : ℕ → ℕ
  gx x = x + 1 - B.left

  abbrev gy : ℕ → ℕ
  gy y = y + 1 - B.top

  abbrev P : ℕ → ℕ → Type 0
  P x y = T (p x y)

  -- the window's cells, counted with padding
  abbrev F : Box
  F = record { left = 1; top = 1; right = B.right + 1 - B.left; bottom = B.bottom + 1 - B.top }

  -- a walkable cell of the window is a cell of it that is walkable on the map
  window_cell : (x y : ℕ) → Walkable M x y → In F x y × P (fx x) (fy y)
  unfolding padded
  window_cell x y o = (in_box_lem F x y (and_left (in_box F x y) (p (fx x) (fy y)) o), and_right (in_box F x y) (p (fx x) (fy y)) o)

  cell_window : (x y : ℕ) → In F x y → P (fx x) (fy y) → Walkable M x y
  unfolding padded
  cell_window x y i o = and_pair (in_box F x y) (p (fx x) (fy y)) (box_in F x y i) o

  pub padding_shut : PaddingShut M
  unfolding padded PaddingShut
  padding_shut x y o = (window_cell x y o).0

  written_walkable : (x y : ℕ) → Allowed M x y → Walkable M x y
  unfolding written
  written_walkable x y o = and_left (M.walkable x y) (M.inside x y) o

  written_inside : (x y : ℕ) → Allowed M x y → Inside reach s t (fx x) (fy y)
  unfolding written padded
  written_inside x y o = inside_true reach s t (fx x) (fy y) (and_right (M.walkable x y) (M.inside x y) o)

  -- ---- from the window to the map
  out_allowed : (x y : ℕ) → Allowed M x y → Both P (Inside reach s t) (fx x) (fy y)
  out_allowed x y o = ((window_cell x y (written_walkable x y o)).1, written_inside x y o)

  out_step : (x y u v k : ℕ) → Allowed M x y → Allowed M u v → Step (Walkable M) x y u v k → Step P (fx x) (fy y) (fx u) (fy v) k
  out_step x y u v k a b (straight e) =
      let i = window_cell x y (written_walkable x y a) in
      let j = window_cell u v (written_walkable u v b) in
      straight (omega (arith, distance_out B.left x u i.0.0 j.0.0, distance_out B.top y v i.0.2 j.0.2))
  out_step x y u v k a b (diagonal e f c d) =
      let i = window_cell x y (written_walkable x y a) in
      let j = window_cell u v (written_walkable u v b) in
      diagonal (distance_out B.left x u i.0.0 j.0.0 ∙ e) (distance_out B.top y v i.0.2 j.0.2 ∙ f) (window_cell x v c).1 (window_cell u y d).1

  -- ---- from the map to the window
  in_window_lem : (x y : ℕ) → Both P (Inside reach s t) x y → In B x y
  in_window_lem x y o = let i = map-cell x y o.0 in inside_window reach w h s t x y i.0 i.1 o.1

  in_open : (x y : ℕ) → In B x y → P x y → Walkable M (gx x) (gy y)
  in_open x y i o =
      let e : fx (gx x) ≡ x = omega arith in
      let f : fy (gy y) ≡ y = omega arith in
      cell_window (gx x) (gy y) (omega arith, omega arith, omega arith, omega arith) (rw (e, f) o)

  in_allowed : (x y : ℕ) → Both P (Inside reach s t) x y → Allowed M (gx x) (gy y)
  unfolding written padded
  in_allowed x y o =
      let i = in_window_lem x y o in
      let e : fx (gx x) ≡ x = omega arith in
      let f : fy (gy y) ≡ y = omega arith in
      and_pair (M.walkable (gx x) (gy y)) (M.inside (gx x) (gy y)) (in_open x y i o.0) (rw (e, f) (true_inside reach s t x y o.1))

  in_step : (x y u v k : ℕ) → Both P (Inside reach s t) x y → Both P (Inside reach s t) u v → Step P x y u v k → Step (Walkable M) (gx x) (gy y) (gx u) (gy v) k
  in_step x y u v k a b (straight e) =
      let i = in_window_lem x y a in
      let j = in_window_lem u v b in
      straight (omega (arith, distance_in B.left x u i.0 j.0, distance_in B.top y v i.2 j.2))
  in_step x y u v k a b (diagonal e f c d) =
      let i = in_window_lem x y a in
      let j = in_window_lem u v b in
      diagonal (distance_in B.left x u i.0 j.0 ∙ e) (distance_in B.top y v i.2 j.2 ∙ f)
      (in_open x v (i.0, i.1, j.2, j.3) c) (in_open u y (j.0, j.1, i.2, i.3) d)

  -- ---- the values of the window are those of the map
  module _ (Source : ℕ → ℕ → Type 0) where
    abbrev Source_in : ℕ → ℕ → Type 0
    Source_in x y = Source (fx x) (fy y)

    costs_out : {x y c : ℕ} → WalkCosts (Walkable M) (Allowed M) Source_in x y c → WalkCosts P (Both P (Inside reach s t)) Source (fx x) (fy y) c
    costs_out r = record { a = fx r.a; b = fy r.b; steps = r.steps; source = r.source; walk = (map_walk fx fy out_allowed out_step r.walk).0 }

    costs_in : {x y c : ℕ} → WalkCosts P (Both P (Inside reach s t)) Source x y c → WalkCosts (Walkable M) (Allowed M) Source_in (gx x) (gy y) c
    costs_in r =
        let i = in_window_lem r.a r.b (first_allowed r.walk) in
        let e : fx (gx r.a) ≡ r.a = omega arith in
        let f : fy (gy r.b) ≡ r.b = omega arith in
        record { a = gx r.a; b = gy r.b; steps = r.steps; source = rw (e, f) r.source; walk = (map_walk gx gy in_allowed in_step r.walk).0 }

    -- at a cell of the window
    pub window_field : {v : ℕ} (x y : ℕ) → In B x y → Capped reach (WalkCosts (Walkable M) (Allowed M) Source_in (gx x) (gy y)) v →
        Capped reach (WalkCosts P (Both P (Inside reach s t)) Source x y) v
    window_field {v} x y i c =
        let e : fx (gx x) ≡ x = omega arith in
        let f : fy (gy y) ≡ y = omega arith in
        record { top = c.top; real = λ k. rw (e, f) at (costs_out (c.real k)); least = λ k r. c.least k (costs_in r) }
