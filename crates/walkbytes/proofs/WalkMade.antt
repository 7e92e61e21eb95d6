-- The walk bytes of a call: after its fills each byte is that of the painted window, and the bytes past the used part stay.
use mathlib.Core.Path.{◌≡◌, refl, sym, ◌∙◌, ap}
use mathlib.Core.Bool.{Bool, true, false, cond, not, ◌&&◌}
use mathlib.Core.List.{List}
use Prim.Native.Nat.{ℕ, ◌+◌, ◌*◌, ◌-◌, ◌/◌, ◌≤◌, ◌<◌}
use native.Mathlib.Nat.{add-mul}
use native.Mathlib.Decide.{ℕ_discrete}
use native.Mathlib.Omega.{arith}
use lib.IntN.{ℤ}
use lib.ListN.{length}
use lib.Dec.{eqb, not_T}
use borrow.Author.Tests.{lt-ltb, eq-eqb, ne_eqb}
use Rattle.walkgraph.specs.Map.{Box, In, in_box, walkable}
use Rattle.walkgraph.specs.Painting.{covered, painted}
use Rattle.walkgraph.specs.Window.{window}
use Rattle.walkgraph.specs.Sweep.{PaddedWindow, padded}
use Rattle.walkgraph.specs.Buffers.{bit, walk_byte, cell_place, padded_cells}
use Rattle.walkgraph.proofs.Tests.{by_cases, dec_t, T_true, T_false}
use Rattle.walkgraph.proofs.Boxes.{in_box_lem, box_in}
use Rattle.walkgraph.proofs.Places.{flat_lt}
use Rattle.cells.specs.Boxes.{reach}
use Rattle.window.specs.declared.record.Window.{Window}
use Rattle.window.specs.Windows.{window_over, OnMap}
use Rattle.window.specs.Fills.{entries, AreBits, cleared}
use Rattle.walkbytes.specs.Copies.{map_rows}
use Rattle.walkbytes.specs.Filled.{walk_filled}
use Rattle.window.proofs.Edges.{window_in_map}
use Rattle.window.proofs.Places.{window_in, window_out, window_past, cleared_at, cleared_past}
use Rattle.walkbytes.proofs.Painted.{painted_in, painted_out, painted_past}

-- a byte that is 0 or 1, as a bit
byte_bit : (v : ℕ) → v ≤ 1 → bit (eqb v 1) ≡ v
byte_bit v h =
    by_cases (ℕ_discrete v 1)
    (λ e. rw (eq-eqb v 1 e) (sym e))
    (λ e. rw (ne_eqb v 1 e) (omega arith))

unpainted : (open? cover? : Bool) (v : ℕ) → bit open? ≡ v → cond cover? 0 v ≡ bit (open? && not cover?)
unpainted true true v e = refl
unpainted true false v e = sym e
unpainted false true v e = refl
unpainted false false v e = sym e

module _ (width height : ℕ) (cells : List ℕ) (blockers : List ℤ) (s t : Box) (lanes : ℕ) (on : OnMap width height s t) (bits : AreBits cells (height * width)) (before : ℕ → ℕ) where
  abbrev B : Box
  B = window reach width height s t

  abbrev w : Window
  w = window_over B lanes

  abbrev M : PaddedWindow
  M = padded reach width height (painted width height cells blockers) s t

  abbrev inner : Box
  inner = record { left = 1; top = 1; right = w.width; bottom = w.height }

  -- the map's byte at a cell of the window
  cell_byte : (x y : ℕ) → In inner x y → bit (walkable width height cells (w.left + x - 1) (w.top + y - 1)) ≡ map_rows w width cells (y - 1) (x - 1)
  unfolding walkable map_rows
  cell_byte x y i =
      let m = window_in_map reach width height s t on.sources on.targets in
      let a = m.across in
      let b = m.wide in
      let c = m.along in
      let d = m.tall in
      let X = w.left + x - 1 in
      let Y = w.top + y - 1 in
      let p : X < width = omega arith in
      let q : Y < height = omega arith in
      let f : w.top + (y - 1) ≡ Y = omega arith in
      let e : w.top * width + w.left + (y - 1) * width + (x - 1) ≡ Y * width + X = omega (arith, add-mul w.top (y - 1) width, ap (λ (n : ℕ). n * width) f) in
      rw (lt-ltb X width p, lt-ltb Y height q, e) (byte_bit (entries cells (Y * width + X)) (bits (Y * width + X) (flat_lt p q)))

  inner_byte : (x y : ℕ) → In inner x y → walk_filled w width height cells blockers before (y * (w.width + 2) + x) ≡ bit (M.walkable x y)
  unfolding walk_filled padded painted
  inner_byte x y i =
      painted_in w width height blockers _ (length blockers / 4) x y i.0 i.1 i.2 i.3
      ∙ rw (T_true (in_box inner x y) (box_in inner x y i), window_in w (cleared w before) (map_rows w width cells) x y i.0 i.1 i.2 i.3)
      (unpainted (walkable width height cells (w.left + x - 1) (w.top + y - 1)) (covered width height blockers (length blockers / 4) (w.left + x - 1) (w.top + y - 1)) _ (cell_byte x y i))

  padding_byte : (x y : ℕ) → x < w.width + 2 → y < w.height + 2 → ¬ (In inner x y) → walk_filled w width height cells blockers before (y * (w.width + 2) + x) ≡ bit (M.walkable x y)
  unfolding walk_filled padded
  padding_byte x y h k n =
      painted_out w width height blockers _ (length blockers / 4) x y h n
      ∙ window_out w (cleared w before) (map_rows w width cells) x y h n
      ∙ cleared_at w before x y h k
      ∙ rw (T_false (in_box inner x y) (not_T (in_box inner x y) (λ t. n (in_box_lem inner x y t)))) refl

  pub walk_made : (x y : ℕ) → x < M.width + 2 → y < M.height + 2 → walk_filled w width height cells blockers before (cell_place M x y) ≡ walk_byte M x y
  unfolding cell_place walk_byte padded
  walk_made x y h k = by_cases (dec_t (in_box inner x y)) (λ t. inner_byte x y (in_box_lem inner x y t)) (λ n. padding_byte x y h k (λ i. n (box_in inner x y i)))

  pub walk_stays : (i : ℕ) → padded_cells M ≤ i → walk_filled w width height cells blockers before i ≡ before i
  unfolding padded_cells walk_filled padded
  walk_stays i h =
      painted_past w width height blockers _ (length blockers / 4) i h ∙ window_past w (cleared w before) (map_rows w width cells) i h ∙ cleared_past w before i h
