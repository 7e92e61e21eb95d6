-- The flags of a call: after its fills each is that of the window whose walk bytes they were made of, and the bytes past the used part stay.
use mathlib.Core.Path.{◌≡◌, refl, sym, ◌∙◌, ap}
use mathlib.Core.Bool.{Bool, true, false, ◌&&◌}
use Prim.Native.Nat.{ℕ, suc, ◌+◌, ◌*◌, ◌-◌, ◌/◌, ◌%◌, ◌≤◌, ◌<◌}
use native.Mathlib.Nat.{suc-mul, div-add-mod', div-lt_iff_lt-mul, mod-lt}
use native.Mathlib.Omega.{arith}
use lib.Dec.{not_T}
use Rattle.walkgraph.specs.Map.{Box, In, in_box}
use Rattle.walkgraph.specs.Sweep.{PaddedWindow, in_window, corner}
use Rattle.walkgraph.specs.Buffers.{bit, walk_byte, flag_byte, cell_place, padded_cells}
use Rattle.walkgraph.proofs.Tests.{by_cases, dec_t, cond_true, cond_false}
use Rattle.walkgraph.proofs.Boxes.{in_box_lem, box_in}
use Rattle.window.specs.declared.record.Window.{Window}
use Rattle.cellflags.specs.CellFlags.{flags_of}
use Rattle.flags.specs.Flags.{flag_rows, flags_filled}
use Rattle.window.specs.Fills.{cleared}
use Rattle.window.proofs.Places.{window_in, window_out, window_past, cleared_at, cleared_past}
use Rattle.flags.proofs.FlagBytes.{flag_at_lem}

bit_both : (a b : Bool) → bit a * bit b ≡ bit (a && b)
bit_both true true = refl
bit_both true false = refl
bit_both false true = refl
bit_both false false = refl

bit_small : (b : Bool) → bit b ≤ 1
bit_small true = omega arith
bit_small false = omega arith

-- the code's window has the size of m, and the walk bytes are those of m
module _ (m : PaddedWindow) (lanes left top : ℕ) (walk : ℕ → ℕ) (bytes : (x y : ℕ) → x < m.width + 2 → y < m.height + 2 → walk (cell_place m x y) ≡ walk_byte m x y) (before : ℕ → ℕ) where
  abbrev w : Window
  w = record { left = left; top = top; width = m.width; height = m.height; lanes = lanes }

  abbrev s : ℕ
  s = m.width + 2

  abbrev inner : Box
  inner = record { left = 1; top = 1; right = m.width; bottom = m.height }

  byte : (x y : ℕ) → x < s → y < m.height + 2 → walk (y * s + x) ≡ bit (m.walkable x y)
  unfolding cell_place walk_byte
  byte x y h k = bytes x y h k

  -- as `flag_rows` requires it
  pub bytes_small : (k : ℕ) → k < padded_cells m → walk k ≤ 1
  unfolding padded_cells
  bytes_small k h =
      let z : 0 < s = omega arith in
      let r : k / s < m.height + 2 = (div-lt_iff_lt-mul z).1 h in
      let e = rw (div-add-mod' k s) at (byte (k % s) (k / s) (mod-lt k z) r) in
      rw e (bit_small (m.walkable (k % s) (k / s)))

  inner_flag : (x y : ℕ) → In inner x y → flag_rows w walk (y - 1) (x - 1) ≡
      bit (m.walkable x y) + 2 * bit (corner m x y (x - 1) (y - 1)) + 4 * bit (corner m x y (x + 1) (y - 1)) + 8 * bit (corner m x y (x - 1) (y + 1)) + 16 * bit (corner m x y (x + 1) (y + 1))
  unfolding flag_rows flags_of corner
  inner_flag x y i =
      let a = i.0 in
      let b = i.1 in
      let c = i.2 in
      let d = i.3 in
      let e : suc (y - 1) ≡ y = omega arith in
      let p : y * s ≡ (y - 1) * s + s = ap (λ (n : ℕ). n * s) (sym e) ∙ suc-mul (y - 1) s in
      let f : y + 1 ≡ suc y = omega arith in
      let q : (y + 1) * s ≡ y * s + s = ap (λ (n : ℕ). n * s) f ∙ suc-mul y s in
      flag_at_lem walk s (s + 1 + (y - 1) * s + (x - 1)) (y * s + x) (y * s + (x - 1)) (y * s + (x + 1)) ((y - 1) * s + x) ((y + 1) * s + x) (omega arith) (omega arith) (omega arith) (omega arith) (omega arith)
      ∙ rw (byte x y (omega arith) (omega arith), byte (x - 1) y (omega arith) (omega arith), byte (x + 1) y (omega arith) (omega arith), byte x (y - 1) (omega arith) (omega arith), byte x (y + 1) (omega arith) (omega arith))
      (rw (bit_both (m.walkable (x - 1) y) (m.walkable x (y - 1)), bit_both (m.walkable (x + 1) y) (m.walkable x (y - 1)), bit_both (m.walkable (x - 1) y) (m.walkable x (y + 1)), bit_both (m.walkable (x + 1) y) (m.walkable x (y + 1))) refl)

  pub flags_made : (x y : ℕ) → x < m.width + 2 → y < m.height + 2 → flags_filled w walk before (cell_place m x y) ≡ flag_byte m x y
  unfolding cell_place flags_filled flag_byte walk_byte in_window
  flags_made x y h k =
      by_cases (dec_t (in_box inner x y))
      (λ t.
      let i = in_box_lem inner x y t in
      window_in w (cleared w before) (flag_rows w walk) x y i.0 i.1 i.2 i.3 ∙ inner_flag x y i ∙ sym (cond_true (in_box inner x y) _ 0 t))
      (λ n.
      window_out w (cleared w before) (flag_rows w walk) x y h (λ i. n (box_in inner x y i))
      ∙ cleared_at w before x y h k
      ∙ sym (cond_false (in_box inner x y) _ 0 (not_T (in_box inner x y) n)))

  pub flags_stay : (i : ℕ) → padded_cells m ≤ i → flags_filled w walk before i ≡ before i
  unfolding padded_cells flags_filled
  flags_stay i h = window_past w (cleared w before) (flag_rows w walk) i h ∙ cleared_past w before i h
