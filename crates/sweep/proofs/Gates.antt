-- The gates that a flag byte of the window gives are the rules of document 01: a cell is open where it is walkable, a diagonal where its corner is.
use mathlib.Core.Path.{◌≡◌, refl, ◌∙◌, ap}
use mathlib.Core.Bool.{Bool, true, false, cond}
use Prim.Native.Nat.{ℕ, suc, ◌+◌, ◌-◌, ◌*◌, ◌/◌, ◌%◌, ◌≤◌}
use native.Mathlib.Omega.{arith}
use lib.Dec.{T}
use Rattle.walkgraph.specs.Sweep.{PaddedWindow, in_window, corner, corner_west, corner_east}
use Rattle.walkgraph.specs.Buffers.{bit, walk_byte, flag_byte}
use Rattle.walkgraph.proofs.Tests.{cond_true}
use Rattle.ways.specs.Row.{gate, walk_gate, west_gate, east_gate}

-- row z feeds row y, going down or up
abbrev pub FeedsRow : Bool → ℕ → ℕ → Type 0
FeedsRow true z y = y ≡ suc z
FeedsRow false z y = z ≡ suc y

gate_bit : (b : Bool) → gate (bit b) ≡ cond b 0 65535
gate_bit true = refl
gate_bit false = refl

bit_small : (b : Bool) → bit b ≤ 1
bit_small true = omega arith
bit_small false = omega arith

-- the bits of a byte
record Bits (a b c d e f : ℕ) : Type 0 where
  pub walk : f % 2 ≡ a
  pub two : f / 2 % 2 ≡ b
  pub four : f / 4 % 2 ≡ c
  pub eight : f / 4 / 2 % 2 ≡ d
  pub sixteen : f / 4 / 4 % 2 ≡ e

bits : (a b c d e : ℕ) → a ≤ 1 → b ≤ 1 → c ≤ 1 → d ≤ 1 → e ≤ 1 → Bits a b c d e (a + 2 * b + 4 * c + 8 * d + 16 * e)
bits a b c d e p q r s t = record { walk = omega arith; two = omega arith; four = omega arith; eight = omega arith; sixteen = omega arith }

module _ (m : PaddedWindow) (x y : ℕ) (here : T (in_window m (suc x) y)) where
  abbrev X : ℕ
  X = suc x

  flag_bits : Bits (bit (m.walkable X y)) (bit (corner m X y (X - 1) (y - 1))) (bit (corner m X y (X + 1) (y - 1))) (bit (corner m X y (X - 1) (y + 1))) (bit (corner m X y (X + 1) (y + 1))) (flag_byte m X y)
  unfolding flag_byte walk_byte
  flag_bits =
      rw (cond_true (in_window m X y) (bit (m.walkable X y) + 2 * bit (corner m X y (X - 1) (y - 1)) + 4 * bit (corner m X y (X + 1) (y - 1)) + 8 * bit (corner m X y (X - 1) (y + 1)) + 16 * bit (corner m X y (X + 1) (y + 1))) 0 here)
      (bits (bit (m.walkable X y)) (bit (corner m X y (X - 1) (y - 1))) (bit (corner m X y (X + 1) (y - 1))) (bit (corner m X y (X - 1) (y + 1))) (bit (corner m X y (X + 1) (y + 1)))
      (bit_small (m.walkable X y)) (bit_small (corner m X y (X - 1) (y - 1))) (bit_small (corner m X y (X + 1) (y - 1))) (bit_small (corner m X y (X - 1) (y + 1))) (bit_small (corner m X y (X + 1) (y + 1))))

  pub walk_gate_lem : walk_gate (flag_byte m X y) ≡ cond (m.walkable X y) 0 65535
  walk_gate_lem = ap gate flag_bits.walk ∙ gate_bit (m.walkable X y)

  west : X - 1 ≡ x
  west = omega arith

  east : X + 1 ≡ suc X
  east = omega arith

  pub west_gate_lem : (down : Bool) (z : ℕ) → FeedsRow down z y → west_gate down (flag_byte m X y) ≡ cond (corner_west m y z X) 0 65535
  unfolding corner_west
  west_gate_lem true z e =
      let f : y - 1 ≡ z = omega arith in
      rw (west, f) at (ap gate flag_bits.two ∙ gate_bit (corner m X y (X - 1) (y - 1)))
  west_gate_lem false z e =
      let f : y + 1 ≡ z = omega arith in
      rw (west, f) at (ap gate flag_bits.eight ∙ gate_bit (corner m X y (X - 1) (y + 1)))

  pub east_gate_lem : (down : Bool) (z : ℕ) → FeedsRow down z y → east_gate down (flag_byte m X y) ≡ cond (corner_east m y z X) 0 65535
  unfolding corner_east
  east_gate_lem true z e =
      let f : y - 1 ≡ z = omega arith in
      rw (east, f) at (ap gate flag_bits.four ∙ gate_bit (corner m X y (X + 1) (y - 1)))
  east_gate_lem false z e =
      let f : y + 1 ≡ z = omega arith in
      rw (east, f) at (ap gate flag_bits.sixteen ∙ gate_bit (corner m X y (X + 1) (y + 1)))
