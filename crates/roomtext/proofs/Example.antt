-- Document 01's example of a room text is the text of a room in the form.
use mathlib.Core.Path.{◌≡◌, refl}
use mathlib.Core.List.{[], ◌∷◌}
use Prim.Native.Nat.{ℕ, ◌≤◌}
use native.Mathlib.Omega.{arith}
use lib.Dec.{le→leb}
use lib.IntN.{pos}
use lib.ListN.{replicate}
use Rattle.decimal.specs.Numbers.{digits_in, digits_of, decimal_of}
use Rattle.textlines.specs.Lines.{text_of}
use Rattle.roomlines.specs.Fours.{four_line, Signed32, nothing, more}
use Rattle.roomrows.proofs.Lined.{all_dots}
use Rattle.rectangles.specs.Readings.{counted}
use Rattle.roomtext.specs.Room.{Room, room_lines, room_text, Formed}

-- a map of five by three walkable cells
abbrev pub example : Room
example = record {
  rows = replicate 3 (replicate 5 46);
  blockers = [];
  resources = record { left = pos 16; top = pos 8; right = pos 24; bottom = pos 16 } ∷ [];
  targets = record { left = pos 0; top = pos 0; right = pos 4; bottom = pos 0 };
}

-- the bytes of its lines, from `3` to `0 0 4 0`
pub example_text : room_text example ≡ 51 ∷ 10 ∷ 46 ∷ 46 ∷ 46 ∷ 46 ∷ 46 ∷ 10 ∷ 46 ∷ 46 ∷ 46 ∷ 46 ∷ 46 ∷ 10 ∷ 46 ∷ 46 ∷ 46 ∷ 46 ∷ 46 ∷ 10 ∷ 48 ∷ 10 ∷ 49 ∷ 10 ∷ 49 ∷ 54 ∷ 32 ∷ 56 ∷ 32 ∷ 50 ∷ 52 ∷ 32 ∷ 49 ∷ 54 ∷ 10 ∷ 49 ∷ 10 ∷ 48 ∷ 32 ∷ 48 ∷ 32 ∷ 52 ∷ 32 ∷ 48 ∷ 10 ∷ []
unfolding digits_in digits_of decimal_of text_of four_line counted room_lines room_text
example_text = refl

fits : (n : ℕ) → n ≤ 2147483647 → Signed32 (pos n)
fits n h = record { low = record { le = tt }; high = record { le = le→leb n 2147483647 h } }

pub example_formed : Formed example
example_formed = record {
  width = 5;
  not_empty = omega arith;
  equal = all_dots 3 5;
  at_least_one = omega arith;
  row_count = omega arith;
  blocker_count = omega arith;
  resource_count = omega arith;
  blockers = nothing;
  resources = more (record { left = fits 16 (omega arith); top = fits 8 (omega arith); right = fits 24 (omega arith); bottom = fits 16 (omega arith) }) nothing;
  targets = record { left = fits 0 (omega arith); top = fits 0 (omega arith); right = fits 4 (omega arith); bottom = fits 0 (omega arith) };
}
