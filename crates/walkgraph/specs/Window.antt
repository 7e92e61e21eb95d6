-- Document 01, "Window" and "Inside".
use Rattle.std.specs.Prelude.{Bool, List, ℕ, zero, suc, ◌+◌, ◌*◌, ◌-◌, ◌/◌, ◌≤◌, min, max, ℤ, pos, negsuc, leb}
use Rattle.std.proofs.Math.IntN.{sub_ℕ}
use Rattle.walkgraph.specs.Map.{Box}
use Rattle.walkgraph.specs.Painting.{rectangle}
use Rattle.walkgraph.specs.Ring.{ring_box}

-- the box around two boxes
unfoldable pub hull : Box → Box → Box
hull a b = record { left = min a.left b.left; top = min a.top b.top; right = max a.right b.right; bottom = max a.bottom b.bottom }

-- "S is the box around all ring boxes": those of the resources 0 .. n
unfoldable pub sources : ℕ → ℕ → List ℤ → ℕ → Box
sources width height resources zero = ring_box width height (rectangle resources zero)
sources width height resources (suc n) = hull (sources width height resources n) (ring_box width height (rectangle resources (suc n)))

-- "the halving rounded toward minus infinity"
unfoldable pub floor_half : ℤ → ℤ
floor_half (pos n) = pos (n / 2)
floor_half (negsuc n) = negsuc (n / 2)

-- the larger of 0 and a signed number
unfoldable pub or_zero : ℤ → ℕ
or_zero (pos n) = n
or_zero (negsuc n) = 0

-- "The window's left is the larger of 0 and (S.left + T.left - 96)/2"
unfoldable pub window_low : ℕ → ℕ → ℕ → ℕ
window_low reach s t = or_zero (floor_half (sub_ℕ (s + t) reach))

-- "its right is the smaller of width-1 and (S.right + T.right + 96)/2 rounded the same way"
unfoldable pub window_high : ℕ → ℕ → ℕ → ℕ → ℕ
window_high reach size s t = min (size - 1) (or_zero (floor_half (pos (s + t + reach))))

-- "top and bottom likewise"
unfoldable pub window : ℕ → ℕ → ℕ → Box → Box → Box
window reach width height s t =
    record {
      left = window_low reach s.left t.left;
      top = window_low reach s.top t.top;
      right = window_high reach width s.right t.right;
      bottom = window_high reach height s.bottom t.bottom;
    }

-- "The gap of a value to an interval is 0 in it, else the distance to its nearer end."
unfoldable pub gap : ℕ → ℕ → ℕ → ℕ
gap value low high = (low - value) + (value - high)

-- "Octile of (dx, dy) is 1,000 x larger + 414 x smaller."
unfoldable pub octile : ℕ → ℕ → ℕ
octile dx dy = 1000 * max dx dy + 414 * min dx dy

-- the octile gap of a cell to a box
unfoldable pub octile_gap : Box → ℕ → ℕ → ℕ
octile_gap b x y = octile (gap x b.left b.right) (gap y b.top b.bottom)

-- "A cell is inside if its octile gap to S plus that to T is at most 96,000."
unfoldable pub Inside : ℕ → Box → Box → ℕ → ℕ → Type 0
Inside reach s t x y = octile_gap s x y + octile_gap t x y ≤ 1000 * reach

-- the same as a test
unfoldable pub inside : ℕ → Box → Box → ℕ → ℕ → Bool
inside reach s t x y = leb (octile_gap s x y + octile_gap t x y) (1000 * reach)
