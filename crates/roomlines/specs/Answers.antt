-- The code's answers as what was found.
use Rattle.std.specs.Prelude.{List, ℕ, ℤ, pos, get_or, Option, Some, None}
use Rattle.roomlines.specs.Fours.{Four, FourFound, four, no_four}
use Rattle.roomlines.specs.Forms.{CountFound, count, no_count}

-- a count, and the place after its line
unfoldable pub count_found : Option (ℕ × ℕ) → CountFound
count_found (Some (number, past)) = count number past
count_found None = no_count

-- "four i32: left, top, right, bottom", in that order
abbrev pub four_of : List ℤ → Four
four_of numbers = record { left = get_or numbers 0 (pos 0); top = get_or numbers 1 (pos 0); right = get_or numbers 2 (pos 0); bottom = get_or numbers 3 (pos 0) }

-- four numbers, and the place after their line
unfoldable pub four_found : Option (List ℤ × ℕ) → FourFound
four_found (Some (numbers, past)) = four (four_of numbers) past
four_found None = no_four
