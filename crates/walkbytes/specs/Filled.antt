-- What a call makes of its walk bytes, one fill after the other.
use Rattle.std.specs.Prelude.{List, ℕ, ◌/◌, ℤ, length}
use Rattle.window.specs.declared.record.Window.{Window}
use Rattle.window.specs.Fills.{cleared, window_rows}
use Rattle.walkbytes.specs.Copies.{map_rows}
use Rattle.walkbytes.specs.Painting.{blockers_painted}

-- the walk bytes: cleared, copied from the map, and painted
unfoldable pub walk_filled : Window → ℕ → ℕ → List ℕ → List ℤ → (ℕ → ℕ) → ℕ → ℕ
walk_filled w width height cells blockers before =
    blockers_painted w width height blockers (length blockers / 4) (window_rows w (cleared w before) (map_rows w width cells))
