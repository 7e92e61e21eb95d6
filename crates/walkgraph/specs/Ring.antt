-- Document 01, "Ring": a resource's body, its ring, and its access cells.
use Rattle.std.specs.Prelude.{Bool, cond, not, ◌&&◌, List, [], ◌∷◌, ◌++◌, ℕ, zero, suc, ◌+◌, ◌*◌, ◌-◌, ◌/◌, min, ℤ, pos, negsuc}
use Rattle.walkgraph.specs.Map.{walkable, Box, in_box}
use Rattle.walkgraph.specs.Painting.{Rectangle}

-- the pixel of an accepted resource, which is not negative
unfoldable pub pixel : ℤ → ℕ
pixel (pos n) = n
pixel (negsuc n) = 0

-- "A resource's body is left/8 to (right-1)/8 inclusive, and the same vertically."
unfoldable pub body : Rectangle → Box
body r = record { left = pixel r.left / 8; top = pixel r.top / 8; right = (pixel r.right - 1) / 8; bottom = (pixel r.bottom - 1) / 8 }

-- "Its ring box is one cell wider on each side, clamped to the map."
unfoldable pub ring_box : ℕ → ℕ → Rectangle → Box
ring_box width height r =
    record { left = (body r).left - 1; top = (body r).top - 1; right = min (width - 1) ((body r).right + 1); bottom = min (height - 1) ((body r).bottom + 1) }

-- "Ring cells are in the ring box and not in the body."
unfoldable pub ring : ℕ → ℕ → Rectangle → ℕ → ℕ → Bool
ring width height r x y = in_box (ring_box width height r) x y && not (in_box (body r) x y)

-- "Access cells are the walkable ring cells", on the terrain without blockers
unfoldable pub access : ℕ → ℕ → List ℕ → Rectangle → ℕ → ℕ → Bool
access width height cells r x y = ring width height r x y && walkable width height cells x y

-- the places y * width + x of the n columns from x on that pass the test
unfoldable pub places_in_row : ℕ → (ℕ → ℕ → Bool) → ℕ → ℕ → ℕ → List ℕ
places_in_row width test y x zero = []
places_in_row width test y x (suc n) =
    let rest = places_in_row width test y (suc x) n in
    cond (test x y) ((y * width + x) ∷ rest) rest

-- and of the n rows from y on, each from column x on
unfoldable pub places_in_rows : ℕ → (ℕ → ℕ → Bool) → ℕ → ℕ → ℕ → ℕ → List ℕ
places_in_rows width test x columns y zero = []
places_in_rows width test x columns y (suc n) = places_in_row width test y x columns ++ places_in_rows width test x columns (suc y) n

-- "listed by row, then column", as indices into the map's bytes
unfoldable pub access_cells : ℕ → ℕ → List ℕ → Rectangle → List ℕ
access_cells width height cells r =
    let b = ring_box width height r in
    places_in_rows width (access width height cells r) b.left (b.right + 1 - b.left) b.top (b.bottom + 1 - b.top)
