-- Document 01, "The field": the window record that a field call answers with, and reading a cell.
use Rattle.std.specs.Prelude.{Bool, cond, ◌&&◌, ◌||◌, ℕ, ◌+◌, ◌*◌, ◌-◌, leb, ltb, eqb}
use Rattle.walkgraph.specs.Buffers.{Call, window_of}

-- "Window left, top, width, height", and the lanes of a cell. Who reads a cell may have made it up.
pub record WindowRecord : Type 0 where
  pub left : ℕ
  pub top : ℕ
  pub width : ℕ
  pub height : ℕ
  pub lanes : ℕ

-- the record of an accepted call with a resource
unfoldable pub record_of : Call → WindowRecord
record_of c =
    let b = window_of c in
    record { left = b.left; top = b.top; width = b.right + 1 - b.left; height = b.bottom + 1 - b.top; lanes = c.lanes }

-- "With no resources the window is 0 by 0"
unfoldable pub no_window : ℕ → WindowRecord
no_window lanes = record { left = 0; top = 0; width = 0; height = 0; lanes = lanes }

-- "A window record that names more lanes than the lent buffer holds, or a lane count other than 8 or 16, reads every cell as outside.": so does one past the limits
-- of a map
unfoldable pub fits : WindowRecord → ℕ → Bool
fits r length = (eqb r.lanes 8 || eqb r.lanes 16) && leb r.width 1024 && leb r.height 1024 && leb ((r.height + 2) * (r.width + 2) * r.lanes) length

-- a part of the lent lanes
pub record Part : Type 0 where
  pub start : ℕ
  pub size : ℕ

-- "or "outside" for a cell not in the window": an empty part
unfoldable pub outside_part : Part
outside_part = record { start = 0; size = 0 }

-- the cell (x, y) of the map is in the window
unfoldable pub in_record : WindowRecord → ℕ → ℕ → Bool
in_record r x y = leb r.left x && ltb (x - r.left) r.width && leb r.top y && ltb (y - r.top) r.height

-- "Reading a cell hands back the part of the lent lanes that belongs to it (8 or 16 numbers)", of a buffer of so many lanes
unfoldable pub read_part : WindowRecord → ℕ → ℕ → ℕ → Part
read_part r length x y =
    cond (fits r length && in_record r x y)
    (record { start = ((y - r.top + 1) * (r.width + 2) + (x - r.left + 1)) * r.lanes; size = r.lanes })
    outside_part
