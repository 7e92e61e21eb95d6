-- Flag bytes, by the walk bytes of a cell and of its neighbours.
use Rattle.std.specs.Prelude.{List, ℕ, ◌+◌, ◌*◌, ◌-◌, ◌≤◌, length}
use Rattle.cellflags.specs.CellFlags.{flags_of}
use Rattle.window.specs.Fills.{AreBits, cleared, window_rows}
use Rattle.window.specs.declared.record.Window.{Window}

-- the flags of the cell at an index, where a row has `stride` cells
unfoldable pub flag_at : (ℕ → ℕ) → ℕ → ℕ → ℕ
flag_at walk stride i = flags_of (walk i) (walk (i - 1)) (walk (i + 1)) (walk (i - stride)) (walk (i + stride))

-- three rows of walk bytes, and room for the flags of the one in the middle
pub record FlagRow (walk : List ℕ) (stride flags count : ℕ) : Type 0 where
  pub columns : count + 2 ≤ stride
  pub rows : 3 * stride ≤ length walk
  pub room : count ≤ flags
  pub bits : AreBits walk (3 * stride)

-- the same for a row that starts at an index
pub record FlagRowAt (walk : List ℕ) (stride flags row count : ℕ) : Type 0 where
  pub columns : count + 2 ≤ stride
  pub above : stride ≤ row
  pub below : row + 2 * stride ≤ length walk
  pub room : row + stride ≤ flags
  pub bits : AreBits walk (row + 2 * stride)

-- the walk bytes of a window, and room for its flags
pub record FlagRows (w : Window) (walk : List ℕ) (flags : ℕ) : Type 0 where
  pub wide : w.width ≤ 1024
  pub high : w.height ≤ 1024
  pub bytes : (w.height + 2) * (w.width + 2) ≤ length walk
  pub room : (w.height + 2) * (w.width + 2) ≤ flags
  pub bits : AreBits walk ((w.height + 2) * (w.width + 2))

-- the flags at row y and column x of a window, both from 0
unfoldable pub flag_rows : Window → (ℕ → ℕ) → ℕ → ℕ → ℕ
flag_rows w walk y x = flag_at walk (w.width + 2) (w.width + 2 + 1 + y * (w.width + 2) + x)

-- the flags: cleared, and made of walk bytes
unfoldable pub flags_filled : Window → (ℕ → ℕ) → (ℕ → ℕ) → ℕ → ℕ
flags_filled w walk before = window_rows w (cleared w before) (flag_rows w walk)
