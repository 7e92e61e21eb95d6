-- Buffers by their entries, and fills of rows in them.
use Rattle.std.specs.Prelude.{List, ℕ, zero, suc, ◌+◌, ◌*◌, ◌≤◌, ◌<◌, get_or}
use Rattle.walkgraph.specs.Lists.{placed}
use Rattle.window.specs.declared.record.Window.{Window}

-- a buffer by its entries, 0 past its end
abbrev pub entries : List ℕ → ℕ → ℕ
entries buffer i = get_or buffer i 0

-- nothing but 0
abbrev pub zeros : ℕ → ℕ
zeros x = 0

-- the first n entries are 0 or 1
abbrev pub AreBits : List ℕ → ℕ → Type 0
AreBits buffer n = (k : ℕ) → k < n → entries buffer k ≤ 1

-- the entries after n rows of `count` entries became those of `new`, row by row; the first starts at index `start`, each next one `stride` further
unfoldable pub rows_placed : (ℕ → ℕ) → ℕ → ℕ → ℕ → ℕ → (ℕ → ℕ → ℕ) → ℕ → ℕ
rows_placed before start stride zero count new = before
rows_placed before start stride (suc n) count new = placed (rows_placed before start stride n count new) (start + n * stride) count (new n)

-- the same for the cells of a window in a buffer with padding: `new` by row and column, both from 0
unfoldable pub window_rows : Window → (ℕ → ℕ) → (ℕ → ℕ → ℕ) → ℕ → ℕ
window_rows w before = rows_placed before (w.width + 2 + 1) (w.width + 2) w.height w.width

-- the cells of the window, with padding, are 0
unfoldable pub cleared : Window → (ℕ → ℕ) → ℕ → ℕ
cleared w before = placed before 0 ((w.height + 2) * (w.width + 2)) zeros
