-- The table of gates and the flags as the definitions read them, and what the functions ask of the lengths of buffers.
use Rattle.std.specs.Prelude.{◌≡◌, List, ℕ, ◌+◌, ◌*◌, ◌≤◌, ◌<◌, ℤ, get_or, length}
use Rattle.lane.specs.Levels.{level_at}

-- the table of gates: sixteen shut ones, then sixteen that let levels through
pub record Gates (table : List ℤ) : Type 0 where
  pub long : length table ≡ 32
  pub shut : (k : ℕ) → k < 16 → level_at table k ≡ 65535
  pub through : (k : ℕ) → k < 16 → level_at table (16 + k) ≡ 0

-- the flag byte of a cell
abbrev pub flag_at : List ℕ → ℕ → ℕ
flag_at flags i = get_or flags i 0

-- ---- lengths: `cells` and `bytes` are those of the lanes and of the flags

-- `count` lanes of a cell from index i on, those at index o that feed them, and of the cells beside that, `lanes` before and after
pub record CellFits (count lanes i o cells : ℕ) : Type 0 where
  pub own : i + count ≤ cells
  pub low : lanes ≤ o
  pub fed : o + lanes + count ≤ cells

-- `count` cells from `first` on and those beside them, and the same from `feeding` on
pub record RowFits (lanes first feeding count cells bytes : ℕ) : Type 0 where
  pub before : 1 ≤ first
  pub own : (first + count + 1) * lanes ≤ cells
  pub low : 1 ≤ feeding
  pub fed : (feeding + count + 1) * lanes ≤ cells
  pub flags : first + count ≤ bytes

-- `count` cells up to `past`, and the cell there
pub record BackFits (lanes past count cells bytes : ℕ) : Type 0 where
  pub low : count ≤ past
  pub own : (past + 1) * lanes ≤ cells
  pub flags : past ≤ bytes
