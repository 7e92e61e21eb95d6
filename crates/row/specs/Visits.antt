-- The visit of one row, on the lent buffers: a row may be skipped.
use Rattle.std.specs.Prelude.{◌≡◌, ℕ, ◌+◌, ◌-◌, ◌*◌, ◌%◌, ◌^◌, ◌<◌, ◌≤◌, Bool, true, cond, List, slice_index, slice_set}
use Rattle.ways.specs.Row.{RowDone}

-- what does not change in a run: the lane count, the cells of a row with padding, the flag bytes, and the row intervals, two numbers a row
pub record Ground : Type 0 where
  pub lanes : ℕ
  pub stride : ℕ
  pub flag : ℕ → ℕ
  pub rows : List ℕ

-- what a sweep changes: the levels, the version of each row, the version that each row last pulled, and whether something changed
pub record State : Type 0 where
  pub levels : ℕ → ℕ
  pub versions : List ℕ
  pub pulled : List ℕ
  pub changed : Bool

-- the interval of row y, counted with padding
abbrev pub first : Ground → ℕ → ℕ
first g y = slice_index g.rows (2 * y - 2)

-- and one past its last column
abbrev pub past : Ground → ℕ → ℕ
past g y = slice_index g.rows (2 * y - 1)

-- a changed row has the next version, "with wraparound"
abbrev pub next_versions : Bool → List ℕ → ℕ → List ℕ
next_versions changed versions y = cond changed (slice_set versions y ((slice_index versions y + 1) % 2 ^ 32)) versions

-- row y is visited, fed by row z
pub data Visited (g : Ground) (down fresh : Bool) (y z : ℕ) (s : State) : State → Type 0 where
  empty : past g y ≤ first g y → Visited g down fresh y z s s
  skipped : first g y < past g y → slice_index s.pulled y ≡ slice_index s.versions z → Visited g down fresh y z s s
  done : {levels : ℕ → ℕ} {changed : Bool} → first g y < past g y → ¬ (slice_index s.pulled y ≡ slice_index s.versions z) →
      RowDone g.lanes g.flag down ((y * g.stride + first g y) * g.lanes) ((z * g.stride + first g y) * g.lanes) (y * g.stride + first g y) (past g y - first g y) s.levels levels fresh changed →
      Visited g down fresh y z s
      (record {
        levels = levels;
        versions = next_versions changed s.versions y;
        pulled = slice_set s.pulled y (slice_index s.versions z);
        changed = cond changed true s.changed;
      })

-- the row of a sweep's turn, and the row that feeds it
abbrev pub row_at : Bool → ℕ → ℕ → ℕ
row_at down height turn = cond down (turn + 1) (height - turn)

-- the row before it in the sweep
abbrev pub feed_at : Bool → ℕ → ℕ → ℕ
feed_at down height turn = cond down turn (height - turn + 1)
