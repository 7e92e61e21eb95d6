-- The lent buffers as the visit of a row reads them, and what it asks of their lengths.
use Rattle.std.specs.Prelude.{ℕ, ◌+◌, ◌-◌, ◌*◌, ◌<◌, ◌≤◌, Bool, List, length, ℤ, slice_index, slice_index_or}
use Rattle.lane.specs.Levels.{level_at, LaneCount}
use Rattle.ways.specs.Buffers.{flag_at}
use Rattle.row.specs.Visits.{Ground, State}
use Rattle.row.specs.declared.visit.Ground as code

-- what a sweep reads and never writes
abbrev pub ground_of : (lanes stride : ℕ) (flags rows : List ℕ) → Ground
ground_of lanes stride flags rows = record { lanes = lanes; stride = stride; flag = flag_at flags; rows = rows }

-- the same of the code's
abbrev pub as_ground : code.Ground → Ground
as_ground g = ground_of g.lane_count g.stride g.flags.now g.rows.now

-- what a sweep reads and writes
abbrev pub state_of : (lanes : List ℤ) (versions pulled : List ℕ) (changed : Bool) → State
state_of lanes versions pulled changed = record { levels = level_at lanes; versions = versions; pulled = pulled; changed = changed }

-- row `own` and the row `feed` that feeds it, counted with padding: the interval of row `own` is within its row
pub record VisitFits (lanes stride own feed : ℕ) (rows : List ℕ) (cells bytes versions pulled : ℕ) : Type 0 where
  pub count : LaneCount lanes
  pub top : 1 ≤ own
  pub interval : 2 * own ≤ length rows
  pub low : 1 ≤ slice_index rows (2 * own - 2)
  pub last : slice_index_or rows (2 * own - 1) 0 < stride
  pub cells_own : (own * stride + stride) * lanes ≤ cells
  pub cells_feed : (feed * stride + stride) * lanes ≤ cells
  pub flags : own * stride + stride ≤ bytes
  pub version_own : own < versions
  pub version_feed : feed < versions
  pub pulled_own : own < pulled
