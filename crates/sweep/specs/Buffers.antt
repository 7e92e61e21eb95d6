-- The lent buffers of a run of sweeps, what the sweeps ask of their lengths, and that the run stops.
use Rattle.std.specs.Prelude.{◌≡◌, Bool, false, List, ℕ, ◌+◌, ◌-◌, ◌*◌, ◌^◌, ◌≤◌, ◌<◌, ℤ, get_or, length}
use Rattle.lane.specs.Levels.{level_at, LaneCount}
use Rattle.row.specs.Visits.{Ground}
use Rattle.row.specs.Buffers.{ground_of}
use Rattle.sweep.specs.Sweeps.{Run, Sweeps}

-- what a run of sweeps reads and writes
abbrev pub run_of : (lanes : List ℤ) (versions pulled_down pulled_up : List ℕ) → Run
run_of lanes versions pulled_down pulled_up = record { levels = level_at lanes; versions = versions; pulled_down = pulled_down; pulled_up = pulled_up }

-- a window of `height` rows, with a row of padding above and below
pub record Window (lanes stride height : ℕ) (rows : List ℕ) (cells bytes versions : ℕ) : Type 0 where
  pub count : LaneCount lanes
  pub intervals : 2 * height ≤ length rows
  pub low : (y : ℕ) → 1 ≤ y → y ≤ height → 1 ≤ get_or rows (2 * y - 2) 0
  pub last : (y : ℕ) → 1 ≤ y → y ≤ height → get_or rows (2 * y - 1) 0 < stride
  pub levels : (height + 2) * stride * lanes ≤ cells
  pub flags : (height + 2) * stride ≤ bytes
  pub each : height + 2 ≤ versions

-- a window, and room for what each of its rows last pulled: in one direction, and in both
abbrev pub SweepFits : (lanes stride height : ℕ) (rows : List ℕ) (cells bytes versions pulled : ℕ) → Type 0
SweepFits lanes stride height rows cells bytes versions pulled = Window lanes stride height rows cells bytes versions × (height + 2 ≤ pulled)

-- the buffers are as long as all sweeps need
abbrev pub RunFits : (lanes stride height : ℕ) (rows : List ℕ) (cells bytes versions pulled_down pulled_up : ℕ) → Type 0
RunFits lanes stride height rows cells bytes versions pulled_down pulled_up =
    Window lanes stride height rows cells bytes versions × (height + 2 ≤ pulled_down) × (height + 2 ≤ pulled_up)

-- a run stops: if it comes to sweep number `most`, that one changes nothing
pub record Stops (g : Ground) (height : ℕ) (r : Run) : Type 0 where
  pub most : ℕ
  pub late : 2 ≤ most
  pub few : most < 2 ^ 64
  pub quiet : {q : Run} {answer : Bool} → Sweeps g height r most q answer → answer ≡ false

-- what a run asks of the lent buffers: room, and that it stops
abbrev pub CanRun : (lanes stride height : ℕ) (levels : List ℤ) (flags rows versions pulled_down pulled_up : List ℕ) → Type 0
CanRun lanes stride height levels flags rows versions pulled_down pulled_up =
    Window lanes stride height rows (length levels) (length flags) (length versions) × (height + 2 ≤ length pulled_down) × (height + 2 ≤ length pulled_up)
    × Stops (ground_of lanes stride flags rows) height (run_of levels versions pulled_down pulled_up)
