-- What the sweeps of a field ask of its buffers, and what they leave.
use Rattle.std.specs.Prelude.{◌≡◌, List, ℕ, ◌≤◌, ℤ, length}
use Rattle.row.specs.Visits.{Ground}
use Rattle.row.specs.Buffers.{ground_of}
use Rattle.sweep.specs.Sweeps.{Ended}
use Rattle.sweep.specs.Buffers.{run_of, Window, Stops}
use Rattle.versions.specs.Versions.{VersionBuffers, BeforeSweeps, AfterSweeps}

-- the versions before the first sweep, in buffers of the same lengths
pub record Versioned (height quiet : ℕ) (versions₀ downs₀ ups₀ versions downs ups : List ℕ) : Type 0 where
  pub made : BeforeSweeps height quiet versions₀ downs₀ ups₀ versions downs ups
  pub versions_long : length versions ≡ length versions₀
  pub downs_long : length downs ≡ length downs₀
  pub ups_long : length ups ≡ length ups₀

-- the window has room in the buffers, and sweeps that start with these lanes stop
pub record RelaxFits (count stride height quiet : ℕ) (lanes : List ℤ) (flags rows versions downs ups : List ℕ) : Type 0 where
  pub above : quiet ≤ height
  pub room : Window count stride height rows (length lanes) (length flags) (length versions)
  pub buffers : VersionBuffers height (length versions) (length downs) (length ups)
  pub stops : (v d u : List ℕ) → Versioned height quiet versions downs ups v d u → Stops (ground_of count stride flags rows) height (run_of lanes v d u)

-- the sweeps ended, from the versions before the first to versions that were cleared
pub record Relaxed (g : Ground) (height quiet : ℕ) (lanes₀ : List ℤ) (versions₀ downs₀ ups₀ : List ℕ) (lanes : List ℤ) (versions downs ups : List ℕ) (sweeps : ℕ) : Type 0 where
  pub begun_versions : List ℕ
  pub begun_downs : List ℕ
  pub begun_ups : List ℕ
  pub begun : Versioned height quiet versions₀ downs₀ ups₀ begun_versions begun_downs begun_ups
  pub ended_versions : List ℕ
  pub ended_downs : List ℕ
  pub ended_ups : List ℕ
  pub ended : Ended g height (run_of lanes₀ begun_versions begun_downs begun_ups) (run_of lanes ended_versions ended_downs ended_ups) sweeps
  pub cleared : AfterSweeps height ended_versions ended_downs ended_ups versions downs ups
