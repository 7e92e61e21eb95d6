-- The three version buffers of a field call, before the first sweep and after the last.
use Rattle.std.specs.Prelude.{◌≡◌, List, ℕ, ◌+◌, ◌-◌, ◌≤◌}
use Rattle.walkgraph.specs.Lists.{placed}
use Rattle.window.specs.Fills.{entries, zeros}

-- "three version buffers of H+2 u32": their lengths, on a map in the limits of its size
pub record VersionBuffers (height versions downs ups : ℕ) : Type 0 where
  pub limit : height ≤ 1024
  pub versions_in : height + 2 ≤ versions
  pub downs_in : height + 2 ≤ downs
  pub ups_in : height + 2 ≤ ups

-- a version that no row has: nothing was pulled yet
abbrev pub never : ℕ → ℕ
never k = 4294967295

-- before the first sweep: versions are 0, no row has pulled anything, but going down the first `quiet` rows and the padding above them have pulled version 0
pub record BeforeSweeps (height quiet : ℕ) (versions₀ downs₀ ups₀ versions downs ups : List ℕ) : Type 0 where
  pub version : entries versions ≡ placed (entries versions₀) 0 (height + 2) zeros
  pub down : entries downs ≡ placed (placed (entries downs₀) 0 (quiet + 1) zeros) (quiet + 1) (height + 1 - quiet) never
  pub up : entries ups ≡ placed (entries ups₀) 0 (height + 2) never

-- "versions = 0"
pub record AfterSweeps (height : ℕ) (versions₀ downs₀ ups₀ versions downs ups : List ℕ) : Type 0 where
  pub version : entries versions ≡ placed (entries versions₀) 0 (height + 2) zeros
  pub down : entries downs ≡ placed (entries downs₀) 0 (height + 2) zeros
  pub up : entries ups ≡ placed (entries ups₀) 0 (height + 2) zeros
