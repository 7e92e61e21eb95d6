-- What the loops of a run keep (Runs). Then that its sweeps, which skip rows, leave the lanes of document 01's plain sweeps and stop with their count: row by row, turn by turn, sweep by sweep.
mod Runs
mod LevelStep
mod Gates
pub mod Columns
pub mod RowLevels
mod RowResult
pub mod TurnLevels
pub mod SweepLevels
pub mod RunLevels
