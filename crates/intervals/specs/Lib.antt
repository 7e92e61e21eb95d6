-- What the contracts of this crate speak of: row intervals.
pub mod Intervals
