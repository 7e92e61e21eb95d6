-- The rows of a ring as runs of the map's bytes.
pub mod Runs
