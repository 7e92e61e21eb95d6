-- What the contracts of this crate speak of: levels of lanes.
pub mod Levels
