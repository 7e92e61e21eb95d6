-- What the contracts of this crate speak of: the cells of a target box, and how many there are.
pub mod TargetBox
pub mod Targets
