-- What the contracts of this crate speak of: what a lane takes, and its mark of change.
pub mod Takes
pub mod Mark
