-- What the contracts of this crate speak of: the window, and buffers by their entries with fills of their rows.
pub mod Windows
pub mod Fills
