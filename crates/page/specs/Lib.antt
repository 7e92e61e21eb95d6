-- What the contracts of this crate speak of: text put on a page, and the lines of a sheet that have numbers alone.
pub mod Puts
pub mod Lines
