-- What the contracts of this crate speak of: the map's cells in the window, the blockers painted, and one after the other.
pub mod Copies
pub mod Painting
pub mod Filled
