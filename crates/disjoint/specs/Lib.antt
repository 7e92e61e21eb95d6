-- What the contracts of this crate and of those above speak of: parents and ranks in lists, what a find leaves, and parents that are roots.
pub mod Forest
pub mod Rooted
pub mod Lent
