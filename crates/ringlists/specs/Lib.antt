-- What the contracts of this crate speak of: places of walkable cells, and what is listed of them.
pub mod Places
pub mod Lists
