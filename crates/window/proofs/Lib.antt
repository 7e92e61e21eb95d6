-- The window's edges and size, and the laws of fills of rows.
pub mod Edges
pub mod Fills
pub mod Places
pub mod Fits
