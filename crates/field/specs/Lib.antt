-- The seven lent buffers as document 01's.
pub mod Buffers
