-- What the contracts of this crate speak of: the visit of a row, and the buffers that it reads.
pub mod Visits
pub mod Buffers
