-- What the contracts of this crate speak of: the turns of a sweep, the alternating sweeps, their buffers, and the versions before and after them.
pub mod Sweeps
pub mod Buffers
pub mod Relaxes
