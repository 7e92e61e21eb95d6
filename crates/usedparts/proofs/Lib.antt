-- The used parts of buffers, and what an accepted call asks of them and leaves in them.
pub mod Parts
pub mod Passed
