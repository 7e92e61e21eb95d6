-- The numbers of the calls' answers are u32s, and the exports' promises determine what they give back.
pub mod Bounds
pub mod Counts
pub mod Exports
