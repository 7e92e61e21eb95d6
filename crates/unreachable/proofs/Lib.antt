-- The law of lanes made unreachable.
pub mod Filled
