-- Laws of gaps.
pub mod Gaps
