-- What the code tests of a window's record.
pub mod Records
