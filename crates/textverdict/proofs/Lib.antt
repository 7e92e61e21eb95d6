-- The program's verdict on a text, and that it is one.
pub mod Judging
