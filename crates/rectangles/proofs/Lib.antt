-- Sections one after another, and rectangles that were read.
pub mod Joined
pub mod Forms
pub mod Taken
