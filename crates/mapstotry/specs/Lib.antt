-- Document 01, "Maps to try": the examples marked P, as one table.
pub mod Drawing
pub mod Table
