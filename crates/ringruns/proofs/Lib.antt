-- The runs of a ring's rows lie among the map's bytes.
pub mod RowRuns
