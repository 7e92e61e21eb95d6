-- The walkable cells of a ring's rows, and that they are document 01's access cells.
pub mod RingRows
pub mod AccessRuns
pub mod OfResources
