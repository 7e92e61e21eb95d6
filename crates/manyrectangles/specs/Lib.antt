-- The access cells of many rectangles, the buffers that they are listed in, and what the parts of the call assume and leave.
pub mod AllCells
pub mod Lent
pub mod Listing
